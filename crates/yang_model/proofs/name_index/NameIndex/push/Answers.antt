use Rattle.std.proofs.Common.{◌∙◌, sym, Some, string_bytes}
use Rattle.std.proofs.lemmas.Map.Text.{btree_map_updates_text}
use Rattle.yang_model.proofs.Places.{IsIndexOf-again, IsIndexOf-next}
use Rattle.yang_model.proofs.name_index.NameIndex.push.Goals as goal

pub returns-then-contains_key-clause-next : goal.returns-then-contains_key-clause-next
returns-then-contains_key-clause-next c = λ names index is.
    IsIndexOf-again c.args.self.now.places names c.args.name.now (sym c.contains_key.ensures ∙ c.if-contains_key.true) index

pub returns-clause-next : goal.returns-clause-next
returns-clause-next c = λ names index is.
    IsIndexOf-next c.args.self.now.places c.insert.new.self names c.args.name.now c.args.place (sym c.contains_key.ensures ∙ c.if-contains_key.false)
    (λ q. rw (← c.in_ok-key.ensures.ok) (btree_map_updates_text (string_bytes c.in_ok-key.key) c.args.self.now.places c.insert.new.self (Some c.args.place) c.in_ok-insert.ensures.updates q))
    index is
