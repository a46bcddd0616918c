use Rattle.std.proofs.Common.{◌∙◌, sym, Some, string_bytes}
use Rattle.std.proofs.lemmas.Map.Text.{btree_map_updates_text}
use Rattle.yang_scope.proofs.Tables.{IsTableOf-again, IsTableOf-next}
use Rattle.yang_must.proofs.name_tables.NameTable.push.Goals as goal

pub returns-then-contains_key : goal.returns-then-contains_key
returns-then-contains_key c = λ entries table.
    IsTableOf-again c.args.self.now.numbers entries c.args.name.now c.args.number (sym c.contains_key.ensures ∙ c.if-contains_key.true) table

pub returns : goal.returns
returns c = λ entries table.
    IsTableOf-next c.args.self.now.numbers c.insert.new.self entries c.args.name.now c.args.number (sym c.contains_key.ensures ∙ c.if-contains_key.false)
    (λ q. rw (← c.in_ok-key.ensures.ok) (btree_map_updates_text (string_bytes c.in_ok-key.key) c.args.self.now.numbers c.insert.new.self (Some c.args.number) c.in_ok-insert.ensures.updates q))
    table
