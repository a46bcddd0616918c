use Rattle.std.proofs.Common.{true, string_bytes, sym, ◌∙◌}
use Rattle.std.proofs.lemmas.Map.Text.{btree_set_updates_text}
use Rattle.yang_must.proofs.FollowedPaths.{Gains-added, Gains-again}
use Rattle.yang_must.proofs.name_sets.NameSet.add.Goals as goal

pub returns-then-contains : goal.returns-then-contains
returns-then-contains c = Gains-again c.args.self.now.names c.args.name.now (sym c.contains.ensures ∙ c.if-contains.true)

pub returns : goal.returns
returns c =
    Gains-added c.args.self.now.names c.insert.new.self c.args.name.now
    (λ q. rw (← c.in_ok-key.ensures.ok) (btree_set_updates_text (string_bytes c.in_ok-key.key) c.args.self.now.names c.insert.new.self true c.in_ok-insert.ensures.updates q))
