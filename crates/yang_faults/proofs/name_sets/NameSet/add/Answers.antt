use Rattle.std.proofs.Common.{true, string_bytes, sym, ◌∙◌}
use Rattle.std.proofs.lemmas.Map.Text.{btree_set_updates_text}
use Rattle.yang_faults.proofs.NameSequences.{IsSetOf-added, IsSetOf-last, IsSetOf-again}
use Rattle.yang_faults.proofs.name_sets.NameSet.add.Goals as goal

pub returns-clause-next : goal.returns-clause-next
returns-clause-next c = λ names set.
    IsSetOf-added c.args.self.now.names c.insert.new.self names c.args.name.now
    (λ q. rw (← c.in_ok-key.ensures.ok) (btree_set_updates_text (string_bytes c.in_ok-key.key) c.args.self.now.names c.insert.new.self true c.in_ok-insert.ensures.updates q))
    set

pub returns-clause-last : goal.returns-clause-last
returns-clause-last c = λ names set.
    IsSetOf-last c.insert.new.self names c.args.name.now
    (IsSetOf-added c.args.self.now.names c.insert.new.self names c.args.name.now
    (λ q. rw (← c.in_ok-key.ensures.ok) (btree_set_updates_text (string_bytes c.in_ok-key.key) c.args.self.now.names c.insert.new.self true c.in_ok-insert.ensures.updates q))
    set)

pub returns-then-contains-clause-last : goal.returns-then-contains-clause-last
returns-then-contains-clause-last c = λ names set.
    IsSetOf-last c.args.self.now.names names c.args.name.now (IsSetOf-again c.args.self.now.names names c.args.name.now (sym c.contains.ensures ∙ c.if-contains.true) set)
