use Rattle.std.proofs.Common.{[], ◌∷◌, subst}
use Rattle.std.proofs.lemmas.Result.{on_ok_weaker}
use Rattle.conf_check.specs.Acceptance.{keys_of}
use Rattle.plan_check.specs.Candidates.{IsPlainAt, Takes}
use Rattle.plan_check.specs.Nearby.{IsAtTable, IsInKeys, IsInTable}
use Rattle.plan_check.proofs.Loops.{not_so}
use Rattle.plan_check.proofs.NearLoops.{table_at}
use Rattle.plan_check.proofs.Taking.{takes_as, takes_both, takes_none}
use Rattle.plan_check.proofs.preceding.add_table.Goals as goal

pub returns-then-not-may_precede : goal.returns-then-not-may_precede
returns-then-not-may_precede c =
    let s = c.args.sought.now in
    let d = c.args.config.now in
    let t = c.args.table.now in
    takes_none (IsAtTable s d t) c.args.found.now.items
    (λ m is. not_so c.may_precede.result (λ _. c.may_precede.ensures m is.1 (table_at s d t m is.0, tt))
    c.if-not-may_precede.true is)

pub returns : goal.returns
returns c =
    let s = c.args.sought.now in
    let d = c.args.config.now in
    let t = c.args.table.now in
    let old = c.args.found.now.items in
    let one = c.add_near_keys.new.found.items in
    let new = c.add_at.new.found.items in
    let Keys = IsInKeys s d t (keys_of t d) in
    let Here = IsPlainAt s.here.now (t ∷ []) in
    on_ok_weaker c.add_at.result
    (λ last. takes_as (IsInTable s d t) (IsAtTable s d t) old new (λ m is. is.0)
    (takes_both Keys Here old one new c.in_ok-add_near_keys.ensures
    (subst (λ p. Takes (IsPlainAt s.here.now p) one new) c.in_ok-new.ensures last)))
    c.add_at.ensures
