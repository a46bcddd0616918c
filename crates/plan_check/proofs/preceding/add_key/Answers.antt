use Rattle.std.proofs.lemmas.Result.{on_ok_weaker}
use Rattle.plan_check.specs.Candidates.{IsInEntry}
use Rattle.plan_check.specs.Nearby.{IsAtKey}
use Rattle.plan_check.proofs.Loops.{not_so}
use Rattle.plan_check.proofs.NearLoops.{entry_at}
use Rattle.plan_check.proofs.Taking.{takes_as, takes_none}
use Rattle.plan_check.proofs.preceding.add_key.Goals as goal

pub returns-then-not-may_precede : goal.returns-then-not-may_precede
returns-then-not-may_precede c =
    let s = c.args.sought.now in
    let d = c.args.config.now in
    let t = c.args.table.now in
    let k = c.args.key.now in
    takes_none (IsAtKey s d t k) c.args.found.now.items
    (λ m is. not_so c.may_precede.result (λ _. c.may_precede.ensures m is.1 (entry_at s.here.now d t k m is.0))
    c.if-not-may_precede.true is)

pub returns : goal.returns
returns c =
    let s = c.args.sought.now in
    let d = c.args.config.now in
    let t = c.args.table.now in
    let k = c.args.key.now in
    let old = c.args.found.now.items in
    let new = c.add_entry.new.found.items in
    on_ok_weaker c.add_entry.result
    (λ takes. takes_as (IsInEntry s.here.now d t k) (IsAtKey s d t k) old new (λ m is. is.0) takes) c.add_entry.ensures
