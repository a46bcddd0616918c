-- The numbers of the line are written `4` and `0`.
use Rattle.std.proofs.Common.{◌≡◌, true, false, IfErr, rules, sym, subst}
use Rattle.std.specs.Fmt.{digits}
use Rattle.host_core.specs.Crashes.{Elapses}
use Rattle.gcu_output.specs.Printing.{IsBeforeAnyStep, IsTold, LeftInTold, is_disk_fault, may_have_written, outcome_of}
use Rattle.gcu_output.proofs.Telling.{first_fault, told_said, unwritten}
use Rattle.gcu_output.proofs.printing.tell.Goals as goal

pub returns-in-Err-clause-told : goal.returns-in-Err-clause-told
unfolding digits
returns-in-Err-clause-told g c =
    let is : is_disk_fault c.in-Err.refusal ≡ true = search rules in
    let first = first_fault c.in-Err.refusal (subst (λ d. IfErr d IsBeforeAnyStep) c.in-Err.is c.requires) is in
    subst (λ d. IsTold (may_have_written (outcome_of d)) (outcome_of d) (g.H.Host.told c.args.host.now) (g.H.Host.told c.print-in-Err.new.host) (g.H.Host.counts c.args.host.now) (g.H.Host.counts c.print-in-Err.new.host) c.print-in-Err.result)
    (sym c.in-Err.is)
    (subst (λ o. IsTold (may_have_written o) o (g.H.Host.told c.args.host.now) (g.H.Host.told c.print-in-Err.new.host) (g.H.Host.counts c.args.host.now) (g.H.Host.counts c.print-in-Err.new.host) c.print-in-Err.result)
    (sym first) c.print-in-Err.ensures.printed)

pub returns-in-Err-2-clause-told : goal.returns-in-Err-2-clause-told
returns-in-Err-2-clause-told g c =
    let isnt : is_disk_fault c.in-Err.refusal ≡ false = search rules in
    let before = unwritten c.in-Err.refusal (subst (λ d. IfErr d IsBeforeAnyStep) c.in-Err.is c.requires) isnt in
    subst (λ d. IsTold (may_have_written (outcome_of d)) (outcome_of d) (g.H.Host.told c.args.host.now) (g.H.Host.told c.say.new.host) (g.H.Host.counts c.args.host.now) (g.H.Host.counts c.say.new.host) c.say.result)
    (sym c.in-Err.is)
    (told_said c.in-Err.refusal (may_have_written c.in-Err.refusal) before (g.H.Host.told c.args.host.now) (g.H.Host.told c.say.new.host) (g.H.Host.counts c.args.host.now) (g.H.Host.counts c.say.new.host) c.say.result c.say.ensures.said)

pub returns-in-Err-clause-time : goal.returns-in-Err-clause-time
unfolding digits
returns-in-Err-clause-time g c =
    let is : is_disk_fault c.in-Err.refusal ≡ true = search rules in
    let first = first_fault c.in-Err.refusal (subst (λ d. IfErr d IsBeforeAnyStep) c.in-Err.is c.requires) is in
    subst (λ d. Elapses g.H.Host.moment g.H.Host.left_since c.args.host.now c.print-in-Err.new.host (LeftInTold (may_have_written (outcome_of d)) (outcome_of d) (g.H.Host.told c.args.host.now))) (sym c.in-Err.is)
    (subst (λ o. Elapses g.H.Host.moment g.H.Host.left_since c.args.host.now c.print-in-Err.new.host (LeftInTold (may_have_written o) o (g.H.Host.told c.args.host.now))) (sym first) c.print-in-Err.ensures.time)

pub returns-in-Err-2-clause-time : goal.returns-in-Err-2-clause-time
returns-in-Err-2-clause-time g c =
    let isnt : is_disk_fault c.in-Err.refusal ≡ false = search rules in
    let before = unwritten c.in-Err.refusal (subst (λ d. IfErr d IsBeforeAnyStep) c.in-Err.is c.requires) isnt in
    subst (λ d. Elapses g.H.Host.moment g.H.Host.left_since c.args.host.now c.say.new.host (LeftInTold (may_have_written (outcome_of d)) (outcome_of d) (g.H.Host.told c.args.host.now))) (sym c.in-Err.is)
    (subst (λ w. Elapses g.H.Host.moment g.H.Host.left_since c.args.host.now c.say.new.host (LeftInTold w c.in-Err.refusal (g.H.Host.told c.args.host.now))) (sym before) c.say.ensures.time)
