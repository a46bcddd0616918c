use Rattle.std.proofs.Common.{◌+◌, take, drop, of_calls, arith, ap, sym, subst, ◌∙◌}
use Rattle.std.proofs.lemmas.Fn.{FoldsTo-push, called_at}
use Rattle.std.proofs.lemmas.List.{take_all}
use Rattle.std.specs.Fn.{CalledAt}
use Rattle.std.specs.Prelude.{Result, Ok, Err, OnErr, filter}
use Rattle.real_host.specs.Calls.{Leads}
use Rattle.real_host.specs.Names.{is_scratch_name}
use Rattle.real_host.proofs.Picking.{next_picked, next_passed, picked_between}
use Rattle.real_host.proofs.settling.each_scratch.Goals as goal
use Rattle.real_host.proofs.settling.each_scratch.Goals.{then-is_scratch+in_ok-call, else-is_scratch}

pub loop-name-preserved : goal.loop-name-preserved
loop-name-preserved g c =
    let inv = c.loop-name.invariant in
    let k = c.loop-name.name-index in
    let names = c.args.names.now in
    let name = c.name-item.result in
    let tells = ap is_scratch_name (sym c.as_str.ensures.text) ∙ sym c.is_scratch.ensures in
    elim c.if-is_scratch.branch [
      | then-is_scratch+in_ok-call w ↦
          let called = subst (λ x. CalledAt g.F.FnMut c.loop-name.call x (Ok tt) w.call.new.self) w.as_str-then-is_scratch.ensures.text (called_at g.F.FnMut w.call.ensures w.in_ok-call.was) in
          rw w.call-is (
            search of_calls,
            rw (next_picked is_scratch_name names k name c.loop-name-test.true c.name-item.is (tells ∙ w.if-is_scratch.true)) (FoldsTo-push _ _ _ _ _ _ inv.1 called),
          )
      | else-is_scratch w ↦
          rw w.call-is (
            inv.0,
            rw (next_passed is_scratch_name names k name c.loop-name-test.true c.name-item.is (tells ∙ w.if-is_scratch.false)) inv.1,
          )
    ]

pub returns-clause-done : goal.returns-clause-done
returns-clause-done g c =
    let inv = c.loop-name.invariant in
    let all = take_all c.loop-name.name-index c.args.names.now (omega (arith, c.loop-name-test.false)) in
    (c.loop-name.call, subst (λ names. Leads g.F.FnMut c.args.call (filter is_scratch_name names) c.loop-name.call) all inv.1)

-- what holds of any result holds of an error
on_err : {T E P : Type 0} (r : Result T E) → P → OnErr r P
on_err (Ok x) p = tt
on_err (Err e) p = p

pub returns-in_err-call-clause-failed : goal.returns-in_err-call-clause-failed
returns-in_err-call-clause-failed g c =
    let k = c.loop-name.name-index in
    let names = c.args.names.now in
    let name = c.name-item.result in
    let tells = ap is_scratch_name (sym c.as_str.ensures.text) ∙ sym c.is_scratch.ensures ∙ c.if-is_scratch.true in
    let called = subst (λ x. CalledAt g.F.FnMut c.loop-name.call x (Err (record {})) c.call.new.self) c.as_str-then-is_scratch.ensures.text (called_at g.F.FnMut c.call.ensures c.in_err-call.was) in
    on_err c.from_residual.result (
      filter is_scratch_name (take k names),
      name,
      filter is_scratch_name (drop (k + 1) names),
      c.loop-name.call,
      c.call.new.self,
      picked_between is_scratch_name names k name c.loop-name-test.true c.name-item.is tells,
      c.loop-name.invariant.1,
      called,
    )
