use Rattle.std.proofs.Common.{◌≡◌, ◌<◌, ◌≤◌, length, get_or, Some, refl, sym, ap, ◌∙◌, subst, arith}
use Rattle.std.proofs.lemmas.Option.{slice_get-get_or}
use Rattle.plan_check.specs.Backwards.{RoundOrBegins}
use Rattle.plan_check.specs.declared.here.Here.{Here}
use Rattle.plan_check.proofs.Loops.{not_so}
use Rattle.plan_check.proofs.Rounds.{begins_listed, not_listed, reached_begins, reached_first, reached_more}
use Rattle.plan_check.proofs.listed.is_listed.Goals as goal

pub returns-then-generated : goal.returns-then-generated
returns-then-generated c =
    let h : Here = record { ctx = c.args.ctx; cur = c.args.cur; goal = c.args.goal } in
    (λ t. begins_listed h c.args.mv.now (c.in_ok-generated.ensures.0 c.if-generated.true), λ is. refl)

pub loop-next-init : goal.loop-next-init
loop-next-init c =
    let h : Here = record { ctx = c.args.ctx; cur = c.args.cur; goal = c.args.goal } in
    reached_first h c.args.mv.now c.in_ok-found.found.items c.in_ok-found.ensures
    (not_so c.in_ok-generated.generated c.in_ok-generated.ensures.1 c.if-generated.false)

pub returns-then-begins : goal.returns-then-begins
returns-then-begins c =
    let h : Here = record { ctx = c.args.ctx; cur = c.args.cur; goal = c.args.goal } in
    let ms = c.loop-next.found.items in
    let n = c.loop-next.next in
    let m = c.index.result.now in
    let more = c.index-more.result.now in
    let same : more ≡ m = c.index-more.ensures ∙ ap (λ l. get_or l 0 more) c.in_ok-alone.ensures in
    let within : n < length ms = omega (arith, c.len.ensures) in
    let at = slice_get-get_or ms n m within ∙ ap Some (sym c.index.ensures) ∙ ap Some (sym same) in
    let start = subst (RoundOrBegins h more ms c.join_preceding.new.found.items) c.if-begins.true c.in_ok-begins.ensures in
    (λ t. reached_begins h c.args.mv.now n ms more c.loop-next.invariant at start, λ is. refl)

pub loop-next-preserved : goal.loop-next-preserved
loop-next-preserved c =
    let h : Here = record { ctx = c.args.ctx; cur = c.args.cur; goal = c.args.goal } in
    let ms = c.loop-next.found.items in
    let n = c.loop-next.next in
    let m = c.index.result.now in
    let more = c.index-more.result.now in
    let new = c.join_preceding.new.found.items in
    let same : more ≡ m = c.index-more.ensures ∙ ap (λ l. get_or l 0 more) c.in_ok-alone.ensures in
    let within : n < length ms = omega (arith, c.len.ensures) in
    let at = slice_get-get_or ms n m within ∙ ap Some (sym c.index.ensures) ∙ ap Some (sym same) in
    reached_more h c.args.mv.now n ms new more c.loop-next.invariant at
    (subst (RoundOrBegins h more ms new) c.if-begins.false c.in_ok-begins.ensures)

pub returns : goal.returns
returns c =
    let h : Here = record { ctx = c.args.ctx; cur = c.args.cur; goal = c.args.goal } in
    let ms = c.loop-next.found.items in
    let n = c.loop-next.next in
    let end : length ms ≤ n = omega (arith, c.len.ensures) in (
      λ t. absurd cc,
      λ listed. absurd (not_listed h c.args.mv.now n ms c.loop-next.invariant end listed),
    )
