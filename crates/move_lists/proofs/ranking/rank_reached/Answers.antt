use Rattle.std.proofs.Common.{◌+◌, ◌≤◌, [], refl, sym, ap, subst, ◌∙◌, arith, length, take}
use Rattle.std.proofs.lemmas.List.{take_all}
use Rattle.move_core.specs.declared.moves.Ranked.{Ranked}
use Rattle.move_lists.specs.Ranking.{AddsExtended}
use Rattle.move_lists.proofs.ChainAdditions.{extended_none, extended_step, unextended_step}
use Rattle.move_lists.proofs.ranking.rank_reached.Goals as goal
use Rattle.move_lists.proofs.ranking.rank_reached.Goals.{then-depth-least+in_ok-mv+in_ok-push, else-depth-least}

pub loop-i-init : goal.loop-i-init
loop-i-init c = subst (AddsExtended [] c.args.tier c.args.least []) (sym c.new-ranked.ensures.items) (extended_none c.args.tier c.args.least [])

pub at-depth-requires : goal.at-depth-requires
at-depth-requires c =
    let len = c.len-i-end.ensures.len in
    let lt = c.loop-i-test.true in
    omega (arith, len, lt)

pub returns-in_err-mv-clause-once : goal.returns-in_err-mv-clause-once
returns-in_err-mv-clause-once c = c.len-i-end.ensures.once

pub returns-in_err-push-clause-once : goal.returns-in_err-push-clause-once
returns-in_err-push-clause-once c = c.len-i-end.ensures.once

pub returns-clause-once : goal.returns-clause-once
returns-clause-once c = c.len-i-end.ensures.once

pub returns-clause-added : goal.returns-clause-added
returns-clause-added c =
    let es = c.args.reached.now in
    let len = c.len-i-end.ensures.len in
    let end = c.loop-i-test.false in
    let all : length es ≤ c.loop-i.i = omega (arith, len, end) in
    subst (λ l. AddsExtended l c.args.tier c.args.least [] c.loop-i.ranked.items) (take_all c.loop-i.i es all) c.loop-i.invariant

pub loop-i-preserved : goal.loop-i-preserved
loop-i-preserved c =
    let es = c.args.reached.now in
    let old = [] in
    elim c.if-depth-least.branch [
      | then-depth-least+in_ok-mv+in_ok-push w ↦
          let r : Ranked = record { tier = c.args.tier; depth = c.at-depth.result.1; class = w.place_class-class.result; mv = w.in_ok-mv.mv } in
          extended_step c.args.tier c.args.least es c.loop-i.i c.at-depth.result.0.now c.at-depth.result.1 old c.loop-i.ranked.items
          c.if-depth-least.ranked.items r c.loop-i.invariant c.at-depth.ensures w.if-depth-least.true w.in_ok-mv.ensures refl refl
          w.place_class-class.ensures (ap (λ v. v.items) w.ranked-is ∙ w.in_ok-push.ensures.items)
      | else-depth-least w ↦
          let none = w.if-depth-least.false in
          subst (λ l. AddsExtended (take (c.loop-i.i + 1) es) c.args.tier c.args.least old l) (sym (ap (λ v. v.items) w.ranked-is))
          (unextended_step c.args.tier c.args.least es c.loop-i.i c.at-depth.result.0.now c.at-depth.result.1 old c.loop-i.ranked.items
          c.loop-i.invariant c.at-depth.ensures (λ pos. omega (arith, pos, none)))
    ]
