use Rattle.std.proofs.Common.{◌≡◌, ◌+◌, take, sym, ap, subst, ◌∙◌}
use Rattle.move_lists.specs.Ranking.{chosen_moves, is_chosen}
use Rattle.move_lists.proofs.MoveChoices.{kept_past, kept_step}
use Rattle.move_lists.proofs.ranking.chosen_moves.Goals as goal
use Rattle.move_lists.proofs.ranking.chosen_moves.Goals.{then-is_chosen+in_ok-mv+in_ok-push, else-is_chosen}

pub loop-first-preserved : goal.loop-first-preserved
loop-first-preserved c =
    let keep = is_chosen c.args.choice in
    let firsts = c.args.firsts.now in
    let i = c.loop-first.first-index in
    let f = c.first-item.result in
    elim c.if-is_chosen.branch [
      | then-is_chosen+in_ok-mv+in_ok-push w ↦
          kept_step keep (λ x. x.generated.mv) firsts i f c.loop-first-test.true c.first-item.is
          c.loop-first.moves.items c.if-is_chosen.moves.items w.in_ok-mv.mv c.loop-first.invariant
          (sym c.is_chosen.ensures ∙ w.if-is_chosen.true) w.in_ok-mv.ensures (ap (λ v. v.items) w.moves-is ∙ w.in_ok-push.ensures.items)
      | else-is_chosen w ↦
          subst (λ l. l ≡ chosen_moves c.args.choice (take (i + 1) firsts)) (sym (ap (λ v. v.items) w.moves-is))
          (kept_past keep (λ x. x.generated.mv) firsts i f c.loop-first-test.true c.first-item.is
          c.loop-first.moves.items c.loop-first.invariant (sym c.is_chosen.ensures ∙ w.if-is_chosen.false))
    ]
