use Rattle.std.proofs.Common.{refl, sym, subst, ◌∙◌, arith}
use Rattle.move_lists.specs.Ranking.{AreToPart}
use Rattle.move_lists.proofs.PartLists.{next_listed, none_listed}
use Rattle.move_lists.proofs.listing.add_parts.Goals as goal

pub loop-done-init : goal.loop-done-init
loop-done-init g c = record {
  kinds = c.requires.kinds;
  rules = refl;
  listed = subst (AreToPart c.args.question.now 0) (sym c.requires.none) (none_listed c.args.question.now);
}

pub overflow_add-done : goal.overflow_add-done
overflow_add-done g c = omega arith

pub loop-done-preserved : goal.loop-done-preserved
loop-done-preserved g c = record {
  kinds = c.add_part.ensures.kinds;
  rules = c.add_part.ensures.rules ∙ c.loop-done.invariant.rules;
  listed = next_listed c.args.question.now c.loop-done.done c.loop-done.moves.items c.add_part.new.moves.items c.loop-done.invariant.listed c.in_ok-add_part.ensures.added;
}
