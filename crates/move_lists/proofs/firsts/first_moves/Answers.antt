use Rattle.std.proofs.Common.{sym, subst, ◌∙◌, All}
use Rattle.std.specs.List.{Contains}
use Rattle.move_core.specs.Contexts.{rulebook}
use Rattle.move_core.specs.Listed.{IsGeneratedMove}
use Rattle.move_lists.specs.Firsts.{IsTold}
use Rattle.move_lists.proofs.MoveEffects.{all_leave_goals}
use Rattle.move_lists.proofs.MoveFacts.{both_told}
use Rattle.move_lists.proofs.firsts.first_moves.Goals as goal

pub tell_restoring-requires : goal.tell_restoring-requires
tell_restoring-requires c =
    let book = rulebook c.args.ctx.now in
    all_leave_goals c.args.cur.now c.args.goal.now book c.into_moves.result.items
    (subst (All (IsGeneratedMove book c.args.cur.now c.args.goal.now)) (sym c.into_moves.ensures) c.requires.offers.each)

pub returns : goal.returns
returns c =
    let book = rulebook c.args.ctx.now in
    let moves = c.args.offers in
    let fs = c.in_ok-firsts.firsts.items in
    let same = c.in_ok-firsts.ensures.same ∙ c.into_moves.ensures in
    record {
      firsts = record {
        each = both_told (IsGeneratedMove book c.args.cur.now c.args.goal.now) (IsTold c.args.start.now c.args.goal.now) moves fs
            c.requires.offers.each c.in_ok-firsts.ensures.told same;
        all = λ m is. subst (λ l. Contains l m) (sym same) (c.requires.offers.all m is);
      };
    }
