use Rattle.std.proofs.Common.{◌≡◌, sym, ◌∙◌}
use Rattle.std.proofs.lemmas.Result.{on_ok_weaker}
use Rattle.move_extend.specs.Mentions.{IsRemovalOf}
use Rattle.move_extend.proofs.DistinctLists.{finds_as}
use Rattle.move_extend.proofs.referrers.find_removal.Goals as goal

pub returns-in_ok-removal : goal.returns-in_ok-removal
returns-in_ok-removal c =
    let removal = c.in_ok-removal.ensures in
    on_ok_weaker c.add_move.result
    (finds_as (λ x. x ≡ c.in_ok-removal.removal) (IsRemovalOf c.args.change.now c.args.gone.now.table.now c.args.at.now) c.args.found.now c.add_move.new.found
    (λ x. (λ e. (c.is_lost.ensures.0 c.if-is_lost.true, e ∙ removal), λ h. h.1 ∙ sym removal)))
    c.add_move.ensures
