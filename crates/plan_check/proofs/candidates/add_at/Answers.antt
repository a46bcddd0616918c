use Rattle.std.proofs.Common.{◌≡◌, ◌⊎◌}
use Rattle.move_core.specs.declared.moves.Move.{Move}
use Rattle.move_core.specs.declared.moves.Move.TheVariants.{Remove}
use Rattle.plan_check.specs.Candidates.{AddsItemAt, IsGoalsAt, RemovesItemAt}
use Rattle.plan_check.proofs.Taking.{takes_both, takes_one}
use Rattle.plan_check.proofs.candidates.add_at.Goals as goal

pub returns : goal.returns
returns c =
    let h = c.args.here.now in
    let p = c.args.place in
    let a = c.args.found.now.items in
    let b = c.add_goals.new.found.items in
    let d = c.add_item_removes.new.found.items in
    let e = c.add_item_adds.new.found.items in
    let f = c.push.new.self.items in
    let Last = λ (m : Move). m ≡ Remove p in
    takes_both (λ m. IsGoalsAt h p m ⊎ RemovesItemAt h p m) (λ m. AddsItemAt h p m ⊎ Last m) a d f
    (takes_both (IsGoalsAt h p) (RemovesItemAt h p) a b d c.in_ok-add_goals.ensures c.in_ok-add_item_removes.ensures)
    (takes_both (AddsItemAt h p) Last d e f c.in_ok-add_item_adds.ensures (takes_one e f (Remove p) c.in_ok-push.ensures.items))
