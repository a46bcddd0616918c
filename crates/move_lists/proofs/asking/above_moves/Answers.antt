use Rattle.std.proofs.Common.{inl, inr, refl, All}
use Rattle.std.specs.List.{Contains}
use Rattle.move_core.specs.Contexts.{rulebook}
use Rattle.move_core.specs.Extensions.{IsExtension}
use Rattle.move_core.specs.declared.moves.Move.{Move}
use Rattle.move_lists.specs.Questions.{FollowsIn}
use Rattle.move_lists.proofs.BoxResults.{first_given}
use Rattle.move_lists.proofs.asking.above_moves.Goals as goal

pub returns-clause-each : goal.returns-clause-each
returns-clause-each g c =
    let q = c.args.question.now in
    let given : All (FollowsIn q c.args.mv.now) c.extend_at.new.out.items × ((a : Move) → IsExtension (rulebook q.ctx.now) q.cur.now q.goal.now 1 c.args.mv.now a → Contains c.extend_at.new.out.items a) =
    first_given (λ k x. IsExtension (rulebook q.ctx.now) q.cur.now q.goal.now k c.args.mv.now x) (FollowsIn q c.args.mv.now) (λ k a h. (k, h))
    c.new-out.result.items c.extend_at.new.out.items c.new-out.ensures.items c.in_ok-extend_at.ensures.ok in
    given.0

pub returns-clause-all : goal.returns-clause-all
returns-clause-all g c =
    let q = c.args.question.now in
    let given : All (FollowsIn q c.args.mv.now) c.extend_at.new.out.items × ((a : Move) → IsExtension (rulebook q.ctx.now) q.cur.now q.goal.now 1 c.args.mv.now a → Contains c.extend_at.new.out.items a) =
    first_given (λ k x. IsExtension (rulebook q.ctx.now) q.cur.now q.goal.now k c.args.mv.now x) (FollowsIn q c.args.mv.now) (λ k a h. (k, h))
    c.new-out.result.items c.extend_at.new.out.items c.new-out.ensures.items c.in_ok-extend_at.ensures.ok in
    λ m is. inr (given.1 m (inl (refl, is)))
