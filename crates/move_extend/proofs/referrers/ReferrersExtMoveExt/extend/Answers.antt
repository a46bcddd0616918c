use Rattle.std.proofs.lemmas.Result.{on_ok_weaker}
use Rattle.move_core.specs.Contexts.{rulebook}
use Rattle.move_core.specs.Extensions.{IsExtension, IsReferrer}
use Rattle.move_extend.proofs.ExtenderKinds.{third_kind}
use Rattle.move_extend.proofs.DistinctLists.{appends_as, appends_behind}
use Rattle.move_extend.proofs.referrers.ReferrersExtMoveExt.extend.Goals as goal

pub returns-clause-ok : goal.returns-clause-ok
returns-clause-ok c =
    let book = rulebook c.args.ctx.now in
    let cur = c.args.cur.now in
    let m = c.args.mv.now in
    let out = c.args.out.now.items in
    let new = c.append_moves.new.out.items in
    on_ok_weaker c.append_moves.result
    (λ is. appends_as (IsReferrer book cur m) (IsExtension book cur c.args._goal.now 3 m) out new (λ x. third_kind book cur c.args._goal.now m x)
    (appends_behind (IsReferrer book cur m) out c.in_ok-removals.removals new c.in_ok-removals.ensures is))
    c.append_moves.ensures.ok
