use Rattle.std.proofs.lemmas.Result.{on_ok_weaker}
use Rattle.move_core.specs.Contexts.{rulebook}
use Rattle.move_core.specs.Extensions.{IsExtension, IsUpper}
use Rattle.move_extend.proofs.ExtenderKinds.{first_kind, is_upper}
use Rattle.move_extend.proofs.DistinctLists.{appends_as, appends_option}
use Rattle.move_extend.proofs.upper.UpperExtMoveExt.extend.Goals as goal

pub returns-clause-ok : goal.returns-clause-ok
returns-clause-ok c =
    let book = rulebook c.args._ctx.now in
    let goal = c.args.goal.now in
    let m = c.args.mv.now in
    let out = c.args.out.now.items in
    let new = c.append_move.new.out.items in
    on_ok_weaker c.append_move.result
    (λ is. appends_as (IsUpper goal m) (IsExtension book c.args._cur.now goal 1 m) out new (λ x. first_kind book c.args._cur.now goal m x)
    (appends_option (IsUpper goal m) c.in_ok-upper.upper out new (λ x. is_upper goal m x c.in_ok-upper.upper c.in_ok-upper.ensures) is))
    c.append_move.ensures.ok
