use Rattle.std.proofs.Common.{◌≡◌, true, sym, subst}
use Rattle.std.specs.List.{Contains}
use Rattle.std.proofs.lemmas.Result.{on_ok_weaker}
use Rattle.move_extend.proofs.DistinctLists.{finds_pushed}
use Rattle.move_extend.proofs.found.add_move.Goals as goal

pub returns : goal.returns
returns c =
    let absent : ¬ Contains c.args.found.now c.args.mv =
    λ has.
    let there : c.has_move.result ≡ true = c.has_move.ensures.1 (subst (λ xs. Contains xs c.args.mv) (sym c.items.ensures) has) in
    absurd (cc) in
    on_ok_weaker c.push.result (λ pushed. finds_pushed c.args.mv c.args.found.now c.push.new.self pushed absent) c.push.ensures.ok
