use Rattle.std.proofs.Common.{◌≡◌, ◌+◌, suc, true, false, take, sym, subst, arith}
use Rattle.std.specs.List.{list_all}
use Rattle.conf_doc.specs.Trees.{document}
use Rattle.conf_store.specs.Shapes.{is_named}
use Rattle.conf_store.proofs.ShapeWalks.{fails_at, pair_at, passes_at}
use Rattle.conf_store.proofs.shapes.are_shaped.Goals as goal

pub returns-then-not-is_named : goal.returns-then-not-is_named
returns-then-not-is_named g c =
    let isnt : is_named g.X.Shaped.shape (c.name_at.result.now, document c.at.result.now) ≡ false = cc c.if-not-is_named.ensures in
    sym (fails_at (is_named g.X.Shaped.shape) c.args.members.now c.loop-i.i (c.name_at.result.now, document c.at.result.now)
    (pair_at c.args.members.now c.loop-i.i c.name_at.result.now (document c.at.result.now) c.name_at.ensures c.at.ensures) isnt)

pub loop-i-preserved : goal.loop-i-preserved
loop-i-preserved g c =
    let is : is_named g.X.Shaped.shape (c.name_at.result.now, document c.at.result.now) ≡ true = cc c.if-not-is_named.ensures in
    let next : suc c.loop-i.i ≡ c.loop-i.i + 1 = omega arith in
    subst (λ k. list_all (is_named g.X.Shaped.shape) (take k c.args.members.now) ≡ true) next
    (passes_at (is_named g.X.Shaped.shape) c.args.members.now c.loop-i.i (c.name_at.result.now, document c.at.result.now)
    (pair_at c.args.members.now c.loop-i.i c.name_at.result.now (document c.at.result.now) c.name_at.ensures c.at.ensures) is c.loop-i.invariant)
