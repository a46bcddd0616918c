use Rattle.std.proofs.Common.{◌≡◌, ◌+◌, suc, true, false, take, sym, subst, arith}
use Rattle.std.specs.List.{list_all}
use Rattle.conf_doc.specs.Trees.{document}
use Rattle.conf_store.specs.Shapes.{is_text}
use Rattle.conf_store.proofs.ShapeWalks.{fails_at, passes_at}
use Rattle.conf_store.proofs.shapes.are_texts.Goals as goal

pub returns-then-not-is_text : goal.returns-then-not-is_text
returns-then-not-is_text c =
    let isnt : is_text (document c.at.result.now) ≡ false = cc c.if-not-is_text.ensures in
    sym (fails_at is_text c.args.items.now c.loop-i.i (document c.at.result.now) c.at.ensures isnt)

pub loop-i-preserved : goal.loop-i-preserved
loop-i-preserved c =
    let is : is_text (document c.at.result.now) ≡ true = cc c.if-not-is_text.ensures in
    let next : suc c.loop-i.i ≡ c.loop-i.i + 1 = omega arith in
    subst (λ k. list_all is_text (take k c.args.items.now) ≡ true) next
    (passes_at is_text c.args.items.now c.loop-i.i (document c.at.result.now) c.at.ensures is c.loop-i.invariant)
