use Rattle.std.proofs.Common.{map, ap, [], ◌∷◌, lit<}
use Rattle.std.proofs.lemmas.Iterator.Consumers.{YieldsList-at, YieldsList-turn, YieldsList-end}
use Rattle.std.proofs.lemmas.Iterator.Splits.{YieldsList-from_str_split}
use Rattle.std.proofs.lemmas.List.{map-append}
use Rattle.std.proofs.lemmas.Result.{err_from_is_err_and}
use Rattle.patch_core.specs.Tokens.{or_malformed, parts_of}
use Rattle.patch_core.proofs.Escapes.{all_unescaped-push, fails_with, or_malformed_ok}
use Rattle.patch_core.proofs.pointers.tokens_of.Goals as goal

pub returns-in_err-token : goal.returns-in_err-token
returns-in_err-token c =
    let s = c.split-part-items.ensures in
    let parts = YieldsList-at c.into_iter-part-iterator.ensures.into_iter_gives (YieldsList-from_str_split 47 c.args.text.now (lit< tt) s.text s.has_more s.pattern) in
    let turn = YieldsList-turn parts c.loop-part.yielded _ c.loop-part.yielded_by _ _ c.in-Some.part c.in-Some.is c.next.ensures.steps in
    let p = err_from_is_err_and c.from_residual.result c.from_residual.ensures.1 in
    rw (p.1, p.2) (fails_with _ (parts_of c.args.text.now) _ c.in-Some.part.now turn.0 turn.1 c.in_err-token.ensures)

pub loop-part-preserved : goal.loop-part-preserved
loop-part-preserved c = (
  tt,
  tt,
  rw (map-append (λ part. part.now) c.loop-part.yielded (c.in-Some.part ∷ []), c.in_ok-push.ensures.ok)
      (all_unescaped-push (map (λ part. part.now) c.loop-part.yielded) c.in-Some.part.now c.loop-part.tokens c.in_ok-token.token c.loop-part.invariant.2 (or_malformed_ok _ _ c.in_ok-token.ensures)),
)

pub returns : goal.returns
returns c =
    let s = c.split-part-items.ensures in
    let parts = YieldsList-at c.into_iter-part-iterator.ensures.into_iter_gives (YieldsList-from_str_split 47 c.args.text.now (lit< tt) s.text s.has_more s.pattern) in
    let end = YieldsList-end parts c.loop-part.yielded _ c.loop-part.yielded_by _ _ c.in-None.is c.next.ensures.steps in
    ap or_malformed (rw end.0 at c.loop-part.invariant.2)
