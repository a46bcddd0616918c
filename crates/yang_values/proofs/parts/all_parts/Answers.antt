use Rattle.std.proofs.Common.{◌∙◌, ℕ, List, Some, Bor, sym, ap, arith}
use Rattle.yang_values.specs.Parts.{part, all_given}
use Rattle.yang_values.proofs.ElementResults.{all_given-next, all_given-none, all_given-map, take_end}
use Rattle.yang_values.proofs.parts.all_parts.Goals as goal

pub returns-in-None : goal.returns-in-None
returns-in-None c =
    sym (all_given-map (part c.args.values.now) (λ (b : Bor (List ℕ)). b.now) c.args.pieces.now
    ∙ all_given-none (λ (b : Bor (List ℕ)). part c.args.values.now b.now) c.args.pieces.now c.loop-piece.piece-index _ (omega arith) (sym c.in_ok-part.ensures ∙ c.in-None.is))

pub loop-piece-preserved : goal.loop-piece-preserved
loop-piece-preserved c =
    all_given-next (λ (b : Bor (List ℕ)). part c.args.values.now b.now) c.args.pieces.now c.loop-piece.piece-index _ _ c.in-Some.part (omega arith)
    c.loop-piece.invariant (sym c.in_ok-part.ensures ∙ c.in-Some.is)
    ∙ ap Some (sym c.in_ok-push-in-Some.ensures.ok)

pub returns : goal.returns
returns c =
    sym (all_given-map (part c.args.values.now) (λ (b : Bor (List ℕ)). b.now) c.args.pieces.now
    ∙ ap (all_given (λ (b : Bor (List ℕ)). part c.args.values.now b.now)) (sym (take_end c.loop-piece.piece-index c.args.pieces.now (omega arith) (omega arith)))
    ∙ c.loop-piece.invariant)
