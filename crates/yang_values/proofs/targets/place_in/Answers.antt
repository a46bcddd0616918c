use Rattle.std.proofs.Common.{rules, ◌∙◌, ℕ, List, [], Bor, get_or, sym, arith}
use Rattle.std.specs.Str.{bytes_eq}
use Rattle.yang_values.specs.Targets.{is_filled}
use Rattle.yang_values.proofs.Places.{among-map, found_place, no_place, get_or-again}
use Rattle.yang_values.proofs.targets.place_in.Goals as goal

pub returns-then-eq : goal.returns-then-eq
returns-then-eq c =
    let name : List ℕ = c.args.name.now in
    let pieces : List (Bor (List ℕ)) = c.args.pieces.now in
    let none : Bor (List ℕ) = record { ref_ptr = (0, 0); now = [] } in
    sym (among-map (bytes_eq name) is_filled (λ (b : Bor (List ℕ)). b.now) pieces 0 ∙ c.loop-piece.invariant.same
    ∙ found_place (λ (b : Bor (List ℕ)). bytes_eq name b.now) (λ b. is_filled b.now) c.loop-piece.before pieces c.loop-piece.piece-index (get_or pieces c.loop-piece.piece-index none) (omega arith) (get_or-again pieces c.loop-piece.piece-index none (omega arith))
    (search rules) (search rules))

pub returns : goal.returns
returns c =
    let name : List ℕ = c.args.name.now in
    let pieces : List (Bor (List ℕ)) = c.args.pieces.now in
    sym (among-map (bytes_eq name) is_filled (λ (b : Bor (List ℕ)). b.now) pieces 0 ∙ c.loop-piece.invariant.same
    ∙ no_place (λ (b : Bor (List ℕ)). bytes_eq name b.now) (λ b. is_filled b.now) c.loop-piece.before pieces c.loop-piece.piece-index (omega arith))
