-- What one more module gives comes last.
use Rattle.std.proofs.Common.{◌≡◌, ◌<◌, ◌+◌, ℕ, List, [], ◌++◌, length, take, slice_get, inl, inr, ap, ◌∙◌, sym, arith}
use Rattle.std.specs.Option.{option_map_or}
use Rattle.std.proofs.lemmas.Option.{slice_get_cases}
use Rattle.yang_scope.specs.Statements.{each_from}
use Rattle.yang_scope.proofs.Tables.{each_from-next}

pub each_from-one_more : {X Y : Type 0} (f : ℕ → X → List Y) (xs : List X) (i : ℕ) → i < length xs
    → each_from f 0 (take (i + 1) xs) ≡ each_from f 0 (take i xs) ++ option_map_or (f i) (slice_get xs i) []
each_from-one_more f xs i within =
    elim (slice_get_cases xs i).1 [
      | inl h ↦
          each_from-next f xs i h.0 within
          ∙ ap (λ x. each_from f 0 (take i xs) ++ f i x) h.3
          ∙ ap (λ o. each_from f 0 (take i xs) ++ option_map_or (f i) o []) (sym h.2)
      | inr h ↦ absurd (omega (arith, h.0))
    ]
