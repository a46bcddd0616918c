-- One more element of a list, by its place, and the bounds of a table.
use Rattle.std.proofs.Common.{◌≡◌, ◌<◌, ◌+◌, ℕ, List, ◌++◌, length, map, take, slice_get, option_map, inl, inr, ap, ◌∙◌, sym, arith}
use Rattle.std.specs.Option.{option_to_list}
use Rattle.std.proofs.lemmas.Option.{slice_get_cases}
use Rattle.yang_faults.proofs.Steps.{map-one_more}

pub map-there : {X Y : Type 0} (f : X → Y) (xs : List X) (i : ℕ) → i < length xs
    → map f (take (i + 1) xs) ≡ map f (take i xs) ++ option_to_list (option_map f (slice_get xs i))
map-there f xs i within =
    elim (slice_get_cases xs i).1 [
      | inl h ↦
          map-one_more xs i h.0 within (sym h.3) f
          ∙ ap (λ o. map f (take i xs) ++ option_to_list (option_map f o)) (sym h.2)
      | inr h ↦ absurd (omega (arith, h.0))
    ]
