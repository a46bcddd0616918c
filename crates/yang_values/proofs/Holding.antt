-- Whether some of the types of a list has a leafref, one type after another.
use Rattle.std.proofs.Common.{◌≡◌, ◌<◌, ◌≤◌, ◌+◌, ◌||◌, ℕ, suc, true, false, List, ◌∷◌, map, length, drop, get_or, add-one, sym, ap, ◌∙◌}
use Rattle.std.proofs.Math.Seq.{drop-cons}
use Rattle.std.proofs.lemmas.List.{drop_all}
use Rattle.yang_types.specs.DataType.{DataType, types_of}
use Rattle.yang_values.specs.Defaults.{has_leafref, have_leafref}

here : {W : Type 0} (f : W → DataType) (ws : List W) (i : ℕ) (w : W) → i < length ws → w ≡ get_or ws i w
    → have_leafref (types_of (map f (drop i ws))) ≡ (has_leafref (f w) || have_leafref (types_of (map f (drop (i + 1) ws))))
here f ws i w within is =
    ap (λ vs. have_leafref (types_of (map f vs))) (drop-cons ws i w within ∙ ap (λ v. v ∷ drop (suc i) ws) (sym is))
    ∙ ap (λ n. has_leafref (f w) || have_leafref (types_of (map f (drop n ws)))) (sym (add-one i))

-- one that has
pub one_has : {W : Type 0} (f : W → DataType) (ws : List W) (i : ℕ) (w : W) → i < length ws → w ≡ get_or ws i w
    → has_leafref (f w) ≡ true → have_leafref (types_of (map f (drop i ws))) ≡ true
one_has f ws i w within is has = here f ws i w within is ∙ ap (λ b. b || have_leafref (types_of (map f (drop (i + 1) ws)))) has

-- one that has not
pub one_lacks : {W : Type 0} (f : W → DataType) (ws : List W) (i : ℕ) (w : W) → i < length ws → w ≡ get_or ws i w
    → has_leafref (f w) ≡ false → have_leafref (types_of (map f (drop i ws))) ≡ have_leafref (types_of (map f (drop (i + 1) ws)))
one_lacks f ws i w within is lacks = here f ws i w within is ∙ ap (λ b. b || have_leafref (types_of (map f (drop (i + 1) ws)))) lacks

-- none is left
pub none_has : {W : Type 0} (f : W → DataType) (ws : List W) (i : ℕ) → length ws ≤ i → have_leafref (types_of (map f (drop i ws))) ≡ false
none_has f ws i past = ap (λ vs. have_leafref (types_of (map f vs))) (drop_all i ws past)
