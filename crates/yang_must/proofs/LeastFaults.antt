-- The least fault of several lists of faults.
use Rattle.std.proofs.Common.{◌≡◌, ◌≤◌, ℕ, List, ◌++◌, Option, length, take, sym, ap, ◌∙◌}
use Rattle.std.specs.List.{flat_map}
use Rattle.std.proofs.lemmas.List.Sums.{fold-append}
use Rattle.yang_scope.specs.Faults.{lesser, least_of}
use Rattle.yang_scope.specs.declared.faults.Fault.{Fault}
use Rattle.yang_scope.proofs.Tables.{take_end}

-- two lists of faults, one after another
pub least_of-two : (old a b : Option Fault) (x y : List Fault) → a ≡ least_of old x → b ≡ least_of a y → b ≡ least_of old (x ++ y)
least_of-two old a b x y p q = q ∙ ap (λ o. least_of o y) p ∙ sym (fold-append lesser old x y)

-- a loop at its end
pub least_of-all : {X : Type 0} (f : X → List Fault) (old a : Option Fault) (xs ys : List X) (i : ℕ) → xs ≡ ys → length xs ≤ i → i ≤ length xs
    → a ≡ least_of old (flat_map f (take i xs)) → a ≡ least_of old (flat_map f ys)
least_of-all f old a xs ys i same past within before =
    before ∙ ap (λ zs. least_of old (flat_map f zs)) (take_end i xs past within ∙ same)
