-- What a test makes of a choice.
use Rattle.std.proofs.Common.{◌≡◌, ◌&&◌, not, Bool, true, false, if◌then◌else◌, refl}

pub taken : {X : Type 0} (b : Bool) (x y : X) → b ≡ true → x ≡ (if b then x else y)
taken true x y is = refl
taken false x y is = absurd (cc)

pub was_true : (b : Bool) → false ≡ not b → b ≡ true
was_true true is = refl
was_true false is = absurd (cc)

pub true_and_not : (a b : Bool) → a ≡ true → b ≡ false → (a && not b) ≡ true
true_and_not true false p q = refl
true_and_not true true p q = absurd (cc)
true_and_not false b p q = absurd (cc)
