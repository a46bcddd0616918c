-- Choices by tests whose outcome is known.
use Rattle.std.proofs.Common.{◌≡◌, Bool, true, false, ◌&&◌, if◌then◌else◌, refl}

pub first_by : {A : Type 0} (a : Bool) (x y : A) → true ≡ a → (if a then x else y) ≡ x
first_by true x y is = refl
first_by false x y is = absurd cc

pub second_by : {A : Type 0} (a : Bool) (x y : A) → false ≡ a → (if a then x else y) ≡ y
second_by true x y is = absurd cc
second_by false x y is = refl

pub first_by_both : {A : Type 0} (a b : Bool) (x y : A) → true ≡ a → true ≡ b → (if a && b then x else y) ≡ x
first_by_both true true x y is same = refl
first_by_both true false x y is same = absurd cc
first_by_both false b x y is same = absurd cc
