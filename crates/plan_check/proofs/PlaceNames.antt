-- Places by their names.
use Rattle.std.proofs.Common.{◌≡◌, ◌↔◌, IsTrue, Bool, ℕ, List, [], ◌∷◌, length, slice_get, Some, sym, ap, ◌∙◌, arith}
use Rattle.move_core.specs.Extensions.{upper}
use Rattle.move_core.specs.Moves.{Place}

pub name_is : (p q : Place) (i : ℕ) (a b : List ℕ) → slice_get p i ≡ Some a → p ≡ q → slice_get q i ≡ Some b → a ≡ b
name_is p q i a b at is there = same_Some a b (sym at ∙ ap (λ r. slice_get r i) is ∙ there)
  where
    same_Some : (x y : List ℕ) → Some x ≡ Some y → x ≡ y
    same_Some x y e = cc

same_Some : (x y : List ℕ) → Some x ≡ Some y → x ≡ y
same_Some x y e = cc

pub one : (p : Place) (t : List ℕ) → length p ≡ 1 → slice_get p 0 ≡ Some t → p ≡ t ∷ []
one [] t long first = absurd (omega arith)
one (u ∷ []) t long first = ap (λ n. n ∷ []) (same_Some u t first)
one (u ∷ j ∷ p) t long first = absurd (omega arith)

pub two : (p : Place) (t k : List ℕ) → length p ≡ 2 → slice_get p 0 ≡ Some t → slice_get p 1 ≡ Some k → p ≡ t ∷ k ∷ []
two [] t k long first next = absurd (omega arith)
two (u ∷ []) t k long first next = absurd (omega arith)
two (u ∷ j ∷ []) t k long first next = let a = same_Some u t first in let b = same_Some j k next in λ i. a i ∷ b i ∷ []
two (u ∷ j ∷ f ∷ p) t k long first next = absurd (omega arith)

pub three : (p : Place) (t k f : List ℕ) → length p ≡ 3 → slice_get p 0 ≡ Some t → slice_get p 1 ≡ Some k → slice_get p 2 ≡ Some f → p ≡ t ∷ k ∷ f ∷ []
three [] t k f long first next last = absurd (omega arith)
three (u ∷ []) t k f long first next last = absurd (omega arith)
three (u ∷ j ∷ []) t k f long first next last = absurd (omega arith)
three (u ∷ j ∷ g ∷ []) t k f long first next last =
    let a = same_Some u t first in let b = same_Some j k next in let c = same_Some g f last in λ i. a i ∷ b i ∷ c i ∷ []
three (u ∷ j ∷ g ∷ n ∷ p) t k f long first next last = absurd (omega arith)

same_place : (x y : Place) → Some x ≡ Some y → x ≡ y
same_place x y e = cc

-- the place above one of two names, and of three
pub upper_two : (p q : Place) (t : List ℕ) → length p ≡ 2 → slice_get p 0 ≡ Some t → (q ≡ t ∷ []) ↔ (upper p ≡ Some q)
upper_two [] q t long first = absurd (omega arith)
upper_two (u ∷ []) q t long first = absurd (omega arith)
upper_two (u ∷ j ∷ []) q t long first =
    let a = same_Some u t first in
    (λ is. ap (λ n. Some (n ∷ [])) a ∙ ap Some (sym is), λ is. sym (same_place (u ∷ []) q is) ∙ ap (λ n. n ∷ []) a)
upper_two (u ∷ j ∷ f ∷ p) q t long first = absurd (omega arith)

pub upper_three : (p q : Place) (t k : List ℕ) → length p ≡ 3 → slice_get p 0 ≡ Some t → slice_get p 1 ≡ Some k → (q ≡ t ∷ k ∷ []) ↔ (upper p ≡ Some q)
upper_three [] q t k long first next = absurd (omega arith)
upper_three (u ∷ []) q t k long first next = absurd (omega arith)
upper_three (u ∷ j ∷ []) q t k long first next = absurd (omega arith)
upper_three (u ∷ j ∷ f ∷ []) q t k long first next =
    let a = same_Some u t first in
    let b = same_Some j k next in
    let names : u ∷ j ∷ [] ≡ t ∷ k ∷ [] = λ i. a i ∷ b i ∷ [] in
    (λ is. ap Some (names ∙ sym is), λ is. sym (same_place (u ∷ j ∷ []) q is) ∙ names)
upper_three (u ∷ j ∷ f ∷ n ∷ p) q t k long first next = absurd (omega arith)

pub through : (b : Bool) {P Q : Type 0} → (IsTrue b ↔ P) → (P ↔ Q) → IsTrue b ↔ Q
through b says same = (λ t. same.0 (says.0 t), λ q. says.1 (same.1 q))
