-- What four boxes give, or five, one after another.
use Rattle.std.proofs.Common.{◌≡◌, ◌⊎◌, inl, inr, ℕ, List, [], refl, sym, subst, arith, All}
use Rattle.std.specs.List.{Contains}
use Rattle.std.proofs.lemmas.List.Elements.{Contains-append_left, Contains-append_right, All-append, All-nil, All-weaker}
use Rattle.move_core.specs.Appends.{Appends}
use Rattle.move_core.specs.Extensions.{IsExtension, IsUpper}
use Rattle.move_core.specs.Generated.{IsGenerated}
use Rattle.move_core.specs.Rulebook.{Rulebook}
use Rattle.move_core.specs.Listed.{Extends, IsGeneratedMove}
use Rattle.conf_doc.specs.declared.configuration.Config.{Config}
use Rattle.move_core.specs.declared.moves.Generated.{Generated}
use Rattle.move_core.specs.declared.moves.Move.{Move}

-- one of four kinds
abbrev pub OneOfFour : {A : Type 0} → (ℕ → A → Type 0) → A → Type 0
OneOfFour P a = P 1 a ⊎ (P 2 a ⊎ (P 3 a ⊎ P 4 a))

-- one of five
abbrev pub OneOfFive : {A : Type 0} → (ℕ → A → Type 0) → A → Type 0
OneOfFive P a = P 1 a ⊎ (P 2 a ⊎ (P 3 a ⊎ (P 4 a ⊎ P 5 a)))

-- all that are as Q says, and no others
pub record IsAll {A : Type 0} (Q : A → Type 0) (xs : List A) : Type 0 where
  pub each : All Q xs
  pub all : (a : A) → Q a → Contains xs a

module _ {A : Type 0} (P : ℕ → A → Type 0) (Q : A → Type 0) (is : (k : ℕ) (a : A) → P k a → Q a) where
  more_each : (k : ℕ) (old new : List A) → Appends (P k) old new → All Q old → All Q new
  more_each k old new on each =
      subst (All Q) (sym on.follows) (All-append Q old on.more each (All-weaker (P k) Q (is k) on.more on.each))

  old_there : (k : ℕ) (old new : List A) → Appends (P k) old new → (a : A) → Contains old a → Contains new a
  old_there k old new on a h = subst (λ l. Contains l a) (sym on.follows) (Contains-append_left old on.more a h)

  new_there : (k : ℕ) (old new : List A) → Appends (P k) old new → (a : A) → P k a → Contains new a
  new_there k old new on a h = subst (λ l. Contains l a) (sym on.follows) (Contains-append_right old on.more a (on.all a h))

  pub gathered_five : ((a : A) → Q a → OneOfFive P a) → (none one two three four five : List A) → none ≡ []
      → Appends (P 1) none one → Appends (P 2) one two → Appends (P 3) two three → Appends (P 4) three four → Appends (P 5) four five → IsAll Q five
  gathered_five cases none one two three four five empty a1 a2 a3 a4 a5 = record {
    each = more_each 5 four five a5 (more_each 4 three four a4 (more_each 3 two three a3 (more_each 2 one two a2
        (more_each 1 none one a1 (subst (All Q) (sym empty) (All-nil Q))))));
    all = λ a h. by a (cases a h);
  }
    where
      after_four : (a : A) → Contains four a → Contains five a
      after_four a h = old_there 5 four five a5 a h

      after_three : (a : A) → Contains three a → Contains five a
      after_three a h = after_four a (old_there 4 three four a4 a h)

      after_two : (a : A) → Contains two a → Contains five a
      after_two a h = after_three a (old_there 3 two three a3 a h)

      by : (a : A) → OneOfFive P a → Contains five a
      by a (inl h) = after_two a (old_there 2 one two a2 a (new_there 1 none one a1 a h))
      by a (inr (inl h)) = after_two a (new_there 2 one two a2 a h)
      by a (inr (inr (inl h))) = after_three a (new_there 3 two three a3 a h)
      by a (inr (inr (inr (inl h)))) = after_four a (new_there 4 three four a4 a h)
      by a (inr (inr (inr (inr h)))) = new_there 5 four five a5 a h

  -- what the first box gives
  pub first_given : (none one : List A) → none ≡ [] → Appends (P 1) none one → All Q one × ((a : A) → P 1 a → Contains one a)
  first_given none one empty a1 = (more_each 1 none one a1 (subst (All Q) (sym empty) (All-nil Q)), λ a h. new_there 1 none one a1 a h)

  -- those that the first box gives may be known already
  pub gathered_after : (K : A → Type 0) → ((a : A) → Q a → OneOfFour P a) → (one two three four : List A) → All Q one
      → ((a : A) → P 1 a → K a ⊎ Contains one a) → Appends (P 2) one two → Appends (P 3) two three → Appends (P 4) three four
      → All Q four × ((a : A) → Q a → K a ⊎ Contains four a)
  gathered_after K cases one two three four each first a2 a3 a4 =
      (more_each 4 three four a4 (more_each 3 two three a3 (more_each 2 one two a2 each)), λ a h. by a (cases a h))
    where
      old : (a : A) → K a ⊎ Contains one a → K a ⊎ Contains four a
      old a (inl k) = inl k
      old a (inr h) = inr (old_there 4 three four a4 a (old_there 3 two three a3 a (old_there 2 one two a2 a h)))

      by : (a : A) → OneOfFour P a → K a ⊎ Contains four a
      by a (inl h) = old a (first a h)
      by a (inr (inl h)) = inr (old_there 4 three four a4 a (old_there 3 two three a3 a (new_there 2 one two a2 a h)))
      by a (inr (inr (inl h))) = inr (old_there 4 three four a4 a (new_there 3 two three a3 a h))
      by a (inr (inr (inr h))) = inr (new_there 4 three four a4 a h)

-- the generators
pub five_generated : (book : Rulebook) (cur goal : Config) (g : Generated) → IsGeneratedMove book cur goal g
    → OneOfFive (λ k a. IsGenerated book cur goal k a) g
five_generated book cur goal g (k, inl h) = inl (inl (refl, h.1))
five_generated book cur goal g (k, inr (inl h)) = inr (inl (inr (inl (refl, h.1))))
five_generated book cur goal g (k, inr (inr (inl h))) = inr (inr (inl (inr (inr (inl (refl, h.1))))))
five_generated book cur goal g (k, inr (inr (inr (inl h)))) = inr (inr (inr (inl (inr (inr (inr (inl (refl, h.1))))))))
five_generated book cur goal g (k, inr (inr (inr (inr h)))) = inr (inr (inr (inr (inr (inr (inr (inr (refl, h.1))))))))

-- the extenders
pub four_extended : (book : Rulebook) (cur goal : Config) (m x : Move) → Extends book cur goal m x
    → OneOfFour (λ k y. IsExtension book cur goal k m y) x
four_extended book cur goal m x (k, inl h) = inl (inl (refl, h.1))
four_extended book cur goal m x (k, inr (inl h)) = inr (inl (inr (inl (refl, h.1))))
four_extended book cur goal m x (k, inr (inr (inl h))) = inr (inr (inl (inr (inr (inl (refl, h.1))))))
four_extended book cur goal m x (k, inr (inr (inr h))) = inr (inr (inr (inr (inr (inr (refl, h.1))))))

-- the first extender gives the place above alone
pub first_extended : (book : Rulebook) (cur goal : Config) (m x : Move) → IsExtension book cur goal 1 m x → IsUpper goal m x
first_extended book cur goal m x (inl h) = h.1
first_extended book cur goal m x (inr (inl h)) = absurd (let is = h.0 in omega (arith, is))
first_extended book cur goal m x (inr (inr (inl h))) = absurd (let is = h.0 in omega (arith, is))
first_extended book cur goal m x (inr (inr (inr h))) = absurd (let is = h.0 in omega (arith, is))
