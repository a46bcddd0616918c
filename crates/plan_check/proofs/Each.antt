-- Each item of a list, by index, by membership and by what `all` answers.
use Rattle.std.proofs.Common.{◌≡◌, ◌<◌, ℕ, List, Bool, true, false, length, Contains, All, IsTrue, ◌↔◌}
use Rattle.std.specs.Bool.{MatchBool}
use Rattle.std.specs.List.{AllWithin, HoldsAt}
use Rattle.std.proofs.lemmas.Iterator.Search.{true_from_All}
use Rattle.std.proofs.lemmas.List.Elements.{All-contains, All-contains_itself, All-from_all_within, All-weaker}

module _ {A : Type 0} (P : A → Type 0) (xs : List A) where
  pub each_contained : All P xs ↔ ((x : A) → Contains xs x → P x)
  each_contained = (λ all x has. All-contains P xs x all has, λ each. All-weaker (Contains xs) P each xs (All-contains_itself xs))

  -- what `all` answers, whose closure says P where it is true and not P where it is false
  pub all_says : (r : Bool) → MatchBool r (AllWithin P xs 0 (length xs)) ((k : ℕ) × (k < length xs) × HoldsAt (λ x. ¬ P x) xs k) → IsTrue r ↔ All P xs
  all_says r found = (λ t. within r found t, λ all. true_from_All P (λ x. ¬ P x) r xs (λ x is not. not is) found all)
    where
      within : (b : Bool) → MatchBool b (AllWithin P xs 0 (length xs)) ((k : ℕ) × (k < length xs) × HoldsAt (λ x. ¬ P x) xs k) → b ≡ true → All P xs
      within true all _ = All-from_all_within P xs all
      within false _ t = absurd cc
