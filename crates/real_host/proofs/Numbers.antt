-- Names that are no scratch file of the first ASICs.
use Rattle.std.proofs.Common.{◌≡◌, ◌<◌, ◌+◌, ℕ, List, arith, ap, ◌∙◌, inl, inr}
use Rattle.std.proofs.lemmas.Bool.{cases_lt}
use Rattle.std.specs.Prelude.{codes}
use Rattle.real_host.specs.Names.{asic_scratch, IsOwnScratch}

-- the name is that of none of the first n
pub record IsNoneBelow (name : List ℕ) (n : ℕ) : Type 0 where
  pub none : (k : ℕ) → k < n → ¬ (name ≡ asic_scratch k)

-- at first there is none
pub none_at_first : (name : List ℕ) → IsNoneBelow name 0
none_at_first name = record { none = λ k less. absurd (omega (arith, less)) }

-- nor is it that of the next one
pub none_of_more : (name : List ℕ) (n : ℕ) → IsNoneBelow name n → ¬ (name ≡ asic_scratch n) → IsNoneBelow name (n + 1)
none_of_more name n below other = record {
  none = λ k less same. elim (cases_lt k n) as (λ _. ⊥) [
    | inl lt ↦ below.none k lt same
    | inr ge ↦ other (same ∙ ap asic_scratch (omega (arith, less, ge)))
  ];
}

-- where it is none of all, no command writes the file
pub none_of_all : (name : List ℕ) → ¬ (name ≡ codes "tmp.new") → IsNoneBelow name 256 → ¬ IsOwnScratch name
none_of_all name other none (inl same) = other same
none_of_all name other none (inr asic) = none.none asic.0 asic.1 asic.2
