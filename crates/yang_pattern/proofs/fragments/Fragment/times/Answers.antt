use Rattle.std.proofs.Common.{arith, ℕ, suc, zero, List, ◌≤◌, ◌↔◌, subst, sym}
use Rattle.yang_pattern.specs.declared.symbols.Quantifier.{Quantifier}
use Rattle.yang_pattern.specs.declared.symbols.Quantifier.TheVariants.{OneOrMore}
use Rattle.yang_pattern.specs.Machine.{machine_of, Takes, Times}
use Rattle.yang_pattern.specs.Symbols.{Repeated}
use Rattle.yang_pattern.proofs.fragments.Fragment.times.Goals as goal

positive : (P : List ℕ → Type 0) (u : List ℕ) (n : ℕ) → 1 ≤ n → Repeated P n u → (m : ℕ) × Repeated P (suc m) u
positive P u zero h row = absurd (omega arith)
positive P u (suc n) h row = (n, row)

one_or_more : (P Q : List ℕ → Type 0) (u : List ℕ) → (Q u ↔ ((n : ℕ) × Repeated P (suc n) u)) → Q u ↔ Times P OneOrMore u
one_or_more P Q u is = (
  λ q. let (n, row) = is.0 q in (suc n, omega arith, row),
  λ (n, h, row). is.1 (positive P u n h row),
)

pub returns-in-OneOrMore-clause-language : goal.returns-in-OneOrMore-clause-language
returns-in-OneOrMore-clause-language c = λ r u.
    subst (λ (q : Quantifier). Takes (machine_of r c.again.result) u ↔ Times (Takes (machine_of r c.args.self)) q u) (sym c.in-OneOrMore.is)
    (one_or_more (Takes (machine_of r c.args.self)) (Takes (machine_of r c.again.result)) u (c.again.ensures.language r u))
