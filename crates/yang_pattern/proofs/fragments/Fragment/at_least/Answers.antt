use Rattle.std.proofs.Common.{arith, ℕ, Bool, List, ◌↔◌, ◌≡◌, ◌≤◌, ◌*◌, ◌+◌, vec_len}
use Rattle.std.proofs.lemmas.Result.{IfOk-weaker}
use Rattle.yang_pattern.proofs.Repeating.{least_or_more}
use Rattle.yang_pattern.specs.Machine.{machine_of, Takes, Both}
use Rattle.yang_pattern.specs.Symbols.{Repeated}
use Rattle.yang_pattern.proofs.fragments.Fragment.at_least.Goals as goal

pub join-requires : goal.join-requires
join-requires c = omega (arith, c.in_ok-whole.ensures.count, c.nothing.ensures.count, c.again.ensures.count, c.or_nothing.ensures.count, c.requires)

pub returns-clause-count : goal.returns-clause-count
returns-clause-count c = IfOk-weaker c.join.result
    (λ f. vec_len f.places ≡ vec_len c.in_ok-whole.whole.places + vec_len c.or_nothing.result.places)
    (λ f. vec_len f.places ≡ vec_len c.args.self.places * (c.args.least + 1))
    (λ f h. omega (arith, h, c.in_ok-whole.ensures.count, c.nothing.ensures.count, c.again.ensures.count, c.or_nothing.ensures.count))
    c.join.ensures.count

pub returns-clause-language : goal.returns-clause-language
returns-clause-language c = IfOk-weaker c.join.result
    (λ f. (r : ℕ → ℕ → Bool) (u : List ℕ) → Takes (machine_of r f) u ↔ Both (Takes (machine_of r c.in_ok-whole.whole)) (Takes (machine_of r c.or_nothing.result)) u)
    (λ f. (r : ℕ → ℕ → Bool) (u : List ℕ) → Takes (machine_of r f) u ↔ ((n : ℕ) × (c.args.least ≤ n) × Repeated (Takes (machine_of r c.args.self)) n u))
    (λ f h r u. least_or_more (Takes (machine_of r c.nothing.result)) (Takes (machine_of r c.args.self)) (Takes (machine_of r c.in_ok-whole.whole)) (Takes (machine_of r c.again.result)) (Takes (machine_of r c.or_nothing.result)) (Takes (machine_of r f)) c.args.least (c.nothing.ensures.language r) (c.in_ok-whole.ensures.language r) (c.again.ensures.language r) (c.or_nothing.ensures.language r) (h r) u)
    c.join.ensures.language
