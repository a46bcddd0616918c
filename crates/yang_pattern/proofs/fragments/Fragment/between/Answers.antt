use Rattle.std.proofs.Common.{arith, ℕ, Bool, List, ◌↔◌, ◌≡◌, ◌≤◌, ◌*◌, ◌+◌, vec_len, ap}
use Rattle.std.proofs.lemmas.Result.{IfOk-weaker}
use Rattle.yang_pattern.proofs.Repeating.{least_to_most}
use Rattle.yang_pattern.specs.Machine.{machine_of, Takes, Both}
use Rattle.yang_pattern.specs.Symbols.{Repeated}
use Rattle.yang_pattern.proofs.fragments.Fragment.between.Goals as goal

pub followed_by-requires-2 : goal.followed_by-requires-2
followed_by-requires-2 c =
    let same : c.args.more * vec_len c.or_nothing.result.places ≡ c.args.more * vec_len c.args.self.places = ap (λ n. c.args.more * n) c.or_nothing.ensures.count in
    omega (arith, c.in_ok-whole.ensures.count, c.nothing.ensures.count, c.or_nothing.ensures.count, c.requires)

pub returns-clause-count : goal.returns-clause-count
returns-clause-count c = IfOk-weaker c.followed_by-2.result
    (λ f. vec_len f.places ≡ vec_len c.in_ok-whole.whole.places + c.args.more * vec_len c.or_nothing.result.places)
    (λ f. vec_len f.places ≡ vec_len c.args.self.places * (c.args.least + c.args.more))
    (λ f h.
    let same : c.args.more * vec_len c.or_nothing.result.places ≡ c.args.more * vec_len c.args.self.places = ap (λ n. c.args.more * n) c.or_nothing.ensures.count in
    omega (arith, h, c.in_ok-whole.ensures.count, c.nothing.ensures.count, c.or_nothing.ensures.count))
    c.followed_by-2.ensures.count

pub returns-clause-language : goal.returns-clause-language
returns-clause-language c = IfOk-weaker c.followed_by-2.result
    (λ f. (r : ℕ → ℕ → Bool) (u : List ℕ) → Takes (machine_of r f) u ↔ Both (Takes (machine_of r c.in_ok-whole.whole)) (Repeated (Takes (machine_of r c.or_nothing.result)) c.args.more) u)
    (λ f. (r : ℕ → ℕ → Bool) (u : List ℕ) → Takes (machine_of r f) u ↔ ((n : ℕ) × ((c.args.least ≤ n) × (n ≤ c.args.least + c.args.more)) × Repeated (Takes (machine_of r c.args.self)) n u))
    (λ f h r u. least_to_most (Takes (machine_of r c.nothing.result)) (Takes (machine_of r c.args.self)) (Takes (machine_of r c.in_ok-whole.whole)) (Takes (machine_of r c.or_nothing.result)) (Takes (machine_of r f)) c.args.least c.args.more (c.nothing.ensures.language r) (c.in_ok-whole.ensures.language r) (c.or_nothing.ensures.language r) (h r) u)
    c.followed_by-2.ensures.language
