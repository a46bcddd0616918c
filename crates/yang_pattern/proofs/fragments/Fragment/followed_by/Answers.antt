use Rattle.std.proofs.Common.{arith, ℕ, Bool, List, ◌↔◌, ◌≡◌, subst, ◌+◌, ◌*◌, ◌≤◌, vec_len}
use Rattle.yang_pattern.proofs.Repeating.{one_more}
use Rattle.yang_pattern.specs.Machine.{machine_of, Takes, Both}
use Rattle.yang_pattern.specs.Symbols.{Repeated}
use Rattle.std.proofs.lemmas.Nat.{mul-le}
use Rattle.yang_pattern.proofs.fragments.Fragment.followed_by.Goals as goal

pub loop-i-preserved : goal.loop-i-preserved
loop-i-preserved c = record {
  count = omega (arith, c.in_ok-whole.ensures.count, c.loop-i.invariant.count);
  language = λ r u. one_more (Takes (machine_of r c.args.self)) (Takes (machine_of r c.args.part.now)) (Takes (machine_of r c.loop-i.whole)) (Takes (machine_of r c.in_ok-whole.whole)) c.loop-i._i (c.loop-i.invariant.language r) (c.in_ok-whole.ensures.language r) u;
}

pub returns-clause-language : goal.returns-clause-language
returns-clause-language c =
    let n : c.loop-i._i ≡ c.args.n = omega arith in
    subst (λ k. (r : ℕ → ℕ → Bool) (u : List ℕ) → Takes (machine_of r c.loop-i.whole) u ↔ Both (Takes (machine_of r c.args.self)) (Repeated (Takes (machine_of r c.args.part.now)) k) u) n c.loop-i.invariant.language

pub join-requires : goal.join-requires
join-requires c =
    let p = vec_len c.args.part.now.places in
    let below : (c.loop-i._i + 1) * p ≤ c.args.n * p = mul-le (c.loop-i._i + 1) p c.args.n p (omega arith) (omega arith) in
    omega (arith, below, c.requires, c.loop-i.invariant.count)
