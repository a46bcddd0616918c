use Rattle.std.proofs.Common.{◌≡◌, ℕ, ◌+◌, ◌*◌, List, Bool, ◌↔◌, vec_len}
use Rattle.yang_pattern.specs.Machine.{machine_of, Takes, Both}
use Rattle.yang_pattern.specs.Symbols.{Repeated}
use Rattle.yang_pattern.proofs.fragments.Fragment.followed_by.Given as goal

abbrev pub invariant-loop-i : goal.invariant-loop-i
invariant-loop-i l = record {
  count : vec_len l.whole.places ≡ vec_len l.fn.self.places + l._i * vec_len l.part.places;
  language : (r : ℕ → ℕ → Bool) (u : List ℕ) → Takes (machine_of r l.whole) u ↔ Both (Takes (machine_of r l.fn.self)) (Repeated (Takes (machine_of r l.part)) l._i) u;
}
