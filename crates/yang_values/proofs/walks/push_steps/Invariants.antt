use Rattle.std.proofs.Common.{◌≡◌, ◌++◌, map, reverse, take}
use Rattle.yang_values.proofs.walks.push_steps.Given as goal

abbrev pub invariant-loop-place : goal.invariant-loop-place
invariant-loop-place l = reverse l.pending.items ≡ map (λ p. record { most = l.most; place = p }) (reverse (take l.place-index l.places)) ++ reverse l.fn.pending.items
