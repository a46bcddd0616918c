use Rattle.std.proofs.Common.{◌≡◌, ◌++◌, ◌-◌, map}
use Rattle.yang_text.specs.Statements.{declaration}
use Rattle.yang_values.specs.Values.{most_steps, types_within}
use Rattle.yang_values.proofs.values.typedef_types.Given as goal

abbrev pub invariant-loop-step : goal.invariant-loop-step
invariant-loop-step l = types_within l.names most_steps l.fn.meaning ≡ map (λ s. declaration s.now) l.found.items ++ types_within l.names (most_steps - l.step) l.behind
