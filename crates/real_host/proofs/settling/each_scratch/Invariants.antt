-- Each scratch file of the names so far was done.
use Rattle.std.proofs.Common.{take}
use Rattle.std.specs.Prelude.{filter}
use Rattle.real_host.specs.Calls.{Leads}
use Rattle.real_host.specs.Names.{is_scratch_name}
use Rattle.real_host.proofs.settling.each_scratch.Given as goal

abbrev pub invariant-loop-name : goal.invariant-loop-name
invariant-loop-name g l = goal.F-IsAlwaysCallable g l.call × Leads g.F.FnMut l.fn.call (filter is_scratch_name (take l.name-index l.names)) l.call
