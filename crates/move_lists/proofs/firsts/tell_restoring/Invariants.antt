use Rattle.std.proofs.Common.{◌≡◌, All}
use Rattle.move_lists.specs.Firsts.{IsTold, generated_of}
use Rattle.move_lists.proofs.firsts.tell_restoring.Given as goal

-- those that were taken stand there, each with what is told of it
abbrev pub invariant-loop-generated : goal.invariant-loop-generated
invariant-loop-generated l = All (IsTold l.start l.goal) l.firsts.items × (generated_of l.firsts.items ≡ l.yielded)
