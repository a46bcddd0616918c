use Rattle.std.proofs.Common.{◌≡◌, ◌≤◌, drop}
use Rattle.std.specs.Prelude.{fold}
use Rattle.yang_text.specs.declared.faults.Phase.TheVariants.{Due}
use Rattle.yang_text.specs.Faults.{lower_of, faults_from}
use Rattle.yang_text.proofs.faults.least_fault.Given as goal

abbrev pub invariant-loop-token : goal.invariant-loop-token
invariant-loop-token l = record {
  depth : l.depth ≤ l.token-index;
  rest : fold lower_of l.best (faults_from l.bytes l.phase l.depth (drop l.token-index l.tokens)) ≡ fold lower_of l.fn.found (faults_from l.bytes Due 0 l.tokens);
}
