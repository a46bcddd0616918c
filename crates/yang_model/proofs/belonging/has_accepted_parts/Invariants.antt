use Rattle.std.proofs.Common.{take}
use Rattle.std.specs.List.{AllZip}
use Rattle.key_split.specs.Key.{key_parts}
use Rattle.yang_model.specs.Belongs.{AcceptsPart}
use Rattle.yang_model.proofs.belonging.has_accepted_parts.Given as goal

abbrev pub invariant-loop-i : goal.invariant-loop-i
invariant-loop-i l = AllZip AcceptsPart (take l.i l.keys) (take l.i (key_parts l.key))
