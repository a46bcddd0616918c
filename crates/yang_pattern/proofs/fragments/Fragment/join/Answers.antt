use Rattle.std.proofs.Common.{rules, ◌≡◌, length, arith, true}
use Rattle.yang_pattern.specs.Machine.{texts_of}
use Rattle.yang_pattern.proofs.EmptyMachines.{takes_nothing, both_nothing}
use Rattle.yang_pattern.proofs.fragments.Fragment.join.Goals as goal

pub returns-then-is_empty : goal.returns-then-is_empty
returns-then-is_empty c =
    let none : length c.args.right.now.places.items ≡ 0 = search rules in
    let empty : c.args.right.now.empty ≡ true = search rules in
    record {
      count = omega arith;
      language = λ r u. both_nothing (texts_of r c.args.self) (texts_of r c.args.right.now) (takes_nothing c.args.right.now none empty r) u;
    }
