use Rattle.std.proofs.Common.{arith}
use Rattle.yang_pattern.proofs.Joining.{again, again_within}
use Rattle.yang_pattern.proofs.Languages.{row_to, row_from}
use Rattle.yang_pattern.specs.Machine.{machine_of, machine_from}
use Rattle.yang_pattern.proofs.fragments.Fragment.again.Goals as goal

pub invariant_of-result : goal.invariant_of-result
invariant_of-result c =
    let s = c.args.self in
    let l = c.link.ensures in
    record {
      within = again_within s.places.items s.first s.within c.link.new.places.items l.count s.small l.linked;
      small = omega (arith, l.count, s.small);
    }

pub returns-clause-language : goal.returns-clause-language
returns-clause-language c =
    λ r u.
    let s = c.args.self in
    let l = c.link.ensures in
    let j = again s.places.items s.first s.within c.link.new.places.items l.count s.small l.linked r s.empty in
    let new = machine_from r c.link.new.places.items s.first s.empty in (
      λ t. row_to (machine_of r s) new j u t,
      λ (n, h). row_from (machine_of r s) new j u n h,
    )
