use Rattle.std.proofs.Common.{◌≡◌, ◌+◌, ℕ, Err, arith, subst}
use Rattle.patch_core.specs.Reading.{IsFirstFault, operations_from}
use Rattle.patch_core.specs.declared.errors.PatchError.TheVariants.{BadPatch}
use Rattle.patch_core.proofs.FirstFaults.{fault_is, fault_there, operations_are, operations_there}
use Rattle.patch_core.proofs.laws.patch_of_elements.Goals as goal

pub returns-clause-operations : goal.returns-clause-operations
returns-clause-operations c = λ ds ops. (operations_there 0 ds ops, operations_are 0 ds ops)

pub returns-clause-fault : goal.returns-clause-fault
returns-clause-fault c = λ ds i why.
    let index : 0 + i ≡ i = omega arith in (
      λ is.
          let there = fault_there 0 ds i why is in
          let same : there.before ≡ i = omega (arith, there.counts) in
          subst (λ (k : ℕ). IsFirstFault ds k why) same there.first,
      λ first. subst (λ (k : ℕ). operations_from 0 ds ≡ Err (BadPatch k why)) index (fault_is 0 ds i why first),
    )
