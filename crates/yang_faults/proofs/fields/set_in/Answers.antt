use Rattle.std.proofs.Common.{ℕ, List, ap, ◌∙◌, subst}
use Rattle.yang_scope.specs.Pieces.{texts}
use Rattle.yang_faults.specs.NameSets.{IsSetOf}
use Rattle.yang_faults.proofs.fields.set_in.Goals as goal

pub returns : goal.returns
returns c =
    let P : List (List ℕ) → Type 0 = λ ns. IsSetOf c.in_ok-set.set.names ns in
    subst P (ap texts c.as_slice.ensures.value ∙ c.in_ok-names.ensures) c.in_ok-set.ensures
