use Rattle.patch_core.proofs.Sameness.{same_is_equal}
use Rattle.patch_core.proofs.laws.same_is_equality.Goals as goal

pub returns : goal.returns
returns c = same_is_equal
