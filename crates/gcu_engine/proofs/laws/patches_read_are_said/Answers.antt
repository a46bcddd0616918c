use Rattle.gcu_engine.proofs.PatchResults.{patched_is}
use Rattle.gcu_engine.proofs.PatchTexts.{operations_are_held}
use Rattle.gcu_engine.proofs.laws.patches_read_are_said.Goals as goal

pub returns : goal.returns
returns c = record { held = λ bytes ops. operations_are_held bytes ops; made = λ ops d e. patched_is ops d e }
