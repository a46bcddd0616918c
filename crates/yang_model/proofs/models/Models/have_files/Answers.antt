use Rattle.std.proofs.Common.{subst}
use Rattle.yang_model.specs.Answers.{HaveFiles}
use Rattle.yang_model.proofs.models.Models.have_files.Goals as goal

pub returns : goal.returns
returns c = subst (λ m. HaveFiles m) c.self.view_is c.self.invariant.1
