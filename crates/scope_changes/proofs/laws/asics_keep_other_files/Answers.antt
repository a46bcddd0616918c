use Rattle.scope_changes.proofs.Parting.{asics_keep}
use Rattle.scope_changes.proofs.laws.asics_keep_other_files.Goals as goal

pub returns : goal.returns
returns c = λ works n before after order less keeps.
    asics_keep c.asics_have_files_of_their_own.ensures c.localhost_has_files_of_its_own.ensures works n before after order less keeps
