use Rattle.yang_pattern.specs.Language.{IsPattern}
use Rattle.yang_pattern.proofs.Decisions.{decided_by}
use Rattle.yang_pattern.proofs.Deciding.{pattern_told}
use Rattle.yang_pattern.proofs.laws.patterns_are_decided.Goals as goal

pub returns : goal.returns
returns c = decided_by IsPattern pattern_told
