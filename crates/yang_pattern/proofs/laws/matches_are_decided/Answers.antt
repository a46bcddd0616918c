use Rattle.yang_pattern.specs.Language.{MatchesText}
use Rattle.yang_pattern.proofs.Decisions.{decided_by}
use Rattle.yang_pattern.proofs.Deciding.{match_told}
use Rattle.yang_pattern.proofs.laws.matches_are_decided.Goals as goal

pub returns : goal.returns
returns c = λ pattern. decided_by (MatchesText pattern) (match_told pattern)
