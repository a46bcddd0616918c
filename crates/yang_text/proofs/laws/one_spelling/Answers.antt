use Rattle.yang_text.proofs.Theorems.{spelled_once}
use Rattle.yang_text.proofs.laws.one_spelling.Goals as goal

pub returns : goal.returns
returns c = λ text ds es s t. spelled_once text ds es s t
