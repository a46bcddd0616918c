use Rattle.xpath_part.proofs.Spelling.{spelled_text}
use Rattle.xpath_part.proofs.laws.spelled_is_read.Goals as goal

pub returns : goal.returns
returns c = λ s e h. spelled_text s e h
