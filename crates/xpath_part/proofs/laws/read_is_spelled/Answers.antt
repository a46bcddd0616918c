use Rattle.xpath_part.proofs.Spelling.{text_spells}
use Rattle.xpath_part.proofs.laws.read_is_spelled.Goals as goal

pub returns : goal.returns
returns c = λ s e h. text_spells s e h
