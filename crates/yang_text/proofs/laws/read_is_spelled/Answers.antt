use Rattle.yang_text.proofs.Theorems.{read_spells, spelled_read}
use Rattle.yang_text.proofs.laws.read_is_spelled.Goals as goal

pub returns : goal.returns
returns c = record { spelled = λ text ds h. read_spells text ds h; read = λ text ds s. spelled_read text ds s }
