use Rattle.yang_text.proofs.Theorems.{faultless_spells, read_faultless, spelled_read}
use Rattle.yang_text.proofs.laws.faultless_is_spelled.Goals as goal

pub returns : goal.returns
returns c = record { spelled = λ text h. faultless_spells text h; faultless = λ text ds s. read_faultless text ds (spelled_read text ds s) }
