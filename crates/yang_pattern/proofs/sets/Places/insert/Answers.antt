use Rattle.yang_pattern.proofs.SetLemmas.{insert_bit}
use Rattle.yang_pattern.proofs.sets.Places.insert.Goals as goal

pub returns : goal.returns
returns c = λ q. insert_bit c.args.self.now.words c.args.place q c.args.self.now.full c.requires
