use Rattle.key_split.proofs.Parts.{ArePartsOf-key_parts, key_parts-only}
use Rattle.key_split.proofs.laws.parts_are_one.Goals as goal

pub returns-clause-there : goal.returns-clause-there
returns-clause-there c = ArePartsOf-key_parts c.args._key.now

pub returns-clause-only : goal.returns-clause-only
returns-clause-only c = key_parts-only c.args._key.now
