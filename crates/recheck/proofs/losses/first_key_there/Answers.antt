use Rattle.std.proofs.Common.{sym}
use Rattle.recheck.proofs.losses.first_key_there.Goals as goal

pub returns-then-is_key_there-clause-one : goal.returns-then-is_key_there-clause-one
returns-then-is_key_there-clause-one c = (c.loop-place.place-index, c.loop-place-test.true, sym c.place-item.is)

pub returns-then-is_key_there-clause-there : goal.returns-then-is_key_there-clause-there
returns-then-is_key_there-clause-there c = c.is_key_there.ensures c.if-is_key_there.true
