use Rattle.std.proofs.Common.{◌≡◌, length}
use Rattle.xpath_part.specs.Reading.{run, parse}
use Rattle.xpath_part.proofs.reading.parse.Given as goal

abbrev pub invariant-loop-token : goal.invariant-loop-token
invariant-loop-token l = run l.tokens l.reader ≡ parse l.fn.tokens

abbrev pub decreases-loop-token : goal.decreases-loop-token
decreases-loop-token l = length l.tokens
