use Rattle.std.proofs.Common.{◌≡◌, drop}
use Rattle.yang_pattern.specs.Symbols.{reads_token}
use Rattle.yang_pattern.specs.Reading.{Progress, IsReader, run, start}
use Rattle.yang_pattern.proofs.read_tokens.read_tokens.Given as goal

abbrev pub invariant-loop-number : goal.invariant-loop-number
invariant-loop-number l = (s : Progress) × IsReader (reads_token l.tokens) l.reader s × (run (drop l.number l.tokens) s ≡ run l.tokens start)
