-- The bytes so far were taken from the file, are not too many, and came in so many turns.
use Rattle.std.proofs.Common.{◌≤◌, ◌*◌, vec_len}
use Rattle.std.specs.Io.KnownBytes.{Consumes}
use Rattle.real_host.specs.declared.reading.TheConstants.{PIECE}
use Rattle.real_host.proofs.reading.read_in_turns.Given as goal

abbrev pub invariant-loop-turn : goal.invariant-loop-turn
invariant-loop-turn g l = record {
  taken : Consumes (g.F.Read.remaining l.initial.file) (g.F.Read.remaining l.file) l.bytes.items;
  room : vec_len l.bytes ≤ l.most;
  turns : vec_len l.bytes ≤ l._turn * PIECE;
}
