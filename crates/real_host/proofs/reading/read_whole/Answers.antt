use Rattle.std.proofs.Common.{arith, ◌^◌, ◌-◌}
use Rattle.real_host.proofs.Fronts.{known_taken}
use Rattle.real_host.proofs.reading.read_whole.Goals as goal

pub returns-clause-bytes : goal.returns-clause-bytes
returns-clause-bytes g c = let v = c.in_ok-bytes.bytes in known_taken (2 ^ 64 - 1) (g.F.Read.remaining c.args.file.now) v.items (omega (arith, v.ok.0, v.small)) c.in_ok-bytes.ensures.bytes
