use Rattle.std.proofs.Common.{◌≡◌, map, take, IfSome}
use Rattle.conf_store.specs.Reads.{OnlyReads}
use Rattle.checkpoints.specs.Answers.{numbered_view}
use Rattle.checkpoints.specs.Numbers.{with_its_number}
use Rattle.checkpoints.proofs.numbering.read_numbers.Given as goal

-- so many are read
abbrev pub invariant-loop-i : goal.invariant-loop-i
invariant-loop-i g l = record {
  reads : OnlyReads g.H.Host.told g.H.Host.counts g.H.Host.moment g.H.Host.left_since g.H.Host.goes_on l.fn.host l.host;
  numbers : IfSome (g.H.Host.told l.fn.host) (λ s. map numbered_view l.all ≡ map (with_its_number s.files) (take l.i l.names));
}
