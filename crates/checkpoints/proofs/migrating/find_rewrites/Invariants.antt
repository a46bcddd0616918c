use Rattle.std.proofs.Common.{◌≡◌, take, IfSome}
use Rattle.std.specs.Prelude.{All}
use Rattle.conf_store.specs.Reads.{OnlyReads}
use Rattle.checkpoints.specs.Migrations.{IsDue, new_files}
use Rattle.checkpoints.proofs.migrating.find_rewrites.Given as goal

-- those among so many names are found
abbrev pub invariant-loop-i : goal.invariant-loop-i
invariant-loop-i g l = record {
  reads : OnlyReads g.H.Host.told g.H.Host.counts g.H.Host.moment g.H.Host.left_since g.H.Host.goes_on l.fn.host l.host;
  all : IfSome (g.H.Host.told l.fn.host) (λ s. l.migration ≡ new_files s.files (take l.i l.names));
  due : IfSome (g.H.Host.told l.fn.host) (λ s. All (λ n. IsDue n s.files) l.migration);
}
