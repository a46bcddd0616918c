-- A crash of a host in memory, at a picked image.
use Rattle.std.specs.Prelude.{[], Some, None}
use Rattle.host_core.specs.MemoryHost.{MemoryHost}
use Rattle.host_core.specs.State.{Files, Pending, settled, dirty, listing, with_file}
use Rattle.host_core.specs.declared.crash.Pick.{Pick}
use Rattle.host_core.specs.declared.crash.Pick.TheVariants.{Gone, Bytes, Before}

-- the files that the pick leaves of what is pending and the files that are there
abbrev pub picked : Pick → Pending → Files → Files
picked Gone (dirty name) now = with_file name None now
picked (Bytes bytes) (dirty name) now = with_file name (Some bytes) now
picked Before (listing before) now = before
picked other pending now = now

-- the host after a crash: it keeps inputs, output, restarts and counts, and has no faults and no calls
abbrev pub crashed : Pick → MemoryHost → MemoryHost
crashed pick m = record m {
  state = record m.state { files = picked pick m.state.pending m.state.files; pending = settled };
  past = [];
  faults = record { at = []; from = None };
  calls = 0;
}
