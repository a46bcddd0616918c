-- How the last line of a command that writes is told.
use Rattle.std.proofs.Common.{◌≡◌, Bool, true, false, ap, Option}
use Rattle.host_core.specs.Counts.{Counts}
use Rattle.host_core.specs.State.{State}
use Rattle.gcu_output.specs.Printing.{IsBeforeAnyStep, IsTold, is_disk_fault, may_have_written, IsSaid}
use Rattle.gcu_output.specs.Lines.{last_line}
use Rattle.gcu_output.specs.declared.outcomes.Outcome.{Outcome}
use Rattle.gcu_output.specs.declared.outcomes.Outcome.TheVariants.{Done, DiskFault, ServiceFault}

-- a refusal that is no fault of the disk comes before anything is written
pub unwritten : (e : Outcome) → IsBeforeAnyStep e → is_disk_fault e ≡ false → may_have_written e ≡ false
unwritten Done first isnt = absurd first
unwritten (ServiceFault step service) first isnt = absurd first
unwritten other first isnt = isnt

-- and its last line may ask for memory
pub told_said : (e : Outcome) (written : Bool) → written ≡ false
    → (before after : Option State) (old new : Counts) (result : Outcome)
    → IsSaid e (last_line e) before after old new result → IsTold written e before after old new result
told_said e true isnt before after old new result said = absurd cc
told_said e false isnt before after old new result said = said

-- the fault of the disk after no acknowledgement
pub first_fault : (e : Outcome) → IsBeforeAnyStep e → is_disk_fault e ≡ true → e ≡ DiskFault 0
first_fault (DiskFault step) first is = ap DiskFault first
first_fault Done never is = absurd never
first_fault (ServiceFault step service) never is = absurd never
first_fault other first is = absurd cc
