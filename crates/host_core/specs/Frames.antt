-- What a call of a host leaves as it was, in one fact.
use Rattle.std.specs.Prelude.{◌≡◌, ℕ, Option}
use Rattle.host_core.specs.Counts.{Counts}
use Rattle.host_core.specs.Crashes.{Elapses, Left, MayLeaveNow}
use Rattle.host_core.specs.State.{State}

-- Nothing of the state is changed, a crash leaves what it would have left before, and of the counts this
-- holds.
pub record OnlyReads {H : Type 0} (told : H → Option State) (counts : H → Counts) (moment : H → ℕ)
    (left_since : H → ℕ → Left → Type 0) (goes_on : H → H → Type 0)
    (MayRise : Counts → Counts → Type 0) (old new : H) : Type 0 where
  pub state : told new ≡ told old
  pub faults : MayRise (counts old) (counts new)
  pub time : Elapses moment left_since old new (MayLeaveNow (told old))
  pub goes : goes_on old new
