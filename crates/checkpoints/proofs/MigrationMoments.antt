-- What a crash leaves while a migration goes on, from one call to the next.
use Rattle.std.proofs.Common.{ℕ, List, Option, Some, None}
use Rattle.std.specs.Prelude.{IfSome}
use Rattle.host_core.specs.Crashes.{Elapses, Left, LeavesOnly}
use Rattle.host_core.specs.State.{State}
use Rattle.host_core.proofs.Runs as runs
use Rattle.checkpoints.specs.Migrations.{NewFile}
use Rattle.checkpoints.specs.MigrationCrashes.{IsLeft}

module _ {H : Type 0} (moment : H → ℕ) (left_since : H → ℕ → Left → Type 0) (news : List NewFile) where
  -- a crash between the two leaves what it may, of a beginning that may not be told
  abbrev pub LeavesOf : Option State → H → H → Type 0
  LeavesOf o old new = IfSome o (λ s. LeavesOnly moment left_since old new (IsLeft news s))

  -- the same of what is left at one moment
  abbrev pub IsLeftOf : Option State → Left → Type 0
  IsLeftOf o left = IfSome o (λ s. IsLeft news s left)

  pub begins : (o : Option State) (old : H) → ((left : Left) → left_since old (moment old) left → IsLeftOf o left) → LeavesOf o old old
  begins None old here = tt
  begins (Some s) old here = runs.begins moment left_since old (IsLeft news s) here

  pub goes_on : (o : Option State) (old mid new : H) (these : Left → Type 0) → LeavesOf o old mid
      → Elapses moment left_since mid new these → ((left : Left) → these left → IsLeftOf o left) → LeavesOf o old new
  goes_on None old mid new these so_far time here = tt
  goes_on (Some s) old mid new these so_far time here = runs.goes_on moment left_since old mid new (IsLeft news s) these so_far time here

  pub joins : (o : Option State) (old mid new : H) → LeavesOf o old mid → LeavesOf o mid new → LeavesOf o old new
  joins None old mid new first second = tt
  joins (Some s) old mid new first second = runs.joins moment left_since old mid new (IsLeft news s) first second
