-- Which files of the folder may have been written and not synced, and what a settle syncs of them.
use Rattle.std.specs.Prelude.{◌≡◌, ◌⊎◌, ⊤, ℕ, List, [], ◌∷◌, filter, Result, Ok, Err}
use Rattle.host_core.specs.declared.errors.Failed.{Failed}
use Rattle.real_host.specs.Calls.{AreDone, AnyFails}
use Rattle.real_host.specs.Names.{is_scratch_name}
use Rattle.real_host.specs.declared.unsynced.Unsynced.{Unsynced}
use Rattle.real_host.specs.declared.unsynced.Unsynced.TheVariants.{Unlisted, Only, Nothing}
use denote.Param.Members.{Mut}
use denote.Ref.{Bor}

-- it is the file of that name alone
abbrev pub IsOnly : List ℕ → Unsynced → Type 0
IsOnly name Unlisted = ⊥
IsOnly name (Only file) = file.bytes ≡ name
IsOnly name Nothing = ⊥

module _ {C L : Type 0}
    (calls : Mut C (Bor (List ℕ) × Unit {0}) (Result (Unit {0}) Failed))
    (lists : L → Result (List (List ℕ)) Failed → Type 0) where
  -- there was a call at each of these files: at each scratch file of the folder, where they are not known
  abbrev pub AreSynced : Unsynced → L → C → Type 0
  AreSynced Unlisted list call =
      (names : List (List ℕ)) × lists list (Ok names)
      × AreDone calls call (filter is_scratch_name names)
  AreSynced (Only file) list call = AreDone calls call (file.bytes ∷ [])
  AreSynced Nothing list call = ⊤

  -- the folder could not be listed, or the call at one of these files failed
  abbrev pub FailsToSync : Unsynced → L → C → Type 0
  FailsToSync Unlisted list call =
      lists list (Err (record {}))
      ⊎ ((names : List (List ℕ)) × lists list (Ok names)
      × AnyFails calls call (filter is_scratch_name names))
  FailsToSync (Only file) list call = AnyFails calls call (file.bytes ∷ [])
  FailsToSync Nothing list call = ⊥
