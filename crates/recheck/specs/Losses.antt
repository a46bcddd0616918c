-- What a move takes away, and who wanted it.
use Rattle.std.specs.Prelude.{◌≡◌, ◌≤◌, ℕ, List, Option, Some, is_some, IsTrue, length, slice_get}
use Rattle.conf_doc.specs.declared.configuration.Config.{Config}
use Rattle.key_split.specs.Key.{key_parts}
use Rattle.move_core.specs.Moves.{place}
use Rattle.move_core.specs.declared.moves.Move.{Move}
use Rattle.yang_model.specs.ModelSets.{ModelSet}
use Rattle.ref_index.specs.Agreements.{entry_of}
use Rattle.ref_index.specs.Referrers.{HasWant, want_for}
use Rattle.ref_index.specs.declared.places.Place.{Place}
use Rattle.recheck.specs.Turned.{Wants}
use Rattle.recheck.specs.declared.kept.Kept.{Kept}
use Rattle.recheck.specs.declared.verdicts.Verdict.{Verdict}

-- the names of the entry of a place
abbrev pub entry_at : Place → Verdict
entry_at p = record { table = p.table; key = p.key }

-- the text at a place wants what a key of a shape of a table has as a part
abbrev pub IsWantOfPart : ModelSet → Config → List ℕ → ℕ → List ℕ → ℕ → Place → Type 0
IsWantOfPart models config table shape key part p =
    (text : List ℕ) × (slice_get (key_parts key) part ≡ Some text)
    × HasWant models config (want_for table shape part text) p

-- the entry is in both, and wants in the first what a key of a table is that isn't in the second
pub record HasLost (models : ModelSet) (config next : Config) (table : List ℕ) (entry : Verdict)
    : Type 0 where
  pub key : List ℕ
  pub gone : ¬ IsTrue (is_some (entry_of table key next))
  pub wants : Wants models config table key entry
  pub there : IsTrue (is_some (entry_of entry.table entry.key next))

-- the table is the move's, which isn't at a field
pub record IsLoser (models : ModelSet) (config next : Config) (mv : Move) (entry : Verdict)
    : Type 0 where
  pub few : length (place mv) ≤ 2
  pub table : List ℕ
  pub of_move : slice_get (place mv) 0 ≡ Some table
  pub lost : HasLost models config next table entry

-- so it is by what is kept
pub record IsLoserOfKept (models : ModelSet) (old : Option Kept) (next : Config) (mv : Move)
    (entry : Verdict) : Type 0 where
  pub before : Kept
  pub was : old ≡ Some before
  pub loser : IsLoser models before.index.config next mv entry
