-- One entry that changes, and no other that its change may turn.
use Rattle.std.specs.Prelude.{◌≡◌, ◌⊎◌, ℕ, List, Bool, Some, is_some, IsTrue, slice_get}
use Rattle.conf_doc.specs.declared.configuration.Config.{Config}
use Rattle.conf_check.specs.Validity.{IsValid}
use Rattle.move_core.specs.Moves.{place}
use Rattle.move_core.specs.declared.moves.Move.{Move}
use Rattle.yang_model.specs.ModelSets.{ModelSet, table_named}
use Rattle.ref_index.specs.Agreements.{AgreeBut, entry_of}
use Rattle.ref_index.specs.Referrers.{Indexed}
use Rattle.recheck.specs.Turned.{Reads, Wants}
use Rattle.recheck.specs.declared.verdicts.Verdict.{Verdict}

-- where it is said, the configuration of an index is valid by its models
abbrev pub IsKeptValid : Indexed → Bool → Type 0
IsKeptValid index valid = IsTrue valid → IsValid index.models index.config

-- no entry of the configuration has a must that reads that table
abbrev pub IsUnread : ModelSet → Config → List ℕ → Type 0
IsUnread models config table =
    (v : Verdict) → IsTrue (is_some (entry_of v.table v.key config)) → ¬ Reads models table v

-- none has a want that the entry of that key meets
abbrev pub IsUnwanted : ModelSet → Config → List ℕ → List ℕ → Type 0
IsUnwanted models config table key = (v : Verdict) → ¬ Wants models config table key v

-- the table has a model, no must reads it, and the key stays or is wanted by none
pub record StandsAlone (models : ModelSet) (config next : Config) (table key : List ℕ)
    : Type 0 where
  pub modelled : IsTrue (is_some (table_named table models))
  pub unread : IsUnread models config table
  pub stays : IsTrue (is_some (entry_of table key next)) ⊎ IsUnwanted models config table key

-- both configurations agree but for that entry, which alone may turn
pub record IsSole (models : ModelSet) (config next : Config) (table key : List ℕ) : Type 0 where
  pub agree : AgreeBut config next table key
  pub alone : StandsAlone models config next table key

-- and it is the move's
pub record IsSoleEntry (models : ModelSet) (config next : Config) (mv : Move)
    (table key : List ℕ) : Type 0 where
  pub at_table : slice_get (place mv) 0 ≡ Some table
  pub at_key : slice_get (place mv) 1 ≡ Some key
  pub sole : IsSole models config next table key
