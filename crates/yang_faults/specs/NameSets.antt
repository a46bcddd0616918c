-- A set of names as a list of names that may stand there more than once.
use Rattle.std.specs.Prelude.{◌≡◌, ℕ, List, Option, String}
use Rattle.std.specs.Global.{Global}
use Rattle.std.specs.BTreeSet.{BTreeSet, contains_text}
use Rattle.std.specs.List.{list_any}
use Rattle.std.specs.Str.{bytes_eq}
use Rattle.yang_scope.specs.declared.faults.Fault.{Fault}
use Rattle.yang_faults.specs.declared.name_sets.NameSet.{NameSet}
use Rattle.yang_faults.specs.Duplicates.{Given, given_twice, earlier_from}
use Rattle.yang_scope.specs.Faults.{least_of}

-- a set holds exactly the names of a list
pub record IsSetOf (set : BTreeSet (String Global)) (names : List (List ℕ)) : Type 0 where
  pub holds : (name : List ℕ) → contains_text set name ≡ list_any (bytes_eq name) names

-- the names that are given one after another are noted: a fault at each that was given before, and all
-- of them in the set
abbrev pub NotesGiven : Option Fault → Option Fault → NameSet → NameSet → List Given → Type 0
NotesGiven least next_least set next_set gs =
    (earlier : List (List ℕ)) → IsSetOf set.names earlier
    → (next_least ≡ least_of least (given_twice earlier gs))
    × IsSetOf next_set.names (earlier_from earlier gs)
