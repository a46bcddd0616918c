-- Which patch a JSON document is (RFC 6902, section 3), or the fault that is answered.
use Rattle.std.specs.Prelude.{◌≡◌, ℕ, zero, suc, ◌+◌, List, [], ◌∷◌, Option, Some, None, IsSome, Result, Ok, Err}
use Rattle.host_core.specs.Answers.{◌>>=◌, both}
use Rattle.serde_json.specs.Data.{Data, Items, no_items, item}
use Rattle.serde_json.specs.Find.{as_array}
use Rattle.conf_doc.specs.Reading.{json}
use Rattle.patch_core.specs.Elements.{element, first_fault, operation}
use Rattle.patch_core.specs.Operation.{Operation}
use Rattle.patch_core.specs.declared.errors.PatchWhy.{PatchWhy}
use Rattle.patch_core.specs.declared.errors.PatchWhy.TheVariants.{NotArray}
use Rattle.patch_core.specs.declared.errors.PatchError.{PatchError}
use Rattle.patch_core.specs.declared.errors.PatchError.TheVariants.{BadJson, BadPatch, Memory}

-- the fault of the element i
abbrev pub at : {A : Type 0} → ℕ → Result A PatchWhy → Result A PatchError
at i (Ok a) = Ok a
at i (Err why) = Err (BadPatch i why)

-- the operations that elements are, counted from i, or the first that is none
abbrev pub operations_from : ℕ → Items → Result (List Operation) PatchError
operations_from i no_items = Ok []
operations_from i (item d ds) =
    both (λ op ops. op ∷ ops) (at i (element d)) (operations_from (i + 1) ds)

-- a document that is no array is at fault in its first element
abbrev pub or_no_array : Option Items → Result Items PatchError
or_no_array None = Err (BadPatch 0 NotArray)
or_no_array (Some ds) = Ok ds

-- bytes without a JSON value are at fault
abbrev pub or_bad_json : Option Data → Result Data PatchError
or_bad_json None = Err BadJson
or_bad_json (Some d) = Ok d

-- "A JSON Patch document is a JSON document that represents an array of objects": its operations in
-- order, or the first element that is none, with its first fault
abbrev pub patch : List ℕ → Result (List Operation) PatchError
patch bytes =
    or_bad_json (json bytes) >>= λ d.
    or_no_array (as_array d) >>= λ ds.
    operations_from 0 ds

-- ---- the same, element by element

-- each element is the operation that stands at its index
abbrev pub AreOperations : Items → List Operation → Type 0
AreOperations no_items [] = Unit {0}
AreOperations no_items (op ∷ ops) = ⊥
AreOperations (item d ds) [] = ⊥
AreOperations (item d ds) (op ∷ ops) = (operation d ≡ Some op) × AreOperations ds ops

-- the elements before i are operations, and the element i is none: why is its first fault
abbrev pub IsFirstFault : Items → ℕ → PatchWhy → Type 0
IsFirstFault no_items i why = ⊥
IsFirstFault (item d ds) zero why = (operation d ≡ None) × (first_fault d ≡ why)
IsFirstFault (item d ds) (suc i) why = IsSome (operation d) × IsFirstFault ds i why

-- the fault that an error tells, or none for want of memory
abbrev pub patch_fault : PatchError → Option PatchError
patch_fault BadJson = Some BadJson
patch_fault (BadPatch i why) = Some (BadPatch i why)
patch_fault Memory = None
