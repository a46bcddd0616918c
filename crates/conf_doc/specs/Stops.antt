-- Where a walk over a tree stops, as a pointer's text.
use Rattle.std.specs.Prelude.{◌≡◌, ℕ, List, ◌∷◌, ◌++◌, Option, Some, None, Result, Ok, Err}
use Rattle.host_core.specs.Characters.{slash}
use Rattle.conf_doc.specs.Pointer.{pointer, escaped}
use Rattle.conf_doc.specs.Reading.{Way}
use Rattle.conf_doc.specs.declared.stops.Stop.{Stop}
use Rattle.conf_doc.specs.declared.stops.Stop.TheVariants.{At, Memory}

-- a way as its text
abbrev pub located : {A : Type 0} → Result A Way → Result A (List ℕ)
located (Ok a) = Ok a
located (Err way) = Err (pointer way)

-- the place of a stop, or none for want of memory
abbrev pub stop_place : Stop → Option (List ℕ)
stop_place (At place) = Some place
stop_place Memory = None

-- the new stop is one token deeper than the old one, or for want of memory
abbrev pub IsBelow : List ℕ → Stop → Stop → Type 0
IsBelow token old Memory = Unit {0}
IsBelow token (At place) (At deeper) = deeper ≡ slash ∷ (escaped token ++ place)
IsBelow token Memory (At deeper) = ⊥
