-- What a walk over the names of a list of pairs has seen.
use Rattle.std.specs.Prelude.{◌≡◌, ℕ, List, Option, Some, None, IsSome, if◌then◌else◌}
use Rattle.std.specs.declared.cmp.Ordering.TheVariants.{Less}
use Rattle.std.specs.Ordering.{is_lt}
use Rattle.host_core.specs.Names.{name_cmp}
use Rattle.conf_doc.specs.Pairs.{find}

-- each name of the pairs is as P says
abbrev pub AreAt : {A : Type 0} → (List ℕ → Type 0) → List (List ℕ × A) → Type 0
AreAt P ps = (u : List ℕ) → IsSome (find u ps) → P u

-- each of them before t is
abbrev pub AreBelow : {A : Type 0} → (List ℕ → Type 0) → List (List ℕ × A) → List ℕ → Type 0
AreBelow P ps t = (u : List ℕ) → name_cmp u t ≡ Less → IsSome (find u ps) → P u

-- the lesser one of two names, where there are two
abbrev pub lesser : Option (List ℕ) → Option (List ℕ) → Option (List ℕ)
lesser None right = right
lesser (Some l) None = Some l
lesser (Some l) (Some r) = if is_lt (name_cmp r l) then Some r else Some l

-- the answer is that one
abbrev pub IsLesser : Option (List ℕ) → Option (List ℕ) → Option (List ℕ) → Type 0
IsLesser left right answer = answer ≡ lesser left right
