-- An entry of the table as the definitions have it.
use Rattle.std.specs.Prelude.{ℕ, List, [], ◌∷◌, Option, Some, None}
use denote.Ref.{Bor}
use Rattle.yang_faults.specs.Rows.{Allowed}
use Rattle.yang_faults.specs.declared.rows.Entry.{Entry}
use Rattle.yang_faults.specs.declared.rows.Need.{Need}

-- a statement that may stand there
abbrev pub allowed : Entry → Allowed
allowed e = record { keyword = e.keyword.now; single = e.single; kind = e.kind }

-- a second keyword, where there is one
abbrev pub keyword_alone : Option (Bor (List ℕ)) → List (List ℕ)
keyword_alone None = []
keyword_alone (Some k) = k.now ∷ []

-- the keywords of a need
abbrev pub needed : Need → List (List ℕ)
needed n = n.keyword.now ∷ keyword_alone n.other
