-- Whether names are those of a place.
use Rattle.std.specs.Prelude.{ℕ, List, Bool, not, ◌==◌, length}
use Rattle.std.specs.List.{list_all}

-- none is empty
abbrev pub have_letters : List (List ℕ) → Bool
have_letters names = list_all (λ n. not (length n == 0)) names
