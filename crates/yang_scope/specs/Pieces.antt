-- Texts cut at a character.
use Rattle.std.specs.Prelude.{ℕ, ◌==◌, List, map}
use Rattle.std.specs.List.{slice_split}
use denote.Ref.{Bor}

-- the pieces of a text between the separators
abbrev pub pieces : ℕ → List ℕ → List (List ℕ)
pieces separator s = slice_split (λ c. c == separator) s

-- the texts that some borrows are of
abbrev pub texts : List (Bor (List ℕ)) → List (List ℕ)
texts borrows = map (λ b. b.now) borrows
