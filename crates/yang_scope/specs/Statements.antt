-- Statements found by their keywords and their names.
use Rattle.std.specs.Prelude.{ℕ, suc, Bool, List, [], ◌∷◌, ◌++◌, Option, Some, None, filter, option_map}
use Rattle.std.specs.List.{find}
use Rattle.std.specs.Str.{bytes_eq}
use Rattle.yang_text.specs.Declarations.{Declaration, keyword, block}

-- whether a statement has a keyword
abbrev pub is_keyword : List ℕ → Declaration → Bool
is_keyword word d = bytes_eq (keyword d) word

-- the first statement of a keyword in another one
abbrev pub first_child : List ℕ → Declaration → Option Declaration
first_child word d = find (is_keyword word) (block d)

-- the statements of a keyword in another one
abbrev pub children_of : List ℕ → Declaration → List Declaration
children_of word d = filter (is_keyword word) (block d)

-- a name, and a number that it stands for
abbrev pub Entry : Type 0
Entry = List ℕ × ℕ

-- the number of the first of a name
abbrev pub number_of_name : List ℕ → List Entry → Option ℕ
number_of_name name entries = option_map (λ e. e.1) (find (λ e. bytes_eq name e.0) entries)

-- a name that is there, with its number
abbrev pub name_entry : ℕ → Option (List ℕ) → List Entry
name_entry number None = []
name_entry number (Some name) = (name, number) ∷ []

-- what each element of a list gives, by its place
abbrev pub each_from : {X Y : Type 0} → (ℕ → X → List Y) → ℕ → List X → List Y
each_from f place [] = []
each_from f place (x ∷ xs) = f place x ++ each_from f (suc place) xs
