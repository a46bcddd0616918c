-- Names in a list, and where they stand.
use Rattle.std.specs.Prelude.{◌≡◌, ℕ, suc, List, [], ◌∷◌, Option, Some, None, option_map, String, if◌then◌else◌}
use Rattle.std.specs.Global.{Global}
use Rattle.std.specs.Str.{bytes_eq}
use Rattle.std.specs.BTreeMap.{BTreeMap, get_by_text}

-- the place of the first of a name, counted from 0
abbrev pub place_of_name : List ℕ → List (List ℕ) → Option ℕ
place_of_name name [] = None
place_of_name name (n ∷ names) =
    if bytes_eq name n then Some 0
    else option_map suc (place_of_name name names)

-- a map holds the place of the first of each name
pub record IsIndexOf (places : BTreeMap (String Global) ℕ) (names : List (List ℕ)) : Type 0 where
  pub found : (name : List ℕ) → get_by_text places name ≡ place_of_name name names
