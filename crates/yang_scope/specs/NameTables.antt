-- Names found without a walk.
use Rattle.std.specs.Prelude.{◌≡◌, ℕ, List, String}
use Rattle.std.specs.Global.{Global}
use Rattle.std.specs.BTreeMap.{BTreeMap, get_by_text}
use Rattle.yang_scope.specs.Statements.{Entry, number_of_name}

-- a map holds the number of the first of each name
pub record IsTableOf (numbers : BTreeMap (String Global) ℕ) (entries : List Entry) : Type 0 where
  pub found : (name : List ℕ) → get_by_text numbers name ≡ number_of_name name entries
