-- What a walk over two configurations side by side finds the same.
use Rattle.std.specs.Prelude.{◌≡◌, ◌≢◌, ◌⊎◌, ◌<◌, ◌≤◌, ◌+◌, ℕ, List, Some, slice_get}
use Rattle.conf_doc.specs.Pairs.{find}
use Rattle.conf_doc.specs.declared.configuration.Config.{Config}
use Rattle.conf_doc.specs.declared.configuration.Table.{Table}

-- as many pairs of the first from a position on as are said are those of the second from another one on
abbrev pub AreSameFrom : {A : Type 0} → List A → ℕ → List A → ℕ → ℕ → Type 0
AreSameFrom first i second j n =
    (k l : ℕ) → i ≤ k → k < i + n → k + j ≡ l + i → slice_get first k ≡ slice_get second l

-- both tables have the same entries of other keys
abbrev pub AreSameBut : List ℕ → Table → Table → Type 0
AreSameBut key first second = (k : List ℕ) → k ≢ key → find k first ≡ find k second

-- at a position both configurations have a table of one name: the same, or it is the one of that name, and
-- both have the same entries of other keys
pub record AgreeAt (first second : Config) (table key : List ℕ) (i : ℕ) : Type 0 where
  pub name : List ℕ
  pub one : Table
  pub other : Table
  pub at_first : slice_get first i ≡ Some (name, one)
  pub at_second : slice_get second i ≡ Some (name, other)
  pub agree : (one ≡ other) ⊎ ((name ≡ table) × AreSameBut key one other)
