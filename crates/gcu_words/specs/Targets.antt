-- Where the goal of a plan comes from.
use Rattle.std.specs.Prelude.{ℕ, List, codes, not, if◌then◌else◌, Option, Some, None}
use Rattle.gcu_words.specs.Words.{is_positional, is_word}

-- where the goal comes from
pub data Target : Type 0 where
  -- the patch of this path makes it of the stored configuration
  patched : List ℕ → Target
  -- the configuration that the input of this path holds
  replaced : List ℕ → Target
  -- the configuration that the checkpoint of this name holds
  rolled_back : List ℕ → Target
  -- the configuration that the file of a change under way holds
  resumed : Target

-- the target of a command and its word, where it is a command that plans and the word is no option
abbrev pub target_of : List ℕ → List ℕ → Option Target
target_of command word =
    if not (is_positional word) then None
    else if is_word command (codes "apply-patch") then Some (patched word)
    else if is_word command (codes "replace") then Some (replaced word)
    else if is_word command (codes "rollback") then Some (rolled_back word)
    else None
