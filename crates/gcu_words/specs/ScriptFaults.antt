-- The fault of a script as the code keeps it.
use Rattle.std.specs.Prelude.{ℕ, Option, Some, None}
use Rattle.gcu_words.specs.declared.errors.ScriptError.{ScriptError}
use Rattle.gcu_words.specs.declared.errors.ScriptError.TheVariants.{BadScript, Memory}

-- the line that it tells; want of memory says nothing of it
abbrev pub script_fault : ScriptError → Option ℕ
script_fault (BadScript line) = Some line
script_fault Memory = None
