-- `sessions SCRIPT`: what the script of several operators asks. The whole script is read before the files that it
-- names, and all of these before anything is done.
use Rattle.std.specs.Prelude.{ℕ, List, [], ◌∷◌, ◌++◌, if◌then◌else◌, Option, Some, None, Result, Ok, Err}
use Rattle.host_core.specs.State.{State}
use Rattle.conf_doc.specs.declared.configuration.Config.{Config}
use Rattle.move_core.specs.declared.contexts.Ctx.{Ctx}
use Rattle.patch_core.specs.Operation.{Operation}
use Rattle.gcu_words.specs.Words.{is_word}
use Rattle.gcu_words.specs.Scripts.{script}
use Rattle.gcu_words.specs.declared.script_lines.ScriptLine.{ScriptLine}
use Rattle.gcu_words.specs.declared.script_lines.ScriptLine.TheVariants.{Begin, Step, Retarget, End}
use Rattle.gcu_output.specs.declared.outcomes.Outcome.{Outcome}
use Rattle.gcu_output.specs.declared.outcomes.Outcome.TheVariants.{BadScript}
use Rattle.gcu_inputs.specs.Asking.{Asking, follows, ◌>>>◌}
use Rattle.gcu_inputs.specs.IntentAsked.{uninterrupted}
use Rattle.gcu_inputs.specs.ModelFiles.{bytes_asked}
use Rattle.gcu_inputs.specs.PatchAsked.{patch_asked, target}
use Rattle.gcu_inputs.specs.RulesAsked.{ctx_asked}
use Rattle.gcu_requests.specs.PlanAsked.{judged_asked, start_asked}
use Rattle.gcu_requests.specs.Request.{Operating, Patched}

-- ---- the script

-- how many bytes a script may have
abbrev pub script_limit : ℕ
script_limit = 1048576

-- a text that is no script is refused by its first line at fault
abbrev pub script_answer : Result (List ScriptLine) ℕ → Result (List ScriptLine) Outcome
script_answer (Ok lines) = Ok lines
script_answer (Err line) = Err (BadScript line)

-- the lines that the input at a path holds
abbrev pub script_asked : List ℕ → State → Asking (List ScriptLine)
script_asked path s =
    bytes_asked path script_limit s >>> λ bytes.
    follows (script_answer (script bytes))

-- ---- the patches

-- the file that a line names
abbrev pub file_of : ScriptLine → Option (List ℕ)
file_of (Begin name file) = Some file
file_of (Step name) = None
file_of (Retarget name file) = Some file
file_of (End name) = None

-- the operations of the patch that was found at a path
abbrev pub patch_at : List ℕ → List Patched → Option (List Operation)
patch_at path [] = None
patch_at path (p ∷ ps) = if is_word p.0 path then Some p.1 else patch_at path ps

-- a file is read where no line before named it
abbrev pub unread_asked : List Patched → List ℕ → Option (List Operation) → State
    → Asking (List Patched)
unread_asked found path (Some ops) s = follows (Ok found)
unread_asked found path None s =
    patch_asked path s >>> λ ops.
    follows (Ok (found ++ (path, ops) ∷ []))

-- the patch of a line, behind those that were found before
abbrev pub line_asked : List Patched → Option (List ℕ) → State → Asking (List Patched)
line_asked found None s = follows (Ok found)
line_asked found (Some path) s = unread_asked found path (patch_at path found) s

-- the patches of some lines in turn
abbrev pub patches_asked : List Patched → List ScriptLine → State → Asking (List Patched)
patches_asked found [] s = follows (Ok found)
patches_asked found (line ∷ lines) s =
    line_asked found (file_of line) s >>> λ more.
    patches_asked more lines s

-- ---- all of it

-- the models and rules, the stored configuration, the script, and then the files that it names
abbrev pub script_needs_asked : List ℕ → ℕ → State → Asking Operating
script_needs_asked path budget s =
    ctx_asked s >>> λ ctx.
    start_asked ctx s >>> λ start.
    script_asked path s >>> λ lines.
    patches_asked [] lines s >>> λ patches.
    follows
    (Ok (record { ctx = ctx; start = start; lines = lines; patches = patches; budget = budget }))

-- the same, where no change is under way
abbrev pub operating_asked : List ℕ → ℕ → State → Asking Operating
operating_asked path budget s = uninterrupted s >>> λ _. script_needs_asked path budget s

-- ---- a goal

-- what a patch makes of the configuration now, where a plan may have it for its goal
abbrev pub aim_asked : Ctx → List Operation → Config → Asking Config
aim_asked ctx ops now = follows (target ops now) >>> λ goal. judged_asked ctx now goal
