-- The lines of a script, one turn after another: what each operator aims at, and what is told.
use Rattle.std.specs.Prelude.{◌≡◌, ◌⊎◌, ℕ, List, [], ◌∷◌, ◌++◌, IsNone, IsSome, length, Some, Ok, Err}
use Rattle.conf_doc.specs.declared.configuration.Config.{Config}
use Rattle.move_core.specs.Contexts.{rulebook}
use Rattle.move_core.specs.declared.contexts.Ctx.{Ctx}
use Rattle.patch_core.specs.Operation.{Operation}
use Rattle.plan_search.specs.Searches.{IsSearchAnswer}
use Rattle.plan_search.specs.declared.errors.SearchError.TheVariants as search
use Rattle.operators.specs.Replies.{commits_line, reply_line}
use Rattle.gcu_words.specs.Scripts.{name_of}
use Rattle.gcu_words.specs.declared.script_lines.ScriptLine.{ScriptLine}
use Rattle.gcu_words.specs.declared.script_lines.ScriptLine.TheVariants.{Begin, Step, Retarget, End}
use Rattle.sessions.specs.Turns as turns
use Rattle.sessions.specs.Turns.{Aim, Towards, Refusal, IsTurn}
use Rattle.sessions.specs.Worlds.{WorldState, opened, session_of}
use Rattle.sessions.specs.declared.replies.Reply.{Reply}
use Rattle.gcu_output.specs.Lines.{number}
use Rattle.gcu_output.specs.declared.outcomes.Outcome.{Outcome}
use Rattle.gcu_output.specs.declared.outcomes.Outcome.TheVariants.{Unorderable, Budget}
use Rattle.gcu_requests.specs.Request.{Operating, Patched}
use Rattle.gcu_requests.specs.SessionsAsked.{aim_asked, patch_at}

-- ---- aims

-- the first plan to the goal, or the number of the answer that there is none
abbrev pub IsPlanned : ℕ → Ctx → (now goal : Config) → Aim → Type 0
IsPlanned budget ctx now goal (Towards at ms) =
    (at ≡ goal) × IsSearchAnswer (rulebook ctx) now goal budget (Ok ms)
IsPlanned budget ctx now goal (Refusal n) =
    ((n ≡ number Unorderable)
    × IsSearchAnswer (rulebook ctx) now goal budget (Err search.Unorderable))
    ⊎ ((b : ℕ) × (n ≡ number (Budget b))
    × IsSearchAnswer (rulebook ctx) now goal budget (Err (search.Budget b)))

-- the patch is refused with that number
abbrev pub IsRefusedAs : Ctx → List Operation → Config → Aim → Type 0
IsRefusedAs ctx ops now (Towards at ms) = ⊥
IsRefusedAs ctx ops now (Refusal n) =
    (e : Outcome) × (aim_asked ctx ops now).Gives (Err e) × (n ≡ number e)

-- what a patch aims at from the configuration now, in the order of `apply-patch`: it is refused, or there is a
-- goal, and then a plan or none
abbrev pub IsAim : ℕ → Ctx → List Operation → Config → Aim → Type 0
IsAim budget ctx ops now aim =
    IsRefusedAs ctx ops now aim
    ⊎ ((goal : Config) × (aim_asked ctx ops now).Gives (Ok goal)
    × IsPlanned budget ctx now goal aim)

-- the same of the patch in a file
abbrev pub IsAimOf : List Patched → ℕ → Ctx → (file : List ℕ) → Config → Aim → Type 0
IsAimOf patches budget ctx file now aim =
    (ops : List Operation) × (patch_at file patches ≡ Some ops) × IsAim budget ctx ops now aim

-- ---- turns

-- what is told on a line, and what becomes of the world: the patch is looked at only where its session is as
-- the line wants it
abbrev pub IsTurnOf : List Patched → ℕ → WorldState → ScriptLine → Reply → WorldState → Type 0
IsTurnOf patches budget w (Begin name file) reply after =
    (aim : Aim)
    × (IsNone (session_of name w) → IsAimOf patches budget w.ctx file w.config aim)
    × IsTurn w (turns.Begin name aim) reply after
IsTurnOf patches budget w (Step name) reply after = IsTurn w (turns.Step name) reply after
IsTurnOf patches budget w (Retarget name file) reply after =
    (aim : Aim)
    × (IsSome (session_of name w) → IsAimOf patches budget w.ctx file w.config aim)
    × IsTurn w (turns.Retarget name aim) reply after
IsTurnOf patches budget w (End name) reply after = IsTurn w (turns.End name) reply after

-- each line goes on where the one before it ended
abbrev pub IsRunOf : List Patched → ℕ → WorldState
    → List ScriptLine → List Reply → WorldState → Type 0
IsRunOf patches budget w [] [] after = after ≡ w
IsRunOf patches budget w (line ∷ lines) (reply ∷ replies) after =
    (next : WorldState) × IsTurnOf patches budget w line reply next
    × IsRunOf patches budget next lines replies after
IsRunOf patches budget w lines replies after = ⊥

-- ---- what is told

-- one reply a line
abbrev pub reply_lines : List ScriptLine → List Reply → List ℕ
reply_lines (line ∷ lines) (reply ∷ replies) =
    reply_line (name_of line) reply ++ reply_lines lines replies
reply_lines lines replies = []

-- some lines have run, and their replies are added to a text
abbrev pub AreTold : List Patched → ℕ → List ScriptLine
    → WorldState → List ℕ → WorldState → List ℕ → Type 0
AreTold patches budget lines w before after text =
    (replies : List Reply) × IsRunOf patches budget w lines replies after
    × (text ≡ before ++ reply_lines lines replies)

-- the script has run from the stored configuration; the text has a reply for each line, and then how many
-- commits there are
abbrev pub IsOperated : Operating → List ℕ → WorldState → Type 0
IsOperated p text after =
    (replies : List Reply)
    × IsRunOf p.patches p.budget (opened p.ctx p.start) p.lines replies after
    × (text ≡ reply_lines p.lines replies ++ commits_line (length after.commits))
