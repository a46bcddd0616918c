-- What the program promises, for all words, inputs and files.
--
-- Whatever models, folder and patch are given, each configuration of a printed plan satisfies every model and
-- move rule and the last is the RFC 6902 result; Unorderable comes only where no sequence of allowed moves
-- arrives; after a crash at any moment the stored configuration is the plan's last acknowledged or the next, and
-- checkpoints are whole; a finished rollback stores exactly its checkpoint.
--
-- Of `replace`, `rollback` and `resume` the last configuration is that of the file, of the checkpoint and of
-- `intent`. Of `sessions` the moves are those that its operators are told of, each allowed for the goal of its session. Where nothing is done, or the command is refused,
-- the stored configuration after a crash is that of the beginning.
use Rattle.std.specs.Prelude.{◌≡◌, ◌≢◌, ◌≤◌, ◌⊎◌, ℕ, suc, List, [], ◌∷◌, ◌++◌, codes, length, Contains, Option, Some}
use Rattle.std.specs.FinMap.{FinMap, empty, get, insert, remove}
use Rattle.std.specs.List.{flat_map}
use Rattle.host_core.specs.Crashes.{Image, Left}
use Rattle.host_core.specs.Names.{name_cmp}
use Rattle.host_core.specs.State.{Files, State}
use Rattle.conf_doc.specs.declared.configuration.Config.{Config}
use Rattle.patch_core.specs.Indexes.{number}
use Rattle.checkpoints.specs.Changes.{with_point, without_point}
use Rattle.checkpoints.specs.Points.{points}
use Rattle.move_core.specs.Contexts.{IsValidIn, rulebook}
use Rattle.move_core.specs.Operations.{plan_text}
use Rattle.move_core.specs.Moves.{step}
use Rattle.move_core.specs.Plans.{IsAllowed, IsReachable, IsWay, conf}
use Rattle.move_core.specs.declared.contexts.Ctx.{Ctx}
use Rattle.move_core.specs.declared.moves.Move.{Move}
use Rattle.change_apply.specs.Acknowledgements.{ack, acks}
use Rattle.gcu_demo.specs.Demo as generated
use Rattle.gcu_words.specs.Options.{dry_run_word}
use Rattle.gcu_words.specs.Targets.{Target, patched, replaced, resumed, rolled_back}
use Rattle.gcu_output.specs.declared.outcomes.Outcome.{Outcome}
use Rattle.gcu_output.specs.declared.outcomes.Outcome.TheVariants.{Done, Unorderable}
use Rattle.gcu_words.specs.Tasks.{Task, reach, run_script}
use Rattle.operators.specs.Replies.{commits_line, reply_line}
use Rattle.sessions.specs.declared.replies.Reply.{Reply}
use Rattle.sessions.specs.declared.replies.Reply.TheVariants.{Applied, Began, Ended, Retargeted}
use Rattle.command_answers.specs.Answers.{IsRefusal}
use Rattle.command_answers.specs.Changing.{IsLastLine, IsRefusalLine}
use Rattle.gcu_engine.specs.Contents.{IsContextIn, IsMade}
use Rattle.gcu_engine.specs.Folder.{HoldsPatch, StandForSame, Stores}

-- ---- the words

-- the first words of a command with a task
abbrev pub first_words : Task → List (List ℕ)
first_words (reach (patched path)) = codes "apply-patch" ∷ path ∷ []
first_words (reach (replaced path)) = codes "replace" ∷ path ∷ []
first_words (reach (rolled_back name)) = codes "rollback" ∷ name ∷ []
first_words (reach resumed) = codes "resume" ∷ []
first_words (run_script path) = codes "sessions" ∷ path ∷ []

-- the words begin so, whatever options stand behind: with wrong ones the command is refused
abbrev pub IsTaskCommand : Task → List (List ℕ) → Type 0
IsTaskCommand task words = (options : List (List ℕ)) × (words ≡ first_words task ++ options)

-- the same, and no option is `--dry-run`: a command that does its task
abbrev pub IsChangeCommand : Task → List (List ℕ) → Type 0
IsChangeCommand task words =
    (options : List (List ℕ)) × (words ≡ first_words task ++ options)
    × (¬ Contains options dry_run_word)

-- ---- right moves

-- Operators are told so, line by line, and commit these moves from a configuration on. The goal of a session is what
-- the patch of a file made of the configuration when the session began or was last retargeted, and each move that it
-- commits is allowed for its goal.
abbrev pub AreCommitted : Ctx → State → Config → FinMap name_cmp Config
    → List (List ℕ × Reply) → List Move → Type 0
AreCommitted ctx s now goals [] ms = ms ≡ []
AreCommitted ctx s now goals ((name, Applied m) ∷ told) ms =
    (goal : Config) × (rest : List Move) × (get goals name ≡ Some goal) × (ms ≡ m ∷ rest)
    × IsAllowed (rulebook ctx) goal now m × AreCommitted ctx s (step now m) goals told rest
AreCommitted ctx s now goals ((name, Began count) ∷ told) ms =
    (file : List ℕ) × (goal : Config) × HoldsPatch s.inputs file now goal
    × AreCommitted ctx s now (insert goals name goal) told ms
AreCommitted ctx s now goals ((name, Retargeted count) ∷ told) ms =
    (file : List ℕ) × (goal : Config) × HoldsPatch s.inputs file now goal
    × AreCommitted ctx s now (insert goals name goal) told ms
AreCommitted ctx s now goals ((name, Ended done) ∷ told) ms =
    AreCommitted ctx s now (remove goals name) told ms
AreCommitted ctx s now goals ((name, other) ∷ told) ms = AreCommitted ctx s now goals told ms

-- what is printed before moves from a configuration, each of which is allowed where it stands: the plan, to what the
-- target makes of that one, of a patch the result by RFC 6902; or what the operators are told who commit them, and
-- last how many there are
abbrev pub IsTextOf : Task → State → Ctx → Config → List Move → List ℕ → Type 0
IsTextOf (reach from) s ctx start ms text =
    (goal : Config) × IsMade from s start goal × IsWay (rulebook ctx) goal start ms goal
    × (text ≡ plan_text ms)
IsTextOf (run_script path) s ctx start ms text =
    (told : List (List ℕ × Reply)) × AreCommitted ctx s start empty told ms
    × (text ≡ flat_map (λ t. reply_line t.0 t.1) told ++ commits_line (length ms))

-- each configuration from the stored one on satisfies every model, and each move is allowed where it stands
pub record IsRightWork (task : Task) (s : State) : Type 0 where
  pub ctx : Ctx
  pub read : IsContextIn s ctx
  pub start : Config
  pub stands : Stores s.files start
  pub moves : List Move
  pub valid : (i : ℕ) → IsValidIn ctx (conf start moves i)
  pub text : List ℕ
  pub is : IsTextOf task s ctx start moves text

-- what is printed before right moves and what follows it, or the last line of an answer
abbrev pub IsTaskOutput : Task → State → List ℕ → Type 0
IsTaskOutput task s output =
    IsLastLine output
    ⊎ ((right : IsRightWork task s) × (more : List ℕ) × (output ≡ right.text ++ more))

-- a front of such an output was printed
abbrev pub PrintsTask : Task → State → Option State → Type 0
PrintsTask task s after =
    (t : State) × (added : List ℕ) × (rest : List ℕ) × (after ≡ Some t)
    × (t.output ≡ s.output ++ added) × IsTaskOutput task s (added ++ rest)

-- no sequence of allowed moves leads from the start to the goal: from the stored configuration to what the target
-- makes of it, or in a demonstration from the one to the other that its seed and its number of ports generate
pub record HasNoOrder (words : List (List ℕ)) (s : State) : Type 0 where
  pub ctx : Ctx
  pub read : IsContextIn s ctx
  pub start : Config
  pub goal : Config
  pub planned : (from : Target) → IsTaskCommand (reach from) words
      → Stores s.files start × IsMade from s start goal
  pub demonstrated : (seed ports : List ℕ) → words ≡ codes "demo" ∷ seed ∷ ports ∷ []
      → (start ≡ generated.start (number seed) (number ports))
      × (goal ≡ generated.goal (number seed) (number ports))
  pub none : ¬ IsReachable (rulebook ctx) goal start goal

-- ---- a crash

-- nothing is acknowledged, and each file is as before, or, where something was pending, as a crash might have left it
-- when the command began
pub record IsUnacknowledged (task : Task) (s : State) (left : Left) : Type 0 where
  pub part : List ℕ
  pub rest : List ℕ
  pub text : IsLastLine (part ++ rest)
      ⊎ ((right : IsRightWork task s) × (right.text ≡ part ++ rest))
  pub output : left.output ≡ s.output ++ part
  pub files : Image s.pending s.files left.files

-- no whole acknowledgement: less than all of the next one, or a front of the last line
abbrev pub IsNoneWhole : ℕ → List ℕ → Type 0
IsNoneWhole k part =
    ((rest : List ℕ) × (ack (suc k) ≡ part ++ rest) × (rest ≢ []))
    ⊎ ((rest : List ℕ) × IsLastLine (part ++ rest))

-- so many acknowledgements stand behind what is printed before the moves, and the folder stands for the last
-- acknowledged configuration or the next
pub record IsLastOrNext (task : Task) (s : State) (left : Left) : Type 0 where
  pub right : IsRightWork task s
  pub done : ℕ
  pub within : done ≤ length right.moves
  pub part : List ℕ
  pub cut : IsNoneWhole done part
  pub output : left.output ≡ s.output ++ right.text ++ acks done ++ part
  pub stands : Stores left.files (conf right.start right.moves done)
      ⊎ Stores left.files (conf right.start right.moves (suc done))

-- `checkpoint NAME` adds one, with the stored configuration
pub record AddsPoint (words : List (List ℕ)) (s : State) (files : Files) : Type 0 where
  pub name : List ℕ
  pub config : Config
  pub words_are : words ≡ codes "checkpoint" ∷ name ∷ []
  pub stands : Stores s.files config
  pub points_are : points files ≡ with_point name config (points s.files)

-- `delete-checkpoint NAME` removes one
pub record RemovesPoint (words : List (List ℕ)) (s : State) (files : Files) : Type 0 where
  pub name : List ℕ
  pub words_are : words ≡ codes "delete-checkpoint" ∷ name ∷ []
  pub points_are : points files ≡ without_point name (points s.files)

-- the checkpoints are as before, or with the one change that the command makes
abbrev pub HasWholePoints : List (List ℕ) → State → Files → Type 0
HasWholePoints words s files =
    (points files ≡ points s.files) ⊎ (AddsPoint words s files ⊎ RemovesPoint words s files)

-- what a crash leaves: of a command that does a task what was there or one of its configurations, of another one
-- what was there or what the folder stood for
pub record IsWhole (words : List (List ℕ)) (s : State) (left : Left) : Type 0 where
  pub change : (task : Task) → IsChangeCommand task words
      → IsUnacknowledged task s left ⊎ IsLastOrNext task s left
  pub other : ((task : Task) → ¬ IsChangeCommand task words)
      → Image s.pending s.files left.files ⊎ StandForSame s.files left.files
  pub points_are : Image s.pending s.files left.files ⊎ HasWholePoints words s left.files

-- ---- a finished change

-- the folder stands for exactly what the target makes of the stored configuration
abbrev pub StoresTarget : Target → State → Option State → Type 0
StoresTarget from s after =
    (t : State) × (start : Config) × (goal : Config) × (after ≡ Some t)
    × Stores s.files start × IsMade from s start goal × Stores t.files goal

-- the folder stands for exactly what the checkpoint of that name held
abbrev pub StoresPoint : List ℕ → State → Option State → Type 0
StoresPoint name s after =
    (t : State) × (config : Config) × (after ≡ Some t)
    × (get (points s.files) name ≡ Some (Some config)) × Stores t.files config

-- ---- a refusal

-- the files are as before, the line of a refusal is all that was printed, and nothing was restarted; which line
-- each answer has, `Says` says
pub record IsQuiet (s : State) (after : Option State) : Type 0 where
  pub now : State
  pub is : after ≡ Some now
  pub files : now.files ≡ s.files
  pub line : List ℕ
  pub refusal : IsRefusalLine line
  pub output : now.output ≡ s.output ++ line
  pub restarts : now.restarts ≡ s.restarts

-- ---- all of it

-- the promise, of a host in that state when the command begins, and of what a crash leaves since then. Where nothing
-- is pending then, a crash that leaves the files as it might have left them then leaves them as they were.
pub record IsHeadline (words : List (List ℕ)) (s : State) (after : Option State) (result : Outcome)
    (IsLeftSince : Left → Type 0) : Type 0 where
  pub printed : (task : Task) → IsTaskCommand task words → PrintsTask task s after
  pub no_order : result ≡ Unorderable → HasNoOrder words s
  pub crash : (left : Left) → IsLeftSince left → IsWhole words s left
  -- a crash in a command with another answer than those of 0, 4, 5 and 6 leaves the files from before
  pub refused : IsRefusal result → (left : Left) → IsLeftSince left
      → Image s.pending s.files left.files
  pub quiet : IsRefusal result → IsQuiet s after
  pub finished : (from : Target) → IsChangeCommand (reach from) words → result ≡ Done
      → StoresTarget from s after
  pub rolled : (name : List ℕ) → IsChangeCommand (reach (rolled_back name)) words → result ≡ Done
      → StoresPoint name s after
