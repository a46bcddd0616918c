-- What a command is to do, where it isn't refused.
use Rattle.std.specs.Prelude.{ℕ, List, Option}
use Rattle.conf_doc.specs.declared.configuration.Config.{Config}
use Rattle.checkpoints.specs.Migrations.{NewFile}
use Rattle.move_core.specs.declared.contexts.Ctx.{Ctx}
use Rattle.move_core.specs.declared.moves.Move.{Move}
use Rattle.patch_core.specs.Operation.{Operation}
use Rattle.scopes.specs.declared.scope.Scope.{Scope}
use Rattle.gcu_words.specs.declared.script_lines.ScriptLine.{ScriptLine}
use Rattle.gcu_output.specs.declared.statuses.Intent.{Intent}

-- by which models and settings to plan, from where to where, and how many configurations may be met
pub record Planning : Type 0 where
  pub ctx : Ctx
  pub start : Config
  pub goal : Config
  pub budget : ℕ

-- a path, and the operations of the patch that was found there
abbrev pub Patched : Type 0
Patched = List ℕ × List Operation

-- by which models and settings several operators plan, from where, what they ask, and how many configurations
-- may be met for each plan
pub record Operating : Type 0 where
  pub ctx : Ctx
  pub start : Config
  pub lines : List ScriptLine
  pub patches : List Patched
  pub budget : ℕ

-- what is done step by step: a plan, or what several operators do
pub data Work : Type 0 where
  planned : Planning → Work
  operated : Operating → Work

-- by which models and settings it is done
abbrev pub ctx_of : Work → Ctx
ctx_of (planned p) = p.ctx
ctx_of (operated p) = p.ctx

-- from which configuration
abbrev pub start_of : Work → Config
start_of (planned p) = p.start
start_of (operated p) = p.start

-- a scope with the moves of its plan
abbrev pub ScopePlan : Type 0
ScopePlan = Scope × List Move

-- a command with all that it needs
pub data Request : Type 0 where
  -- print this configuration
  preview : Config → Request
  -- nothing but to say that the stored configuration is valid
  check : Request
  -- print these names of checkpoints, each with its number or that it has none
  list_checkpoints : List (List ℕ × Option ℕ) → Request
  -- put the files of these checkpoints anew, in this order
  migrate_checkpoints : List NewFile → Request
  -- save this configuration as the checkpoint of this name
  save_checkpoint : List ℕ → Config → Request
  -- delete the checkpoint of this name
  delete_checkpoint : List ℕ → Request
  -- print what a work would do
  plan : Work → Request
  -- print it and do it
  change : Work → Request
  -- say what the file of a change under way is, and how many step files are applied
  status : Intent → ℕ → Request
  -- give up the change that was stopped
  abandon : Request
  -- say of how many moves such a plan is, with so many ports
  demo : Planning → ℕ → Request
  -- say that moves are a plan, of so many steps
  accept_plan : ℕ → Request
  -- print these plans of scopes
  plan_scopes : List ScopePlan → Request
