-- What the inputs of a command hold, where they can be read, and what a target makes of the stored configuration.
use Rattle.std.specs.Prelude.{◌≡◌, ⊤, ℕ, List, [], ◌∷◌, codes, Some, Result, Ok}
use Rattle.std.specs.FinMap.{get}
use Rattle.host_core.specs.State.{State}
use Rattle.serde_json.specs.Data.{Data}
use Rattle.conf_doc.specs.Reading.{json}
use Rattle.conf_doc.specs.declared.configuration.Config.{Config}
use Rattle.conf_store.specs.Files.{intent_file}
use Rattle.gcu_inputs.specs.ModelList.{paths_of}
use Rattle.yang_text.specs.Declarations.{Declaration}
use Rattle.yang_text.specs.Grammar.{Spells}
use Rattle.yang_scope.specs.Modules.{modules_of}
use Rattle.yang_model.specs.Leaves.{written}
use Rattle.yang_model.specs.ModelSets.{ModelSet}
use Rattle.yang_model.specs.Readers.{Readers, AreTrue}
use Rattle.yang_model.specs.Shapes.{models_of}
use Rattle.checkpoints.specs.Points.{points}
use Rattle.move_core.specs.declared.contexts.Ctx.{Ctx}
use Rattle.gcu_words.specs.Targets.{Target, patched, replaced, resumed, rolled_back}
use Rattle.gcu_engine.specs.Folder.{HoldsConfig, HoldsPatch}
use Rattle.gcu_engine.specs.RulesValues.{IsSettings}

-- the input at a path has bytes that are read as this
abbrev pub Holds : {X E : Type 0} → State → List ℕ → (List ℕ → Result X E) → X → Type 0
Holds s path read x = (bytes : List ℕ) × (get s.inputs path ≡ Some bytes) × (read bytes ≡ Ok x)

-- ---- models and settings

-- the input at a path has bytes that spell the statements of a file
abbrev pub HoldsStatements : State → List ℕ → List Declaration → Type 0
HoldsStatements s path ds = (bytes : List ℕ) × (get s.inputs path ≡ Some bytes) × Spells bytes ds

-- the inputs at some paths hold the statements of some files, in order
abbrev pub HoldFiles : State → List (List ℕ) → List (List Declaration) → Type 0
HoldFiles s [] [] = ⊤
HoldFiles s (path ∷ paths) (file ∷ files) = HoldsStatements s path file × HoldFiles s paths files
HoldFiles s paths files = ⊥

-- the models are those of the files that the list of models names, with their types as they are written
pub record AreModelsIn (s : State) (models : ModelSet) : Type 0 where
  pub paths : List (List ℕ)
  pub listed : Holds s (codes "models.list") paths_of paths
  pub files : List (List Declaration)
  pub hold : HoldFiles s paths files
  pub are : (readers : Readers) → AreTrue readers
      → models ≡ models_of written (modules_of files) readers

-- the input at a path has bytes whose JSON value is this
abbrev pub HoldsJson : State → List ℕ → Data → Type 0
HoldsJson s path d = (bytes : List ℕ) × (get s.inputs path ≡ Some bytes) × (json bytes ≡ Some d)

-- by the models and the settings of the inputs moves are judged
pub record IsContextIn (s : State) (ctx : Ctx) : Type 0 where
  pub models : AreModelsIn s ctx.models
  pub settings : (d : Data) × HoldsJson s (codes "rules.json") d × IsSettings d ctx.settings

-- ---- the target

-- what the target makes of a configuration: the patched one, that of a file, that of a checkpoint, or that of
-- a change that was stopped
abbrev pub IsMade : Target → State → Config → Config → Type 0
IsMade (patched path) s start goal = HoldsPatch s.inputs path start goal
IsMade (replaced path) s start goal = HoldsConfig s.inputs path goal
IsMade (rolled_back name) s start goal = get (points s.files) name ≡ Some (Some goal)
IsMade resumed s start goal = HoldsConfig s.files intent_file goal
