-- The models by which a command judges are those that its inputs hold, with the flat forms of their types, so what is
-- said by the one is said by the other.
use Rattle.std.proofs.Common.{◌≡◌, ℕ, List, [], ◌∷◌, codes, sym, ap, ◌∙◌, subst}
use Rattle.std.specs.FinMap.{FinMap, empty, insert, remove}
use Rattle.host_core.specs.Names.{name_cmp}
use Rattle.host_core.specs.State.{State}
use Rattle.serde_json.specs.Data.{Data}
use Rattle.conf_doc.specs.declared.configuration.Config.{Config}
use Rattle.yang_text.specs.Declarations.{Declaration}
use Rattle.yang_scope.specs.Modules.{modules_of}
use Rattle.yang_model.specs.FlatModels.{flat_models}
use Rattle.yang_model.specs.Leaves.{stored, written}
use Rattle.yang_model.specs.ModelSets.{ModelSet}
use Rattle.yang_model.specs.Readers.{Readers, AreTrue}
use Rattle.yang_model.specs.Shapes.{models_of}
use Rattle.yang_model.proofs.FlatModels.{models_flat}
use Rattle.yang_model.proofs.OneReading.{readers_once, some_are_true, some_readers}
use Rattle.move_core.specs.Contexts.{IsValidIn, context, rulebook}
use Rattle.move_core.specs.Moves.{step}
use Rattle.move_core.specs.Plans.{IsAllowed, IsReachable, IsWay}
use Rattle.move_core.specs.declared.contexts.Ctx.{Ctx}
use Rattle.move_core.specs.declared.moves.Move.{Move}
use Rattle.move_core.proofs.FlatRulebooks.{allowed_flat, reachable_flat, valid_same, way_flat}
use Rattle.gcu_inputs.specs.ModelList.{paths_of}
use Rattle.gcu_words.specs.Tasks.{Task, reach, run_script}
use Rattle.sessions.specs.declared.replies.Reply.{Reply}
use Rattle.sessions.specs.declared.replies.Reply.TheVariants.{Applied, Began, Ended, Retargeted}
use Rattle.gcu_engine.specs.Contents.{HoldFiles, Holds, HoldsJson, IsContextIn}
use Rattle.gcu_engine.specs.Headline.{AreCommitted, IsTextOf}
use Rattle.gcu_engine.specs.RulesValues.{IsSettings}

-- the models are those that are stored of the files that the list of models names
pub record AreStoredIn (s : State) (models : ModelSet) : Type 0 where
  pub paths : List (List ℕ)
  pub listed : Holds s (codes "models.list") paths_of paths
  pub files : List (List Declaration)
  pub hold : HoldFiles s paths files
  pub are : (readers : Readers) → AreTrue readers → models ≡ models_of stored (modules_of files) readers

-- by the models that are stored and the settings of the inputs a command judges
pub record IsReadIn (s : State) (ctx : Ctx) : Type 0 where
  pub models : AreStoredIn s ctx.models
  pub settings : (d : Data) × HoldsJson s (codes "rules.json") d × IsSettings d ctx.settings

module _ (s : State) (ctx : Ctx) (read : IsReadIn s ctx) where
  abbrev those : ModelSet
  those = models_of written (modules_of read.models.files) some_readers

  -- the models as they are written, and the settings
  abbrev pub written_ctx : Ctx
  written_ctx = context those ctx.settings

  pub read_written : IsContextIn s written_ctx
  read_written = record {
    models = record {
      paths = read.models.paths;
      listed = read.models.listed;
      files = read.models.files;
      hold = read.models.hold;
      are = λ readers true. ap (λ (r : Readers). models_of written (modules_of read.models.files) r)
          (readers_once some_readers readers some_are_true true);
    };
    settings = read.settings;
  }

  models_are : ctx.models ≡ flat_models those
  models_are = read.models.are some_readers some_are_true ∙ models_flat (modules_of read.models.files) some_readers

  ctx_is : ctx ≡ context (flat_models those) ctx.settings
  ctx_is = λ i. record { models = models_are i; settings = ctx.settings }

  pub valid_written : (c : Config) → IsValidIn ctx c → IsValidIn written_ctx c
  valid_written c valid = (valid_same those ctx.settings c).0 (subst (λ (x : Ctx). IsValidIn x c) ctx_is valid)

  allowed_written : (goal c : Config) (m : Move) → IsAllowed (rulebook ctx) goal c m
      → IsAllowed (rulebook written_ctx) goal c m
  allowed_written goal c m allowed =
      (allowed_flat those ctx.settings goal c m).0 (subst (λ (x : Ctx). IsAllowed (rulebook x) goal c m) ctx_is allowed)

  way_written : (goal c : Config) (ms : List Move) (x : Config) → IsWay (rulebook ctx) goal c ms x
      → IsWay (rulebook written_ctx) goal c ms x
  way_written goal c ms x way =
      (way_flat those ctx.settings goal c ms x).0 (subst (λ (y : Ctx). IsWay (rulebook y) goal c ms x) ctx_is way)

  pub none_written : (goal start x : Config) → ¬ IsReachable (rulebook ctx) goal start x
      → ¬ IsReachable (rulebook written_ctx) goal start x
  none_written goal start x none reached =
      none (subst (λ (y : Ctx). IsReachable (rulebook y) goal start x) (sym ctx_is)
      ((reachable_flat those ctx.settings goal start x).1 reached))

  committed_written : (now : Config) (goals : FinMap name_cmp Config) (told : List (List ℕ × Reply)) (ms : List Move)
      → AreCommitted ctx s now goals told ms → AreCommitted written_ctx s now goals told ms
  committed_written now goals [] ms h = h
  committed_written now goals ((name, Applied m) ∷ told) ms (goal, rest, at, is, allowed, more) =
      (goal, rest, at, is, allowed_written goal now m allowed, committed_written (step now m) goals told rest more)
  committed_written now goals ((name, Began count) ∷ told) ms (file, goal, holds, more) =
      (file, goal, holds, committed_written now (insert goals name goal) told ms more)
  committed_written now goals ((name, Retargeted count) ∷ told) ms (file, goal, holds, more) =
      (file, goal, holds, committed_written now (insert goals name goal) told ms more)
  committed_written now goals ((name, Ended done) ∷ told) ms h = committed_written now (remove goals name) told ms h
  committed_written now goals ((name, other) ∷ told) ms h = committed_written now goals told ms h

  -- what is printed before right moves
  pub text_written : (task : Task) (start : Config) (ms : List Move) (text : List ℕ)
      → IsTextOf task s ctx start ms text → IsTextOf task s written_ctx start ms text
  text_written (reach from) start ms text (goal, made, way, is) = (goal, made, way_written goal start ms goal way, is)
  text_written (run_script path) start ms text (told, committed, is) =
      (told, committed_written start empty told ms committed, is)
