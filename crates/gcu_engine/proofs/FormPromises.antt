-- What the headline says of a command by its form, and so by its words.
use Rattle.std.proofs.Common.{◌≡◌, ◌≢◌, ◌⊎◌, inl, inr, ℕ, List, sym, ap, subst, Option, Some, None, Ok, IfSome}
use Rattle.host_core.specs.Crashes.{Image, Left}
use Rattle.host_core.specs.State.{Files, State}
use Rattle.conf_doc.specs.declared.configuration.Config.{Config}
use Rattle.conf_store.specs.Stored.{stored}
use Rattle.checkpoints.specs.Changes.{with_point, without_point}
use Rattle.checkpoints.specs.Points.{points}
use Rattle.move_core.specs.Contexts.{rulebook}
use Rattle.move_core.specs.Plans.{IsReachable}
use Rattle.move_core.specs.declared.contexts.Ctx.{Ctx}
use Rattle.gcu_words.specs.Targets.{Target}
use Rattle.gcu_words.specs.Form.{Form, form}
use Rattle.gcu_words.specs.Form as forms
use Rattle.gcu_words.specs.Tasks.{Task, reach, run_script}
use Rattle.gcu_engine.specs.Contents.{IsMade}
use Rattle.gcu_engine.specs.Folder.{StandForSame, Stores}
use Rattle.gcu_engine.specs.Headline.{AddsPoint, HasNoOrder, HasWholePoints, IsUnacknowledged, IsChangeCommand, IsLastOrNext, IsTaskCommand, RemovesPoint}
use Rattle.gcu_engine.proofs.CommandWords.{IsFormOf, IsPlanForm, form_words, plan_form}
use Rattle.gcu_engine.proofs.DemoWords.{IsDemonstrated, by_words}
use Rattle.gcu_engine.proofs.Folders.{same_stands, stores_is}
use Rattle.gcu_engine.proofs.WrittenModels.{IsReadIn, none_written, read_written, written_ctx}

-- ---- by its form

-- the task of a command that has one
abbrev pub task_in : Option Form → Option Task
task_in (Some (forms.plan task budget)) = Some task
task_in (Some (forms.change task budget)) = Some task
task_in other = None

-- where a plan begins and where it is to arrive
abbrev pub IsPlannedBy : State → (start goal : Config) → Task → Type 0
IsPlannedBy s start goal (reach from) = (stored s.files ≡ Ok start) × IsMade from s start goal
IsPlannedBy s start goal (run_script path) = Unit {0}

abbrev pub IsPlanned : Option Form → State → (start goal : Config) → Type 0
IsPlanned f s start goal = IfSome (task_in f) (IsPlannedBy s start goal)

-- no sequence of allowed moves leads from the start to the goal
pub record LacksOrder (f : Option Form) (s : State) : Type 0 where
  pub ctx : Ctx
  pub read : IsReadIn s ctx
  pub start : Config
  pub goal : Config
  pub planned : IsPlanned f s start goal
  pub demonstrated : IsDemonstrated f start goal
  pub none : ¬ IsReachable (rulebook ctx) goal start goal

-- what the folder stands for after a crash: a command that does no task leaves that as before, unless it leaves the
-- files as a crash might have left them when it began
abbrev pub StandsAfter : Option Form → State → Left → Type 0
StandsAfter (Some (forms.change task budget)) s left = IsUnacknowledged task s left ⊎ IsLastOrNext task s left
StandsAfter other s left = Image s.pending s.files left.files ⊎ (stored left.files ≡ stored s.files)

-- the one checkpoint that a command adds, with the stored configuration, or removes
abbrev pub IsOneChange : Option Form → State → Files → Type 0
IsOneChange (Some (forms.save_checkpoint name)) s files =
    (config : Config) × (stored s.files ≡ Ok config)
    × (points files ≡ with_point name config (points s.files))
IsOneChange (Some (forms.delete_checkpoint name)) s files =
    points files ≡ without_point name (points s.files)
IsOneChange other s files = ⊥

-- the checkpoints are as before, or with the one change that the command makes, unless the files are so
abbrev pub PointsAfter : Option Form → State → Files → Type 0
PointsAfter f s files = Image s.pending s.files files ⊎ ((points files ≡ points s.files) ⊎ IsOneChange f s files)

-- ---- by its words

-- words that begin as a command with a task are none, or have that task
pub task_of_words : (task : Task) (words : List (List ℕ)) → IsTaskCommand task words
    → (form words ≡ None) ⊎ (task_in (form words) ≡ Some task)
task_of_words task words (options, is) =
    by (form words) (subst (λ (ws : List (List ℕ)). IsPlanForm task options (form ws)) (sym is)
    (plan_form task options))
  where
    by : (f : Option Form) → IsPlanForm task options f → (f ≡ None) ⊎ (task_in f ≡ Some task)
    by f (inl none) = inl none
    by f (inr (inl (budget, e, there))) = inr (ap task_in e)
    by f (inr (inr (budget, e, not))) = inr (ap task_in e)

-- words that begin as a command that does a task are none, or do that one
pub change_of_words : (task : Task) (words : List (List ℕ)) → IsChangeCommand task words
    → (form words ≡ None) ⊎ ((budget : ℕ) × (form words ≡ Some (forms.change task budget)))
change_of_words task words (options, is, done) =
    by (form words) (subst (λ (ws : List (List ℕ)). IsPlanForm task options (form ws)) (sym is)
    (plan_form task options))
  where
    by : (f : Option Form) → IsPlanForm task options f
        → (f ≡ None) ⊎ ((budget : ℕ) × (f ≡ Some (forms.change task budget)))
    by f (inl none) = inl none
    by f (inr (inl (budget, e, there))) = absurd (done there)
    by f (inr (inr (budget, e, not))) = inr (budget, e)

pub order_by_words : (words : List (List ℕ)) (s : State) → form words ≢ None → LacksOrder (form words) s
    → HasNoOrder words s
order_by_words words s some lacks = record {
  ctx = written_ctx s lacks.ctx lacks.read;
  read = read_written s lacks.ctx lacks.read;
  start = lacks.start;
  goal = lacks.goal;
  planned = λ from plans. by from (task_of_words (reach from) words plans);
  demonstrated = λ seed ports is.
      by_words seed ports lacks.start lacks.goal (subst (λ (ws : List (List ℕ)). form ws ≢ None) is some)
      (subst (λ (ws : List (List ℕ)). IsDemonstrated (form ws) lacks.start lacks.goal) is lacks.demonstrated);
  none = none_written s lacks.ctx lacks.read lacks.goal lacks.start lacks.goal lacks.none;
}
  where
    by : (from : Target) → (form words ≡ None) ⊎ (task_in (form words) ≡ Some (reach from))
        → Stores s.files lacks.start × IsMade from s lacks.start lacks.goal
    by from (inl none) = absurd (some none)
    by from (inr e) =
        let planned = subst (λ (o : Option Task). IfSome o (IsPlannedBy s lacks.start lacks.goal)) e lacks.planned in
        ((stores_is s.files lacks.start).1 planned.0, planned.1)

-- a command that does no task leaves what the folder stood for
pub other_by_words : (words : List (List ℕ)) (s : State) (left : Left) → StandsAfter (form words) s left
    → ((task : Task) → ¬ IsChangeCommand task words)
    → Image s.pending s.files left.files ⊎ StandForSame s.files left.files
other_by_words words s left stands none = by (form words) (form_words words) stands
  where
    unchanged : Image s.pending s.files left.files ⊎ (stored left.files ≡ stored s.files)
        → Image s.pending s.files left.files ⊎ StandForSame s.files left.files
    unchanged (inl image) = inl image
    unchanged (inr same) = inr (same_stands s.files left.files same)

    by : (f : Option Form) → IfSome f (IsFormOf words) → StandsAfter f s left → Image s.pending s.files left.files
        ⊎ StandForSame s.files left.files
    by (Some (forms.change task budget)) is h = absurd (none task is)
    by other is h = unchanged h

pub points_by_words : (words : List (List ℕ)) (s : State) (files : Files) → PointsAfter (form words) s files
    → Image s.pending s.files files ⊎ HasWholePoints words s files
points_by_words words s files (inl image) = inl image
points_by_words words s files (inr (inl same)) = inr (inl same)
points_by_words words s files (inr (inr one)) = inr (inr (by (form words) (form_words words) one))
  where
    by : (f : Option Form) → IfSome f (IsFormOf words) → IsOneChange f s files
        → AddsPoint words s files ⊎ RemovesPoint words s files
    by (Some (forms.save_checkpoint name)) is (config, there, e) =
        inl (record {
          name = name;
          config = config;
          words_are = is;
          stands = (stores_is s.files config).1 there;
          points_are = e;
        })
    by (Some (forms.delete_checkpoint name)) is e = inr (record { name = name; words_are = is; points_are = e })
    by other is never = absurd never
