-- `intent` taken away: the folder stands for the same, and has the same checkpoints.
use Rattle.std.proofs.Common.{◌≡◌, inl, inr, ℕ, List, true, false, sym, ap, ◌∙◌, Option, None}
use Rattle.std.specs.Prelude.{is_some}
use Rattle.std.specs.FinMap.{get}
use Rattle.host_core.specs.State.{Files, State}
use Rattle.conf_store.specs.Files.{config_file, folded_file, intent_file, is_step_name, step_name}
use Rattle.conf_store.specs.Folds.{StandsFor}
use Rattle.conf_store.specs.Stored.{stored}
use Rattle.conf_store.specs.declared.loaded.Stored.{Stored}
use Rattle.conf_store.proofs.Entries.{same_steps}
use Rattle.conf_store.proofs.FileMaps.{get_other}
use Rattle.conf_store.proofs.FoldResults.{same_stored}
use Rattle.checkpoints.specs.Points.{points}
use Rattle.checkpoints.proofs.OtherFiles.{points_kept}
use Rattle.change_apply.specs.Change.{Change}
use Rattle.change_apply.specs.Intents.{IsClosedOrNot, without_intent}
use Rattle.change_apply.proofs.IntentNames.{config_not_intent, folded_not_intent, no_step_intent}
use Rattle.command_answers.specs.Changing.{IsBegun}

-- ---- the other files

closed_other : (f : Files) (q : List ℕ) → (q ≡ intent_file → ⊥) → get (without_intent f) q ≡ get f q
closed_other f q apart = get_other intent_file None f q apart

-- the folder stands for the same
closed_stored : (f : Files) → stored (without_intent f) ≡ stored f
closed_stored f =
    same_stored f (without_intent f) (closed_other f folded_file folded_not_intent)
    (closed_other f config_file config_not_intent)
    (λ n. closed_other f (step_name n) (no_step_intent n))

-- and has the same checkpoints
closed_points : (f : Files) → points (without_intent f) ≡ points f
closed_points f = points_kept f (without_intent f) (λ q other apart. closed_other f q apart)

pub closed_stands : (what : Stored) (f : Files) → StandsFor what f → StandsFor what (without_intent f)
closed_stands what f stands = record {
  config = closed_stored f ∙ stands.config;
  steps = same_steps (without_intent f) f (λ q a_step. closed_other f q (no_intent q a_step)) ∙ stands.steps;
  folded = ap (λ (o : Option (List ℕ)). is_some o) (closed_other f folded_file folded_not_intent) ∙ stands.folded;
}
  where
    no_intent : (q : List ℕ) → is_step_name q ≡ true → q ≡ intent_file → ⊥
    no_intent q a_step e = let both : true ≡ false = sym a_step ∙ ap is_step_name e in cc

pub either_stored : (f g : Files) → IsClosedOrNot f g → stored g ≡ stored f
either_stored f g (inl same) = ap stored same
either_stored f g (inr is) = ap stored is ∙ closed_stored f

pub either_points : (f g : Files) → IsClosedOrNot f g → points g ≡ points f
either_points f g (inl same) = ap points same
either_points f g (inr is) = ap points is ∙ closed_points f

-- ---- where a change begins

pub begun_output : (c : Change) (told began : State) → IsBegun c told began → began.output ≡ told.output
begun_output c told began (inl same) = ap (λ (s : State). s.output) same
begun_output c told began (inr (none, same)) = ap (λ (s : State). s.output) same

pub begun_points : (c : Change) (told began : State) → IsBegun c told began → points began.files ≡ points told.files
begun_points c told began (inl same) = ap (λ (s : State). points s.files) same
begun_points c told began (inr (none, same)) = ap (λ (s : State). points s.files) same ∙ closed_points told.files
