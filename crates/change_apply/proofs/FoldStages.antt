-- The stages of the two folds.
use Rattle.std.proofs.Common.{◌≡◌, ◌<◌, ◌≤◌, inl, ℕ, false, List, [], ◌++◌, Option, Some, None, Ok, refl, sym, ap, ◌∙◌, subst, arith, append-nil}
use Rattle.std.specs.Prelude.{IfSome, is_some}
use Rattle.std.specs.FinMap.{get}
use Rattle.host_core.specs.Crashes.{Left, LeavesOnly, MayLeave, MayLeaveNow}
use Rattle.host_core.specs.State.{Files, State}
use Rattle.conf_doc.specs.Texts.{file_text}
use Rattle.conf_doc.specs.declared.configuration.Config.{Config}
use Rattle.conf_store.specs.Changes.{AreLeft, Changes, IsSettled, Settles}
use Rattle.conf_store.specs.Files.{config_file, folded_file, intent_file}
use Rattle.conf_store.specs.Folds.{IsFolded, KeepsStored, StandsFor}
use Rattle.conf_store.specs.Stored.{config_in, stored}
use Rattle.conf_store.specs.declared.loaded.Stored.{Stored}
use Rattle.conf_store.proofs.FoldResults.{keeps_itself}
use Rattle.change_apply.specs.Acknowledgements.{acks}
use Rattle.change_apply.specs.Change.{Change, conf_at, goal, restarted, restarts_at, steps}
use Rattle.change_apply.specs.Crashes.{HasNothingToFold, IsLeft, KeepsBytes, KeepsOthers}
use Rattle.change_apply.specs.Ends.{IsStopped, Stops, worked}
use Rattle.change_apply.specs.Intents.{HoldsGoal}
use Rattle.change_apply.specs.Stages.{AreSteps, AtFolded, AtIntent, AtStep, IsIntended, first_steps}
use Rattle.change_apply.specs.declared.errors.ApplyFault.TheVariants.{Disk}
use Rattle.change_apply.proofs.IntentNames.{intent_other}
use Rattle.change_apply.proofs.KeptIntents.{held}
use Rattle.change_apply.proofs.Moments.{LeavesOf, changes}
use Rattle.change_apply.proofs.StepFiles.{IsToFold, all_folded, at_start, begins_folded, begins_unfolded, not_folded_yet}
use Rattle.change_apply.proofs.StepStages.{left_files, quiet}

-- ---- a fold within a change

module _ (change : Change) (k : ℕ) (within : k ≤ steps change) (s : State) (f : Files) (stands : stored f ≡ Ok (conf_at change k))
    (others : KeepsOthers s.files f) (intent : HoldsGoal change f) where
  -- the state that the fold finds
  abbrev at_fold : State
  at_fold = worked f k (restarted change k) s

  still_held : (g : Files) → KeepsStored f g → HoldsGoal change g
  still_held g keeps = keeps.others intent_file intent_other ∙ intent

  fold_stops : (t : State) → t.inputs ≡ s.inputs → t.output ≡ at_fold.output → t.restarts ≡ at_fold.restarts
      → KeepsStored f t.files → (k < steps change → KeepsBytes s.files t.files) → IsStopped change k [] [] s t
  fold_stops t inputs output restarts keeps kept = record {
    within = within;
    inputs = inputs;
    output = output ∙ sym (append-nil (s.output ++ acks k));
    restarts = restarts ∙ sym (append-nil (s.restarts ++ restarted change k));
    stands = inl (keeps.same ∙ stands);
    intent = held change k s.files t.files (still_held t.files keeps);
    others = λ q other apart. keeps.others q other ∙ others q other apart;
    kept = kept;
  }

  -- with small steps where they are asked for
  fold_leaves : (1 ≤ k → k < steps change → ⊥) → (left : Left) → (k < steps change → KeepsBytes s.files left.files)
      → AreLeft KeepsStored at_fold left → IsLeft change s left
  fold_leaves ends left kept so = record {
    done = k;
    within = within;
    output = quiet k s.output left.output so.output;
    unfinished = λ some. absurd (some refl);
    stands = inl (so.files.same ∙ stands);
    started = [];
    due = restarts_at change k;
    next = refl;
    restarts = so.restarts ∙ sym (append-nil (s.restarts ++ restarted change k));
    in_order = inl refl;
    others = λ q other apart. so.files.others q other ∙ others q other apart;
    intent = held change k s.files left.files (still_held left.files so.files);
    small = λ one less. absurd (ends one less);
    kept = kept;
  }

  -- what is told and left of it
  stops_in_fold : (k < steps change → HasNothingToFold s.files → ⊥) → (p n : Option State) → p ≡ Some at_fold → Changes KeepsStored p n
      → Stops change (Disk k) (Some s) n
  stops_in_fold folds p n at ends =
      let later : Changes KeepsStored (Some at_fold) n = subst (λ q. Changes KeepsStored q n) at ends in
      let leads = later.2 in
      (later.0, later.1, fold_stops later.0 leads.inputs leads.output leads.restarts leads.reads (λ less nothing. absurd (folds less nothing)))

-- ---- the first fold

module _ (change : Change) where
  pub clean_at_intent : (o n : Option State) → AtIntent change o n → IfSome n IsSettled
  clean_at_intent None n at = subst (λ m. IfSome m IsSettled) (sym at) tt
  clean_at_intent (Some s) n at = subst (λ m. IfSome m IsSettled) (sym at.1) refl

  pub stands_at_intent : (o n : Option State) → AtIntent change o n → IfSome n (λ s. StandsFor change.stored s.files)
  stands_at_intent None n at = subst (λ m. IfSome m (λ s. StandsFor change.stored s.files)) (sym at) tt
  stands_at_intent (Some s) n at = subst (λ m. IfSome m (λ s. StandsFor change.stored s.files)) (sym at.1) at.2.stands

  start_stands : (f : Files) → StandsFor change.stored f → stored f ≡ Ok (conf_at change 0)
  start_stands f stands = stands.config ∙ at_start change

  -- there is nothing to fold
  pub first_unfolded : change.stored.steps ≡ [] → change.stored.folded ≡ false → (o n : Option State) → AtIntent change o n → AtStep change 0 o n
  first_unfolded none isnt None n at = at
  first_unfolded none isnt (Some s) n at = (at.0, at.1, begins_unfolded change s.files at.0 at.2 none isnt)

  module _ (some : IsToFold change.stored) (bytes : List ℕ) (holds : config_in bytes ≡ Ok change.stored.config) where
    pub first_folded : (o p n : Option State) → AtIntent change o p → Settles (IsFolded bytes) p n → AtStep change 0 o n
    first_folded None p n at ends = subst (λ q. Settles (IsFolded bytes) q n) at ends
    first_folded (Some s) p n at ends =
        let later : Settles (IsFolded bytes) (Some (worked at.0 0 (restarted change 0) s)) n = subst (λ q. Settles (IsFolded bytes) q n) at.1 ends in
        (later.0, later.1, begins_folded change s.files at.0 at.2 some bytes holds later.0 later.2)

  pub first_stops : IsToFold change.stored → (o p n : Option State) → AtIntent change o p → Changes KeepsStored p n → Stops change (Disk 0) o n
  first_stops some None p n at ends = subst (λ q. Changes KeepsStored q n) at ends
  first_stops some (Some s) p n at ends =
      stops_in_fold change 0 (omega arith) s at.0 (start_stands at.0 at.2.stands) at.2.others at.2.intent
      (λ less nothing. not_folded_yet change.stored s.files at.2.stood some nothing) p n at.1 ends

  first_leaves : (s : State) (f : Files) → IsIntended change s.files f → (left : Left) → KeepsBytes s.files left.files
      → AreLeft KeepsStored (worked f 0 (restarted change 0) s) left → IsLeft change s left
  first_leaves s f is left kept so =
      fold_leaves change 0 (omega arith) s f (start_stands f is.stands) is.others is.intent (λ one less. omega (arith, one)) left (λ less. kept) so

  -- before it
  pub left_at_intent : (o n : Option State) → AtIntent change o n → (left : Left) → MayLeaveNow n left → IfSome o (λ s. IsLeft change s left)
  left_at_intent None n at left may = tt
  left_at_intent (Some s) n at left may =
      let t : State = worked at.0 0 (restarted change 0) s in
      let here : MayLeave t left = subst (λ m. MayLeaveNow m left) at.1 may in
      let same : left.files ≡ at.0 = left_files t left refl here in
      first_leaves s at.0 at.2 left (λ nothing. ap (λ (g : Files). get g config_file) same ∙ at.2.config)
      (record { files = subst (KeepsStored at.0) (sym same) (keeps_itself at.0); output = here.output; restarts = here.restarts })

  module _ {H : Type 0} (moment : H → ℕ) (left_since : H → ℕ → Left → Type 0) where
    pub folding_first : IsToFold change.stored → (o p : Option State) (old new : H) → AtIntent change o p
        → IfSome p (λ s. LeavesOnly moment left_since old new (AreLeft KeepsStored s)) → LeavesOf moment left_since change o old new
    folding_first some None p old new at run = tt
    folding_first some (Some s) p old new at run =
        changes moment left_since change KeepsStored s (worked at.0 0 (restarted change 0) s) old new
        (λ left so. first_leaves s at.0 at.2 left (λ nothing. absurd (not_folded_yet change.stored s.files at.2.stood some nothing)) so) p at.1 run

  -- ---- the last fold

  -- what the last fold folds
  pub record IsGoal (what : Stored) : Type 0 where
    pub config : what.config ≡ goal change
    pub steps_are : what.steps ≡ first_steps (steps change)
    pub unfolded : what.folded ≡ false

  not_folded : (o : Option (List ℕ)) → o ≡ None → is_some o ≡ false
  not_folded None e = refl
  not_folded (Some x) e = absurd cc

  goal_stands : (what : Stored) → IsGoal what → (before f : Files) → AreSteps change (steps change) before f → StandsFor what f
  goal_stands what is before f are = record {
    config = are.stands ∙ ap (λ (c : Config). Ok c) (sym is.config);
    steps = are.names ∙ sym is.steps_are;
    folded = not_folded (get f folded_file) are.small.unfolded ∙ sym is.unfolded;
  }

  pub goal_at : (what : Stored) → IsGoal what → (o n : Option State) → AtStep change (steps change) o n → IfSome n (λ s. StandsFor what s.files)
  goal_at what is None n at = subst (λ m. IfSome m (λ s. StandsFor what s.files)) (sym at) tt
  goal_at what is (Some s) n at = subst (λ m. IfSome m (λ s. StandsFor what s.files)) (sym at.1) (goal_stands what is s.files at.0 at.2)

  pub last_folded : config_in (file_text (goal change)) ≡ Ok (goal change) → (o p n : Option State) → AtStep change (steps change) o p
      → Settles (IsFolded (file_text (goal change))) p n → AtFolded change o n
  last_folded holds None p n at ends = subst (λ q. Settles (IsFolded (file_text (goal change))) q n) at ends
  last_folded holds (Some s) p n at ends =
      let later : Settles (IsFolded (file_text (goal change))) (Some (worked at.0 (steps change) (restarted change (steps change)) s)) n = subst (λ q. Settles (IsFolded (file_text (goal change))) q n) at.1 ends in
      (later.0, later.1, all_folded change s.files at.0 at.2 holds later.0 later.2)

  pub last_stops : (o p n : Option State) → AtStep change (steps change) o p → Changes KeepsStored p n → Stops change (Disk (steps change)) o n
  last_stops None p n at ends = subst (λ q. Changes KeepsStored q n) at ends
  last_stops (Some s) p n at ends =
      stops_in_fold change (steps change) (omega arith) s at.0 at.2.stands at.2.others at.2.intent (λ less nothing. omega (arith, less)) p n at.1 ends

  module _ {H : Type 0} (moment : H → ℕ) (left_since : H → ℕ → Left → Type 0) where
    pub folding_last : (o p : Option State) (old new : H) → AtStep change (steps change) o p
        → IfSome p (λ s. LeavesOnly moment left_since old new (AreLeft KeepsStored s)) → LeavesOf moment left_since change o old new
    folding_last None p old new at run = tt
    folding_last (Some s) p old new at run =
        changes moment left_since change KeepsStored s (worked at.0 (steps change) (restarted change (steps change)) s) old new
        (λ left so. fold_leaves change (steps change) (omega arith) s at.0 at.2.stands at.2.others at.2.intent (λ one less. omega (arith, less))
        left (λ less nothing. absurd (omega (arith, less))) so)
        p at.1 run
