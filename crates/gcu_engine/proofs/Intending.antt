-- The file `intent` at each moment of a command that does a task.
use Rattle.std.proofs.Common.{◌≡◌, ◌≤◌, ◌<◌, ◌⊎◌, inl, inr, ℕ, List, [], ◌∷◌, ◌++◌, length, refl, sym, ap, ◌∙◌, subst, arith, Option, Some, None, Ok, IfSome}
use Rattle.std.specs.FinMap.{get}
use Rattle.host_core.specs.Crashes.{Left}
use Rattle.host_core.specs.State.{Files, State}
use Rattle.conf_doc.specs.Texts.{file_text}
use Rattle.conf_doc.specs.declared.configuration.Config.{Config}
use Rattle.conf_store.specs.Files.{intent_file}
use Rattle.conf_store.specs.Puts.{IsSame}
use Rattle.conf_store.specs.Stored.{stored}
use Rattle.conf_store.proofs.FileMaps.{get_there}
use Rattle.conf_store.proofs.FoldResults.{seen}
use Rattle.move_core.specs.Plans.{conf}
use Rattle.move_core.specs.declared.moves.Move.{Move}
use Rattle.change_apply.specs.Acknowledgements.{acks}
use Rattle.change_apply.specs.Change.{Change, conf_at, goal, steps}
use Rattle.change_apply.specs.Crashes.{StandAt}
use Rattle.change_apply.specs.Intents.{HoldsGoal, IsOver as IsGone, KeepsIntent}
use Rattle.change_apply.proofs.IntentNames.{intent_not_scratch}
use Rattle.gcu_words.specs.Form.{Form}
use Rattle.gcu_words.specs.Tasks.{Task}
use Rattle.gcu_requests.specs.Request as request
use Rattle.gcu_requests.specs.Request.{Work, start_of}
use Rattle.gcu_requests.specs.WorkAsked.{change_asked}
use Rattle.command_answers.specs.Changing.{IsBegun, IsChangeFor, acknowledged, begun}
use Rattle.command_answers.specs.Crashes.{LeftByForm, LeftChanged, LeftMeanwhile, LeftOfChange}
use Rattle.gcu_engine.specs.Headline.{IsNoneWhole}
use Rattle.gcu_engine.specs.Intending as intending
use Rattle.gcu_engine.specs.Intending.{HasIntent, HoldsText, IsIntended, IsKept, IsOver}
use Rattle.gcu_engine.proofs.AcknowledgementCounts.{acked_is}
use Rattle.writing_commands.proofs.ChangeEnds.{is_last_line}
use Rattle.writing_commands.proofs.IntentRemovals.{begun_output}
use Rattle.writing_commands.proofs.Closing.{at_first}
use Rattle.gcu_engine.proofs.Headlines.{early_before}
use Rattle.gcu_engine.proofs.PlanPrints.{same_change}
use Rattle.gcu_engine.proofs.Requests.{change_given}
use Rattle.gcu_engine.proofs.RightPlans.{IsWorkAsked, right_work}

-- ---- the configurations

-- without moves there is one
at_any : (x : Config) (ms : List Move) → length ms ≡ 0 → (k : ℕ) → conf x ms k ≡ x
at_any x [] none k = refl
at_any x (m ∷ ms) none k = absurd (omega (arith, none))

module _ (task : Task) (s : State) (w : Work) (c : Change) (told : List ℕ) (asks : IsWorkAsked task s w) (fits : IsChangeFor w s c told) where
  -- where it arrives
  abbrev end : Config
  end = conf (start_of w) c.moves (length c.moves)

  start_is : conf_at c 0 ≡ start_of w
  start_is = at_first c.stored.config c.moves ∙ fits.start

  goal_is : goal c ≡ end
  goal_is = ap (λ (x : Config). conf x c.moves (length c.moves)) fits.start

  -- where there are no steps the folder stands for the goal
  over_at : steps c ≡ 0 → (k : ℕ) (files : Files) → StandAt c k files → stored files ≡ Ok end
  over_at none k files (inl e) =
      e ∙ ap (λ (x : Config). Ok x) (at_any c.stored.config c.moves none k ∙ sym (at_any c.stored.config c.moves none (steps c)) ∙ goal_is)
  over_at none k files (inr next) = absurd (omega (arith, none, next.within))

  module _ (began : State) (begins : IsBegun c (begun told s) began) (k : ℕ) (few : k ≤ steps c) (left : Left) (stand : StandAt c k left.files) (keeps : KeepsIntent c k began.files left.files) where
    held : get left.files intent_file ≡ Some (file_text (goal c)) → HoldsText end left.files
    held e = e ∙ ap (λ (x : Config). Some (file_text x)) goal_is

    same_intent : k ≡ 0 → IsBegun c (begun told s) began → get left.files intent_file ≡ get began.files intent_file
        → ((k ≡ 0) × IsKept s left) ⊎ HoldsText end left.files ⊎ ((k ≡ steps c) × IsOver end left.files)
    same_intent first (inl is) e = inl (first, e ∙ ap (λ (t : State). get t.files intent_file) is)
    same_intent first (inr (none, is)) e =
        inr (inr (omega (arith, few, none), (e ∙ ap (λ (t : State). get t.files intent_file) is ∙ get_there intent_file None s.files, over_at none k left.files stand)))

    intent_is : ((k ≡ 0) × IsKept s left) ⊎ HoldsText end left.files ⊎ ((k ≡ steps c) × IsOver end left.files)
    intent_is = by keeps.is
      where
        by : ((k ≡ 0) × IsSame began.files left.files) ⊎ HoldsGoal c left.files ⊎ ((k ≡ steps c) × IsGone c left.files)
            → ((k ≡ 0) × IsKept s left) ⊎ HoldsText end left.files ⊎ ((k ≡ steps c) × IsOver end left.files)
        by (inl (first, same)) = same_intent first begins (seen began.files left.files same intent_file intent_not_scratch)
        by (inr (inl holds)) = inr (inl (held holds))
        by (inr (inr (last, over))) = inr (inr (last, (over.gone, over.stands ∙ ap (λ (x : Config). Ok x) goal_is)))

    unless : (done : ℕ) → k ≡ done → (config : Config) → (done < length c.moves) ⊎ (config ≡ end → ⊥) → (k < steps c) ⊎ (config ≡ goal c → ⊥)
    unless done same config (inl less) = inl (subst (λ (n : ℕ). n < steps c) (sym same) less)
    unless done same config (inr last) = inr (λ e. last (e ∙ goal_is))

    intended : (done : ℕ) → k ≡ done → (part : List ℕ) → IsNoneWhole done part → left.output ≡ began.output ++ acks done ++ part → IsIntended task s left
    intended done same part cut output = record {
      right = right_work task s w c.moves told asks fits.work;
      goal = end;
      last = refl;
      done = done;
      part = part;
      cut = cut;
      output = output ∙ ap (λ (o : List ℕ). o ++ acks done ++ part) (begun_output c (begun told s) began begins);
      is = subst (λ (n : ℕ). ((n ≡ 0) × IsKept s left) ⊎ HoldsText end left.files ⊎ ((n ≡ steps c) × IsOver end left.files)) same intent_is;
      under_way = λ one less. held (keeps.under_way (subst (λ (n : ℕ). 1 ≤ n) (sym same) one) (subst (λ (n : ℕ). n < steps c) (sym same) less));
      between = λ config stood first which. held (keeps.between config stood (λ e. first (e ∙ start_is)) (unless done same config which));
    }

  intended_next : (left : Left) → LeftChanged c (begun told s) left → IsIntended task s left
  intended_next left (answered, began, a, b, inl h) =
      intended began b h.done h.within left h.stands h.intent h.done refl h.output.part (inl (h.output.rest, h.output.line, h.output.cut)) h.output.printed
  intended_next left (answered, began, a, b, inr h) =
      intended began b h.is.done h.is.within left h.is.stands h.is.intent (acknowledged c h.answer)
      (acked_is h.is.done (acknowledged c h.answer) began.output h.is.output) h.part
      (inr (h.rest, is_last_line c answered h.now h.answer (h.part ++ h.rest) h.line)) h.output

-- ---- of a command

pub change_intent : (task : Task) (budget : ℕ) (s : State) (left : Left)
    → LeftOfChange (change_asked task budget s) s left → HasIntent task s left
change_intent task budget s left (inl early) = inl (early_before task budget s left early)
change_intent task budget s left (inr (w, c, told, given, fits, h, kept)) =
    let g = change_given task budget s (request.change w) given in
    inr (intended_next task s w c told (subst (IsWorkAsked task s) (same_change g.0 w g.2) g.1) fits left h)

-- of a host that may not tell its state
pub keeps_intent : (words : List (List ℕ)) (o : Option State) (IsLeft : Left → Type 0)
    → ((left : Left) → IsLeft left → LeftMeanwhile words o left)
    → IfSome o (λ s. intending.KeepsIntent words s IsLeft)
keeps_intent words None IsLeft crash = tt
keeps_intent words (Some s) IsLeft crash = λ task budget is left since.
    change_intent task budget s left (subst (λ (f : Option Form). LeftByForm f s left) is (crash left since))
