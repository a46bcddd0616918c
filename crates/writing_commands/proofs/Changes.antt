-- A command that does a task: what its parts find makes what it answers, and what a crash leaves of it.
use Rattle.std.proofs.Common.{◌≡◌, ◌≢◌, inl, inr, ℕ, List, [], ◌∷◌, ◌++◌, get_or, map, append-nil, refl, sym, ap, ◌∙◌, subst, Option, Some, None, Ok, Err, IfSome, option_map}
use Rattle.std.specs.FinMap.{get}
use Rattle.host_core.specs.Counts.{Counts, NoneFell}
use Rattle.host_core.specs.Crashes.{Image, Left, MayLeave, MayLeaveNow}
use Rattle.host_core.specs.State.{Files, PrintsPart, State, printed, settled, with_pending}
use Rattle.checkpoints.specs.Points.{points}
use Rattle.conf_doc.specs.declared.configuration.Config.{Config}
use Rattle.conf_store.specs.Files.{intent_file}
use Rattle.conf_store.specs.Folds.{IsOther, StandsFor}
use Rattle.move_core.specs.Operations.{plan_text}
use Rattle.move_core.specs.Services.{services_of}
use Rattle.move_core.specs.declared.moves.Move.{Move}
use Rattle.change_apply.specs.Acknowledgements.{acks}
use Rattle.change_apply.specs.Change.{Change, name_at, restarts_at}
use Rattle.change_apply.specs.Ends.{IsStopped, IsStoppedInRestarts}
use Rattle.change_apply.specs.declared.ready.Restart.{Restart}
use Rattle.gcu_words.specs.Targets.{Target, patched, replaced, resumed, rolled_back}
use Rattle.gcu_output.specs.Lines.{last_line, service_line}
use Rattle.gcu_output.specs.declared.outcomes.Outcome.{Outcome}
use Rattle.gcu_output.specs.declared.outcomes.Outcome.TheVariants.{Done, Memory, Usage, InputFault, DiskFault, PrintFault, ServiceFault, Unorderable, Budget, TargetInvalid}
use Rattle.gcu_inputs.specs.Asking.{Asking, a_file, follows, follows_by, ◌>>>◌}
use Rattle.gcu_inputs.specs.IntentAsked.{gate_asked, uninterrupted}
use Rattle.gcu_inputs.specs.Preparing.{FailsIn, Refuses, StandsIn, refusal}
use Rattle.gcu_inputs.specs.RulesAsked.{settings_asked}
use Rattle.gcu_words.specs.Tasks.{Task, reach, run_script}
use Rattle.gcu_requests.specs.PlanAsked.{HasKeys, IsElsewhereAs, IsValidOr, made_asked, planning_asked, start_asked}
use Rattle.gcu_requests.specs.ReadPlannings.{planning_of}
use Rattle.gcu_requests.specs.ReadScripts.{operating_of}
use Rattle.gcu_requests.specs.Request.{Operating, Patched, Planning, Request, Work, change, ctx_of, operated, planned}
use Rattle.gcu_requests.specs.SessionsAsked.{file_of, line_asked, operating_asked, patch_at, patches_asked, script_asked, unread_asked}
use Rattle.gcu_requests.specs.WorkAsked.{settled_asked, work_asked}
use Rattle.gcu_requests.specs.declared.planning.Planning as code
use Rattle.gcu_requests.specs.declared.session_preparing.Operating as runs
use Rattle.patch_core.specs.Operation.{Operation}
use Rattle.gcu_words.specs.declared.script_lines.ScriptLine.{ScriptLine}
use Rattle.writing_commands.specs.FaultLines.{AreNamed}
use Rattle.command_answers.specs.Answers.{HasCause, Leaves, Prints, Says}
use Rattle.command_answers.specs.Changing.{AreAcknowledged, IsBegun, IsChangeFor, IsLast, acknowledged, begun}
use Rattle.command_answers.specs.Commands.{AnswersTo}
use Rattle.command_answers.specs.Crashes.{LeftChanged, LeftOfChange}
use Rattle.command_answers.specs.Commands.{LeftToChange, LeftToEarly}
use Rattle.writing_commands.specs.Doing.{ClosesAs, EndsChange, EndsFrom, EndsWork, IsCutInLast, IsCutInStep, IsMissed, IsReadyIn, IsReadyRun, IsTold, LeftDoing, change_by}
use Rattle.command_answers.specs.PlanCommands.{IsSolved, RefusesOrEnds}
use Rattle.command_answers.specs.Plannings.{IsPlanFor}
use Rattle.writing_commands.specs.declared.changing.ReadyChange.{ReadyChange}
use Rattle.writing_commands.proofs.FaultTexts.{all_named}
use Rattle.command_answers.proofs.Answering.{says_prints}
use Rattle.command_answers.proofs.Causes.{rose_from}
use Rattle.writing_commands.proofs.IntentRemovals.{begun_output, begun_points}
use Rattle.command_answers.proofs.Elapsing.{no_front, with_none}
use Rattle.writing_commands.proofs.Savings.{models_settled}
use Rattle.writing_commands.proofs.Writing.{as_is}

-- ---- what is asked of the settled folder

made_settled : (from : Target) (start : Config) (s : State)
    → made_asked from start (with_pending settled s) ≡ made_asked from start s
made_settled (patched path) start s = refl
made_settled (replaced path) start s = refl
made_settled (rolled_back name) start s = refl
made_settled resumed start s = refl

gate_settled : (from : Target) (s : State) → gate_asked from (with_pending settled s) ≡ gate_asked from s
gate_settled (patched path) s = refl
gate_settled (replaced path) s = refl
gate_settled (rolled_back name) s = refl
gate_settled resumed s = refl

-- nor do the patches of a script
unread_settled : (found : List Patched) (path : List ℕ) (ops : Option (List Operation)) (s : State)
    → unread_asked found path ops (with_pending settled s) ≡ unread_asked found path ops s
unread_settled found path (Some ops) s = refl
unread_settled found path None s = refl

line_settled : (found : List Patched) (file : Option (List ℕ)) (s : State)
    → line_asked found file (with_pending settled s) ≡ line_asked found file s
line_settled found None s = refl
line_settled found (Some path) s = unread_settled found path (patch_at path found) s

patches_settled : (found : List Patched) (lines : List ScriptLine) (s : State)
    → patches_asked found lines (with_pending settled s) ≡ patches_asked found lines s
patches_settled found [] s = refl
patches_settled found (line ∷ lines) s =
    λ i. line_settled found (file_of line) s i >>> λ more. patches_settled more lines s i

-- what is pending tells nothing of what a plan needs
planning_settled : (from : Target) (budget : ℕ) (s : State)
    → planning_asked from budget (with_pending settled s) ≡ planning_asked from budget s
planning_settled from budget s = λ i.
    gate_settled from s i >>> λ _.
    (models_settled s i >>> λ models. settings_asked s
    >>> λ settings. follows (Ok (record { models = models; settings = settings }))) >>> λ ctx.
    start_asked ctx s >>> λ start.
    (made_settled from start s i >>> λ goal. follows_by (IsElsewhereAs ctx start goal)
    >>> λ _. follows_by (HasKeys ctx goal) >>> λ _. follows_by (IsValidOr TargetInvalid ctx goal)) >>> λ goal.
    follows (Ok (record { ctx = ctx; start = start; goal = goal; budget = budget }))

operating_settled : (path : List ℕ) (budget : ℕ) (s : State)
    → operating_asked path budget (with_pending settled s) ≡ operating_asked path budget s
operating_settled path budget s = λ i.
    uninterrupted s >>> λ _.
    (models_settled s i >>> λ models. settings_asked s
    >>> λ settings. follows (Ok (record { models = models; settings = settings }))) >>> λ ctx.
    start_asked ctx s >>> λ start.
    script_asked path s >>> λ lines.
    patches_settled [] lines s i >>> λ patches.
    follows (Ok (record { ctx = ctx; start = start; lines = lines; patches = patches; budget = budget }))

work_settled : (task : Task) (budget : ℕ) (s : State)
    → work_asked task budget (with_pending settled s) ≡ work_asked task budget s
work_settled (reach from) budget s =
    ap (λ (a : Asking Planning). a >>> λ p. follows (Ok (planned p))) (planning_settled from budget s)
work_settled (run_script path) budget s =
    ap (λ (a : Asking Operating). a >>> λ p. follows (Ok (operated p))) (operating_settled path budget s)

-- so a change that is ready of the settled folder is ready
pub ready_before : (task : Task) (budget : ℕ) (s : State) (ready : ReadyChange)
    → IsReadyIn (work_asked task budget (with_pending settled s)) (with_pending settled s) ready
    → IsReadyIn (work_asked task budget s) s ready
ready_before task budget s ready h =
    let given = subst (λ (a : Asking Work). a.Gives (Ok h.0)) (work_settled task budget s) h.1 in
    (h.0, given, record { stands = h.2.stands; start = h.2.start; work = h.2.work; restarts = h.2.restarts }, h.3)

-- ---- why there is no work

-- something is refused
pub refused_missed : (asking : Asking Work) (e : Outcome) (c d : Counts) → Refuses c d e → FailsIn (refusal e) asking
    → StandsIn asking e → IsMissed asking e
refused_missed asking Unorderable c d never f st = absurd never
refused_missed asking (Budget n) c d never f st = absurd never
refused_missed asking other c d h f st = (f, st)

-- none is found
pub solved_missed : (asking : Asking Work) (p : code.Planning) (e : Outcome)
    → asking.Gives (Ok (planned (planning_of p))) → IsSolved p (Err e) → IsMissed asking e
solved_missed asking p Memory given h = (tt, tt)
solved_missed asking p Unorderable given h = (planned (planning_of p), given, h)
solved_missed asking p (Budget n) given h = (planned (planning_of p), given, h)
solved_missed asking p other given never = absurd never

-- what is then said, once all is settled
pub missed_says : (task : Task) (budget : ℕ) (s : State) (e : Outcome) (c d : Counts) → RefusesOrEnds c d e
    → IsMissed (work_asked task budget s) e
    → Says (settled_asked task budget s) s (with_pending settled s) e (last_line e)
missed_says task budget s Unorderable c d h m =
    ((change m.0, inr (tt, refl, inr (m.0, m.1, refl)), m.2), inr (inl (inl refl), refl), refl)
missed_says task budget s (Budget n) c d h m =
    ((change m.0, inr (tt, refl, inr (m.0, m.1, refl)), m.2), inr (inl (inl refl), refl), refl)
missed_says task budget s Done c d never m = absurd never
missed_says task budget s Usage c d never m = absurd never
missed_says task budget s (PrintFault step) c d never m = absurd never
missed_says task budget s (ServiceFault step service) c d never m = absurd never
missed_says task budget s Memory c d h m = (inr (inl (inl refl), refl), refl)
missed_says task budget s InputFault c d h m = (inr (tt, refl, inl m.1), inr (inl (inl refl), refl), refl)
missed_says task budget s (DiskFault step) c d h m = (inl (inr refl), inl (h.0, inr (inl (inl refl), refl)), refl)
missed_says task budget s other c d h m = (inr (tt, refl, inl m.0), inr (inl (inl refl), refl), refl)

pub missed_before : (task : Task) (budget : ℕ) (s : State) (e : Outcome)
    → IsMissed (work_asked task budget (with_pending settled s)) e → IsMissed (work_asked task budget s) e
missed_before task budget s e h = subst (λ (a : Asking Work). IsMissed a e) (work_settled task budget s) h

-- ---- the change that is ready

-- it is that of the plan
pub change_for : (asking : Asking Work) (s : State) (p : code.Planning) (ms : List Move) (ready : ReadyChange)
    → asking.Gives (Ok (planned (planning_of p)))
    → IsPlanFor (planning_of p) ms → StandsFor p.stored s.files → ready.ready ≡ change_by p.ctx.settings p.stored ms
    → ready.text.items ≡ plan_text ms → ClosesAs ready.closes ready.ready s.files
    → IsReadyIn asking s ready
change_for asking s p ms ready given plan stands is text closes =
    let fits : IsChangeFor (planned (planning_of p)) s (change_by p.ctx.settings p.stored ms) ready.text.items =
    record { stands = stands; start = refl; work = (plan, text); restarts = refl } in (
      planned (planning_of p),
      given,
      subst (λ (c : Change). IsChangeFor (planned (planning_of p)) s c ready.text.items)
          (sym is) fits,
      closes,
    )

-- or that of the commits
pub commits_for : (asking : Asking Work) (s : State) (p : runs.Operating) (ready : ReadyChange)
    → asking.Gives (Ok (operated (operating_of p)))
    → StandsFor p.stored s.files → IsReadyRun p ready → get s.files intent_file ≡ None → IsReadyIn asking s ready
commits_for asking s p ready given stands is none =
    let fits : IsChangeFor (operated (operating_of p)) s (change_by p.ctx.settings p.stored is.moves) ready.text.items =
    record { stands = stands; start = refl; work = is.work; restarts = refl } in (
      operated (operating_of p),
      given,
      subst (λ (c : Change). IsChangeFor (operated (operating_of p)) s c ready.text.items) (sym is.change) fits,
      subst (λ b. ClosesAs b ready.ready s.files) (sym is.closes) (inr none),
    )

-- ---- what is answered

-- a cause of later is one
pub cause_from : (old mid new : Counts) (e : Outcome) → NoneFell old mid → HasCause mid new e → HasCause old new e
cause_from old mid new InputFault fell h = rose_from old.input mid.input new.input fell.input h
cause_from old mid new (DiskFault step) fell h = rose_from old.disk mid.disk new.disk fell.disk h
cause_from old mid new (PrintFault step) fell h = rose_from old.print mid.print new.print fell.print h
cause_from old mid new (ServiceFault step service) fell h = rose_from old.service mid.service new.service fell.service h
cause_from old mid new other fell h = tt

pub some_is : (s t : State) → Some s ≡ Some t → s ≡ t
some_is s t e = let same : s ≡ t = cc in same

stopped_output : (c : Change) (k : ℕ) (began now : State) (started : List Restart) → IsStopped c k [] started began now
    → now.output ≡ began.output ++ acks k
stopped_output c k began now started h = h.output ∙ append-nil (began.output ++ acks k)

-- so many steps are acknowledged before the last line
pub last_output : (c : Change) (began now : State) (answer : Outcome) (text : List ℕ) → IsLast c began now answer text
    → now.output ≡ began.output ++ acks (acknowledged c answer)
last_output c began now Done text h = ap (λ (t : State). t.output) (some_is now _ h.0.1)
last_output c began now (DiskFault k) text h = stopped_output c k began now [] h.0
last_output c began now (ServiceFault k service) text h = stopped_output c k began now h.0.started h.0.stopped
last_output c began now other text never = absurd never

-- each restart of a step has the name of its service
step_named : (w : Work) (s : State) (c : Change) (told : List ℕ) → IsChangeFor w s c told → (k : ℕ)
    → AreNamed (ctx_of w).settings (restarts_at c k)
step_named w s c told is k =
    subst (λ (rs : List (List Restart)). AreNamed (ctx_of w).settings (get_or rs k [])) (sym is.restarts)
    (all_named (ctx_of w).settings (map (services_of (ctx_of w).settings) c.moves) k)

name_is : (w : Work) (s : State) (c : Change) (told : List ℕ) → IsChangeFor w s c told
    → (k service : ℕ) (began now : State) (h : IsStoppedInRestarts c k service began now)
    → h.refused.name ≡ name_at (ctx_of w).settings service
name_is w s c told is k service began now h =
    step_named w s c told is k h.started h.refused h.due h.next ∙ ap (λ (i : ℕ). name_at (ctx_of w).settings i) h.named

module _ (asking : Asking Request) (s : State) (w : Work) (c : Change) (told : List ℕ)
    (given : asking.Gives (Ok (change w))) (reads : asking.Reads a_file) (is : IsChangeFor w s c told) where
  module _ (began : State) (begins : IsBegun c (begun told s) began) where
    last_says : (now : State) (answer : Outcome) (text : List ℕ) → IsLast c began now answer text
        → Says asking s now answer text
    last_says now Done text h = (change w, given, (c, told, is, began, begins, h.0, h.2), h.1)
    last_says now (DiskFault k) text h = (reads, inr (change w, given, (c, told, is, began, begins, h.0)), h.1)
    last_says now (ServiceFault k service) text h = (
      w,
      given,
      (c, told, is, began, begins, h.0),
      h.1 ∙ ap (λ (n : List ℕ). service_line k service n)
          (name_is w s c told is k service began now h.0),
    )
    last_says now other text never = absurd never

    -- so many acknowledgements stand behind what is printed before
    counted : (now : State) (answer : Outcome) (text : List ℕ) → IsLast c began now answer text
        → AreAcknowledged (acknowledged c answer) s now
    counted now answer text h =
        inr (
          w,
          c.moves,
          told,
          is.work,
          last_output c began now answer text h
              ∙ ap (λ (o : List ℕ). o ++ acks (acknowledged c answer)) (begun_output c (begun told s) began begins),
        )

  module _ (old new : Counts) (after : Option State) (result : Outcome) where
    module _ (began : State) (begins : IsBegun c (begun told s) began) where
      told_leaves : IsTold c began after result → Leaves asking s after old new result
      told_leaves h =
          (h.0, h.1, h.3, says_prints asking s h.0 old new result h.1 (last_says began begins h.0 result h.1 h.2))

      cut_leaves : IsCutInLast c began after old new result → Leaves asking s after old new result
      cut_leaves h =
          let says = last_says began begins h.0 h.1 (h.2 ++ h.3) h.4 in (
            h.0,
            h.2,
            h.7,
            subst (λ x. Prints asking s h.0 old new x h.2) (sym h.6)
                (inl (inl (counted began begins h.0 h.1 (h.2 ++ h.3) h.4), (h.1, h.3, h.5, says))),
          )

      step_leaves : IsCutInStep c began after result → Leaves asking s after old new result
      step_leaves h =
          let all : Some h.0 ≡ Some (printed [] h.0) = ap (λ (o : List ℕ). Some (record h.0 { output = o }))
          (sym (append-nil h.0.output)) in (
            h.0,
            [],
            h.4 ∙ all,
            subst (λ x. Prints asking s h.0 old new x []) (sym h.3)
                (inr (inl (w, given, inr ((c, told, is, began, begins, h.2), refl)))),
          )

    work_front : result ≡ PrintFault 0 → PrintsPart told (Some (with_pending settled s)) after
        → Leaves asking s after old new result
    work_front fault h = (
      with_pending settled s,
      h.0,
      h.3,
      subst (λ x. Prints asking s (with_pending settled s) old new x h.0)
          (sym fault) (inr (inl (w, given, inl (refl, (c, told, h.1, is, h.2, refl))))),
    )

    work_leaves : EndsFrom c (Some (begun told s)) after old new result → Leaves asking s after old new result
    work_leaves (began, begins, inl h) = told_leaves began begins h
    work_leaves (began, begins, inr (inl h)) = cut_leaves began begins h
    work_leaves (began, begins, inr (inr h)) = step_leaves began begins h

    ends_leaves : EndsChange told c (Some (with_pending settled s)) after old new result
        → Leaves asking s after old new result
    ends_leaves (inl h) = work_front h.0 h.1
    ends_leaves (inr h) = work_leaves h

-- the causes of a print fault in the last line are some since before
cut_since : (c : Change) (began : State) (after : Option State) (old mid new : Counts) (result : Outcome)
    → NoneFell old mid
    → IsCutInLast c began after mid new result → IsCutInLast c began after old new result
cut_since c began after old mid new result fell h =
    (h.0, h.1, h.2, h.3, h.4, cause_from old mid new h.1 fell h.5, h.6, h.7)

pub work_since : (c : Change) (o after : Option State) (old mid new : Counts) (result : Outcome) → NoneFell old mid
    → EndsWork c o after mid new result → EndsWork c o after old new result
work_since c None after old mid new result fell h = h
work_since c (Some began) after old mid new result fell (inl h) = inl h
work_since c (Some began) after old mid new result fell (inr (inl h)) =
    inr (inl (cut_since c began after old mid new result fell h))
work_since c (Some began) after old mid new result fell (inr (inr h)) = inr (inr h)

pub from_since : (c : Change) (o after : Option State) (old mid new : Counts) (result : Outcome) → NoneFell old mid
    → EndsFrom c o after mid new result → EndsFrom c o after old new result
from_since c None after old mid new result fell h = h
from_since c (Some told) after old mid new result fell (began, begins, h) =
    (began, begins, work_since c (Some began) after old mid new result fell h)

pub ends_since : (told : List ℕ) (c : Change) (o after : Option State) (old mid new : Counts) (result : Outcome)
    → NoneFell old mid
    → EndsChange told c o after mid new result → EndsChange told c o after old new result
ends_since told c o after old mid new result fell (inl h) = inl h
ends_since told c o after old mid new result fell (inr h) =
    inr (from_since c (option_map (printed told) o) after old mid new result fell h)

-- nothing is told of what isn't told
untold : (told : List ℕ) (c : Change) (after : Option State) (old new : Counts) (result : Outcome)
    → EndsChange told c None after old new result → after ≡ None
untold told c after old new result (inl h) = h.1.3
untold told c after old new result (inr h) = h

-- what is done of a change that is ready is answered
pub change_answers : (task : Task) (budget : ℕ) (o told after : Option State) (ready : ReadyChange)
    (old mid new : Counts) (result : Outcome)
    → IfSome o (λ s. IsReadyIn (work_asked task budget s) s ready) → told ≡ option_map (with_pending settled) o
    → EndsChange ready.text.items ready.ready told after mid new result → NoneFell old mid
    → AnswersTo (settled_asked task budget) o after old new result
change_answers task budget None told after ready old mid new result in_it is ends fell =
    untold ready.text.items ready.ready after mid new result
    (subst (λ t. EndsChange ready.text.items ready.ready t after mid new result) is ends)
change_answers task budget (Some s) told after ready old mid new result in_it is ends fell =
    ends_leaves (settled_asked task budget s) s in_it.0 ready.ready ready.text.items
    (inr (tt, refl, inr (in_it.0, in_it.1, refl))) (inl (inr refl)) in_it.2 old new after result
    (ends_since ready.text.items ready.ready (Some (with_pending settled s)) after old mid new result fell
    (subst (λ t. EndsChange ready.text.items ready.ready t after mid new result) is ends))

-- ---- what a crash leaves

-- what is left once all is settled may be left before, with a front of a text
pub part_left : (s : State) (part : List ℕ) (left : Left) → MayLeave (printed part (with_pending settled s)) left
    → MayLeave (printed part s) left
part_left s part left may = record {
  files = subst (Image s.pending s.files) (sym may.files) (as_is s.pending s.files);
  output = may.output;
  restarts = may.restarts;
}

-- what changes no other file changes no checkpoint
abbrev pub KeepsPoints : Type 0
KeepsPoints =
    (before after : Files) → ((name : List ℕ) → IsOther name → name ≢ intent_file → get after name ≡ get before name)
    → points after ≡ points before

kept_points : (told : List ℕ) (c : Change) (s : State) (left : Left) → KeepsPoints → LeftChanged c (begun told s) left
    → points left.files ≡ points s.files
kept_points told c s left law (answered, began, a, b, inl h) =
    law began.files left.files h.others ∙ begun_points c (begun told s) began b
kept_points told c s left law (answered, began, a, b, inr h) =
    law began.files left.files h.is.others ∙ begun_points c (begun told s) began b

pub doing_left : (task : Task) (budget : ℕ) → KeepsPoints → (o told : Option State) (ready : ReadyChange)
    → IfSome o (λ s. IsReadyIn (work_asked task budget s) s ready)
    → told ≡ option_map (with_pending settled) o → (left : Left)
    → IfSome told (λ s. LeftDoing ready.text.items ready.ready s left) → LeftToChange (settled_asked task budget) o left
doing_left task budget law None told ready in_it is left h = tt
doing_left task budget law (Some s) told ready in_it is left h =
    by (subst (λ t. IfSome t (λ s. LeftDoing ready.text.items ready.ready s left)) is h)
  where
    given : (settled_asked task budget s).Gives (Ok (change in_it.0))
    given = inr (tt, refl, inr (in_it.0, in_it.1, refl))

    by : LeftDoing ready.text.items ready.ready (with_pending settled s) left
        → LeftOfChange (settled_asked task budget s) s left
    by (inl h) =
        inl (h.0, inr (in_it.0, ready.ready, ready.text.items, h.1, given, in_it.2, h.2), part_left s h.0 left h.3)
    by (inr h) =
        inr (
          in_it.0,
          ready.ready,
          ready.text.items,
          given,
          in_it.2,
          h,
          kept_points ready.text.items ready.ready s left
              law h,
        )

-- nothing is printed yet
pub early_left : (asking : State → Asking Request) (o : Option State) (left : Left) → MayLeaveNow o left
    → LeftToEarly asking o left
early_left asking None left may = tt
early_left asking (Some s) left may =
    ([], inl (no_front (asking s) s), with_none s left may)

-- nothing is printed yet, and all is settled
pub settled_early : (asking : State → Asking Request) (o told : Option State)
    → told ≡ option_map (with_pending settled) o → (left : Left) → MayLeaveNow told left
    → LeftToEarly asking o left
settled_early asking None told is left may = tt
settled_early asking (Some s) told is left may =
    let now : MayLeave (with_pending settled s) left = subst (λ t. MayLeaveNow t left) is may in
    ([], inl (no_front (asking s) s), part_left s [] left (with_none (with_pending settled s) left now))

-- what is left while nothing is written may be left of a change
pub early_changes : (asking : State → Asking Request) (o : Option State) (left : Left) → LeftToEarly asking o left
    → LeftToChange asking o left
early_changes asking None left h = tt
early_changes asking (Some s) left h = inl h
