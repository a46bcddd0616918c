-- The promise of the whole program follows from what it answers and what a crash leaves.
use Rattle.std.proofs.Common.{◌≡◌, ◌≢◌, ◌≤◌, ◌⊎◌, inl, inr, ℕ, suc, List, ◌++◌, length, refl, sym, ap, ◌∙◌, subst, Option, Some, None, Ok, IfSome, ⊎_elim}
use Rattle.host_core.specs.Counts.{Counts}
use Rattle.host_core.specs.Crashes.{Image, Left, LeavesOnly}
use Rattle.host_core.specs.State.{State, printed}
use Rattle.host_core.proofs.Runs.{weaker}
use Rattle.conf_doc.specs.declared.configuration.Config.{Config}
use Rattle.conf_store.specs.Stored.{stored}
use Rattle.checkpoints.specs.Changes.{with_point, without_point}
use Rattle.checkpoints.specs.Migrations.{migration}
use Rattle.checkpoints.specs.Points.{points}
use Rattle.move_core.specs.Plans.{conf}
use Rattle.change_apply.specs.Acknowledgements.{acks}
use Rattle.change_apply.specs.Change.{Change, name_at, steps}
use Rattle.change_apply.specs.Crashes.{StandAt}
use Rattle.gcu_words.specs.Targets.{Target, rolled_back}
use Rattle.gcu_output.specs.Lines.{last_line}
use Rattle.gcu_output.specs.declared.outcomes.Outcome.{Outcome}
use Rattle.gcu_output.specs.declared.outcomes.Outcome.TheVariants.{Done, Memory, InputFault, DiskFault, PrintFault, ServiceFault, Unorderable, Budget}
use Rattle.gcu_inputs.specs.Asking.{Asking}
use Rattle.gcu_words.specs.Form.{Form, form}
use Rattle.gcu_words.specs.Form as forms
use Rattle.gcu_words.specs.Tasks.{Task, reach, run_script}
use Rattle.gcu_requests.specs.Asked.{asked, form_asked, migrate_asked}
use Rattle.gcu_requests.specs.Request as request
use Rattle.gcu_requests.specs.Request.{Request, Work, ctx_of, operated, planned, start_of}
use Rattle.gcu_requests.specs.WorkAsked.{change_asked}
use Rattle.command_answers.specs.Answers.{Answers, IsDoneOutput, IsRefusal, IsUntouched, Leaves, LeavesDone, Prints, Says}
use Rattle.command_answers.specs.Changing.{IsChangeFor, IsChanged, IsLastLine, acknowledged, begun}
use Rattle.command_answers.specs.Commands.{LeftUnwritten}
use Rattle.command_answers.specs.Crashes.{LeftByForm, LeftChanged, LeftEarly, LeftMeanwhile, LeftOf, LeftOfChange, LeftOfMigration, LeftWriting}
use Rattle.command_answers.specs.Commands.{LeftToEarly}
use Rattle.gcu_engine.specs.Folder.{Stores}
use Rattle.gcu_engine.specs.Headline.{HasNoOrder, IsUnacknowledged, IsHeadline, IsLastOrNext, IsQuiet, IsWhole, PrintsTask, StoresPoint, StoresTarget}
use Rattle.command_answers.specs.Plannings.{IsUnsolved}
use Rattle.gcu_engine.proofs.AcknowledgementCounts.{acked_is}
use Rattle.writing_commands.proofs.ChangeEnds.{is_last_line}
use Rattle.writing_commands.proofs.Changes.{some_is}
use Rattle.gcu_engine.proofs.Folders.{stores_is}
use Rattle.gcu_engine.proofs.FormPromises.{IsOneChange, LacksOrder, PointsAfter, StandsAfter, change_of_words, order_by_words, other_by_words, points_by_words, task_in, task_of_words}
use Rattle.writing_commands.proofs.IntentRemovals.{begun_output, either_points, either_stored}
use Rattle.writing_commands.proofs.LastLines.{last_line_of, refusal_line, service_last_line}
use Rattle.gcu_engine.proofs.PlanPrints.{change_prints, no_request, plan_prints, same_change, unknown_line, unknown_prints, untouched_output}
use Rattle.gcu_engine.proofs.Requests.{IsRequestOf, change_given, requested}
use Rattle.gcu_engine.proofs.RightPlans.{IsWorkAsked, right_work, way_last}

-- ---- what is printed

plans_print : (f : Option Form) (task : Task) (s : State) (after : Option State) (old new : Counts) (result : Outcome) → task_in f ≡ Some task
    → Leaves (form_asked f s) s after old new result → PrintsTask task s after
plans_print (Some (forms.plan t budget)) task s after old new result is h =
    let same : t ≡ task = cc in
    subst (λ (x : Task). PrintsTask x s after) same (plan_prints t budget s h.0 after old new h.1 h.2 result h.3)
plans_print (Some (forms.change t budget)) task s after old new result is h =
    let same : t ≡ task = cc in
    subst (λ (x : Task). PrintsTask x s after) same (change_prints t budget s h.0 after old new h.1 h.2 result h.3)
plans_print None task s after old new result is h = absurd cc
plans_print (Some (forms.preview path)) task s after old new result is h = absurd cc
plans_print (Some forms.check) task s after old new result is h = absurd cc
plans_print (Some forms.list_checkpoints) task s after old new result is h = absurd cc
plans_print (Some forms.migrate_checkpoints) task s after old new result is h = absurd cc
plans_print (Some (forms.save_checkpoint name)) task s after old new result is h = absurd cc
plans_print (Some (forms.delete_checkpoint name)) task s after old new result is h = absurd cc
plans_print (Some forms.status) task s after old new result is h = absurd cc
plans_print (Some forms.abandon) task s after old new result is h = absurd cc
plans_print (Some (forms.demo seed ports)) task s after old new result is h = absurd cc
plans_print (Some (forms.check_plan patch plan)) task s after old new result is h = absurd cc

-- ---- no order

unsolved : (q r : Request) → q ≡ r → IsUnsolved r Unorderable → IsUnsolved q Unorderable
unsolved q r same h = subst (λ (x : Request). IsUnsolved x Unorderable) (sym same) h

none_of : (f : Option Form) (s : State) (r : Request) → IsRequestOf f s r → IsUnsolved r Unorderable → LacksOrder f s
none_of (Some (forms.plan (reach from) budget)) s r (planned p, is, same) h = record {
  ctx = p.ctx;
  read = is.read;
  start = p.start;
  goal = p.goal;
  planned = (is.start.stands, is.made);
  demonstrated = tt;
  none = (unsolved (request.plan (planned p)) r same h).0;
}
none_of (Some (forms.plan (reach from) budget)) s r (operated p, never, same) h = absurd never
none_of (Some (forms.plan (run_script path) budget)) s r (planned p, never, same) h = absurd never
none_of (Some (forms.plan (run_script path) budget)) s r (operated p, is, same) h = absurd (unsolved (request.plan (operated p)) r same h)
none_of (Some (forms.change (reach from) budget)) s r (planned p, is, same) h = record {
  ctx = p.ctx;
  read = is.read;
  start = p.start;
  goal = p.goal;
  planned = (is.start.stands, is.made);
  demonstrated = tt;
  none = (unsolved (request.change (planned p)) r same h).0;
}
none_of (Some (forms.change (reach from) budget)) s r (operated p, never, same) h = absurd never
none_of (Some (forms.change (run_script path) budget)) s r (planned p, never, same) h = absurd never
none_of (Some (forms.change (run_script path) budget)) s r (operated p, is, same) h = absurd (unsolved (request.change (operated p)) r same h)
none_of (Some (forms.demo seed ports)) s r (p, read, start, goal, same) h = record {
  ctx = p.ctx;
  read = read;
  start = p.start;
  goal = p.goal;
  planned = tt;
  demonstrated = (start, goal);
  none = (unsolved (request.demo p ports) r same h).0;
}
none_of (Some (forms.save_checkpoint name)) s r (c, there, same) h = absurd (unsolved (request.save_checkpoint name c) r same h)
none_of (Some (forms.delete_checkpoint name)) s r same h = absurd (unsolved (request.delete_checkpoint name) r same h)
none_of (Some (forms.preview path)) s r (c, same) h = absurd (unsolved (request.preview c) r same h)
none_of (Some forms.status) s r (intent, count, same) h = absurd (unsolved (request.status intent count) r same h)
none_of (Some forms.abandon) s r same h = absurd (unsolved request.abandon r same h)
none_of (Some (forms.check_plan patch plan)) s r (count, same) h = absurd (unsolved (request.accept_plan count) r same h)
none_of (Some forms.check) s r same h = absurd (unsolved request.check r same h)
none_of (Some forms.list_checkpoints) s r (names, same) h = absurd (unsolved (request.list_checkpoints names) r same h)
none_of (Some forms.migrate_checkpoints) s r same h = absurd (unsolved (request.migrate_checkpoints (migration s.files)) r same h)
none_of None s r never h = absurd never

is_command : (f : Option Form) (s : State) (r : Request) → IsRequestOf f s r → f ≢ None
is_command f s r is none = subst (λ (g : Option Form). IsRequestOf g s r) none is

no_order_is : (words : List (List ℕ)) (s : State) (after : Option State) (old new : Counts) (result : Outcome) → Leaves (form_asked (form words) s) s after old new result
    → result ≡ Unorderable → HasNoOrder words s
no_order_is words s after old new result h is =
    let says = subst (λ (e : Outcome). Prints (form_asked (form words) s) s h.0 old new e h.1) is h.3 in
    let r = requested (form words) s says.0.0 says.0.1 in
    order_by_words words s (is_command (form words) s says.0.0 r) (none_of (form words) s says.0.0 r says.0.2)

-- ---- a finished change

stores : (from : Target) (s now : State) (after : Option State) (output : List ℕ) (w : Work) → after ≡ Some (printed output now) → IsWorkAsked (reach from) s w → IsChanged w s now
    → StoresTarget from s after
stores from s now after output (operated p) is never done = absurd never
stores from s now after output (planned p) is asks done =
    let c = done.0 in
    let last = way_last p.ctx p.goal p.start c.moves p.goal done.2.work.0.0 in
    let files = ap (λ (t : State). t.files) (some_is now _ done.5.1) in (
      printed output now,
      p.start,
      p.goal,
      is,
      (stores_is s.files p.start).1 asks.start.stands,
      asks.made,
      (stores_is (printed output now).files p.goal).1
          (ap stored files ∙ done.5.2.stands
          ∙ ap (λ (x : Config). Ok (conf x c.moves (length c.moves))) done.2.start ∙ ap (λ (x : Config). Ok x) last),
    )

finishes : (from : Target) (budget : ℕ) (s : State) (after : Option State) (old new : Counts) → Leaves (change_asked (reach from) budget s) s after old new Done → StoresTarget from s after
finishes from budget s after old new h =
    let g = change_given (reach from) budget s h.3.0 h.3.1 in
    stores from s h.0 after h.1 g.0 h.2 g.1 (subst (λ (q : Request). LeavesDone q s h.0) (sym g.2) h.3.2)

-- words that are no command are never done
unknown_fails : (s : State) (after : Option State) (old new : Counts) → Leaves (form_asked None s) s after old new Done → ⊥
unknown_fails s after old new h = no_request s h.3.0 h.3.1

rolls_back : (name : List ℕ) (s : State) (after : Option State) → StoresTarget (rolled_back name) s after → StoresPoint name s after
rolls_back name s after (t, start, goal, is, stands, made, stores) = (t, goal, is, made, stores)

-- ---- a refusal

module _ (asking : Asking Request) (s now : State) where
  untouched_files : IsUntouched asking s now → now.files ≡ s.files
  untouched_files (inl same) = ap (λ (t : State). t.files) same
  untouched_files (inr (reads, same)) = ap (λ (t : State). t.files) same

  untouched_restarts : IsUntouched asking s now → now.restarts ≡ s.restarts
  untouched_restarts (inl same) = ap (λ (t : State). t.restarts) same
  untouched_restarts (inr (reads, same)) = ap (λ (t : State). t.restarts) same

  module _ (after : Option State) (output : List ℕ) (is : after ≡ Some (printed output now)) where
    -- nothing is changed, and the last line of the answer is all that is printed
    pub refusal_says : (old new : Counts) (e : Outcome) → Prints asking s now old new e output → IsRefusal e → IsUntouched asking s now × (output ≡ last_line e)
    refusal_says old new Done h never = absurd never
    refusal_says old new (DiskFault step) h never = absurd never
    refusal_says old new (PrintFault step) h never = absurd never
    refusal_says old new (ServiceFault step service) h never = absurd never
    refusal_says old new Memory h any = h
    refusal_says old new InputFault h any = (h.1, h.2)
    refusal_says old new Unorderable h any = (h.1, h.2)
    refusal_says old new (Budget n) h any = (h.1, h.2)
    refusal_says old new other h any = (h.1, h.2)

    quiet_is : (old new : Counts) (e : Outcome) → Prints asking s now old new e output → IsRefusal e → IsQuiet s after
    quiet_is old new e h any =
        let says = refusal_says old new e h any in
        record {
          now = printed output now;
          is = is;
          files = untouched_files says.0;
          line = output;
          refusal = refusal_line e output says.1 any;
          output = ap (λ (o : List ℕ). o ++ output) (untouched_output asking s now says.0);
          restarts = untouched_restarts says.0;
        }

-- ---- a crash

-- what is said of a change ends with the last line of an answer
line_said : (task : Task) (budget : ℕ) (s now : State) (e : Outcome) (text : List ℕ) → Says (change_asked task budget s) s now e text → IsLastLine text
line_said task budget s now Done text (r, given, leaves, out) =
    let g = change_given task budget s r given in
    last_line_of Done text (subst (λ (q : Request). IsDoneOutput q text) (sym g.2) out) tt
line_said task budget s now Memory text h = last_line_of Memory text h.1 tt
line_said task budget s now InputFault text h = last_line_of InputFault text h.2 tt
line_said task budget s now (DiskFault step) text h = last_line_of (DiskFault step) text h.2 tt
line_said task budget s now (PrintFault step) text never = absurd never
line_said task budget s now (ServiceFault step service) text (w, given, halted, is) = service_last_line step service (name_at (ctx_of w).settings service) text is
line_said task budget s now Unorderable text h = last_line_of Unorderable text h.2 tt
line_said task budget s now (Budget n) text h = last_line_of (Budget n) text h.2 tt
line_said task budget s now other text h = last_line_of other text h.2 tt

pub early_before : (task : Task) (budget : ℕ) (s : State) (left : Left) → LeftEarly (change_asked task budget s) s left
    → IsUnacknowledged task s left
early_before task budget s left (part, inl (now, answer, rest, says, same), may) = record {
  part = part;
  rest = rest;
  text = inl (line_said task budget s now answer (part ++ rest) says);
  output = may.output;
  files = may.files;
}
early_before task budget s left (part, inr (w, c, told, rest, given, fits, is), may) =
    let g = change_given task budget s (request.change w) given in
    let asks = subst (IsWorkAsked task s) (same_change g.0 w g.2) g.1 in
    record {
      part = part;
      rest = rest;
      text = inr (right_work task s w c.moves told asks fits.work, is);
      output = may.output;
      files = may.files;
    }

-- so do words that are no command
unknown_before : (task : Task) (s : State) (left : Left) → LeftOf (form_asked None s) s left
    → IsUnacknowledged task s left
unknown_before task s left (part, (now, answer, rest, says, same), inl may) = record {
  part = part;
  rest = rest;
  text = inl (unknown_line s now answer (part ++ rest) says).0;
  output = may.output;
  files = may.files;
}
unknown_before task s left (part, front, inr (r, given, h)) = absurd (no_request s r given)

-- the folder stands for one of the configurations
at_start : (w : Work) (s : State) (c : Change) (told : List ℕ) → IsChangeFor w s c told → (k : ℕ) (left : Left) → StandAt c k left.files
    → Stores left.files (conf (start_of w) c.moves k) ⊎ Stores left.files (conf (start_of w) c.moves (suc k))
at_start w s c told fits k left (inl e) =
    inl ((stores_is left.files (conf (start_of w) c.moves k)).1 (e ∙ ap (λ (x : Config). Ok (conf x c.moves k)) fits.start))
at_start w s c told fits k left (inr next) =
    inr ((stores_is left.files (conf (start_of w) c.moves (suc k))).1 (next.stands ∙ ap (λ (x : Config). Ok (conf x c.moves (suc k))) fits.start))

changed_next : (task : Task) (s : State) (w : Work) (c : Change) (told : List ℕ) (left : Left) → IsWorkAsked task s w → IsChangeFor w s c told → LeftChanged c (begun told s) left
    → IsLastOrNext task s left
changed_next task s w c told left asks fits (answered, began, a, b, inl h) = record {
  right = right_work task s w c.moves told asks fits.work;
  done = h.done;
  within = h.within;
  part = h.output.part;
  cut = inl (h.output.rest, h.output.line, h.output.cut);
  output = h.output.printed ∙ ap (λ (o : List ℕ). o ++ acks h.done ++ h.output.part) (begun_output c (begun told s) began b);
  stands = at_start w s c told fits h.done left h.stands;
}
changed_next task s w c told left asks fits (answered, began, a, b, inr h) =
    let k : h.is.done ≡ acknowledged c h.answer = acked_is h.is.done (acknowledged c h.answer) began.output h.is.output in
    record {
      right = right_work task s w c.moves told asks fits.work;
      done = acknowledged c h.answer;
      within = subst (λ (n : ℕ). n ≤ steps c) k h.is.within;
      part = h.part;
      cut = inr (h.rest, is_last_line c answered h.now h.answer (h.part ++ h.rest) h.line);
      output = h.output ∙ ap (λ (o : List ℕ). o ++ acks (acknowledged c h.answer) ++ h.part) (begun_output c (begun told s) began b);
      stands = at_start w s c told fits (acknowledged c h.answer) left (subst (λ (n : ℕ). StandAt c n left.files) k h.is.stands);
    }

change_stands : (task : Task) (budget : ℕ) (s : State) (left : Left) → LeftOfChange (change_asked task budget s) s left
    → StandsAfter (Some (forms.change task budget)) s left
change_stands task budget s left (inl h) = inl (early_before task budget s left h)
change_stands task budget s left (inr (w, c, told, given, fits, h, kept)) =
    let g = change_given task budget s (request.change w) given in
    inr (changed_next task s w c told left (subst (IsWorkAsked task s) (same_change g.0 w g.2) g.1) fits h)

change_points : (task : Task) (budget : ℕ) (s : State) (left : Left) → LeftOfChange (change_asked task budget s) s left
    → PointsAfter (Some (forms.change task budget)) s left.files
change_points task budget s left (inl (part, front, may)) = inl may.files
change_points task budget s left (inr (w, c, told, given, fits, h, kept)) = inr (inl kept)

writing_stands : (r : Request) (s : State) (left : Left) → LeftWriting r s left → stored left.files ≡ stored s.files
writing_stands (request.delete_checkpoint name) s left h = h.files.kept
writing_stands (request.save_checkpoint name config) s left h = h.files.kept
writing_stands request.abandon s left h = either_stored s.files left.files h.files
writing_stands other s left never = absurd never

other_stands : (asking : Asking Request) (s : State) (left : Left) → LeftOf asking s left
    → Image s.pending s.files left.files ⊎ (stored left.files ≡ stored s.files)
other_stands asking s left (part, front, inl may) = inl may.files
other_stands asking s left (part, front, inr (r, given, h)) = inr (writing_stands r (printed part s) left h)

-- the change of a request is that of its form
one_change : (f : Option Form) (s now : State) (r : Request) (left : Left) → now.files ≡ s.files → IsRequestOf f s r → LeftWriting r now left
    → (points left.files ≡ points s.files) ⊎ IsOneChange f s left.files
one_change (Some (forms.save_checkpoint name)) s now r left files (c, there, same) h =
    let writing = subst (λ (q : Request). LeftWriting q now left) (sym same) h in
    ⊎_elim (λ kept. inl (kept ∙ ap points files)) (λ one. inr (c, there, one ∙ ap (λ f. with_point name c (points f)) files)) writing.files.points
one_change (Some (forms.delete_checkpoint name)) s now r left files same h =
    let writing = subst (λ (q : Request). LeftWriting q now left) (sym same) h in
    ⊎_elim (λ kept. inl (kept ∙ ap points files)) (λ one. inr (one ∙ ap (λ f. without_point name (points f)) files)) writing.files.points
one_change (Some (forms.plan task budget)) s now r left files (w, is, same) h = absurd (subst (λ (q : Request). LeftWriting q now left) (sym same) h)
one_change (Some (forms.change task budget)) s now r left files (w, is, same) h = absurd (subst (λ (q : Request). LeftWriting q now left) (sym same) h)
one_change (Some (forms.demo seed ports)) s now r left files (p, read, start, goal, same) h = absurd (subst (λ (q : Request). LeftWriting q now left) (sym same) h)
one_change (Some (forms.preview path)) s now r left files (c, same) h = absurd (subst (λ (q : Request). LeftWriting q now left) (sym same) h)
one_change (Some forms.abandon) s now r left files same h =
    let writing = subst (λ (q : Request). LeftWriting q now left) (sym same) h in inl (either_points now.files left.files writing.files ∙ ap points files)
one_change (Some forms.status) s now r left files (intent, count, same) h = absurd (subst (λ (q : Request). LeftWriting q now left) (sym same) h)
one_change (Some (forms.check_plan patch plan)) s now r left files (count, same) h = absurd (subst (λ (q : Request). LeftWriting q now left) (sym same) h)
one_change (Some forms.check) s now r left files same h = absurd (subst (λ (q : Request). LeftWriting q now left) (sym same) h)
one_change (Some forms.list_checkpoints) s now r left files (names, same) h = absurd (subst (λ (q : Request). LeftWriting q now left) (sym same) h)
one_change (Some forms.migrate_checkpoints) s now r left files same h = absurd (subst (λ (q : Request). LeftWriting q now left) (sym same) h)
one_change None s now r left files never h = absurd never

other_points : (f : Option Form) (s : State) (left : Left) → LeftOf (form_asked f s) s left → PointsAfter f s left.files
other_points f s left (part, front, inl may) = inl may.files
other_points f s left (part, front, inr (r, given, h)) =
    inr (one_change f s (printed part s) r left refl (requested f s r given) h)

-- a migration leaves the folder standing for the same, and all checkpoints
migration_stands : (asking : Asking Request) (s : State) (left : Left) → LeftOfMigration asking s left
    → Image s.pending s.files left.files ⊎ (stored left.files ≡ stored s.files)
migration_stands asking s left (inl h) = other_stands asking s left h
migration_stands asking s left (inr (news, given, inl h)) = inr h.same.kept
migration_stands asking s left (inr (news, given, inr h)) = inr h.is.same.kept

migration_points : (s : State) (left : Left) → LeftOfMigration (migrate_asked s) s left
    → PointsAfter (Some forms.migrate_checkpoints) s left.files
migration_points s left (inl h) = other_points (Some forms.migrate_checkpoints) s left h
migration_points s left (inr (news, given, inl h)) = inr (inl h.same.points)
migration_points s left (inr (news, given, inr h)) = inr (inl h.is.same.points)

-- what the command that words are leaves
form_stands : (f : Option Form) (s : State) (left : Left) → LeftByForm f s left → StandsAfter f s left
form_stands (Some (forms.change task budget)) s left h = change_stands task budget s left h
form_stands (Some forms.migrate_checkpoints) s left h = migration_stands (migrate_asked s) s left h
form_stands other s left h = other_stands (form_asked other s) s left h

form_points : (f : Option Form) (s : State) (left : Left) → LeftByForm f s left → PointsAfter f s left.files
form_points (Some (forms.change task budget)) s left h = change_points task budget s left h
form_points (Some forms.migrate_checkpoints) s left h = migration_points s left h
form_points other s left h = other_points other s left h

-- what is said of it by the words
pub whole_of : (words : List (List ℕ)) (s : State) (left : Left) → LeftByForm (form words) s left → IsWhole words s left
whole_of words s left h = record {
  change = λ task is. changing task (change_of_words task words is);
  other = other_by_words words s left (form_stands (form words) s left h);
  points_are = points_by_words words s left.files (form_points (form words) s left h);
}
  where
    changing : (task : Task) → (form words ≡ None) ⊎ ((budget : ℕ) × (form words ≡ Some (forms.change task budget)))
        → IsUnacknowledged task s left ⊎ IsLastOrNext task s left
    changing task (inl none) =
        inl (unknown_before task s left (subst (λ (f : Option Form). LeftByForm f s left) none h))
    changing task (inr (budget, e)) =
        subst (λ (f : Option Form). StandsAfter f s left) e (form_stands (form words) s left h)

-- ---- a crash in a command that refuses

-- it never writes
abbrev pub IsQuery : Option Form → Type 0
IsQuery (Some (forms.change task budget)) = ⊥
IsQuery (Some forms.migrate_checkpoints) = ⊥
IsQuery (Some (forms.save_checkpoint name)) = ⊥
IsQuery (Some (forms.delete_checkpoint name)) = ⊥
IsQuery (Some forms.abandon) = ⊥
IsQuery other = Unit {0}

query_unwritten : (f : Option Form) (s now : State) (r : Request) (left : Left) → IsQuery f → IsRequestOf f s r → LeftWriting r now left → ⊥
query_unwritten (Some (forms.change task budget)) s now r left never is h = never
query_unwritten (Some forms.migrate_checkpoints) s now r left never is h = never
query_unwritten (Some (forms.save_checkpoint name)) s now r left never is h = never
query_unwritten (Some (forms.delete_checkpoint name)) s now r left never is h = never
query_unwritten (Some forms.abandon) s now r left never is h = never
query_unwritten (Some (forms.plan task budget)) s now r left query (w, is, same) h = subst (λ (q : Request). LeftWriting q now left) (sym same) h
query_unwritten (Some (forms.demo seed ports)) s now r left query (p, read, start, goal, same) h = subst (λ (q : Request). LeftWriting q now left) (sym same) h
query_unwritten (Some (forms.preview path)) s now r left query (c, same) h = subst (λ (q : Request). LeftWriting q now left) (sym same) h
query_unwritten (Some forms.status) s now r left query (intent, count, same) h = subst (λ (q : Request). LeftWriting q now left) (sym same) h
query_unwritten (Some (forms.check_plan patch plan)) s now r left query (count, same) h = subst (λ (q : Request). LeftWriting q now left) (sym same) h
query_unwritten (Some forms.check) s now r left query same h = subst (λ (q : Request). LeftWriting q now left) (sym same) h
query_unwritten (Some forms.list_checkpoints) s now r left query (names, same) h = subst (λ (q : Request). LeftWriting q now left) (sym same) h
query_unwritten None s now r left query never h = never

query_keeps : (f : Option Form) (s : State) (left : Left) → IsQuery f → LeftOf (form_asked f s) s left
    → Image s.pending s.files left.files
query_keeps f s left query (part, front, inl may) = may.files
query_keeps f s left query (part, front, inr (r, given, h)) =
    absurd (query_unwritten f s (printed part s) r left query (requested f s r given) h)

form_keeps : (f : Option Form) (s : State) (left : Left) → IsQuery f → LeftByForm f s left
    → Image s.pending s.files left.files
form_keeps (Some (forms.change task budget)) s left never h = absurd never
form_keeps (Some forms.migrate_checkpoints) s left never h = absurd never
form_keeps other s left query h = query_keeps other s left query h

words_keep : (words : List (List ℕ)) (f : Option Form) (o : Option State) (left : Left) → f ≡ form words → IsQuery f
    → LeftMeanwhile words o left → LeftUnwritten o left
words_keep words f None left is query h = tt
words_keep words f (Some s) left is query h =
    form_keeps f s left query (subst (λ (g : Option Form). LeftByForm g s left) (sym is) h)

pub early_keeps : (task : Task) (budget : ℕ) (o : Option State) (left : Left)
    → LeftToEarly (change_asked task budget) o left → LeftUnwritten o left
early_keeps task budget None left h = tt
early_keeps task budget (Some s) left (part, front, may) = may.files

-- ---- all of it

headline_of : (words : List (List ℕ)) (s : State) (after : Option State) (old new : Counts) (result : Outcome)
    (IsLeft : Left → Type 0) → Answers words (Some s) after old new result
    → ((left : Left) → IsLeft left → LeftMeanwhile words (Some s) left)
    → (IsRefusal result → (left : Left) → IsLeft left → LeftUnwritten (Some s) left)
    → IsHeadline words s after result IsLeft
headline_of words s after old new result IsLeft answers crash early = record {
  printed = λ task is. prints task (task_of_words task words is);
  no_order = no_order_is words s after old new result answers;
  crash = λ left since. whole_of words s left (crash left since);
  refused = early;
  quiet = λ any. quiet_is (asked words s) s answers.0 after answers.1 answers.2 old new result answers.3 any;
  finished = λ from is done. changes from (change_of_words (reach from) words is) done;
  rolled = λ name is done.
      rolls_back name s after (changes (rolled_back name) (change_of_words (reach (rolled_back name)) words is) done);
}
  where
    prints : (task : Task) → (form words ≡ None) ⊎ (task_in (form words) ≡ Some task) → PrintsTask task s after
    prints task (inl none) =
        let h = subst (λ (f : Option Form). Leaves (form_asked f s) s after old new result) none answers in
        unknown_prints task s h.0 after old new h.1 h.2 result h.3
    prints task (inr e) = plans_print (form words) task s after old new result e answers

    changes : (from : Target) → (form words ≡ None) ⊎ ((budget : ℕ) × (form words ≡ Some (forms.change (reach from) budget)))
        → result ≡ Done → StoresTarget from s after
    changes from (inl none) done =
        absurd (unknown_fails s after old new
        (subst (λ (e : Outcome). Leaves (form_asked None s) s after old new e) done
        (subst (λ (f : Option Form). Leaves (form_asked f s) s after old new result) none answers)))
    changes from (inr (budget, is)) done =
        finishes from budget s after old new
        (subst (λ (e : Outcome). Leaves (change_asked (reach from) budget s) s after old new e) done
        (subst (λ (f : Option Form). Leaves (form_asked f s) s after old new result) is answers))

-- of a host that may not tell its state
pub headline_in : (words : List (List ℕ)) (o after : Option State) (old new : Counts) (result : Outcome)
    (IsLeft : Left → Type 0) → Answers words o after old new result
    → ((left : Left) → IsLeft left → LeftMeanwhile words o left)
    → (IsRefusal result → (left : Left) → IsLeft left → LeftUnwritten o left)
    → IfSome o (λ s. IsHeadline words s after result IsLeft)
headline_in words None after old new result IsLeft answers crash early = tt
headline_in words (Some s) after old new result IsLeft answers crash early =
    headline_of words s after old new result IsLeft answers crash early

module _ {H : Type 0} (moment : H → ℕ) (left_since : H → ℕ → Left → Type 0) where
  -- words whose command never writes leave the files
  pub query_keeps_all : (words : List (List ℕ)) (f : Option Form) (o : Option State) (old new : H) → f ≡ form words → IsQuery f
      → LeavesOnly moment left_since old new (LeftMeanwhile words o)
      → LeavesOnly moment left_since old new (LeftUnwritten o)
  query_keeps_all words f o old new is query =
      weaker moment left_since old new (LeftMeanwhile words o) (LeftUnwritten o)
      (λ left h. words_keep words f o left is query h)

  -- and so does a task before its first write
  pub early_keeps_all : (task : Task) (budget : ℕ) (o : Option State) (old new : H)
      → LeavesOnly moment left_since old new (LeftToEarly (change_asked task budget) o)
      → LeavesOnly moment left_since old new (LeftUnwritten o)
  early_keeps_all task budget o old new =
      weaker moment left_since old new (LeftToEarly (change_asked task budget) o) (LeftUnwritten o)
      (λ left h. early_keeps task budget o left h)
