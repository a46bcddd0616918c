-- A change of several scopes keeps the checkpoints of each, also after a crash at any moment.
use Rattle.std.proofs.Common.{◌≡◌, inl, inr, ℕ, Bool, true, false, List, [], ◌∷◌, ◌++◌, refl, sym, ap, subst, Option, Some, None, Ok, IfSome, option_map}
use Rattle.std.proofs.lemmas.Option.{IfSome_then}
use Rattle.host_core.specs.Counts.{Counts}
use Rattle.host_core.specs.Crashes.{Image, Left, MayLeave}
use Rattle.host_core.specs.State.{Files, State, printed, settled, with_pending}
use Rattle.change_apply.specs.declared.errors.ApplyFault.{ApplyFault}
use Rattle.change_apply.specs.declared.errors.ApplyFault.TheVariants.{Disk, Print, Service}
use Rattle.checkpoints.specs.Points.{points}
use Rattle.scopes.specs.Views.{seen_files}
use Rattle.scope_changes.specs.Crashes.{IsLeftAmong}
use Rattle.scope_changes.specs.Ends.{FinishesAll, IsStoppedWithin, StopsAll, behind_all}
use Rattle.scope_changes.specs.Works.{KeepsOutside, KeepsPointsOfScopes, ScopeWork}
use Rattle.gcu_output.specs.declared.outcomes.Outcome.{Outcome}
use Rattle.gcu_output.specs.declared.outcomes.Outcome.TheVariants.{Done, Memory, InputFault, DiskFault, PrintFault, ServiceFault, Unorderable, Budget}
use Rattle.gcu_inputs.specs.Asking.{Asking}
use Rattle.gcu_words.specs.ScopesForm.{ScopesForm}
use Rattle.gcu_requests.specs.Request as request
use Rattle.gcu_requests.specs.Request.{Request, ScopePlan}
use Rattle.command_answers.specs.Answers.{IsUntouched, Leaves, LeavesDone, LeavesStopped, Prints, Says}
use Rattle.command_answers.specs.Commands.{AnswersTo, LeftTo}
use Rattle.command_answers.specs.Crashes.{LeftOf, LeftWriting}
use Rattle.scope_commands.specs.ScopeCrashes.{LeftDoingScopes, LeftOfScopes}
use Rattle.scope_commands.specs.ScopeEndings.{AnswersScopes, EndsScopes, EndsWorks, IsLastOfAll}
use Rattle.command_answers.specs.ScopeTexts.{plan_scopes_asked}
use Rattle.scope_commands.specs.ScopeWorks.{refused_asked, works_text}
use Rattle.scope_commands.specs.SeveralScopes.{IsLeftFrom, PrintsOrDoes}
use Rattle.scope_commands.proofs.Settling.{settled_now}

-- ---- where nothing is done

untouched_files : (asking : Asking Request) (s now : State) → IsUntouched asking s now → now.files ≡ s.files
untouched_files asking s now (inl same) = ap (λ (t : State). t.files) same
untouched_files asking s now (inr (reads, same)) = ap (λ (t : State). t.files) same

-- the files that a crash leaves of a settled state are its own
pub settled_files : (s : State) (left : Left) → s.pending ≡ settled → MayLeave s left → left.files ≡ s.files
settled_files s left clean may = subst (λ p. Image p s.files left.files) clean may.files

-- plans of scopes are requested, and nothing else
abbrev IsOfPlans : Request → Type 0
IsOfPlans r = (plans : List ScopePlan) × (r ≡ request.plan_scopes plans)

module _ (asking : Asking Request) (s : State) (only : (r : Request) → asking.Gives (Ok r) → IsOfPlans r) where
  says_files : (now : State) (e : Outcome) (output : List ℕ) → Says asking s now e output → now.files ≡ s.files
  says_files now Done output (r, given, done, told) =
      ap (λ (t : State). t.files) (subst (λ (q : Request). LeavesDone q s now) (only r given).1 done)
  says_files now Memory output h = untouched_files asking s now h.0
  says_files now InputFault output h = untouched_files asking s now h.1
  says_files now (DiskFault step) output (reads, inl same, is) = untouched_files asking s now same.1
  says_files now (DiskFault step) output (reads, inr (r, given, stopped), is) =
      absurd (subst (λ (q : Request). LeavesStopped q step s now) (only r given).1 stopped)
  says_files now (PrintFault step) output never = absurd never
  says_files now (ServiceFault step service) output (w, given, halted, is) =
      let same : request.change w
      ≡ request.plan_scopes (only (request.change w) given).0 = (only (request.change w) given).1 in absurd cc
  says_files now Unorderable output h = untouched_files asking s now h.1
  says_files now (Budget n) output h = untouched_files asking s now h.1
  says_files now other output h = untouched_files asking s now h.1

  prints_files : (now : State) (old new : Counts) (e : Outcome) (output : List ℕ)
      → Prints asking s now old new e output → now.files ≡ s.files
  prints_files now old new (PrintFault step) output (inl (told, (other, rest, cause, says))) =
      says_files now other (output ++ rest) says
  prints_files now old new (PrintFault step) output (inr (inl (w, given, cut))) =
      let same : request.change w
      ≡ request.plan_scopes (only (request.change w) given).0 = (only (request.change w) given).1 in absurd cc
  prints_files now old new (PrintFault step) output (inr (inr (news, given, stopped, is))) =
      let same : request.migrate_checkpoints news
      ≡ request.plan_scopes (only (request.migrate_checkpoints news) given).0 =
      (only (request.migrate_checkpoints news) given).1 in
      absurd cc
  prints_files now old new other output h = says_files now other output h

  leaves_files : (after : Option State) (old new : Counts) (e : Outcome) → Leaves asking s after old new e
      → IfSome after (λ t. t.files ≡ s.files)
  leaves_files after old new e (now, output, is, prints) =
      subst (λ (o : Option State). IfSome o (λ t. t.files ≡ s.files)) (sym is)
      (prints_files now old new e output prints)

  pub left_files : (left : Left) → s.pending ≡ settled → LeftOf asking s left → left.files ≡ s.files
  left_files left clean (part, front, inl may) = settled_files (printed part s) left clean may
  left_files left clean (part, front, inr (r, given, writes)) =
      absurd (subst (λ (q : Request). LeftWriting q (printed part s) left) (only r given).1 writes)

pub refused_only : (path : List ℕ) (budget : ℕ) (s : State) (r : Request) → (refused_asked path budget s).Gives (Ok r)
    → IsOfPlans r
refused_only path budget s r (inl never) = absurd never
refused_only path budget s r (inr (plans, given, never)) = absurd never

pub plans_only : (path : List ℕ) (budget : ℕ) (s : State) (r : Request) → (plan_scopes_asked path budget s).Gives (Ok r)
    → IsOfPlans r
plans_only path budget s r (inl never) = absurd never
plans_only path budget s r (inr (plans, given, is)) = let same : request.plan_scopes plans ≡ r = cc in (plans, sym same)

-- the same files have the same checkpoints
same_keeps : (before after : Files) → after ≡ before → KeepsPointsOfScopes before after
same_keeps before after is scope = ap (λ (files : Files). points (seen_files scope files)) is

-- ---- where the changes are done

-- what no change has to do with tells the checkpoints of each scope
abbrev pub PointsStay : Type 0
PointsStay = (works : List ScopeWork) (before after : Files) → KeepsOutside works before after
    → KeepsPointsOfScopes before after

module _ (stay : PointsStay) where
  within_keeps : (works : List ScopeWork) (fault : ApplyFault) (s t : State) → IsStoppedWithin works fault s t
      → KeepsPointsOfScopes s.files t.files
  within_keeps works fault s t h = stay (h.done ++ h.at ∷ []) s.files t.files h.files.others

  stops_keep : (works : List ScopeWork) (fault : ApplyFault) (s now : State) → StopsAll works fault (Some s) (Some now)
      → KeepsPointsOfScopes s.files now.files
  stops_keep works fault s now (t, is, inl h) =
      let same : t ≡ now = cc in
      subst (λ (u : State). KeepsPointsOfScopes s.files u.files) same (within_keeps works fault s t h)
  stops_keep works fault s now (t, is, inr h) =
      let same : t ≡ now = cc in
      subst (λ (u : State). KeepsPointsOfScopes s.files u.files) same (stay h.done s.files t.files h.files.others)

  finish_keeps : (works : List ScopeWork) (s now : State) → FinishesAll works (Some s) (Some now)
      → KeepsPointsOfScopes s.files now.files
  finish_keeps works s now (files, is, parted) =
      let same : now ≡ behind_all works [] files s = cc in
      subst (λ (u : State). KeepsPointsOfScopes s.files u.files) (sym same) (stay works s.files files parted.others)

  last_keeps : (works : List ScopeWork) (s now : State) (e : Outcome) (text : List ℕ) → IsLastOfAll works s now e text
      → KeepsPointsOfScopes s.files now.files
  last_keeps works s now Done text h = finish_keeps works s now h.0
  last_keeps works s now (DiskFault step) text h = stops_keep works (Disk step) s now h.0
  last_keeps works s now (ServiceFault step service) text h = within_keeps works (Service step service) s now h.0.within
  last_keeps works s now other text never = absurd never

  works_keep : (works : List ScopeWork) (s : State) (after : Option State) (old new : Counts) (e : Outcome)
      → EndsWorks works (Some s) after old new e
      → IfSome after (λ t. KeepsPointsOfScopes s.files t.files)
  works_keep works s after old new e (inl (now, text, last, is)) =
      subst (λ (o : Option State). IfSome o (λ t. KeepsPointsOfScopes s.files t.files)) (sym is)
      (last_keeps works s now e text last)
  works_keep works s after old new e (inr (inl (now, answer, part, rest, last, cause, fault, is))) =
      subst (λ (o : Option State). IfSome o (λ t. KeepsPointsOfScopes s.files t.files)) (sym is)
      (last_keeps works s now answer (part ++ rest) last)
  works_keep works s after old new e (inr (inr (now, step, stops, fault, is))) =
      subst (λ (o : Option State). IfSome o (λ t. KeepsPointsOfScopes s.files t.files)) (sym is)
      (stops_keep works (Print step) s now stops)

  scopes_keep : (works : List ScopeWork) (s : State) (after : Option State) (old new : Counts) (e : Outcome)
      → EndsScopes works (Some s) after old new e
      → IfSome after (λ t. KeepsPointsOfScopes s.files t.files)
  scopes_keep works s after old new e (inl (fault, (part, rest, is, printing))) =
      subst (λ (o : Option State). IfSome o (λ t. KeepsPointsOfScopes s.files t.files)) (sym printing) (λ scope. refl)
  scopes_keep works s after old new e (inr h) = works_keep works (printed (works_text works) s) after old new e h

  among_keeps : (works : List ScopeWork) (s : State) (left : Left) → IsLeftAmong works s left
      → KeepsPointsOfScopes s.files left.files
  among_keeps works s left (inl h) = stay (h.done ++ h.at ∷ []) s.files left.files h.files.others
  among_keeps works s left (inr h) = stay h.done s.files left.files h.files.others

  doing_keeps : (works : List ScopeWork) (s : State) (left : Left) → s.pending ≡ settled → LeftDoingScopes works s left
      → KeepsPointsOfScopes s.files left.files
  doing_keeps works s left clean (inl (part, rest, is, may)) =
      same_keeps s.files left.files (settled_files (printed part s) left clean may)
  doing_keeps works s left clean (inr (inl h)) = among_keeps works (printed (works_text works) s) left h
  doing_keeps works s left clean (inr (inr h)) =
      among_keeps works (printed (works_text works) s) (record left { output = h.now.output }) h.is

-- ---- from the beginning on

module _ (stay : PointsStay) (path : List ℕ) (budget : ℕ) where
  done_keeps : (o after : Option State) (old new : Counts) (e : Outcome) → AnswersScopes path budget o after old new e
      → IfSome o (λ s. IfSome after (λ t. KeepsPointsOfScopes s.files t.files))
  done_keeps None after old new e h = tt
  done_keeps (Some s) after old new e (inl h) =
      IfSome_then after (leaves_files (refused_asked path budget s) s (refused_only path budget s) after old new e h)
      (λ t is. same_keeps s.files t.files is)
  done_keeps (Some s) after old new e (inr (works, are, h)) = scopes_keep stay works s after old new e h

  done_left : (o : Option State) (these : Left → Type 0) → IfSome o (λ s. s.pending ≡ settled)
      → ((left : Left) → these left → LeftOfScopes path budget o left)
      → IfSome o (λ s. (left : Left) → these left → KeepsPointsOfScopes s.files left.files)
  done_left None these clean each = tt
  done_left (Some s) these clean each = λ left one. by left (each left one)
    where
      by : (left : Left) → LeftOfScopes path budget (Some s) left → KeepsPointsOfScopes s.files left.files
      by left (inl h) = same_keeps s.files left.files (left_files (refused_asked path budget s) s
          (refused_only path budget s) left clean h)
      by left (inr (works, are, h)) = doing_keeps stay works s left clean h

  plans_keep : (o after : Option State) (old new : Counts) (e : Outcome)
      → AnswersTo (plan_scopes_asked path budget) o after old new e
      → IfSome o (λ s. IfSome after (λ t. KeepsPointsOfScopes s.files t.files))
  plans_keep None after old new e h = tt
  plans_keep (Some s) after old new e h =
      IfSome_then after (leaves_files (plan_scopes_asked path budget s) s (plans_only path budget s) after old new e h)
      (λ t is. same_keeps s.files t.files is)

  plans_left : (o : Option State) (these : Left → Type 0) → IfSome o (λ s. s.pending ≡ settled)
      → ((left : Left) → these left → LeftTo (plan_scopes_asked path budget) o left)
      → IfSome o (λ s. (left : Left) → these left → KeepsPointsOfScopes s.files left.files)
  plans_left None these clean each = tt
  plans_left (Some s) these clean each = λ left one.
      same_keeps s.files left.files (left_files (plan_scopes_asked path budget s) s (plans_only path budget s) left
      clean (each left one))

-- what was settled has the files from before
files_before : (P : Files → Type 0) (o q : Option State) → q ≡ option_map (with_pending settled) o
    → IfSome q (λ s. P s.files) → IfSome o (λ s. P s.files)
files_before P None q is h = tt
files_before P (Some s) q is h = subst (λ (p : Option State). IfSome p (λ t. P t.files)) is h

module _ {H : Type 0} (told : H → Option State) (counts : H → Counts) (moment : H → ℕ)
    (left_since : H → ℕ → Left → Type 0)
    (stay : PointsStay) (change : ScopesForm) (old between new : H) (e : Outcome)
    (settles : told between ≡ option_map (with_pending settled) (told old)) where
  does_keep : (b : Bool) → PrintsOrDoes told counts moment left_since b change between new e
      → IfSome (told between) (λ s. IfSome (told new) (λ t. KeepsPointsOfScopes s.files t.files))
  does_keep true h = plans_keep stay change.path change.budget (told between) (told new) (counts between) (counts new)
      e h.answers
  does_keep false h = done_keeps stay change.path change.budget (told between) (told new) (counts between) (counts new)
      e h.answers

  does_left : (b : Bool) → PrintsOrDoes told counts moment left_since b change between new e
      → IfSome (told between) (λ s. (left : Left) → IsLeftFrom told moment left_since between new left
      → KeepsPointsOfScopes s.files left.files)
  does_left true h =
      plans_left stay change.path change.budget (told between) (IsLeftFrom told moment left_since between new)
      (settled_now (told old) (told between) settles) h.crash
  does_left false h =
      done_left stay change.path change.budget (told between) (IsLeftFrom told moment left_since between new)
      (settled_now (told old) (told between) settles) h.crash

  pub points_kept : PrintsOrDoes told counts moment left_since change.dry_run change between new e
      → IfSome (told old) (λ s. IfSome (told new) (λ t. KeepsPointsOfScopes s.files t.files))
  points_kept h =
      files_before (λ files. IfSome (told new) (λ t. KeepsPointsOfScopes files t.files)) (told old) (told between)
      settles (does_keep change.dry_run h)

  pub points_left : PrintsOrDoes told counts moment left_since change.dry_run change between new e
      → IfSome (told old) (λ s. (left : Left) → IsLeftFrom told moment left_since between new left
      → KeepsPointsOfScopes s.files left.files)
  points_left h =
      files_before (λ files. (left : Left) → IsLeftFrom told moment left_since between new left
      → KeepsPointsOfScopes files left.files) (told old) (told between) settles
      (does_left change.dry_run h)
