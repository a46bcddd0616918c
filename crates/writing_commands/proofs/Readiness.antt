-- A change that is made ready once all is settled, or the reason why there is none.
use Rattle.std.proofs.Common.{◌≡◌, ◌≤◌, ◌<◌, ◌⊎◌, inl, inr, ℕ, suc, List, [], ◌∷◌, length, refl, sym, ap, ◌∙◌, subst, arith, Option, Some, None, Result, Ok, Err, IfErr, IfOk, IfSome, option_map}
use Rattle.std.specs.FinMap.{get}
use Rattle.host_core.specs.Counts.{Counts, NoneFell, PrintMayRise}
use Rattle.host_core.specs.Crashes.{Elapses, Left, LeavesOnly, MayLeaveNow}
use Rattle.host_core.specs.State.{State, printed, settled, with_pending}
use Rattle.host_core.proofs.Runs as runs
use Rattle.conf_store.specs.Changes.{IsSettled}
use Rattle.conf_store.specs.Files.{intent_file}
use Rattle.conf_store.specs.Folds.{StandsFor}
use Rattle.conf_store.specs.declared.loaded.Stored.{Stored}
use Rattle.move_core.specs.Operations.{plan_text}
use Rattle.move_core.specs.declared.moves.Move.{Move}
use Rattle.move_core.specs.declared.settings.Settings.{Settings}
use Rattle.change_apply.specs.Change.{Change}
use Rattle.gcu_words.specs.Targets.{Target, patched, replaced, resumed, rolled_back}
use Rattle.gcu_output.specs.Lines.{last_line}
use Rattle.gcu_output.specs.Printing.{IsSaid, LeftInText}
use Rattle.gcu_output.specs.declared.outcomes.Outcome.{Outcome}
use Rattle.gcu_output.specs.declared.outcomes.Outcome.TheVariants.{Memory, InputFault, DiskFault, Unorderable, Budget}
use Rattle.gcu_inputs.specs.Asking.{Asking}
use Rattle.gcu_inputs.specs.IntentAsked.{gate_asked, uninterrupted}
use Rattle.gcu_inputs.specs.Preparing.{Finds, Found, Refuses}
use Rattle.gcu_words.specs.Tasks.{Task, reach, run_script}
use Rattle.gcu_requests.specs.PlanAsked.{planning_asked}
use Rattle.gcu_requests.specs.ReadPlannings.{planning_of}
use Rattle.gcu_requests.specs.ReadScripts.{operating_of}
use Rattle.gcu_requests.specs.Request.{Operating, Planning, Request, Work, operated, planned}
use Rattle.gcu_requests.specs.SessionsAsked.{operating_asked}
use Rattle.gcu_requests.specs.WorkAsked.{settled_asked, work_asked}
use Rattle.gcu_requests.specs.declared.session_preparing.Operating as scripts
use Rattle.gcu_requests.specs.declared.planning.Planning as code
use Rattle.command_answers.specs.Answers.{HasCause, Says}
use Rattle.command_answers.specs.Commands.{AnswersTo, IsReady}
use Rattle.command_answers.specs.Crashes.{IsOutputFront}
use Rattle.command_answers.specs.Commands.{LeftToChange, LeftToEarly}
use Rattle.writing_commands.specs.Doing.{ClosesAs, IsKept, IsMissed, IsPrepared, IsReadyIn, IsReadyRun, LeavesSettled, LeftDoing, change_by, is_over}
use Rattle.command_answers.specs.PlanCommands.{IsSolved, RefusesOrEnds}
use Rattle.command_answers.specs.Plannings.{IsPlanFor}
use Rattle.writing_commands.specs.declared.changing.ReadyChange.{ReadyChange}
use Rattle.gcu_output.proofs.Elapsing.{elapses_both}
use Rattle.gcu_inputs.proofs.Finding.{first_refused}
use Rattle.writing_commands.proofs.Abandoning.{stopped_some}
use Rattle.command_answers.proofs.Causes.{rose_from}
use Rattle.writing_commands.proofs.Changes.{KeepsPoints, change_for, commits_for, doing_left, early_changes, early_left, missed_before, missed_says, part_left, ready_before, refused_missed, settled_early, solved_missed}
use Rattle.command_answers.proofs.Elapsing.{memory_front, said_front}
use Rattle.writing_commands.proofs.Writing.{ready_printed}

-- ---- while a line is printed

-- a question that is refused of what is there
says_ready : (asking : State → Asking Request) (o : Option State) (e : Outcome)
    → IfSome o (λ s. Says (asking s) s s e (last_line e)) → IsReady asking o o e
says_ready asking None e says = refl
says_ready asking (Some s) e says = (s, refl, says, refl)

module _ (asking : State → Asking Request) where
  -- with a front that is printed
  kept_left : (s : State) (told : Option State) (part : List ℕ) (left : Left) → IsKept (Some s) told
      → IsOutputFront (asking s) s part → MayLeaveNow (option_map (printed part) told) left
      → LeftToEarly asking (Some s) left
  kept_left s told part left (inl same) front may =
      (part, inl front, subst (λ t. MayLeaveNow (option_map (printed part) t) left) same may)
  kept_left s told part left (inr is) front may =
      (part, inl front, part_left s part left (subst (λ t. MayLeaveNow (option_map (printed part) t) left) is may))

  -- what a crash leaves meanwhile
  line_left : (o told : Option State) (e : Outcome) (left : Left) → IsReady asking o told e → IsKept o told
      → LeftInText (last_line e) told left → LeftToEarly asking o left
  line_left None told e left ready kept h = tt
  line_left (Some s) told e left (now, is, says, same) kept (inl (part, rest, line, may)) =
      kept_left s told part left kept (said_front (asking s) s now e (last_line e) part rest says same line) may
  line_left (Some s) told e left ready kept (inr (part, rest, line, may)) =
      kept_left s told part left kept (memory_front (asking s) s part rest line) may

  module _ {H : Type 0} (moment : H → ℕ) (left_since : H → ℕ → Left → Type 0) where
    pub line_leaves : (o told : Option State) (e : Outcome) (old mid new : H) → IsReady asking o told e → IsKept o told
        → LeavesOnly moment left_since old mid (LeftToEarly asking o)
        → Elapses moment left_since mid new (LeftInText (last_line e) told)
        → LeavesOnly moment left_since old new (LeftToEarly asking o)
    line_leaves o told e old mid new ready kept so_far time =
        runs.goes_on moment left_since old mid new (LeftToEarly asking o) (LeftInText (last_line e) told) so_far time
        (λ left h. line_left o told e left ready kept h)

    -- nothing is left yet but what was there
    begins_early : (o : Option State) (old : H)
        → ((left : Left) → left_since old (moment old) left → MayLeaveNow o left)
        → LeavesOnly moment left_since old old (LeftToEarly asking o)
    begins_early o old now =
        runs.begins moment left_since old (LeftToEarly asking o)
        (λ left since. early_left asking o left (now left since))

    -- nothing is read, and a refusal of what is there is said
    pub refused_early : (o : Option State) (e : Outcome) (old new : H)
        → IfSome o (λ s. Says (asking s) s s e (last_line e))
        → ((left : Left) → left_since old (moment old) left → MayLeaveNow o left)
        → Elapses moment left_since old new (LeftInText (last_line e) o)
        → LeavesOnly moment left_since old new (LeftToEarly asking o)
    refused_early o e old new says now time =
        line_leaves o o e old old new (says_ready asking o e says) (inl refl) (begins_early o old now) time

    -- so it is of a change
    pub early_leaves : (o : Option State) (old new : H) → LeavesOnly moment left_since old new (LeftToEarly asking o)
        → LeavesOnly moment left_since old new (LeftToChange asking o)
    early_leaves o old new run =
        runs.weaker moment left_since old new (LeftToEarly asking o) (LeftToChange asking o) (early_changes asking o)
        run

-- ---- whether a change is under way

-- none is
open_none : (s : State) → (uninterrupted s).Gives (Ok tt) → get s.files intent_file ≡ None
open_none s (inl never) = absurd never
open_none s (inr (None, is, passes)) = let same : get s.files intent_file ≡ None = cc in same
open_none s (inr (Some bytes, is, passes)) = absurd cc

-- so it is closed, or none is there where there are no steps
gate_closes : (from : Target) (s : State) (what : Stored) (settings : Settings) (ms : List Move)
    → (gate_asked from s).Gives (Ok tt)
    → ClosesAs (is_over from ms) (change_by settings what ms) s.files
gate_closes (patched path) s what settings ms gate = inr (open_none s gate)
gate_closes (replaced path) s what settings ms gate = inr (open_none s gate)
gate_closes (rolled_back name) s what settings ms gate = inr (open_none s gate)
gate_closes resumed s what settings [] gate = (refl, stopped_some s gate)
gate_closes resumed s what settings (m ∷ ms) gate = let some : 0 < suc (length ms) = omega arith in inl some

gate_given : (from : Target) (budget : ℕ) (s : State) (p : Planning) → (planning_asked from budget s).Gives (Ok p)
    → (gate_asked from s).Gives (Ok tt)
gate_given from budget s p (inl never) = absurd never
gate_given from budget s p (inr (u, gate, needs)) = gate

-- so it is where a script runs
run_gate : (path : List ℕ) (budget : ℕ) (s : State) (p : Operating) → (operating_asked path budget s).Gives (Ok p)
    → (uninterrupted s).Gives (Ok tt)
run_gate path budget s p (inl never) = absurd never
run_gate path budget s p (inr (u, gate, needs)) = gate

-- ---- a plan, with nothing pending

module _ (from : Target) (budget : ℕ) where
  abbrev plan_needs : State → Asking Work
  plan_needs s = work_asked (reach from) budget s

  -- something is refused
  pub planning_missed : (o : Option State) (e : Outcome) (c d : Counts) → Refuses c d e → Finds {X = code.Planning} o
      planning_of (Err e) (planning_asked from budget)
      → IfSome o (λ s. IsPrepared (plan_needs s) s (Err e))
  planning_missed None e c d h f = tt
  planning_missed (Some s) e c d h f =
      let refused : Found (λ (p : code.Planning). planned (planning_of p)) (Err e) (plan_needs s) =
      first_refused planning_of (λ (p : code.Planning). planned (planning_of p)) e (planning_asked from budget s) _ f in
      refused_missed (plan_needs s) e c d h refused.gives refused.stands

  -- no plan is found
  pub plan_missed : (o : Option State) (p : code.Planning) (e : Outcome)
      → Finds o planning_of (Ok p) (planning_asked from budget) → IsSolved p (Err e)
      → IfSome o (λ s. IsPrepared (plan_needs s) s (Err e))
  plan_missed None p e f h = tt
  plan_missed (Some s) p e f h = solved_missed (plan_needs s) p e (inr (planning_of p, f.gives, refl)) h

  made_of : (s : State) (p : code.Planning) (ms : List Move) (r : Result ReadyChange Outcome)
      → (planning_asked from budget s).Gives (Ok (planning_of p)) → IsPlanFor (planning_of p) ms
      → StandsFor p.stored s.files → IfOk r (λ ready. ready.ready ≡ change_by p.ctx.settings p.stored ms)
      → IfOk r (λ ready. ready.text.items ≡ plan_text ms)
      → IfErr r (λ e. e ≡ Memory) → IfOk r (λ ready. ready.closes ≡ is_over from ms) → IsPrepared (plan_needs s) s r
  made_of s p ms (Ok ready) given plan stands is text none over =
      change_for (plan_needs s) s p ms ready (inr (planning_of p, given, refl)) plan stands is text
      (subst (λ b. ClosesAs b ready.ready s.files) (sym over)
      (subst (λ (c : Change). ClosesAs (is_over from ms) c s.files) (sym is)
      (gate_closes from s p.stored p.ctx.settings ms (gate_given from budget s (planning_of p) given))))
  made_of s p ms (Err e) given plan stands is text none over = subst (IsMissed (plan_needs s)) (sym none) (tt, tt)

  -- it is made ready, unless memory is wanting
  pub made_ready : (o : Option State) (p : code.Planning) (ms : List Move) (r : Result ReadyChange Outcome)
      → Finds o planning_of (Ok p) (planning_asked from budget) → IsPlanFor (planning_of p) ms
      → IfSome o (λ s. StandsFor p.stored s.files)
      → IfOk r (λ ready. ready.ready ≡ change_by p.ctx.settings p.stored ms)
      → IfOk r (λ ready. ready.text.items ≡ plan_text ms)
      → IfErr r (λ e. e ≡ Memory) → IfOk r (λ ready. ready.closes ≡ is_over from ms)
      → IfSome o (λ s. IsPrepared (plan_needs s) s r)
  made_ready None p ms r f plan stands is text none over = tt
  made_ready (Some s) p ms r f plan stands is text none over = made_of s p ms r f.gives plan stands is text none over

-- ---- a script, with nothing pending

module _ (path : List ℕ) (budget : ℕ) where
  abbrev run_needs : State → Asking Work
  run_needs s = work_asked (run_script path) budget s

  -- something is refused
  pub script_missed : (o : Option State) (e : Outcome) (c d : Counts) → Refuses c d e → Finds {X = scripts.Operating} o
      operating_of (Err e) (operating_asked path budget)
      → IfSome o (λ s. IsPrepared (run_needs s) s (Err e))
  script_missed None e c d h f = tt
  script_missed (Some s) e c d h f =
      let refused : Found (λ (p : scripts.Operating). operated (operating_of p)) (Err e) (run_needs s) =
      first_refused operating_of (λ (p : scripts.Operating). operated (operating_of p)) e
      (operating_asked path budget s) _ f in
      refused_missed (run_needs s) e c d h refused.gives refused.stands

  run_of : (s : State) (p : scripts.Operating) (r : Result ReadyChange Outcome)
      → (operating_asked path budget s).Gives (Ok (operating_of p)) → StandsFor p.stored s.files
      → IfOk r (IsReadyRun p) → IfErr r (λ e. e ≡ Memory) → IsPrepared (run_needs s) s r
  run_of s p (Ok ready) given stands is none =
      commits_for (run_needs s) s p ready (inr (operating_of p, given, refl)) stands is
      (open_none s (run_gate path budget s (operating_of p) given))
  run_of s p (Err e) given stands is none = subst (IsMissed (run_needs s)) (sym none) (tt, tt)

  -- its commits are made ready, unless memory is wanting
  pub run_ready : (o : Option State) (p : scripts.Operating) (r : Result ReadyChange Outcome)
      → Finds o operating_of (Ok p) (operating_asked path budget)
      → IfSome o (λ s. StandsFor p.stored s.files) → IfOk r (IsReadyRun p) → IfErr r (λ e. e ≡ Memory)
      → IfSome o (λ s. IsPrepared (run_needs s) s r)
  run_ready None p r f stands is none = tt
  run_ready (Some s) p r f stands is none = run_of s p r f.gives stands is none

-- ---- a task

-- what is settled stays so
settled_twice : (o told : Option State) → told ≡ option_map (with_pending settled) o
    → told ≡ option_map (with_pending settled) told
settled_twice None told is = is ∙ sym (ap (λ (p : Option State). option_map (with_pending settled) p) is)
settled_twice (Some s) told is = is ∙ sym (ap (λ (p : Option State). option_map (with_pending settled) p) is)

module _ (task : Task) (budget : ℕ) where
  abbrev needs : State → Asking Work
  needs s = work_asked task budget s

  -- ---- once all is settled

  pub ready_of : (r : Result ReadyChange Outcome) (o mid : Option State) → mid ≡ option_map (with_pending settled) o
      → IfSome mid (λ s. IsPrepared (needs s) s r)
      → IfOk r (λ ready. IfSome o (λ s. IsReadyIn (needs s) s ready))
  ready_of (Ok ready) None mid is h = tt
  ready_of (Ok ready) (Some s) mid is h =
      ready_before task budget s ready (subst (λ m. IfSome m (λ s. IsPrepared (needs s) s (Ok ready))) is h)
  ready_of (Err e) o mid is h = tt

  -- it is ready in what is there then
  pub ready_at : (r : Result ReadyChange Outcome) (mid new : Option State) → new ≡ mid
      → IfSome mid (λ s. IsPrepared (needs s) s r)
      → IfOk r (λ ready. IfSome new (λ s. IsReadyIn (needs s) s ready))
  ready_at (Ok ready) mid new same h =
      subst (λ (o : Option State). IfSome o (λ s. IsReadyIn (needs s) s ready)) (sym same) h
  ready_at (Err e) mid new same h = tt

  pub left_of : (r : Result ReadyChange Outcome) (o mid new : Option State) (c d : Counts)
      → mid ≡ option_map (with_pending settled) o → new ≡ mid
      → IfSome mid (λ s. IsPrepared (needs s) s r) → IfErr r (RefusesOrEnds c d)
      → IfErr r (IsReady (settled_asked task budget) o new)
  left_of (Ok ready) o mid new c d is same h ends = tt
  left_of (Err e) None mid new c d is same h ends = same ∙ is
  left_of (Err e) (Some s) mid new c d is same h ends =
      let missed = missed_before task budget s e (subst (λ m. IfSome m (λ s. IsPrepared (needs s) s (Err e))) is h) in
      (with_pending settled s, same ∙ is, missed_says task budget s e c d ends missed, refl)

  -- nothing could be settled
  pub unsettled_left : (o new : Option State) → new ≡ o → IsReady (settled_asked task budget) o new (DiskFault 0)
  unsettled_left None new same = same
  unsettled_left (Some s) new same = (s, same, (inl (inr refl), inl (refl, inl refl), refl), refl)

  -- want of memory in its place
  kept_memory : (o told : Option State) → IsKept o told → IsReady (settled_asked task budget) o told Memory
  kept_memory None told (inl same) = same
  kept_memory None told (inr is) = is
  kept_memory (Some s) told (inl same) = (s, same, (inl refl, refl), refl)
  kept_memory (Some s) told (inr is) = (with_pending settled s, is, (inr (inl (inl refl), refl), refl), refl)

  -- why there is no plan is said
  pub said_ready : (o told after : Option State) (old mid new : Counts) (e result : Outcome)
      → IsReady (settled_asked task budget) o told e → IsKept o told
      → IsSaid e (last_line e) told after mid new result → PrintMayRise mid new → HasCause old mid e
      → AnswersTo (settled_asked task budget) o after old new result
  said_ready o told after old mid new e result ready kept (inl said) rises cause =
      ready_printed (settled_asked task budget) o told after old mid new e result ready said rises cause
  said_ready o told after old mid new e result ready kept (inr said) rises cause =
      ready_printed (settled_asked task budget) o told after old mid new Memory result (kept_memory o told kept) said
      rises tt

  module _ {H : Type 0} (moment : H → ℕ) (left_since : H → ℕ → Left → Type 0) where
    -- nothing is settled
    pub unsettled_leaves : (o told : Option State) (old new : H) → told ≡ o
        → ((left : Left) → left_since old (moment old) left → MayLeaveNow o left)
        → Elapses moment left_since old new (MayLeaveNow told)
        → LeavesOnly moment left_since old new (LeftToEarly (settled_asked task budget) o)
    unsettled_leaves o told old new same now time =
        runs.goes_on moment left_since old old new (LeftToEarly (settled_asked task budget) o) (MayLeaveNow told)
        (begins_early (settled_asked task budget) moment left_since o old now) time
        (λ left may. early_left (settled_asked task budget) o left (subst (λ t. MayLeaveNow t left) same may))

    -- all is settled, and then read
    pub settled_leaves : (o told : Option State) (old mid new : H) → told ≡ option_map (with_pending settled) o
        → ((left : Left) → left_since old (moment old) left → MayLeaveNow o left)
        → Elapses moment left_since old mid (MayLeaveNow told) → Elapses moment left_since mid new (MayLeaveNow told)
        → LeavesOnly moment left_since old new (LeftToEarly (settled_asked task budget) o)
    settled_leaves o told old mid new is now first second =
        runs.goes_on moment left_since old old new (LeftToEarly (settled_asked task budget) o) (MayLeaveNow told)
        (begins_early (settled_asked task budget) moment left_since o old now)
        (elapses_both moment left_since old mid new (MayLeaveNow told) first second)
        (λ left may. settled_early (settled_asked task budget) o told is left may)

    -- the change is done
    pub change_leaves : KeepsPoints → (o told : Option State) (ready : ReadyChange) (old mid new : H)
        → IfSome o (λ s. IsReadyIn (needs s) s ready) → told ≡ option_map (with_pending settled) o
        → LeavesOnly moment left_since old mid (LeftToEarly (settled_asked task budget) o)
        → IfSome told (λ s. LeavesOnly moment left_since mid new (LeftDoing ready.text.items ready.ready s))
        → moment mid ≤ moment new → LeavesOnly moment left_since old new (LeftToChange (settled_asked task budget) o)
    change_leaves law None told ready old mid new in_it is so_far does later =
        record {
          later = omega (arith, so_far.later, later);
          each = λ left since. tt;
          before
              = λ t left le since. inr tt;
        }
    change_leaves law (Some s) told ready old mid new in_it is so_far does later =
        runs.joins moment left_since old mid new (LeftToChange (settled_asked task budget) (Some s))
        (early_leaves (settled_asked task budget) moment left_since (Some s) old mid so_far)
        (runs.weaker moment left_since mid new (LeftDoing ready.text.items ready.ready (with_pending settled s))
        (LeftToChange (settled_asked task budget) (Some s))
        (λ left h. doing_left task budget law (Some s) (Some (with_pending settled s)) ready in_it refl left h)
        (subst (λ t. IfSome t (λ s. LeavesOnly moment left_since mid new (LeftDoing ready.text.items ready.ready s)))
        is does))

    -- of the same host with nothing pending
    pub change_settles : KeepsPoints → (o told : Option State) (ready : ReadyChange) (old mid new : H)
        → IfSome told (λ s. IsReadyIn (needs s) s ready) → told ≡ option_map (with_pending settled) o
        → Elapses moment left_since old mid (MayLeaveNow told)
        → ((left : Left) → left_since mid (moment mid) left → MayLeaveNow told left)
        → IfSome told (λ s. LeavesOnly moment left_since mid new (LeftDoing ready.text.items ready.ready s))
        → moment mid ≤ moment new
        → LeavesSettled moment left_since old new o (LeftToChange (settled_asked task budget))
    change_settles law o told ready old mid new in_it is time now does later t left early since =
        by (run.before t left (omega (arith, early, time.later)) since)
      where
        run : LeavesOnly moment left_since mid new (LeftToChange (settled_asked task budget) told)
        run =
            change_leaves law told told ready mid mid new in_it (settled_twice o told is)
            (begins_early (settled_asked task budget) moment left_since told mid now) does later

        here : LeftToChange (settled_asked task budget) told left
            → LeftToChange (settled_asked task budget) (option_map (with_pending settled) o) left
        here h = subst (λ (p : Option State). LeftToChange (settled_asked task budget) p left) is h

        first : left_since old t left ⊎ MayLeaveNow told left → left_since old t left
            ⊎ LeftToChange (settled_asked task budget) (option_map (with_pending settled) o) left
        first (inl before) = inl before
        first (inr may) =
            inr (here (early_changes (settled_asked task budget) told left
            (early_left (settled_asked task budget) told left may)))

        by : left_since mid t left ⊎ LeftToChange (settled_asked task budget) told left
            → left_since old t left ⊎ LeftToChange (settled_asked task budget) (option_map (with_pending settled) o)
            left
        by (inl before) = first (time.nothing_else t left early before)
        by (inr done) = inr (here done)

-- ---- what doing it needs

pub settled_now : (o told : Option State) → told ≡ option_map (with_pending settled) o → IfSome told IsSettled
settled_now None told is = subst (λ t. IfSome t IsSettled) (sym is) tt
settled_now (Some s) told is = subst (λ t. IfSome t IsSettled) (sym is) refl

pub stands_now : (task : Task) (budget : ℕ) (o told : Option State) (ready : ReadyChange)
    → IfSome o (λ s. IsReadyIn (work_asked task budget s) s ready)
    → told ≡ option_map (with_pending settled) o → IfSome told (λ s. StandsFor ready.ready.stored s.files)
stands_now task budget None told ready in_it is =
    subst (λ t. IfSome t (λ s. StandsFor ready.ready.stored s.files)) (sym is) tt
stands_now task budget (Some s) told ready in_it is =
    subst (λ t. IfSome t (λ s. StandsFor ready.ready.stored s.files)) (sym is) in_it.2.stands

pub closes_now : (task : Task) (budget : ℕ) (o told : Option State) (ready : ReadyChange)
    → IfSome o (λ s. IsReadyIn (work_asked task budget s) s ready)
    → told ≡ option_map (with_pending settled) o → IfSome told (λ s. ClosesAs ready.closes ready.ready s.files)
closes_now task budget None told ready in_it is =
    subst (λ t. IfSome t (λ s. ClosesAs ready.closes ready.ready s.files)) (sym is) tt
closes_now task budget (Some s) told ready in_it is =
    subst (λ t. IfSome t (λ s. ClosesAs ready.closes ready.ready s.files)) (sym is) in_it.3

-- ---- of each result

pub of_ok : {X : Type 0} (r : Result X Outcome) (P : Type 0) → P → IfOk r (λ x. P)
of_ok (Ok x) P h = h
of_ok (Err e) P h = tt

pub of_err : {X : Type 0} (r : Result X Outcome) (P : Type 0) → P → IfErr r (λ e. P)
of_err (Ok x) P h = tt
of_err (Err e) P h = h

-- the cause of a refusal is one since before
ends_one : (old mid new : Counts) (e : Outcome) → NoneFell old mid → RefusesOrEnds mid new e → RefusesOrEnds old new e
ends_one old mid new Unorderable fell h = tt
ends_one old mid new (Budget n) fell h = tt
ends_one old mid new InputFault fell h = rose_from old.input mid.input new.input fell.input h
ends_one old mid new (DiskFault step) fell h = (h.0, rose_from old.disk mid.disk new.disk fell.disk h.1)
ends_one old mid new other fell h = h

pub ends_before : {X : Type 0} (old mid new : Counts) (r : Result X Outcome) → NoneFell old mid
    → IfErr r (RefusesOrEnds mid new) → IfErr r (RefusesOrEnds old new)
ends_before old mid new (Ok x) fell h = tt
ends_before old mid new (Err e) fell h = ends_one old mid new e fell h

-- want of memory is one
pub memory_ends : {X : Type 0} (old new : Counts) (r : Result X Outcome) → IfErr r (λ e. e ≡ Memory)
    → IfErr r (RefusesOrEnds old new)
memory_ends old new (Ok x) h = tt
memory_ends old new (Err e) h = subst (RefusesOrEnds old new) (sym h) tt
