-- A migration that is ready, and what is left of the command that does it.
use Rattle.std.proofs.Common.{◌≡◌, ◌⊎◌, ⊎_elim, inl, inr, ℕ, List, [], ◌++◌, All, length, ◌<◌, ◌≤◌, arith, append-nil, refl, sym, ap, ◌∙◌, subst, Option, Some, None, Result, Ok, Err, IfErr, IfOk, IfSome, option_map}
use Rattle.std.proofs.lemmas.List.{take_all}
use Rattle.std.proofs.lemmas.Option.{slice_get_within}
use Rattle.host_core.specs.Counts.{Counts, NoneFell}
use Rattle.host_core.specs.Crashes.{Left, LeavesOnly}
use Rattle.host_core.specs.State.{State, printed, settled, with_pending}
use Rattle.host_core.proofs.Runs as runs
use Rattle.checkpoints.specs.Migrations.{IsDue, NewFile}
use Rattle.checkpoints.specs.MigrationLines.{lines_text}
use Rattle.gcu_output.specs.declared.outcomes.Outcome.{Outcome}
use Rattle.gcu_output.specs.declared.outcomes.Outcome.TheVariants.{Done, Usage, InputFault, DiskFault, PrintFault, ServiceFault, Unorderable, Budget}
use Rattle.gcu_inputs.specs.Asking.{settles_first}
use Rattle.gcu_inputs.specs.Preparing.{Finds, Found, Refuses}
use Rattle.gcu_requests.specs.Asked.{migrate_asked, migration_asked, old_asked}
use Rattle.gcu_requests.specs.Request.{Request, migrate_checkpoints}
use Rattle.gcu_inputs.proofs.Finding.{then_found}
use Rattle.command_answers.specs.Answers.{Leaves, Prints, Says}
use Rattle.command_answers.specs.Commands.{AnswersTo, IsReady, LeftTo, LeftToMigration}
use Rattle.command_answers.specs.Migrating.{AreTold, LeftMigrating}
use Rattle.writing_commands.specs.Doing.{LeavesSettled, SettlesWriting}
use Rattle.writing_commands.specs.MigrationEnds.{EndsMigration, IsCutLast, IsCutLine, IsLastOf, IsSaidLast, told_before}
use Rattle.writing_commands.specs.declared.migrating.ReadyMigration.{ReadyMigration}
use Rattle.command_answers.proofs.Answering.{says_prints}
use Rattle.command_answers.proofs.Causes.{rose_from}
use Rattle.writing_commands.proofs.Changes.{cause_from}
use Rattle.writing_commands.proofs.MigrationEnding.{ones_output}
use Rattle.writing_commands.proofs.Writing.{FindsUnit, ready_before, ready_settled}

-- ---- what is made ready

-- the migration of a command that is ready
abbrev pub of_ready : ReadyMigration → Request
of_ready r = migrate_checkpoints r.migration

-- what is found of the checkpoints, with the lines
pub found_ready : (o : Option State) (m : List NewFile) (r : ReadyMigration) → r.migration ≡ m
    → Finds {X = List NewFile} o migrate_checkpoints (Ok m) old_asked → Finds o of_ready (Ok r) old_asked
found_ready None m r is found = tt
found_ready (Some s) m r is found =
    record { gives = subst (λ n. (old_asked s).Gives (Ok (migrate_checkpoints n))) (sym is) found.gives; stands = tt }

-- what is refused of them
pub refused_ready : (o : Option State) (e : Outcome) → Finds {X = List NewFile} o migrate_checkpoints (Err e) old_asked
    → Finds {X = ReadyMigration} o of_ready (Err e) old_asked
refused_ready None e found = tt
refused_ready (Some s) e found = record { gives = found.gives; stands = found.stands }

-- ---- once all is settled

-- what is pending tells nothing of the checkpoints
settled_found : (s : State) (r : Result ReadyMigration Outcome)
    → Found of_ready r (migration_asked (with_pending settled s)) → Found of_ready r (migrate_asked s)
settled_found s r there =
    then_found (λ u. u) of_ready tt r settles_first (λ _. migration_asked s) (record { gives = refl; stands = tt })
    there

pub gives_ready : (o mid : Option State) (r : Result ReadyMigration Outcome) → mid ≡ option_map (with_pending settled) o
    → Finds mid of_ready r migration_asked
    → IfOk r (λ x. IfSome o (λ s. (migrate_asked s).Gives (Ok (of_ready x))))
gives_ready None mid (Ok x) is found = tt
gives_ready (Some s) mid (Ok x) is found =
    (settled_found s (Ok x) (subst (λ m. Finds m of_ready (Ok x) migration_asked) is found)).gives
gives_ready o mid (Err e) is found = tt

-- each may be put afterwards
pub due_ready : (mid new : Option State) (r : Result ReadyMigration Outcome) → new ≡ mid
    → IfOk r (λ x. IfSome mid (λ s. All (λ n. IsDue n s.files) x.migration))
    → IfOk r (λ x. IfSome new (λ s. All (λ n. IsDue n s.files) x.migration))
due_ready mid new r same due =
    subst (λ t. IfOk r (λ x. IfSome t (λ s. All (λ n. IsDue n s.files) x.migration))) (sym same) due

-- or a refusal is left to be told
pub left_ready : (o mid new : Option State) (r : Result ReadyMigration Outcome) (c d : Counts)
    → mid ≡ option_map (with_pending settled) o → new ≡ mid
    → Finds mid of_ready r migration_asked → IfErr r (Refuses c d) → IfErr r (IsReady migrate_asked o new)
left_ready o mid new (Ok x) c d is same found refuses = tt
left_ready None mid new (Err e) c d is same found refuses = same ∙ is
left_ready (Some s) mid new (Err e) c d is same found refuses =
    let there = settled_found s (Err e) (subst (λ m. Finds m of_ready (Err e) migration_asked) is found) in
    ready_settled migrate_asked (Some s) new e c d (migrate_checkpoints []) (same ∙ is) refuses (inl (inl refl))
    (record { gives = there.gives; stands = there.stands })

-- nothing could be settled
pub unsettled_ready : (o new : Option State) (c d : Counts) → new ≡ o → Refuses c d (DiskFault 0)
    → IsReady migrate_asked o new (DiskFault 0)
unsettled_ready o new c d same refuses =
    ready_before migrate_asked o new (DiskFault 0) c d (migrate_checkpoints []) same refuses (fault_found o)
  where
    fault_found : (o : Option State) → FindsUnit o (migrate_checkpoints []) (Err (DiskFault 0)) migrate_asked
    fault_found None = tt
    fault_found (Some s) = record { gives = tt; stands = inl (inr refl) }

-- the cause of a refusal is one since before
refuses_since : (old mid new : Counts) (e : Outcome) → NoneFell old mid → Refuses mid new e → Refuses old new e
refuses_since old mid new Done fell never = absurd never
refuses_since old mid new Usage fell never = absurd never
refuses_since old mid new (PrintFault step) fell never = absurd never
refuses_since old mid new (ServiceFault step service) fell never = absurd never
refuses_since old mid new Unorderable fell never = absurd never
refuses_since old mid new (Budget n) fell never = absurd never
refuses_since old mid new InputFault fell h = rose_from old.input mid.input new.input fell.input h
refuses_since old mid new (DiskFault step) fell h = (h.0, rose_from old.disk mid.disk new.disk fell.disk h.1)
refuses_since old mid new other fell h = h

pub refused_since : {X : Type 0} (old mid new : Counts) (r : Result X Outcome) → NoneFell old mid
    → IfErr r (Refuses mid new) → IfErr r (Refuses old new)
refused_since old mid new (Ok x) fell h = tt
refused_since old mid new (Err e) fell h = refuses_since old mid new e fell h

-- ---- how it ends

module _ (s : State) (news : List NewFile) (given : (migrate_asked s).Gives (Ok (migrate_checkpoints news))) where
  abbrev began : State
  began = with_pending settled s

  last_says : (now : State) (answer : Outcome) (text : List ℕ) → IsLastOf news began now answer text
      → Says (migrate_asked s) s now answer text
  last_says now Done text h = (migrate_checkpoints news, given, h.0, h.1)
  last_says now (DiskFault k) text h = (inl (inr refl), inr (migrate_checkpoints news, given, h.0), h.1)
  last_says now other text never = absurd never

  -- so many lines are printed
  counted : (now : State) (answer : Outcome) (text : List ℕ) → IsLastOf news began now answer text
      → AreTold (migrate_asked s) (told_before news answer) s now
  counted now Done text h = (
    news,
    given,
    omega arith,
    ones_output news began now Done text h
        ∙ ap (λ (told : List NewFile). s.output ++ lines_text told) (sym (take_all (length news) news (omega arith))),
  )
  counted now (DiskFault k) text h =
      let within : k < length news = slice_get_within news k h.0.next h.0.is in
      (news, given, omega (arith, within), ones_output news began now (DiskFault k) text h)
  counted now other text never = absurd never

  module _ (old new : Counts) (after : Option State) (result : Outcome) where
    said_leaves : IsSaidLast news began after result → Leaves (migrate_asked s) s after old new result
    said_leaves h =
        (h.0, h.1, h.3, says_prints (migrate_asked s) s h.0 old new result h.1 (last_says h.0 result h.1 h.2))

    cut_leaves : IsCutLast news began after old new result → Leaves (migrate_asked s) s after old new result
    cut_leaves h =
        let says = last_says h.0 h.1 (h.2 ++ h.3) h.4 in
        (h.0, h.2, h.7, subst (λ x. Prints (migrate_asked s) s h.0 old new x h.2) (sym h.6) (inl (inr (counted h.0 h.1 (h.2 ++ h.3) h.4), (h.1, h.3, h.5, says))))

    line_leaves : IsCutLine news began after result → Leaves (migrate_asked s) s after old new result
    line_leaves h =
        let all : Some h.0 ≡ Some (printed [] h.0) = ap (λ (o : List ℕ). Some (record h.0 { output = o }))
        (sym (append-nil h.0.output)) in
        (h.0, [], h.4 ∙ all, subst (λ x. Prints (migrate_asked s) s h.0 old new x []) (sym h.3) (inr (inr (news, given, h.2, refl))))

    ends_leaves : EndsMigration news (Some began) after old new result → Leaves (migrate_asked s) s after old new result
    ends_leaves (inl h) = said_leaves h
    ends_leaves (inr (inl h)) = cut_leaves h
    ends_leaves (inr (inr h)) = line_leaves h

-- the causes of a print fault are some since before
ends_since : (news : List NewFile) (o after : Option State) (old mid new : Counts) (result : Outcome) → NoneFell old mid
    → EndsMigration news o after mid new result → EndsMigration news o after old new result
ends_since news None after old mid new result fell h = h
ends_since news (Some s) after old mid new result fell (inl h) = inl h
ends_since news (Some s) after old mid new result fell (inr (inl h)) =
    inr (inl (h.0, h.1, h.2, h.3, h.4, cause_from old mid new h.1 fell h.5, h.6, h.7))
ends_since news (Some s) after old mid new result fell (inr (inr h)) = inr (inr h)

-- what is done of a migration that is ready is answered
pub migration_answers : (o told after : Option State) (news : List NewFile) (old mid new : Counts) (result : Outcome)
    → IfSome o (λ s. (migrate_asked s).Gives (Ok (migrate_checkpoints news)))
    → told ≡ option_map (with_pending settled) o
    → EndsMigration news told after mid new result → NoneFell old mid → AnswersTo migrate_asked o after old new result
migration_answers None told after news old mid new result given is ends fell =
    subst (λ t. EndsMigration news t after mid new result) is ends
migration_answers (Some s) told after news old mid new result given is ends fell =
    ends_leaves s news given old new after result
    (ends_since news (Some (with_pending settled s)) after old mid new result fell (subst (λ t. EndsMigration news t after mid new result) is ends))

-- ---- what a crash leaves of it

module _ {H : Type 0} (moment : H → ℕ) (left_since : H → ℕ → Left → Type 0) where
  early : (o : Option State) (left : Left) → LeftTo migrate_asked o left → LeftToMigration migrate_asked o left
  early None left h = tt
  early (Some s) left h = inl h

  pub early_leaves : (o : Option State) (old new : H) → LeavesOnly moment left_since old new (LeftTo migrate_asked o)
      → LeavesOnly moment left_since old new (LeftToMigration migrate_asked o)
  early_leaves o old new run =
      runs.weaker moment left_since old new (LeftTo migrate_asked o) (LeftToMigration migrate_asked o) (early o) run

  pub migration_leaves : (o told : Option State) (news : List NewFile) (old mid new : H)
      → IfSome o (λ s. (migrate_asked s).Gives (Ok (migrate_checkpoints news)))
      → told ≡ option_map (with_pending settled) o → LeavesOnly moment left_since old mid (LeftTo migrate_asked o)
      → IfSome told (λ s. LeavesOnly moment left_since mid new (LeftMigrating news s)) → moment mid ≤ moment new
      → LeavesOnly moment left_since old new (LeftToMigration migrate_asked o)
  migration_leaves None told news old mid new given is so_far does later =
      record { later = omega (arith, so_far.later, later); each = λ left since. tt; before = λ t left le since. inr tt }
  migration_leaves (Some s) told news old mid new given is so_far does later =
      runs.joins moment left_since old mid new (LeftToMigration migrate_asked (Some s))
      (early_leaves (Some s) old mid so_far)
      (runs.weaker moment left_since mid new (LeftMigrating news (with_pending settled s)) (LeftToMigration migrate_asked (Some s))
      (λ left h. inr (news, given, h))
      (subst (λ t. IfSome t (λ s. LeavesOnly moment left_since mid new (LeftMigrating news s))) is does))

  -- and of the same host with nothing pending
  pub early_settles : (o : Option State) (old new : H)
      → SettlesWriting moment left_since old new o (LeftTo migrate_asked)
      → SettlesWriting moment left_since old new o (LeftToMigration migrate_asked)
  early_settles o old new (inl run) = inl run
  early_settles o old new (inr h) = inr (λ t left so_soon since.
      ⊎_elim (λ before. inl before) (λ l. inr (early (option_map (with_pending settled) o) left l)) (h t left so_soon since))

  pub migration_settles : (o told : Option State) (news : List NewFile) (old mid new : H)
      → IfSome o (λ s. (migrate_asked s).Gives (Ok (migrate_checkpoints news)))
      → told ≡ option_map (with_pending settled) o → LeavesSettled moment left_since old mid o (LeftTo migrate_asked)
      → IfSome told (λ s. LeavesOnly moment left_since mid new (LeftMigrating news s)) → moment old ≤ moment mid
      → LeavesSettled moment left_since old new o (LeftToMigration migrate_asked)
  migration_settles None told news old mid new given is so_far does later t left so_soon since = inr tt
  migration_settles (Some s) told news old mid new given is so_far does later t left so_soon since =
      by (run.before t left (omega (arith, so_soon, later)) since)
    where
      run : LeavesOnly moment left_since mid new (LeftMigrating news (with_pending settled s))
      run = subst (λ t. IfSome t (λ s. LeavesOnly moment left_since mid new (LeftMigrating news s))) is does

      by : left_since mid t left ⊎ LeftMigrating news (with_pending settled s) left
          → left_since old t left ⊎ LeftToMigration migrate_asked (Some (with_pending settled s)) left
      by (inl before) =
          ⊎_elim (λ was. inl was) (λ l. inr (early (Some (with_pending settled s)) left l)) (so_far t left so_soon before)
      by (inr h) = inr (inr (news, given, h))
