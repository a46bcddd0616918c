-- A change without steps that closes one that was stopped.
use Rattle.std.proofs.Common.{◌≡◌, ◌<◌, inl, inr, ℕ, suc, List, length, [], ◌∷◌, ◌++◌, true, false, append-nil, refl, sym, ap, ◌∙◌, subst, arith, Option, Some, None, Result, Ok, IfSome, option_map}
use Rattle.std.specs.FinMap.{get}
use Rattle.host_core.specs.Counts.{Counts, NoneFell, Rose}
use Rattle.host_core.specs.Crashes.{Elapses, Left, LeavesOnly, MayLeaveInPrint}
use Rattle.host_core.specs.State.{CanMove, Files, State, printed, settled, with_file}
use Rattle.host_core.proofs.Runs as runs
use Rattle.conf_doc.specs.declared.configuration.Config.{Config}
use Rattle.conf_store.specs.Changes.{AreLeft, Changes, IsSettled, Leads, Settles}
use Rattle.conf_store.specs.Files.{config_file, intent_file, scratch}
use Rattle.conf_store.specs.Folds.{StandsFor}
use Rattle.conf_store.specs.Stored.{stored}
use Rattle.conf_store.proofs.FileMaps.{get_there}
use Rattle.move_core.specs.Plans.{conf}
use Rattle.move_core.specs.declared.moves.Move.{Move}
use Rattle.change_apply.specs.Acknowledgements.{ack, acks}
use Rattle.change_apply.specs.Change.{Change, conf_at, restarted, restarts_at, steps}
use Rattle.change_apply.specs.Crashes.{IsLeft}
use Rattle.change_apply.specs.Ends.{IsStopped}
use Rattle.change_apply.specs.Intents.{IsClosed, IsClosedOrNot, KeepsIntent}
use Rattle.gcu_output.specs.Lines.{last_line}
use Rattle.gcu_output.specs.declared.outcomes.Outcome.{Outcome}
use Rattle.gcu_output.specs.declared.outcomes.Outcome.TheVariants.{DiskFault}
use Rattle.command_answers.specs.Changing.{IsBegun, IsLast, closed}
use Rattle.command_answers.specs.Crashes.{LeftChanged, LeftSince}
use Rattle.writing_commands.specs.FaultLines.{line_at}
use Rattle.writing_commands.specs.Doing.{ClosesAs, EndsFrom, EndsWork, HasBytes, IsEnded}
use Rattle.writing_commands.specs.declared.changing.ReadyChange.{ReadyChange}
use Rattle.writing_commands.proofs.Changes.{work_since}
use Rattle.writing_commands.proofs.IntentRemovals.{closed_stands}
use Rattle.writing_commands.proofs.FaultTexts.{disk_there}

-- the line of a fault before the first step
pub first_line : (ready : ReadyChange) → HasBytes ready → line_at ready.lines.disk 0 ≡ last_line (DiskFault 0)
first_line ready bytes =
    ap (λ (ls : List (List ℕ)). line_at ls 0) bytes.lines_are.disk
    ∙ disk_there (suc (length ready.ready.restarts)) 0
    (let one : 0 < suc (length ready.ready.restarts) = omega arith in one)

-- no move is done
pub at_first : (x : Config) (ms : List Move) → conf x ms 0 ≡ x
at_first x [] = refl
at_first x (m ∷ ms) = refl

-- ---- what is closed

module _ (c : Change) where
  -- it is there, and nothing is pending
  pub can_close : (o : Option State) → IfSome o IsSettled → IfSome o (λ s. ClosesAs true c s.files)
      → IfSome o (CanMove intent_file)
  can_close None clean over = tt
  can_close (Some s) clean over = (clean, over.1)

  closed_is : (o n : Option State) → Settles IsClosed o n → n ≡ option_map closed o
  closed_is None n h = h
  closed_is (Some s) n h = h.1 ∙ ap (λ (f : Files). Some (record s { files = f; pending = settled })) h.2

  pub closed_clean : (o n : Option State) → Settles IsClosed o n → IfSome n IsSettled
  closed_clean None n h = subst (λ m. IfSome m IsSettled) (sym h) tt
  closed_clean (Some s) n h = subst (λ m. IfSome m IsSettled) (sym (closed_is (Some s) n h)) refl

  pub closed_stands_for : (o n : Option State) → Settles IsClosed o n → IfSome o (λ s. StandsFor c.stored s.files)
      → IfSome n (λ s. StandsFor c.stored s.files)
  closed_stands_for None n h stands = subst (λ m. IfSome m (λ s. StandsFor c.stored s.files)) (sym h) tt
  closed_stands_for (Some s) n h stands =
      subst (λ m. IfSome m (λ t. StandsFor c.stored t.files)) (sym (closed_is (Some s) n h))
      (closed_stands c.stored s.files stands)

  pub closed_gone : (o n : Option State) → Settles IsClosed o n → IfSome n (λ s. ClosesAs false c s.files)
  closed_gone None n h = subst (λ m. IfSome m (λ s. ClosesAs false c s.files)) (sym h) tt
  closed_gone (Some s) n h =
      subst (λ m. IfSome m (λ t. ClosesAs false c t.files)) (sym (closed_is (Some s) n h))
      (inr (get_there intent_file None s.files))

  -- ---- before the first step

  stands_first : (s : State) → StandsFor c.stored s.files → stored s.files ≡ Ok (conf_at c 0)
  stands_first s stands = stands.config ∙ ap (λ (x : Config). Ok x) (sym (at_first c.stored.config c.moves))

  same_config : {E : Type 0} (r : Result Config E) (a b : Config) → r ≡ Ok a → r ≡ Ok b → a ≡ b
  same_config r a b e f = let both : Ok a ≡ Ok b = sym e ∙ f in cc

  kept_first : (s : State) → StandsFor c.stored s.files → (g : Files) → g ≡ s.files → KeepsIntent c 0 s.files g
  kept_first s stands g same = record {
    is = inl (refl, ap (with_file scratch None) same);
    under_way = λ one less. absurd (omega (arith, one));
    between =
        λ config stood first which. absurd (first (same_config (stored g) config (conf_at c 0) stood (ap stored same ∙ stands_first s stands)));
  }

  -- nothing of it is done
  left_first : (s : State) → StandsFor c.stored s.files → (left : Left) → left.files ≡ s.files → left.output ≡ s.output
      → left.restarts ≡ s.restarts
      → IsLeft c s left
  left_first s stands left files output restarts = record {
    done = 0;
    within = omega arith;
    output =
        record { part = []; rest = ack 1; line = refl; cut = λ e. absurd cc; printed = output ∙ sym (append-nil s.output) ∙ sym (append-nil (s.output ++ acks 0)) };
    unfinished = λ some. absurd (some refl);
    stands = inl (ap stored files ∙ stands_first s stands);
    started = [];
    due = restarts_at c 0;
    next = refl;
    restarts = restarts ∙ sym (append-nil s.restarts) ∙ sym (append-nil (s.restarts ++ restarted c 0));
    in_order = inl refl;
    others = λ q other apart. ap (λ (m : Files). get m q) files;
    intent = kept_first s stands left.files files;
    small = λ one less. absurd (omega (arith, one));
    kept = λ less nothing. ap (λ (m : Files). get m config_file) files;
  }

  stopped_first : (s t : State) → StandsFor c.stored s.files → t.files ≡ s.files → t.inputs ≡ s.inputs
      → t.output ≡ s.output → t.restarts ≡ s.restarts
      → IsStopped c 0 [] [] s t
  stopped_first s t stands files inputs output restarts = record {
    within = omega arith;
    inputs = inputs;
    output = output ∙ sym (append-nil s.output) ∙ sym (append-nil (s.output ++ acks 0));
    restarts = restarts ∙ sym (append-nil s.restarts) ∙ sym (append-nil (s.restarts ++ restarted c 0));
    stands = inl (ap stored files ∙ stands_first s stands);
    intent = kept_first s stands t.files files;
    others = λ q other apart. ap (λ (m : Files). get m q) files;
    kept = λ less nothing. ap (λ (m : Files). get m config_file) files;
  }

  -- ---- while it is closed

  module _ (s : State) (none : steps c ≡ 0) (stands : StandsFor c.stored s.files) where
    -- the beginning that has those files
    abbrev from_files : Files → State
    from_files f = record s { files = f; pending = settled }

    is_begun : IsSettled s → (f : Files) → IsClosedOrNot s.files f → IsBegun c s (from_files f)
    is_begun clean f (inl same) = inl (λ i. record s { files = same i; pending = sym clean i })
    is_begun clean f (inr is) = inr (none, ap from_files is)

    stands_at : (f : Files) → IsClosedOrNot s.files f → StandsFor c.stored f
    stands_at f (inl same) = subst (StandsFor c.stored) (sym same) stands
    stands_at f (inr is) = subst (StandsFor c.stored) (sym is) (closed_stands c.stored s.files stands)

    closing_since : (left : Left) (out : List ℕ) → IsClosedOrNot s.files left.files → out ≡ s.output
        → left.restarts ≡ s.restarts
        → IsLeft c (from_files left.files) (record left { output = out })
    closing_since left out files output restarts =
        left_first (from_files left.files) (stands_at left.files files) (record left { output = out }) refl output
        restarts

    -- before its line is printed
    closing_left : IsSettled s → (left : Left) → AreLeft IsClosedOrNot s left → LeftChanged c s left
    closing_left clean left h =
        let begins = is_begun clean left.files h.files in (
          from_files left.files,
          from_files left.files,
          begins,
          begins,
          inl (left_first (from_files left.files) (stands_at left.files h.files) left refl h.output h.restarts),
        )

    -- the line of a fault
    fault_last : (t : State) → Leads IsClosedOrNot s t → (line : List ℕ) → line ≡ last_line (DiskFault 0)
        → IsLast c (from_files t.files) t (DiskFault 0) line
    fault_last t leads line is =
        (stopped_first (from_files t.files) t (stands_at t.files leads.reads) refl leads.inputs leads.output leads.restarts, is)

    -- while it is printed
    fault_left : IsSettled s → (t : State) → Leads IsClosedOrNot s t → (line : List ℕ) → line ≡ last_line (DiskFault 0)
        → (left : Left) → MayLeaveInPrint line (Some t) left → LeftChanged c s left
    fault_left clean t leads line is left (part, rest, text, may) =
        let files : IsClosedOrNot s.files left.files = leads.images left.files may.files in (
          from_files t.files,
          from_files left.files,
          is_begun clean t.files leads.reads,
          is_begun clean left.files files,
          inr (record {
            now = t;
            answer = DiskFault 0;
            part = part;
            rest = rest;
            line =
                subst (λ (l : List ℕ). IsLast c (from_files t.files) t (DiskFault 0) l) text
                (fault_last t leads line is);
            output = may.output ∙ ap (λ (o : List ℕ). o ++ part) (leads.output ∙ sym (append-nil s.output));
            is = closing_since left (s.output ++ acks 0) files (append-nil s.output) (may.restarts ∙ leads.restarts);
          }),
        )

    -- ---- what is answered

    fault_ends : IsSettled s
        → (t : State) (after : Option State) (old mid new : Counts) (result : Outcome) (line : List ℕ)
        → line ≡ last_line (DiskFault 0)
        → Leads IsClosedOrNot s t → Rose old.disk new.disk → IsEnded (DiskFault 0) line 0 (Some t) after mid new result
        → EndsFrom c (Some s) after old new result
    fault_ends clean t after old mid new result line is leads rose (inl (same, told)) = (
      from_files t.files,
      is_begun clean t.files leads.reads,
      inl (t, line, subst (λ (e : Outcome). IsLast c (from_files t.files) t e line) (sym same) (fault_last t leads line is), told),
    )
    fault_ends clean t after old mid new result line is leads rose (inr (same, (part, rest, text, told), printing)) = (
      from_files t.files,
      is_begun clean t.files leads.reads,
      inr (inl (
        t,
        DiskFault 0,
        part,
        rest,
        subst (λ (l : List ℕ). IsLast c (from_files t.files) t (DiskFault 0) l) text (fault_last t leads line is),
        rose,
        same,
        told,
      )),
    )

  -- ---- of a host that may not tell its state

  -- it is closed, and the change then ends
  pub closed_ends : (o n after : Option State) (old mid new : Counts) (result : Outcome)
      → IfSome o (λ s. ClosesAs true c s.files) → Settles IsClosed o n
      → NoneFell old mid → EndsWork c n after mid new result → EndsFrom c o after old new result
  closed_ends None n after old mid new result over is fell h = subst (λ m. EndsWork c m after mid new result) is h
  closed_ends (Some s) n after old mid new result over is fell h = (
    closed s,
    inr (over.0, refl),
    work_since c (Some (closed s)) after old mid new result fell
        (subst (λ m. EndsWork c m after mid new result) (closed_is (Some s) n is) h),
  )

  -- a fault of the disk stopped it
  pub closing_fault : (o n after : Option State) (old mid new : Counts) (result : Outcome) (line : List ℕ)
      → line ≡ last_line (DiskFault 0)
      → IfSome o IsSettled → IfSome o (λ s. StandsFor c.stored s.files) → IfSome o (λ s. ClosesAs true c s.files)
      → Changes IsClosedOrNot o n
      → Rose old.disk new.disk → IsEnded (DiskFault 0) line 0 n after mid new result → EndsFrom c o after old new result
  closing_fault None n after old mid new result line is clean stands over changes rose (inl whole) =
      whole.1 ∙ ap (option_map (printed line)) changes
  closing_fault None n after old mid new result line is clean stands over changes rose (inr part) =
      part.1.3 ∙ ap (option_map (printed part.1.0)) changes
  closing_fault (Some s) n after old mid new result line is clean stands over changes rose ended =
      fault_ends s over.0 stands clean changes.0 after old mid new result line is changes.2 rose
      (subst (λ m. IsEnded (DiskFault 0) line 0 m after mid new result) changes.1 ended)

  -- without it all begins where it was told
  pub opened_ends : (o after : Option State) (old new : Counts) (result : Outcome) → EndsWork c o after old new result
      → EndsFrom c o after old new result
  opened_ends None after old new result h = h
  opened_ends (Some s) after old new result h = (s, inl refl, h)

  module _ {H : Type 0} (moment : H → ℕ) (left_since : H → ℕ → Left → Type 0) where
    pub opened_leaves : (o : Option State) (old new : H)
        → IfSome o (λ s. LeavesOnly moment left_since old new (LeftSince c s s))
        → IfSome o (λ s. LeavesOnly moment left_since old new (LeftChanged c s))
    opened_leaves None old new run = tt
    opened_leaves (Some s) old new run =
        runs.weaker moment left_since old new (LeftSince c s s) (LeftChanged c s)
        (λ left h. (s, s, inl refl, inl refl, h)) run

    while_closing : (s : State) → IsSettled s → StandsFor c.stored s.files → ClosesAs true c s.files → (old mid : H)
        → LeavesOnly moment left_since old mid (AreLeft IsClosedOrNot s)
        → LeavesOnly moment left_since old mid (LeftChanged c s)
    while_closing s clean stands over old mid run =
        runs.weaker moment left_since old mid (AreLeft IsClosedOrNot s) (LeftChanged c s)
        (λ left h. closing_left s over.0 stands clean left h) run

    pub closed_leaves : (o n : Option State) (old mid new : H) → IfSome o IsSettled
        → IfSome o (λ s. StandsFor c.stored s.files) → IfSome o (λ s. ClosesAs true c s.files)
        → Settles IsClosed o n → IfSome o (λ s. LeavesOnly moment left_since old mid (AreLeft IsClosedOrNot s))
        → IfSome n (λ s. LeavesOnly moment left_since mid new (LeftSince c s s))
        → IfSome o (λ s. LeavesOnly moment left_since old new (LeftChanged c s))
    closed_leaves None n old mid new clean stands over is first second = tt
    closed_leaves (Some s) n old mid new clean stands over is first second =
        runs.joins moment left_since old mid new (LeftChanged c s) (while_closing s clean stands over old mid first)
        (runs.weaker moment left_since mid new (LeftSince c (closed s) (closed s)) (LeftChanged c s)
        (λ left h. (closed s, closed s, inr (over.0, refl), inr (over.0, refl), h))
        (subst (λ m. IfSome m (λ t. LeavesOnly moment left_since mid new (LeftSince c t t))) (closed_is (Some s) n is) second))

    pub fault_leaves : (o n : Option State) (line : List ℕ) (old mid new : H) → line ≡ last_line (DiskFault 0)
        → IfSome o IsSettled → IfSome o (λ s. StandsFor c.stored s.files) → IfSome o (λ s. ClosesAs true c s.files)
        → Changes IsClosedOrNot o n
        → IfSome o (λ s. LeavesOnly moment left_since old mid (AreLeft IsClosedOrNot s))
        → Elapses moment left_since mid new (MayLeaveInPrint line n)
        → IfSome o (λ s. LeavesOnly moment left_since old new (LeftChanged c s))
    fault_leaves None n line old mid new is clean stands over changes first second = tt
    fault_leaves (Some s) n line old mid new is clean stands over changes first second =
        runs.goes_on moment left_since old mid new (LeftChanged c s) (MayLeaveInPrint line (Some changes.0))
        (while_closing s clean stands over old mid first)
        (subst (λ m. Elapses moment left_since mid new (MayLeaveInPrint line m)) changes.1 second)
        (λ left h. fault_left s over.0 stands clean changes.0 changes.2 line is left h)
