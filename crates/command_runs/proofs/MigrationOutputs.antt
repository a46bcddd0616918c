-- What a migration of checkpoints printed begins neither with a plan nor with what operators are told.
use Rattle.std.proofs.Common.{◌≡◌, inl, inr, ℕ, zero, suc, List, [], ◌∷◌, ◌++◌, true, take, slice_get, append-nil, append_assoc, Some, Ok, sym, ap, ◌∙◌, subst, arith}
use Rattle.std.specs.Prelude.{codes}
use Rattle.std.proofs.lemmas.List.{append_cancel_left}
use Rattle.host_core.specs.Counts.{Counts}
use Rattle.host_core.specs.State.{State, settled, with_pending}
use Rattle.checkpoints.specs.Migrations.{NewFile, migration}
use Rattle.checkpoints.specs.Names.{is_good_name}
use Rattle.checkpoints.specs.MigrationEnds.{worked}
use Rattle.checkpoints.specs.MigrationLines.{lines_text, migrated_line}
use Rattle.gcu_output.specs.Lines.{last_line}
use Rattle.gcu_output.specs.declared.outcomes.Outcome.{Outcome}
use Rattle.gcu_output.specs.declared.outcomes.Outcome.TheVariants.{Done, Memory, InputFault, DiskFault, PrintFault, ServiceFault, Unorderable, Budget}
use Rattle.gcu_requests.specs.Asked.{migrate_asked}
use Rattle.gcu_requests.specs.Request as request
use Rattle.gcu_requests.specs.Request.{Request}
use Rattle.command_answers.specs.Answers.{IsDoneOutput, IsUntouched, LeavesDone, LeavesStopped, Prints, Says}
use Rattle.command_runs.proofs.Acknowledgements as acked
use Rattle.command_runs.proofs.Acknowledgements.{Quiet}
use Rattle.command_runs.proofs.CompactTexts.{heads}
use Rattle.command_runs.proofs.GoodNames.{HaveGoodNames, migration_good, name_is_one_line}
use Rattle.command_runs.proofs.LastLines.{IsPlain, last_is_plain}
use Rattle.command_runs.proofs.OtherTexts.{lines_have_no_told, one_word_has_no_told}
use Rattle.command_runs.proofs.OperatorTexts.{HasNoTold, no_told_in_front}
use Rattle.command_runs.proofs.PlanHeads.{none_in_front, quiet_has_none}
use Rattle.command_runs.proofs.WorkOutputs.{HasNeither}

-- ---- its lines

quiet_lines : (told : List NewFile) (behind : List ℕ) → Quiet behind → Quiet (lines_text told ++ behind)
quiet_lines [] behind quiet = quiet
quiet_lines (new ∷ told) behind quiet = acked.other 109 _ (omega arith) (omega arith)

-- a line with more behind it
one_line : (name rest : List ℕ) → migrated_line name ++ rest ≡ codes "migrated" ++ 32 ∷ (name ++ 10 ∷ rest)
one_line name rest =
    append_assoc (codes "migrated " ++ name) (10 ∷ []) rest ∙ append_assoc (codes "migrated ") name (10 ∷ rest)

line_has_no_told : (name rest : List ℕ) → is_good_name name ≡ true → HasNoTold rest
    → HasNoTold (migrated_line name ++ rest)
line_has_no_told name rest good none =
    subst HasNoTold (sym (one_line name rest))
    (lines_have_no_told (codes "migrated") (
      omega arith,
      (
        omega arith,
        (omega arith, (omega arith, (omega arith, (omega arith, (omega arith, (omega arith, tt)))))),
      ),
    )
    (λ e. let h = heads 99 109 _ _ e in omega (arith, h)) name rest (name_is_one_line name good) none)

lines_have_none : (told : List NewFile) (behind : List ℕ) → HaveGoodNames told → HasNoTold behind
    → HasNoTold (lines_text told ++ behind)
lines_have_none [] behind good none = none
lines_have_none (new ∷ told) behind good none =
    subst HasNoTold (sym (append_assoc (migrated_line new.0) (lines_text told) behind))
    (line_has_no_told new.0 (lines_text told ++ behind) good.0 (lines_have_none told behind good.1 none))

line_is_plain : (name : List ℕ) → is_good_name name ≡ true → IsPlain (migrated_line name)
line_is_plain name good = (
  acked.other 109 _ (omega arith) (omega arith),
  subst HasNoTold (append-nil (migrated_line name)) (line_has_no_told name [] good (one_word_has_no_told [] tt)),
)

-- the first ones, and any one, of good names
first_good : (k : ℕ) (news : List NewFile) → HaveGoodNames news → HaveGoodNames (take k news)
first_good zero [] good = tt
first_good zero (new ∷ news) good = tt
first_good (suc k) [] good = tt
first_good (suc k) (new ∷ news) good = (good.0, first_good k news good.1)

one_good : (k : ℕ) (news : List NewFile) (new : NewFile) → HaveGoodNames news → slice_get news k ≡ Some new
    → is_good_name new.0 ≡ true
one_good zero [] new good at = absurd cc
one_good (suc k) [] new good at = absurd cc
one_good zero (n ∷ news) new good at = let same : n ≡ new = cc in
    subst (λ (m : NewFile). is_good_name m.0 ≡ true) same good.0
one_good (suc k) (n ∷ news) new good at = one_good k news new good.1 at

-- behind what was there the lines of some, and a front of a text that begins with neither
record IsPrinted (s : State) (whole : List ℕ) : Type 0 where
  told : List NewFile
  good : HaveGoodNames told
  part : List ℕ
  rest : List ℕ
  plain : IsPlain (part ++ rest)
  is : whole ≡ s.output ++ lines_text told ++ part

none_printed : (s : State) (output : List ℕ) → IsPrinted s (s.output ++ output) → HasNeither output
none_printed s output h =
    let lines = lines_text h.told in
    let same : lines ++ h.part ≡ output = append_cancel_left s.output (lines ++ h.part) output
    (sym (append_assoc s.output lines h.part) ∙ sym h.is) in
    let all : (lines ++ h.part) ++ h.rest ≡ lines ++ (h.part ++ h.rest) = append_assoc lines h.part h.rest in
    subst HasNeither same (
      none_in_front (lines ++ h.part)
          h.rest (quiet_has_none _ (subst Quiet (sym all) (quiet_lines h.told (h.part ++ h.rest) h.plain.0))),
      no_told_in_front (lines ++ h.part)
          h.rest (subst HasNoTold (sym all) (lines_have_none h.told (h.part ++ h.rest) h.good h.plain.1)),
    )

-- ---- what is answered

-- the checkpoints that are put anew
news_given : (s : State) (r : Request) → (migrate_asked s).Gives (Ok r)
    → request.migrate_checkpoints (migration s.files) ≡ r
news_given s r (inl never) = absurd never
news_given s r (inr (u, settles, inl never)) = absurd never
news_given s r (inr (u, settles, inr (v, gate, e))) =
    let same : request.migrate_checkpoints (migration s.files) ≡ r = cc in same

one_migration : {news others : List NewFile} → request.migrate_checkpoints news ≡ request.migrate_checkpoints others
    → news ≡ others
one_migration {news = news} {others = others} e = let same : news ≡ others = cc in same

module _ (s now : State) where
  printed_of : (told : List NewFile) (part rest : List ℕ) → HaveGoodNames told
      → now.output ≡ s.output ++ lines_text told → IsPlain (part ++ rest)
      → IsPrinted s (now.output ++ part)
  printed_of told part rest good same plain = record {
    told = told;
    good = good;
    part = part;
    rest = rest;
    plain = plain;
    is = ap (λ (o : List ℕ). o ++ part) same;
  }

  untouched_output : IsUntouched (migrate_asked s) s now → now.output ≡ s.output ++ lines_text []
  untouched_output (inl same) = ap (λ (t : State). t.output) same ∙ sym (append-nil s.output)
  untouched_output (inr (reads, same)) = ap (λ (t : State). t.output) same ∙ sym (append-nil s.output)

  untouched_printed : (e : Outcome) (part rest : List ℕ) → IsUntouched (migrate_asked s) s now
      → part ++ rest ≡ last_line e → IsPrinted s (now.output ++ part)
  untouched_printed e part rest same is =
      printed_of [] part rest tt (untouched_output same) (last_is_plain e (part ++ rest) is)

  no_change : (r : Request) → (migrate_asked s).Gives (Ok r)
      → ((news : List NewFile) → request.migrate_checkpoints news ≡ r → ⊥) → ⊥
  no_change r given other = other (migration s.files) (news_given s r given)

  done_printed : (r : Request) (part rest : List ℕ) → request.migrate_checkpoints (migration s.files) ≡ r
      → LeavesDone r s now → IsDoneOutput r (part ++ rest)
      → IsPrinted s (now.output ++ part)
  done_printed r part rest same leaves out =
      let done = subst (λ (q : Request). LeavesDone q s now) (sym same) leaves in
      let is = subst (λ (q : Request). IsDoneOutput q (part ++ rest)) (sym same) out in
      let ended = worked done.0 (migration s.files) (with_pending settled s) in
      let here : Some now ≡ Some ended = done.1 in
      let at : now ≡ ended = cc in
      printed_of (migration s.files) part rest (migration_good s.files) (ap (λ (t : State). t.output) at)
      (last_is_plain Done (part ++ rest) is)

  stopped_printed : (r : Request) (step : ℕ) (part rest : List ℕ) → request.migrate_checkpoints (migration s.files) ≡ r
      → LeavesStopped r step s now
      → part ++ rest ≡ last_line (DiskFault step) → IsPrinted s (now.output ++ part)
  stopped_printed r step part rest same stopped is =
      let at = subst (λ (q : Request). LeavesStopped q step s now) (sym same) stopped in
      printed_of (take step (migration s.files)) part rest
      (first_good step (migration s.files) (migration_good s.files)) at.leads.output
      (last_is_plain (DiskFault step) (part ++ rest) is)

  says_printed : (e : Outcome) (part rest : List ℕ) → Says (migrate_asked s) s now e (part ++ rest)
      → IsPrinted s (now.output ++ part)
  says_printed Done part rest (r, given, leaves, out) = done_printed r part rest (news_given s r given) leaves out
  says_printed Memory part rest h = untouched_printed Memory part rest h.0 h.1
  says_printed InputFault part rest h = untouched_printed InputFault part rest h.1 h.2
  says_printed (DiskFault step) part rest (reads, inl (first, same), is) =
      untouched_printed (DiskFault step) part rest same is
  says_printed (DiskFault step) part rest (reads, inr (r, given, stopped), is) =
      stopped_printed r step part rest (news_given s r given) stopped is
  says_printed (PrintFault step) part rest never = absurd never
  says_printed (ServiceFault step service) part rest (p, given, halted, is) =
      absurd (no_change (request.change p) given (λ news e. cc))
  says_printed Unorderable part rest h = untouched_printed Unorderable part rest h.1 h.2
  says_printed (Budget n) part rest h = untouched_printed (Budget n) part rest h.1 h.2
  says_printed other part rest h = untouched_printed other part rest h.1 h.2

  prints_printed : (old new : Counts) (e : Outcome) (text : List ℕ) → Prints (migrate_asked s) s now old new e text
      → IsPrinted s (now.output ++ text)
  prints_printed old new (PrintFault step) text (inl (so_far, (answer, rest, cause, says))) =
      says_printed answer text rest says
  prints_printed old new (PrintFault step) text (inr (inl (p, given, cut))) =
      absurd (no_change (request.change p) given (λ news e. cc))
  prints_printed old new (PrintFault step) text (inr (inr (news, given, stopped, none))) =
      let same : migration s.files ≡ news = one_migration (news_given s (request.migrate_checkpoints news) given) in
      let good = subst HaveGoodNames same (migration_good s.files) in
      record {
        told = take step news;
        good = first_good step news good;
        part = stopped.part;
        rest = stopped.rest;
        plain = subst IsPlain
            stopped.line (line_is_plain stopped.next.0 (one_good step news stopped.next good stopped.is));
        is = ap (λ (t : List ℕ). now.output ++ t) none ∙ append-nil now.output ∙ ap (λ (t : State). t.output)
            stopped.printed_is;
      }
  prints_printed old new other text says =
      says_printed other text [] (subst (λ (t : List ℕ). Says (migrate_asked s) s now other t) (sym (append-nil text))
      says)

  -- neither is in it
  pub migration_has_neither : (output : List ℕ) (old new : Counts) (e : Outcome) (text : List ℕ)
      → s.output ++ output ≡ now.output ++ text
      → Prints (migrate_asked s) s now old new e text → HasNeither output
  migration_has_neither output old new e text whole prints =
      none_printed s output (subst (IsPrinted s) (sym whole) (prints_printed old new e text prints))
