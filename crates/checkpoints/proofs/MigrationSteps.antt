-- The steps of a migration, by what the host tells at each stage.
use Rattle.std.proofs.Common.{◌≡◌, ℕ, suc, ◌<◌, ◌≤◌, List, [], ◌++◌, All, length, take, slice_get, Option, Some, None, IfSome, inl, inr, refl, sym, ap, ◌∙◌, subst, option_map, append-nil, append_assoc, arith}
use Rattle.std.proofs.lemmas.List.Elements.{All-get_or}
use Rattle.std.proofs.lemmas.Option.{get_or_from_slice_get, slice_get_within}
use Rattle.host_core.specs.Crashes.{Elapses, Left, LeavesOnly, MayLeaveInPrint, MayLeaveNow}
use Rattle.host_core.specs.State.{Files, PrintsPart, State, printed}
use Rattle.host_core.proofs.Runs as runs
use Rattle.conf_store.specs.Changes.{AreLeft, Changes, IsSettled, Settles}
use Rattle.checkpoints.specs.Migrations.{IsDue, IsRewritten, IsRewrittenOrNot, KeepsPoints, NewFile}
use Rattle.checkpoints.specs.MigrationCrashes.{IsLeft}
use Rattle.checkpoints.specs.MigrationEnds.{ArePut, Finishes, Stops, worked}
use Rattle.checkpoints.specs.MigrationLines.{lines_text, migrated_line}
use Rattle.checkpoints.specs.MigrationStages.{AtPut, AtStep}
use Rattle.checkpoints.specs.declared.errors.MigrateFault.TheVariants.{Disk, Print}
use Rattle.checkpoints.proofs.MigrationMoments.{IsLeftOf, LeavesOf, begins, goes_on}
use Rattle.checkpoints.proofs.PutFiles.{due_still, keeps_both, lines_next, next_put, none_put}

abbrev with_output : State → List ℕ → State
with_output s text = record s { output = text }

-- ---- the beginning and the end

pub at_beginning : (news : List NewFile) (o : Option State) → IfSome o IsSettled → IfSome o (λ s. All (λ new. IsDue new s.files) news) → AtStep news 0 o o
at_beginning news None clean due = refl
at_beginning news (Some s) clean due =
    (s.files, λ i. Some (record s { pending = clean i; output = sym (append-nil s.output) i }), none_put s.files, due)

pub at_end : (news : List NewFile) (o p : Option State) → take (length news) news ≡ news → AtStep news (length news) o p → Finishes news o p
at_end news None p all at = at
at_end news (Some s) p all at =
    (at.0, subst (λ (xs : List NewFile). p ≡ Some (worked at.0 xs s)) all at.1, subst (λ (xs : List NewFile). ArePut xs s.files at.0) all at.2)

-- ---- what a call needs

pub is_settled : (news : List NewFile) (k : ℕ) (o p : Option State) → AtStep news k o p → IfSome p IsSettled
is_settled news k None p at = subst (λ (x : Option State). IfSome x IsSettled) (sym at) tt
is_settled news k (Some s) p at = subst (λ (x : Option State). IfSome x IsSettled) (sym at.1) refl

module _ (news : List NewFile) (k : ℕ) (n : NewFile) (is : slice_get news k ≡ Some n) where
  within : k < length news
  within = slice_get_within news k n is

  of_it : (P : NewFile → Type 0) → IfSome (slice_get news k) P → P n
  of_it P h = subst (λ (x : Option NewFile). IfSome x P) is h

  it_has : (P : NewFile → Type 0) → P n → IfSome (slice_get news k) P
  it_has P h = subst (λ (x : Option NewFile). IfSome x P) (sym is) h

  due_here : (files : Files) → All (λ new. IsDue new files) news → IsDue n files
  due_here files due =
      subst (λ (x : NewFile). IsDue x files) (get_or_from_slice_get news k n n is) (All-get_or (λ (new : NewFile). IsDue new files) news k n within due)

  pub is_due : (o p : Option State) → AtStep news k o p → IfSome p (λ s. IfSome (slice_get news k) (λ new. IsDue new s.files))
  is_due None p at = subst (λ (x : Option State). IfSome x (λ s. IfSome (slice_get news k) (λ new. IsDue new s.files))) (sym at) tt
  is_due (Some s) p at =
      subst (λ (x : Option State). IfSome x (λ s. IfSome (slice_get news k) (λ new. IsDue new s.files))) (sym at.1)
      (it_has (λ new. IsDue new at.0) (due_here at.0 at.3))

  -- ---- the file

  pub puts : (o p q : Option State) → AtStep news k o p → IfSome (slice_get news k) (λ new. Settles (IsRewritten new) p q) → AtPut news k o q
  puts None p q at ends = subst (λ (x : Option State). Settles (IsRewritten n) x q) at (of_it (λ new. Settles (IsRewritten new) p q) ends)
  puts (Some s) p q at ends =
      let end : Settles (IsRewritten n) (Some (worked at.0 (take k news) s)) q =
      subst (λ (x : Option State). Settles (IsRewritten n) x q) at.1 (of_it (λ new. Settles (IsRewritten new) p q) ends) in
      (end.0, end.1, next_put news k n is s.files at.0 end.0 at.2 end.2, due_still news at.0 end.0 end.2.same at.3)

  pub put_stops : (o p q : Option State) → AtStep news k o p → IfSome (slice_get news k) (λ new. Changes (IsRewrittenOrNot new) p q) → Stops news (Disk k) o q
  put_stops None p q at changes = subst (λ (x : Option State). Changes (IsRewrittenOrNot n) x q) at (of_it (λ new. Changes (IsRewrittenOrNot new) p q) changes)
  put_stops (Some s) p q at changes =
      let change : Changes (IsRewrittenOrNot n) (Some (worked at.0 (take k news) s)) q =
      subst (λ (x : Option State). Changes (IsRewrittenOrNot n) x q) at.1 (of_it (λ new. Changes (IsRewrittenOrNot new) p q) changes) in
      (change.0, change.1, record { next = n; is = is; first = at.0; put = at.2; leads = change.2 })

  -- ---- the line

  pub tells : (o p q : Option State) → AtPut news k o p → q ≡ option_map (printed (migrated_line n.0)) p → AtStep news (suc k) o q
  tells None p q at e = e ∙ ap (option_map (printed (migrated_line n.0))) at
  tells (Some s) p q at e = (
    at.0,
    e ∙ ap (option_map (printed (migrated_line n.0))) at.1
        ∙ ap (λ (text : List ℕ). Some (with_output (worked at.0 [] s) text))
        (append_assoc s.output (lines_text (take k news)) (migrated_line n.0) ∙ ap (λ (text : List ℕ). s.output ++ text) (sym (lines_next news k n is))),
    at.2,
    at.3,
  )

  pub print_stops : (o p q : Option State) → AtPut news k o p → PrintsPart (migrated_line n.0) p q → Stops news (Print k) o q
  print_stops None p q at prints = prints.3 ∙ ap (option_map (printed prints.0)) at
  print_stops (Some s) p q at prints = (
    printed prints.0 (worked at.0 (take k news) s),
    prints.3 ∙ ap (option_map (printed prints.0)) at.1,
    record { next = n; is = is; files = at.0; put = at.2; part = prints.0; rest = prints.1; line = prints.2; printed_is = refl },
  )

  -- ---- what a crash leaves

  -- while the file is put
  pub putting : {H : Type 0} (moment : H → ℕ) (left_since : H → ℕ → Left → Type 0) (o p : Option State) (old new : H) → AtStep news k o p
      → IfSome p (λ t. IfSome (slice_get news k) (λ x. LeavesOnly moment left_since old new (AreLeft (IsRewrittenOrNot x) t))) → LeavesOf moment left_since news o old new
  putting moment left_since None p old new at leaves = tt
  putting moment left_since (Some s) p old new at leaves =
      let t = worked at.0 (take k news) s in
      let here : IfSome (slice_get news k) (λ x. LeavesOnly moment left_since old new (AreLeft (IsRewrittenOrNot x) t)) =
      subst (λ (x : Option State). IfSome x (λ t. IfSome (slice_get news k) (λ x. LeavesOnly moment left_since old new (AreLeft (IsRewrittenOrNot x) t)))) at.1 leaves in
      runs.weaker moment left_since old new (AreLeft (IsRewrittenOrNot n) t) (IsLeft news s)
      (λ left h. record {
        done = k;
        within = omega (arith, within);
        part = [];
        output = h.output ∙ sym (append-nil (s.output ++ lines_text (take k news)));
        restarts = h.restarts;
        files = inl (refl, (at.0, at.2, inr (n, is, h.files)));
        same = keeps_both s.files at.0 left.files at.2.same h.files.same;
      })
      (of_it (λ x. LeavesOnly moment left_since old new (AreLeft (IsRewrittenOrNot x) t)) here)

  -- a front of the line is printed
  in_line : (s : State) (files : Files) → ArePut (take (suc k) news) s.files files → (part rest : List ℕ) → migrated_line n.0 ≡ part ++ rest
      → (left : Left) → MayLeaveNow (Some (printed part (worked files (take k news) s))) left → IsLeft news s left
  in_line s files put part rest line left may = record {
    done = k;
    within = omega (arith, within);
    part = part;
    output = may.output;
    restarts = may.restarts;
    files = inr (n, rest, is, line, subst (λ (f : Files). ArePut (take (suc k) news) s.files f) (sym may.files) put);
    same = subst (λ (f : Files). KeepsPoints s.files f) (sym may.files) put.same;
  }

  left_in_print : (o p : Option State) → AtPut news k o p → (left : Left) → MayLeaveInPrint (migrated_line n.0) p left → {H : Type 0} (moment : H → ℕ) (left_since : H → ℕ → Left → Type 0) → IsLeftOf moment left_since news o left
  left_in_print None p at left may moment left_since = tt
  left_in_print (Some s) p at left may moment left_since =
      in_line s at.0 at.2 may.0 may.1 may.2 left
      (subst (λ (x : Option State). MayLeaveNow (option_map (printed may.0) x) left) at.1 may.3)

  left_at_put : (o p : Option State) → AtPut news k o p → (left : Left) → MayLeaveNow p left → {H : Type 0} (moment : H → ℕ) (left_since : H → ℕ → Left → Type 0) → IsLeftOf moment left_since news o left
  left_at_put None p at left may moment left_since = tt
  left_at_put (Some s) p at left may moment left_since =
      let now = subst (λ (x : Option State). MayLeaveNow x left) at.1 may in
      in_line s at.0 at.2 [] (migrated_line n.0) refl left
      (record { files = now.files; output = now.output ∙ sym (append-nil (s.output ++ lines_text (take k news))); restarts = now.restarts })

  -- while the line is printed
  pub telling : {H : Type 0} (moment : H → ℕ) (left_since : H → ℕ → Left → Type 0) (o p : Option State) (old new : H) → AtPut news k o p
      → ((left : Left) → left_since old (moment old) left → MayLeaveNow p left) → Elapses moment left_since old new (MayLeaveInPrint (migrated_line n.0) p)
      → LeavesOf moment left_since news o old new
  telling moment left_since o p old new at now time =
      goes_on moment left_since news o old old new (MayLeaveInPrint (migrated_line n.0) p)
      (begins moment left_since news o old (λ left since. left_at_put o p at left (now left since) moment left_since)) time
      (λ left may. left_in_print o p at left may moment left_since)

-- between two steps
pub left_at_step : {H : Type 0} (moment : H → ℕ) (left_since : H → ℕ → Left → Type 0) (news : List NewFile) (k : ℕ) → k ≤ length news → (o p : Option State) → AtStep news k o p
    → (left : Left) → MayLeaveNow p left → IsLeftOf moment left_since news o left
left_at_step moment left_since news k most None p at left may = tt
left_at_step moment left_since news k most (Some s) p at left may =
    let now = subst (λ (x : Option State). MayLeaveNow x left) at.1 may in record {
      done = k;
      within = most;
      part = [];
      output = now.output ∙ sym (append-nil (s.output ++ lines_text (take k news)));
      restarts = now.restarts;
      files = inl (refl, (at.0, at.2, inl now.files));
      same = subst (λ (f : Files). KeepsPoints s.files f) (sym now.files) at.2.same;
    }
