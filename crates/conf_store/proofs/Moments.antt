-- How a run of calls that change files alone goes on.
use Rattle.std.proofs.Common.{◌≡◌, ℕ, Option, Some, None, subst, sym, ◌∙◌}
use Rattle.std.specs.Prelude.{IfSome}
use Rattle.host_core.specs.Crashes.{Elapses, Left, LeavesOnly, MayLeave, MayLeaveNow, Image}
use Rattle.host_core.specs.State.{Files, State, settled}
use Rattle.host_core.proofs.Runs as runs
use Rattle.conf_store.specs.Changes.{AreLeft, Changes, IsSettled, Leads, Settles}

-- what a crash leaves of a state after such changes
left_of : (P : Files → Files → Type 0) (s t : State) → Leads P s t → (left : Left) → MayLeave t left → AreLeft P s left
left_of P s t leads left may = record {
  files = leads.images left.files may.files;
  output = may.output ∙ leads.output;
  restarts = may.restarts ∙ leads.restarts;
}

module _ {H : Type 0} (moment : H → ℕ) (left_since : H → ℕ → Left → Type 0) where
  -- a crash at any moment between the two leaves files like that
  abbrev pub AtAnyMoment : (Files → Files → Type 0) → Option State → H → H → Type 0
  AtAnyMoment P o old new = IfSome o (λ s. LeavesOnly moment left_since old new (AreLeft P s))

  -- before the first call, with nothing pending
  pub begins : (P : Files → Files → Type 0) → ((files : Files) → P files files) → (o : Option State) → IfSome o IsSettled
      → (old : H) → ((left : Left) → left_since old (moment old) left → MayLeaveNow o left) → AtAnyMoment P o old old
  begins P same None clean old only = tt
  begins P same (Some s) clean old only =
      runs.begins moment left_since old (AreLeft P s) (λ left since.
      let may = only left since in
      record {
        files = subst (P s.files) (symmetric (subst (λ p. Image p s.files left.files) clean may.files)) (same s.files);
        output = may.output;
        restarts = may.restarts;
      })
    where
      symmetric : {A : Type 0} {a b : A} → a ≡ b → b ≡ a
      symmetric {A} {a} {b} e = subst (λ x. x ≡ a) e (λ i. a)

  -- one call more
  pub goes_on : (P : Files → Files → Type 0) (o n : Option State) → Changes P o n → (old mid new : H)
      → AtAnyMoment P o old mid → Elapses moment left_since mid new (MayLeaveNow n) → AtAnyMoment P o old new
  goes_on P None n changes old mid new so_far time = tt
  goes_on P (Some s) n changes old mid new so_far time =
      runs.goes_on moment left_since old mid new (AreLeft P s) (MayLeaveNow n) so_far time
      (λ left may. left_of P s changes.0 changes.2 left (subst (λ m. MayLeaveNow m left) changes.1 may))

-- ---- changes one after the other

leads_settled : (P : Files → Files → Type 0) (s : State) (files : Files) → P s.files files → Leads P s (record s { files = files; pending = settled })
leads_settled P s files has = record {
  inputs = λ i. s.inputs;
  output = λ i. s.output;
  restarts = λ i. s.restarts;
  reads = has;
  images = λ left image. subst (P s.files) (sym image) has;
}

-- what is settled like this is changed like this
pub settled_changes : (P Q : Files → Files → Type 0) → ((f g : Files) → P f g → Q f g) → (o n : Option State) → Settles P o n → Changes Q o n
settled_changes P Q gives None n ends = ends
settled_changes P Q gives (Some s) n ends = (_, ends.1, leads_settled Q s ends.0 (gives s.files ends.0 ends.2))

-- nothing is pending then
pub settled_clean : (P : Files → Files → Type 0) (o n : Option State) → Settles P o n → IfSome n IsSettled
settled_clean P None n ends = subst (λ m. IfSome m IsSettled) (sym ends) tt
settled_clean P (Some s) n ends = subst (λ m. IfSome m IsSettled) (sym ends.1) (λ i. settled)

-- what is known of the files then
pub settled_files : (P : Files → Files → Type 0) (Q : Files → Type 0) (o n : Option State) → Settles P o n
    → IfSome o (λ s. (g : Files) → P s.files g → Q g) → IfSome n (λ s. Q s.files)
settled_files P Q None n ends gives = subst (λ m. IfSome m (λ s. Q s.files)) (sym ends) tt
settled_files P Q (Some s) n ends gives = subst (λ m. IfSome m (λ s. Q s.files)) (sym ends.1) (gives ends.0 ends.2)

-- changes behind what is settled
pub changes_behind : (P Q R : Files → Files → Type 0) → (o n m : Option State)
    → IfSome o (λ s. (f g : Files) → P s.files f → Q f g → R s.files g) → Settles P o n → Changes Q n m → Changes R o m
changes_behind P Q R None n m both ends changes = subst (λ k. Changes Q k m) ends changes
changes_behind P Q R (Some s) n m both ends changes =
    let later : Changes Q (Some (record s { files = ends.0; pending = settled })) m = subst (λ k. Changes Q k m) ends.1 changes in
    let leads = later.2 in (
      later.0,
      later.1,
      record {
        inputs = leads.inputs;
        output = leads.output;
        restarts = leads.restarts;
        reads = both ends.0 later.0.files ends.2 leads.reads;
        images = λ left image. both ends.0 left ends.2 (leads.images left image);
      },
    )

-- the same, settled
pub settles_behind : (P Q R : Files → Files → Type 0) → (o n m : Option State)
    → IfSome o (λ s. (f g : Files) → P s.files f → Q f g → R s.files g) → Settles P o n → Settles Q n m → Settles R o m
settles_behind P Q R None n m both ends later = subst (λ k. Settles Q k m) ends later
settles_behind P Q R (Some s) n m both ends later =
    let then : Settles Q (Some (record s { files = ends.0; pending = settled })) m = subst (λ k. Settles Q k m) ends.1 later in
    (then.0, then.1, both ends.0 then.0 ends.2 then.2)

module _ {H : Type 0} (moment : H → ℕ) (left_since : H → ℕ → Left → Type 0) where
  -- a run with a weaker change
  pub weakens : (P Q : Files → Files → Type 0) (o : Option State) → IfSome o (λ s. (g : Files) → P s.files g → Q s.files g)
      → (old new : H) → AtAnyMoment moment left_since P o old new → AtAnyMoment moment left_since Q o old new
  weakens P Q None gives old new run = tt
  weakens P Q (Some s) gives old new run =
      runs.weaker moment left_since old new (AreLeft P s) (AreLeft Q s)
      (λ left h. record { files = gives left.files h.files; output = h.output; restarts = h.restarts }) run

  -- one run after another
  pub joins : (P Q R : Files → Files → Type 0) (o n : Option State)
      → IfSome o (λ s. (f g : Files) → P s.files f → Q f g → R s.files g) → Settles P o n
      → (old mid new : H) → AtAnyMoment moment left_since R o old mid → AtAnyMoment moment left_since Q n mid new
      → AtAnyMoment moment left_since R o old new
  joins P Q R None n both ends old mid new first second = tt
  joins P Q R (Some s) n both ends old mid new first second =
      let t : State = record s { files = ends.0; pending = settled } in
      let later : LeavesOnly moment left_since mid new (AreLeft Q t) = subst (λ k. AtAnyMoment moment left_since Q k mid new) ends.1 second in
      runs.joins moment left_since old mid new (AreLeft R s) first
      (runs.weaker moment left_since mid new (AreLeft Q t) (AreLeft R s)
      (λ left h. record { files = both ends.0 left.files ends.2 h.files; output = h.output; restarts = h.restarts }) later)

-- what is changed like this is changed like that
pub changes_weaker : (P Q : Files → Files → Type 0) (o n : Option State) → IfSome o (λ s. (g : Files) → P s.files g → Q s.files g)
    → Changes P o n → Changes Q o n
changes_weaker P Q None n gives changes = changes
changes_weaker P Q (Some s) n gives changes =
    let leads = changes.2 in (
      changes.0,
      changes.1,
      record {
        inputs = leads.inputs;
        output = leads.output;
        restarts = leads.restarts;
        reads = gives changes.0.files leads.reads;
        images = λ left image. gives left (leads.images left image);
      },
    )
