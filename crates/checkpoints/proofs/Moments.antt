-- What a crash leaves while a call reads first and then changes files.
use Rattle.std.proofs.Common.{◌≡◌, ℕ, Option, Some, None, Result, Ok, Err, subst, sym, refl, ◌∙◌}
use Rattle.std.specs.Prelude.{IfErr, IfSome}
use Rattle.host_core.specs.Crashes.{Elapses, Image, Left, LeavesOnly, MayLeave, MayLeaveNow}
use Rattle.host_core.specs.State.{Files, State}
use Rattle.host_core.proofs.Runs as runs
use Rattle.conf_store.specs.Changes.{AreLeft, Changes, IsSettled, Leads, Settles}
use Rattle.checkpoints.specs.Changes.{LeavesOf, UnlessDisk}
use Rattle.checkpoints.specs.declared.errors.PointError.{PointError}
use Rattle.checkpoints.specs.declared.errors.PointError.TheVariants.{BadName, Exists, Full, Absent, NotConfig, Disk, Memory}

-- what a crash leaves of a state after such changes
left_of : (P : Files → Files → Type 0) (s t : State) → Leads P s t → (left : Left) → MayLeave t left → AreLeft P s left
left_of P s t leads left may = record {
  files = leads.images left.files may.files;
  output = may.output ∙ leads.output;
  restarts = may.restarts ∙ leads.restarts;
}

-- with nothing pending a crash leaves the files as they are
left_settled : (P : Files → Files → Type 0) → ((files : Files) → P files files) → (s : State) → IsSettled s
    → (left : Left) → MayLeave s left → AreLeft P s left
left_settled P same s clean left may = record {
  files = subst (P s.files) (sym (subst (λ p. Image p s.files left.files) clean may.files)) (same s.files);
  output = may.output;
  restarts = may.restarts;
}

-- ---- what is told

-- with nothing pending nothing is changed
pub unchanged : (P : Files → Files → Type 0) → ((files : Files) → P files files) → (o n : Option State) → IfSome o IsSettled → n ≡ o → Changes P o n
unchanged P same None n clean e = e
unchanged P same (Some s) n clean e = (
  s,
  e,
  record {
    inputs = refl;
    output = refl;
    restarts = refl;
    reads = same s.files;
    images = λ left image. subst (P s.files) (sym (subst (λ p. Image p s.files left) clean image)) (same s.files);
  },
)

-- changes that are weaker ones too
pub changes_weaker : (P Q : Files → Files → Type 0) → (o p n : Option State) → IfSome o (λ s. (g : Files) → P s.files g → Q s.files g) → p ≡ o → Changes P p n → Changes Q o n
changes_weaker P Q None p n gives told changes = subst (λ o. Changes P o n) told changes
changes_weaker P Q (Some s) p n gives told changes =
    let same : Changes P (Some s) n = subst (λ o. Changes P o n) told changes in
    let leads = same.2 in (
      same.0,
      same.1,
      record {
        inputs = leads.inputs;
        output = leads.output;
        restarts = leads.restarts;
        reads = gives same.0.files leads.reads;
        images = λ left image. gives left (leads.images left image);
      },
    )

-- what is settled like this is changed like that
pub settled_changes : (P Q : Files → Files → Type 0) → ((f g : Files) → P f g → Q f g) → (o n : Option State) → Settles P o n → Changes Q o n
settled_changes P Q gives None n ends = ends
settled_changes P Q gives (Some s) n ends = (
  _,
  ends.1,
  record {
    inputs = refl;
    output = refl;
    restarts = refl;
    reads = gives s.files ends.0 ends.2;
    images = λ left image. subst (Q s.files) (sym image) (gives s.files ends.0 ends.2);
  },
)

-- after an error of a call that only read nothing is changed
pub leaves_unchanged : (P : Files → Files → Type 0) → ((files : Files) → P files files) → (o n : Option State) → IfSome o IsSettled → n ≡ o
    → (e : PointError) → LeavesOf P o n e
leaves_unchanged P same o n clean e Disk = unchanged P same o n clean e
leaves_unchanged P same o n clean e BadName = e
leaves_unchanged P same o n clean e Exists = e
leaves_unchanged P same o n clean e Full = e
leaves_unchanged P same o n clean e Absent = e
leaves_unchanged P same o n clean e NotConfig = e
leaves_unchanged P same o n clean e Memory = e

-- what a call that failed has done it has done unless the disk failed
pub unless_disk : (P : Type 0) → P → (e : PointError) → UnlessDisk P e
unless_disk P done Disk = tt
unless_disk P done BadName = done
unless_disk P done Exists = done
unless_disk P done Full = done
unless_disk P done Absent = done
unless_disk P done NotConfig = done
unless_disk P done Memory = done

-- what holds of every error holds of this one
pub of_each_err : {T E : Type 0} (P : E → Type 0) (r : Result T E) → ((e : E) → P e) → IfErr r P
of_each_err P (Ok x) each = tt
of_each_err P (Err e) each = each e

-- ---- moments

module _ {H : Type 0} (moment : H → ℕ) (left_since : H → ℕ → Left → Type 0) where
  -- a crash at any moment between the two leaves files like that
  abbrev pub AtAnyMoment : (Files → Files → Type 0) → Option State → H → H → Type 0
  AtAnyMoment P o old new = IfSome o (λ s. LeavesOnly moment left_since old new (AreLeft P s))

  module _ (P : Files → Files → Type 0) (same : (files : Files) → P files files) where
    -- before the first call, with nothing pending
    pub begins : (o : Option State) → IfSome o IsSettled → (old : H) → ((left : Left) → left_since old (moment old) left → MayLeaveNow o left)
        → AtAnyMoment P o old old
    begins None clean old now = tt
    begins (Some s) clean old now =
        runs.begins moment left_since old (AreLeft P s) (λ left since. left_settled P same s clean left (now left since))

    -- one call more
    pub goes_on : (o n : Option State) → Changes P o n → (old mid new : H) → AtAnyMoment P o old mid
        → Elapses moment left_since mid new (MayLeaveNow n) → AtAnyMoment P o old new
    goes_on None n changes old mid new so_far time = tt
    goes_on (Some s) n changes old mid new so_far time =
        runs.goes_on moment left_since old mid new (AreLeft P s) (MayLeaveNow n) so_far time
        (λ left may. left_of P s changes.0 changes.2 left (subst (λ m. MayLeaveNow m left) changes.1 may))

    -- a call that only read
    pub reads_on : (o : Option State) → IfSome o IsSettled → (old new : H)
        → ((left : Left) → left_since old (moment old) left → MayLeaveNow o left)
        → Elapses moment left_since old new (MayLeaveNow o) → AtAnyMoment P o old new
    reads_on o clean old new now time = goes_on o o (unchanged P same o o clean refl) old old new (begins o clean old now) time

    -- a run that changes files in ways of which each is one of these
    pub changes_on : (Q : Files → Files → Type 0) → (o p : Option State) → IfSome o (λ s. (g : Files) → Q s.files g → P s.files g) → p ≡ o
        → (old mid new : H) → AtAnyMoment P o old mid → AtAnyMoment Q p mid new → AtAnyMoment P o old new
    changes_on Q None p gives told old mid new so_far later = tt
    changes_on Q (Some s) p gives told old mid new so_far later =
        runs.joins moment left_since old mid new (AreLeft P s) so_far
        (runs.weaker moment left_since mid new (AreLeft Q s) (AreLeft P s)
        (λ left h. record { files = gives left.files h.files; output = h.output; restarts = h.restarts })
        (subst (λ o. AtAnyMoment Q o mid new) told later))
