-- A checkpoint that is deleted: what is found, and when it is right to delete it.
use Rattle.std.proofs.Common.{◌≡◌, ◌⊎◌, inl, inr, true, false, List, ℕ, refl, ap, subst, Option, Some, None, Result, Ok, Err, IfSome, option_map}
use Rattle.std.specs.FinMap.{get}
use Rattle.host_core.specs.Answers.{map_ok}
use Rattle.host_core.specs.State.{State, settled, with_pending}
use Rattle.checkpoints.specs.Changes.{IsDeleted, IsDeletedOrNot}
use Rattle.checkpoints.specs.Names.{is_good_name}
use Rattle.checkpoints.specs.Points.{Held, points}
use Rattle.gcu_output.specs.declared.outcomes.Outcome.{Outcome}
use Rattle.gcu_output.specs.declared.outcomes.Outcome.TheVariants.{BadName, DiskFault}
use Rattle.gcu_inputs.specs.Asking.{Asking, a_settling, follows, settles_first, ◌>>>◌}
use Rattle.gcu_inputs.specs.IntentAsked.{uninterrupted}
use Rattle.gcu_inputs.specs.Preparing.{Finds, Found}
use Rattle.gcu_requests.specs.Asked.{delete_asked, there_answer, there_asked}
use Rattle.gcu_requests.specs.Request as request
use Rattle.gcu_requests.specs.Request.{Request}
use Rattle.gcu_inputs.proofs.Finding.{first_refused, then_found}
use Rattle.writing_commands.proofs.Writing.{FindsUnit, IsWriting}

-- what deleting does to the files
pub deleting : (name : List ℕ) → IsWriting (request.delete_checkpoint name) (IsDeleted name) (IsDeletedOrNot name)
deleting name = record {
  done = λ before files h. (files, refl, h);
  stopped = λ before now h. (refl, h);
  doing = λ before left h. h;
  says = refl;
}

abbrev of_name : List ℕ → Request
of_name name = request.delete_checkpoint name

-- ---- what is found

pub bad_name_found : (o : Option State) (name : List ℕ) → is_good_name name ≡ false
    → FindsUnit o (of_name name) (Err (BadName name)) (delete_asked name)
bad_name_found None name bad = tt
bad_name_found (Some s) name bad = rw bad (record { gives = inl refl; stands = tt })

pub settling_fault_found : (o : Option State) (name : List ℕ) (step : ℕ) → is_good_name name ≡ true
    → FindsUnit o (of_name name) (Err (DiskFault step)) (delete_asked name)
settling_fault_found None name step good = tt
settling_fault_found (Some s) name step good =
    rw good (record { gives = tt; stands = inr (name, refl, inl (inr refl)) })

-- once it is settled
abbrev behind : List ℕ → State → Asking Request
behind name s = uninterrupted s >>> λ _. there_asked name s

behind_found : (name : List ℕ) (s : State) (r : Result (Unit {0}) Outcome) → is_good_name name ≡ true
    → Found (λ (u : Unit {0}). of_name name) r (behind name s)
    → Found (λ (u : Unit {0}). of_name name) r (delete_asked name s)
behind_found name s r good h =
    rw good
    (then_found (λ n. n) (λ (u : Unit {0}). of_name name) name r (follows (Ok name))
    (λ n. settles_first >>> λ _. behind n s) (record { gives = refl; stands = tt })
    (then_found (λ u. u) (λ (u : Unit {0}). of_name name) tt r settles_first (λ _. behind name s)
    (record { gives = refl; stands = tt }) h))

-- a change was stopped
pub interrupted_found : (o mid : Option State) (name : List ℕ) (e : Outcome) → is_good_name name ≡ true
    → mid ≡ option_map (with_pending settled) o
    → Finds {X = Unit {0}} mid (λ u. u) (Err e) uninterrupted → FindsUnit o (of_name name) (Err e) (delete_asked name)
interrupted_found None mid name e good is h = tt
interrupted_found (Some s) mid name e good is h =
    let gate : Found {X = Unit {0}} (λ u. u) (Err e) (uninterrupted s) = subst
    (λ m. Finds {X = Unit {0}} m (λ u. u) (Err e) uninterrupted) is h in
    behind_found name s (Err e) good
    (first_refused {X = Unit {0}} (λ u. u) (λ (u : Unit {0}). of_name name) e (uninterrupted s)
    (λ _. there_asked name s) gate)

-- none was
pub settled_found : (o mid : Option State) (name : List ℕ) (r : Result (Unit {0}) Outcome) → is_good_name name ≡ true
    → mid ≡ option_map (with_pending settled) o → Finds {X = Unit {0}} mid (λ u. u) (Ok tt) uninterrupted
    → FindsUnit mid (of_name name) r (there_asked name) → FindsUnit o (of_name name) r (delete_asked name)
settled_found None mid name r good is gate h = tt
settled_found (Some s) mid name r good is gate h =
    let passes : Found {X = Unit {0}} (λ u. u) (Ok tt) (uninterrupted s) = subst
    (λ m. Finds {X = Unit {0}} m (λ u. u) (Ok tt) uninterrupted) is gate in
    let there : Found (λ (u : Unit {0}). of_name name) r (there_asked name s) = subst
    (λ m. FindsUnit m (of_name name) r (there_asked name)) is h in
    behind_found name s r good
    (then_found {X = Unit {0}} (λ u. u) (λ (u : Unit {0}). of_name name) tt r (uninterrupted s)
    (λ _. there_asked name s) passes there)

-- what is pending is settled where the name is good
settling_read : (name : List ℕ) (s : State) → is_good_name name ≡ true → (delete_asked name s).Reads a_settling
settling_read name s good = rw good (inr (name, refl, inl (inl refl)))

pub settling_reads : (o : Option State) (name : List ℕ) → is_good_name name ≡ true
    → IfSome o (λ s. (delete_asked name s).Reads a_settling)
settling_reads None name good = tt
settling_reads (Some s) name good = settling_read name s good

-- ---- what may be deleted

-- it is right to delete a checkpoint that is there
deletion_given : (name : List ℕ) (s : State) (held : Held) → is_good_name name ≡ true → (uninterrupted s).Gives (Ok tt)
    → get (points s.files) name ≡ Some held
    → (delete_asked name s).Gives (Ok (of_name name))
deletion_given name s held good gate there =
    rw good
    (inr (
      name,
      refl,
      inr (
        tt,
        refl,
        inr (
          tt,
          gate,
          ap (λ o. map_ok request.delete_checkpoint (there_answer name o))
              there,
        ),
      ),
    ))

-- it is right to delete it, or what holds where none is there
pub may_delete : (o mid : Option State) (name : List ℕ) (Nothing : Type 0) → is_good_name name ≡ true
    → mid ≡ option_map (with_pending settled) o
    → Finds {X = Unit {0}} mid (λ u. u) (Ok tt) uninterrupted
    → IfSome mid (λ t. get (points t.files) name ≡ None → Nothing)
    → IfSome o (λ s. (delete_asked name s).Gives (Ok (of_name name)) ⊎ Nothing)
may_delete None mid name Nothing good is gate absent = tt
may_delete (Some s) mid name Nothing good is gate absent =
    by (get (points s.files) name) refl
    (subst (λ m. IfSome m (λ t. get (points t.files) name ≡ None → Nothing)) is absent)
  where
    passes : (uninterrupted s).Gives (Ok tt)
    passes = (subst (λ m. Finds {X = Unit {0}} m (λ u. u) (Ok tt) uninterrupted) is gate).gives

    by : (o : Option Held) → get (points s.files) name ≡ o → (get (points s.files) name ≡ None → Nothing)
        → (delete_asked name s).Gives (Ok (of_name name)) ⊎ Nothing
    by None isnt absent = inr (absent isnt)
    by (Some held) there absent = inl (deletion_given name s held good passes there)
