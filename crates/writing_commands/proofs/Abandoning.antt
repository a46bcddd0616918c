-- A change that is given up: what is found, and what that does to the files.
use Rattle.std.proofs.Common.{◌≡◌, ◌⊎◌, inl, inr, List, ℕ, refl, ap, sym, subst, Option, Some, None, Result, Ok, Err, IfErr, IfSome, option_map}
use Rattle.std.specs.Prelude.{IsSome}
use Rattle.std.specs.FinMap.{get}
use Rattle.host_core.specs.State.{CanMove, Files, State, settled, with_pending}
use Rattle.conf_store.specs.Files.{intent_file}
use Rattle.change_apply.specs.Intents.{IsClosed, IsClosedOrNot}
use Rattle.gcu_output.specs.declared.outcomes.Outcome.{Outcome}
use Rattle.gcu_output.specs.declared.outcomes.Outcome.TheVariants.{DiskFault}
use Rattle.gcu_inputs.specs.Asking.{Asking, a_settling, follows, settles_first, ◌>>>◌}
use Rattle.gcu_inputs.specs.IntentAsked.{interrupted}
use Rattle.gcu_inputs.specs.Preparing.{Finds, Found}
use Rattle.gcu_requests.specs.InterruptionAsked.{abandon_asked}
use Rattle.gcu_requests.specs.Request as request
use Rattle.gcu_requests.specs.Request.{Request}
use Rattle.gcu_inputs.proofs.Finding.{first_refused, then_found}
use Rattle.writing_commands.proofs.Writing.{FindsUnit, IsWriting}

-- what giving it up does to the files
pub abandoning : IsWriting request.abandon IsClosed IsClosedOrNot
abandoning = record {
  done = λ before files h. ap (λ (f : Files). record before { files = f; pending = settled }) h;
  stopped = λ before now h. (refl, h);
  doing = λ before left h. h;
  says = refl;
}

-- ---- what is found

pub settling_fault_found : (o : Option State) (step : ℕ)
    → FindsUnit o request.abandon (Err (DiskFault step)) abandon_asked
settling_fault_found None step = tt
settling_fault_found (Some s) step = record { gives = tt; stands = inl (inr refl) }

-- once it is settled
abbrev behind : State → Asking Request
behind s = interrupted s >>> λ _. follows (Ok request.abandon)

behind_found : (s : State) (r : Result (Unit {0}) Outcome) → Found (λ (u : Unit {0}). request.abandon) r (behind s)
    → Found (λ (u : Unit {0}). request.abandon) r (abandon_asked s)
behind_found s r h =
    then_found (λ u. u) (λ (u : Unit {0}). request.abandon) tt r settles_first (λ _. behind s)
    (record { gives = refl; stands = tt }) h

-- no change was stopped
pub none_found : (o mid : Option State) (e : Outcome) → mid ≡ option_map (with_pending settled) o
    → Finds {X = Unit {0}} mid (λ u. u) (Err e) interrupted → FindsUnit o request.abandon (Err e) abandon_asked
none_found None mid e is h = tt
none_found (Some s) mid e is h =
    let gate : Found {X = Unit {0}} (λ u. u) (Err e) (interrupted s) = subst
    (λ m. Finds {X = Unit {0}} m (λ u. u) (Err e) interrupted) is h in
    behind_found s (Err e)
    (first_refused {X = Unit {0}} (λ u. u) (λ (u : Unit {0}). request.abandon) e (interrupted s)
    (λ _. follows (Ok request.abandon)) gate)

-- one was
abandon_given : (s : State) → (interrupted s).Gives (Ok tt) → (abandon_asked s).Gives (Ok request.abandon)
abandon_given s gate = inr (tt, refl, inr (tt, gate, refl))

pub given : (o mid : Option State) (Nothing : Type 0) → mid ≡ option_map (with_pending settled) o
    → Finds {X = Unit {0}} mid (λ u. u) (Ok tt) interrupted
    → IfSome o (λ s. (abandon_asked s).Gives (Ok request.abandon) ⊎ Nothing)
given None mid Nothing is h = tt
given (Some s) mid Nothing is h =
    let gate : Found {X = Unit {0}} (λ u. u) (Ok tt) (interrupted s) = subst
    (λ m. Finds {X = Unit {0}} m (λ u. u) (Ok tt) interrupted) is h in
    inl (abandon_given s gate.gives)

found_one : (s : State) (r : Result (Unit {0}) Outcome) → (abandon_asked s).Gives (Ok request.abandon)
    → IfErr r (λ e. e ≡ DiskFault 0)
    → Found (λ (u : Unit {0}). request.abandon) r (abandon_asked s)
found_one s (Ok u) gives fault = record { gives = gives; stands = tt }
found_one s (Err e) gives fault =
    subst (λ (x : Outcome). Found {X = Unit {0}} (λ (u : Unit {0}). request.abandon) (Err x) (abandon_asked s))
    (sym fault) (record { gives = tt; stands = inl (inr refl) })

pub abandon_found : (o mid : Option State) (r : Result (Unit {0}) Outcome) → mid ≡ option_map (with_pending settled) o
    → Finds {X = Unit {0}} mid (λ u. u) (Ok tt) interrupted → IfErr r (λ e. e ≡ DiskFault 0)
    → FindsUnit o request.abandon r abandon_asked
abandon_found None mid r is h fault = tt
abandon_found (Some s) mid r is h fault =
    let gate : Found {X = Unit {0}} (λ u. u) (Ok tt) (interrupted s) = subst
    (λ m. Finds {X = Unit {0}} m (λ u. u) (Ok tt) interrupted) is h in
    found_one s r (abandon_given s gate.gives) fault

-- what is pending is settled
pub settling_reads : (o : Option State) → IfSome o (λ s. (abandon_asked s).Reads a_settling)
settling_reads None = tt
settling_reads (Some s) = inl (inl refl)

-- ---- what may be removed

-- it is there
pub stopped_some : (s : State) → (interrupted s).Gives (Ok tt) → IsSome (get s.files intent_file)
stopped_some s (inl never) = absurd never
stopped_some s (inr (None, is, passes)) = absurd cc
stopped_some s (inr (Some bytes, is, passes)) =
    let same : get s.files intent_file ≡ Some bytes = cc in subst (λ (o : Option (List ℕ)). IsSome o) (sym same) refl

pub may_remove : (o mid : Option State) → mid ≡ option_map (with_pending settled) o
    → Finds {X = Unit {0}} mid (λ u. u) (Ok tt) interrupted
    → IfSome mid (CanMove intent_file)
may_remove None mid is h = subst (λ m. IfSome m (CanMove intent_file)) (sym is) tt
may_remove (Some s) mid is h =
    let gate : Found {X = Unit {0}} (λ u. u) (Ok tt) (interrupted s) = subst
    (λ m. Finds {X = Unit {0}} m (λ u. u) (Ok tt) interrupted) is h in
    subst (λ m. IfSome m (CanMove intent_file)) (sym is) (refl, stopped_some s gate.gives)
