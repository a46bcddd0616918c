-- The cause of what is answered once a refusal was printed.
use Rattle.std.proofs.Common.{◌≡◌, ◌≤◌, ◌<◌, inl, inr, ⊎_elim, ℕ, Bool, true, false, List, sym, ap, subst, arith, Option, Result, Ok, Err, IfErr}
use Rattle.host_core.specs.Counts.{Counts, DiskMayRise, NoneFell, PrintMayRise, Rose, last_count}
use Rattle.host_core.specs.State.{State}
use Rattle.gcu_output.specs.Printing.{IsTold, may_have_written, outcome_of, IsPrinted, IsSaid}
use Rattle.gcu_output.specs.Lines.{last_line}
use Rattle.gcu_output.specs.declared.outcomes.Outcome.{Outcome}
use Rattle.gcu_output.specs.declared.outcomes.Outcome.TheVariants.{Done, Memory, Usage, InputFault, DiskFault, PrintFault, ServiceFault, Unorderable, Budget}
use Rattle.gcu_inputs.specs.Preparing.{Refuses}
use Rattle.gcu_inputs.specs.Reads.{ReadsMayRise}
use Rattle.command_answers.specs.Answers.{HasCause}
use Rattle.command_answers.specs.PlanCommands.{RefusesOrEnds}

-- where one count may rise none falls
pub disk_fell : (old new : Counts) → DiskMayRise old new → NoneFell old new
disk_fell old new rises =
    let input : new.input ≡ old.input = ap (λ (c : Counts). c.input) rises.2 in
    let disk : new.disk ≡ rises.0 = ap (λ (c : Counts). c.disk) rises.2 in
    let print : new.print ≡ old.print = ap (λ (c : Counts). c.print) rises.2 in
    let service : new.service ≡ old.service = ap (λ (c : Counts). c.service) rises.2 in
    record { input = omega arith; disk = omega (arith, rises.1); print = omega arith; service = omega arith }

pub print_fell : (old new : Counts) → PrintMayRise old new → NoneFell old new
print_fell old new rises =
    let input : new.input ≡ old.input = ap (λ (c : Counts). c.input) rises.2 in
    let disk : new.disk ≡ old.disk = ap (λ (c : Counts). c.disk) rises.2 in
    let print : new.print ≡ rises.0 = ap (λ (c : Counts). c.print) rises.2 in
    let service : new.service ≡ old.service = ap (λ (c : Counts). c.service) rises.2 in
    record { input = omega arith; disk = omega arith; print = omega (arith, rises.1); service = omega arith }

pub reads_fell : {old new : Counts} → ReadsMayRise old new → NoneFell old new
reads_fell rises =
    record {
      input = rises.input;
      disk = rises.disk;
      print = omega (arith, rises.print);
      service =
          omega (arith, rises.service);
    }

pub rose_from : (a b c : ℕ) → a ≤ b → Rose b c → Rose a c
rose_from a b c le rose = ⊎_elim (λ (less : b < c). inl (omega arith)) (λ (last : c ≡ last_count). inr last) rose

module _ (old mid new : Counts) (fell : NoneFell old mid) (rises : PrintMayRise mid new) where
  -- what was refused is refused with its cause while that is printed
  later_cause : (e : Outcome) → Refuses old mid e → HasCause old new e
  later_cause Done never = absurd never
  later_cause Usage never = absurd never
  later_cause (PrintFault step) never = absurd never
  later_cause (ServiceFault step service) never = absurd never
  later_cause Memory h = tt
  later_cause InputFault h = subst (λ n. Rose old.input n) (sym (ap (λ (c : Counts). c.input) rises.2)) h
  later_cause (DiskFault step) h = subst (λ n. Rose old.disk n) (sym (ap (λ (c : Counts). c.disk) rises.2)) h.1
  later_cause other h = tt

  printed_cause : (r : Outcome) (text : List ℕ) (before after : Option State) (result : Outcome) → HasCause old new r
      → IsPrinted r text before after mid new result → HasCause old new result
  printed_cause r text before after result cause (inl whole) = subst (HasCause old new) (sym whole.0) cause
  printed_cause r text before after result cause (inr part) =
      subst (HasCause old new) (sym part.0) (rose_from old.print mid.print new.print fell.print part.2)

  pub said_cause : (e : Outcome) (before after : Option State) (result : Outcome) → Refuses old mid e
      → IsSaid e (last_line e) before after mid new result → HasCause old new result
  said_cause e before after result refuses (inl said) =
      printed_cause e (last_line e) before after result (later_cause e refuses) said
  said_cause e before after result refuses (inr said) =
      printed_cause Memory (last_line Memory) before after result tt said

  later_end : (e : Outcome) → RefusesOrEnds old mid e → HasCause old new e
  later_end Unorderable h = tt
  later_end (Budget n) h = tt
  later_end other h = later_cause other h

  -- what is done has its cause while it is printed
  pub done_cause : (text : List ℕ) (before after : Option State) (result : Outcome)
      → IsSaid Done text before after mid new result → HasCause old new result
  done_cause text before after result (inl said) = printed_cause Done text before after result tt said
  done_cause text before after result (inr said) = printed_cause Memory (last_line Memory) before after result tt said

  -- a refusal or the end of a search is answered with its cause
  pub unsolved_cause : (e : Outcome) (before after : Option State) (result : Outcome) → RefusesOrEnds old mid e
      → IsSaid e (last_line e) before after mid new result → HasCause old new result
  unsolved_cause e before after result ends (inl said) =
      printed_cause e (last_line e) before after result (later_end e ends) said
  unsolved_cause e before after result ends (inr said) =
      printed_cause Memory (last_line Memory) before after result tt said

  told_cause : (fault : Bool) (e : Outcome) (before after : Option State) (result : Outcome) → Refuses old mid e
      → IsTold fault e before after mid new result → HasCause old new result
  told_cause true e before after result refuses told =
      printed_cause e (last_line e) before after result (later_cause e refuses) told
  told_cause false e before after result refuses told = said_cause e before after result refuses told

  -- what was done or refused is answered with its cause
  pub ended_cause : (done : Result (Unit {0}) Outcome) (before after : Option State) (result : Outcome)
      → IfErr done (Refuses old mid)
      → IsTold (may_have_written (outcome_of done)) (outcome_of done) before after mid new result
      → HasCause old new result
  ended_cause (Ok u) before after result refuses told = printed_cause Done (last_line Done) before after result tt told
  ended_cause (Err e) before after result refuses told =
      told_cause (may_have_written e) e before after result refuses told
