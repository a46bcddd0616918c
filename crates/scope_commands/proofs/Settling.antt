-- What is pending is settled, or that is told.
use Rattle.std.proofs.Common.{◌≡◌, ⊎_elim, inl, ℕ, refl, sym, subst, arith, Option, Some, None, IfSome, option_map}
use Rattle.host_core.specs.Crashes.{Elapses, Image, Left, MayLeave, MayLeaveNow}
use Rattle.host_core.specs.State.{State, settled, with_pending}
use Rattle.gcu_output.specs.Lines.{last_line}
use Rattle.gcu_output.specs.declared.outcomes.Outcome.TheVariants.{DiskFault}
use Rattle.command_answers.specs.Answers.{Says}
use Rattle.scope_commands.specs.SeveralScopes.{IsStillSince, settling}

-- once it is settled nothing is pending
pub settled_now : (o q : Option State) → q ≡ option_map (with_pending settled) o → IfSome q (λ s. s.pending ≡ settled)
settled_now None q is = subst (λ (p : Option State). IfSome p (λ s. s.pending ≡ settled)) (sym is) tt
settled_now (Some s) q is = subst (λ (p : Option State). IfSome p (λ s. s.pending ≡ settled)) (sym is) refl

-- where nothing was pending a crash might have left the same before
same_now : (o q : Option State) (left : Left) → q ≡ option_map (with_pending settled) o
    → IfSome o (λ s. s.pending ≡ settled) → MayLeaveNow o left → MayLeaveNow q left
same_now None q left is clean may = subst (λ (p : Option State). MayLeaveNow p left) (sym is) tt
same_now (Some s) q left is clean may =
    let same : MayLeave (with_pending settled s) left =
    record {
      files = subst (λ p. Image p s.files left.files) clean may.files;
      output = may.output;
      restarts = may.restarts;
    } in
    subst (λ (p : Option State). MayLeaveNow p left) (sym is) same

-- so all holds from the beginning on
pub still_before : {H : Type 0} (told : H → Option State) (moment : H → ℕ) (left_since : H → ℕ → Left → Type 0)
    (old between : H)
    → ((left : Left) → left_since old (moment old) left → MayLeaveNow (told old) left)
    → told between ≡ option_map (with_pending settled) (told old)
    → Elapses moment left_since old between (MayLeaveNow (told between)) → IfSome (told old) (λ s. s.pending ≡ settled)
    → IsStillSince told moment left_since (moment old) between
still_before told moment left_since old between now settles time clean = (time.later, so_far)
  where
    so_far : (left : Left) → left_since between (moment old) left → MayLeaveNow (told between) left
    so_far left since =
        ⊎_elim (λ before. same_now (told old) (told between) left settles clean (now left before)) (λ here. here)
        (time.nothing_else (moment old) left (omega arith) since)

-- where it can't be settled that is said
pub settling_says : (o : Option State) → IfSome o (λ s. Says (settling s) s s (DiskFault 0) (last_line (DiskFault 0)))
settling_says None = tt
settling_says (Some s) = (refl, inl (refl, inl refl), refl)
