-- What a crash leaves at the moments of a command.
use Rattle.std.proofs.Common.{◌≡◌, ◌≤◌, inl, inr, Bool, true, false, ℕ, List, [], ◌++◌, refl, ap, Option, Some, None, IfSome, sym, ◌∙◌, subst, append-nil}
use Rattle.host_core.specs.Crashes.{Elapses, LeavesOnly, Left, MayLeave, MayLeaveNow}
use Rattle.host_core.specs.State.{State, printed}
use Rattle.host_core.proofs.Runs.{begins, goes_on, weaker}
use Rattle.gcu_words.specs.Tasks.{Task}
use Rattle.gcu_output.specs.Lines.{last_line}
use Rattle.gcu_output.specs.Printing.{LeftInText, LeftInTold, may_have_written}
use Rattle.gcu_output.specs.declared.outcomes.Outcome.{Outcome}
use Rattle.gcu_output.specs.declared.outcomes.Outcome.TheVariants.{Memory}
use Rattle.gcu_inputs.specs.Asking.{Asking}
use Rattle.gcu_words.specs.Form.{Form, change, form, migrate_checkpoints}
use Rattle.gcu_requests.specs.Asked.{asked, form_asked, migrate_asked}
use Rattle.gcu_requests.specs.WorkAsked.{change_asked}
use Rattle.gcu_requests.specs.Request as request
use Rattle.gcu_requests.specs.Request.{Request}
use Rattle.command_answers.specs.Answers.{Says}
use Rattle.command_answers.specs.Commands.{IsReady, LeftTo, LeftToMigration}
use Rattle.command_answers.specs.Crashes.{IsOutputFront, LeftBy, LeftByForm, LeftMeanwhile, LeftOf, LeftWriting}
use Rattle.command_answers.specs.Commands.{LeftToChange}

-- ---- fronts of what is printed

-- nothing, while want of memory may still be told
pub no_front : (asking : Asking Request) (s : State) → IsOutputFront asking s []
no_front asking s = (s, Memory, last_line Memory, (inl refl, refl), refl)

-- a front of a text that is said
pub said_front : (asking : Asking Request) (s now : State) (answer : Outcome) (text part rest : List ℕ)
    → Says asking s now answer text → now.output ≡ s.output → text ≡ part ++ rest
    → IsOutputFront asking s part
said_front asking s now answer text part rest says same is =
    (now, answer, rest, subst (λ (t : List ℕ). Says asking s now answer t) is says, same)

-- a front of the line of Memory
pub memory_front : (asking : Asking Request) (s : State) (part rest : List ℕ) → last_line Memory ≡ part ++ rest
    → IsOutputFront asking s part
memory_front asking s part rest is = said_front asking s s Memory (last_line Memory) part rest (inl refl, refl) refl is

-- ---- what is left with one

-- what is there, with no output yet
pub with_none : (s : State) (left : Left) → MayLeave s left → MayLeave (printed [] s) left
with_none s left h = record { files = h.files; output = h.output ∙ sym (append-nil s.output); restarts = h.restarts }

-- so may what a question may leave
pub left_here : (asking : State → Asking Request) (before : Option State) (left : Left) → MayLeaveNow before left
    → LeftTo asking before left
left_here asking None left h = tt
left_here asking (Some s) left h = ([], no_front (asking s) s, inl (with_none s left h))

-- what may be left while a text is printed that is said
pub said_left : (asking : State → Asking Request) (before : Option State) (answer : Outcome) (text : List ℕ)
    → IfSome before (λ s. Says (asking s) s s answer text)
    → (left : Left) → LeftInText text before left → LeftTo asking before left
said_left asking None answer text says left h = tt
said_left asking (Some s) answer text says left (inl (part, rest, is, may)) =
    (part, said_front (asking s) s s answer text part rest says refl is, inl may)
said_left asking (Some s) answer text says left (inr (part, rest, is, may)) =
    (part, memory_front (asking s) s part rest is, inl may)

-- a request that writes may leave it with another output
writing_on : (r : Request) (s : State) (left : Left) (base p q : List ℕ)
    → LeftWriting r (printed p s) (record left { output = base })
    → left.output ≡ s.output ++ q → LeftWriting r (printed q s) left
writing_on (request.delete_checkpoint name) s left base p q h e =
    record { files = h.files; output = e; restarts = h.restarts }
writing_on (request.save_checkpoint name config) s left base p q h e =
    record { files = h.files; output = e; restarts = h.restarts }
writing_on request.abandon s left base p q h e = record { files = h.files; output = e; restarts = h.restarts }
writing_on other s left base p q never e = absurd never

left_on : (asking : Asking Request) (s : State) (left : Left) (base p q : List ℕ)
    → LeftBy asking (printed p s) (record left { output = base })
    → left.output ≡ s.output ++ q → LeftBy asking (printed q s) left
left_on asking s left base p q (inl h) e = inl (record { files = h.files; output = e; restarts = h.restarts })
left_on asking s left base p q (inr (r, given, h)) e = inr (r, given, writing_on r s left base p q h e)

-- what may be left while a text is printed once some of it is done, with a front of that text
printed_on : (asking : Asking Request) (s now : State) (part : List ℕ) (left : Left) → now.output ≡ s.output
    → IsOutputFront asking s part
    → ((left : Left) → MayLeave now left → LeftOf asking s left) → MayLeave (printed part now) left
    → LeftOf asking s left
printed_on asking s now part left same front so_far may =
    let before = so_far (record left { output = now.output })
    (record { files = may.files; output = λ i. now.output; restarts = may.restarts }) in (
      part,
      front,
      left_on asking s left now.output before.0 part
          before.2 (may.output ∙ ap (λ (o : List ℕ). o ++ part) same),
    )

told_left : (asking : State → Asking Request) (before now : Option State) (out : Outcome) (written : Bool)
    → IsReady asking before now out
    → ((left : Left) → MayLeaveNow now left → LeftTo asking before left) → (left : Left)
    → LeftInTold written out now left → LeftTo asking before left
told_left asking None now out written ready so_far left h = tt
told_left asking (Some s) now out written (t, is, says, same) so_far left h =
    by written (subst (λ (o : Option State). LeftInTold written out o left) is h)
  where
    here : (l : Left) → MayLeave t l → LeftOf (asking s) s l
    here l may = so_far l (subst (λ (o : Option State). MayLeaveNow o l) (sym is) may)

    by : (w : Bool) → LeftInTold w out (Some t) left → LeftOf (asking s) s left
    by true (part, rest, e, may) =
        printed_on (asking s) s t part left same (said_front (asking s) s t out (last_line out) part rest says same e)
        here may
    by false (inl (part, rest, e, may)) =
        printed_on (asking s) s t part left same (said_front (asking s) s t out (last_line out) part rest says same e)
        here may
    by false (inr (part, rest, e, may)) =
        printed_on (asking s) s t part left same (memory_front (asking s) s part rest e) here may

-- ---- of the words

-- what a command may leave may be left by words that are that command
left_by : (P : Option State → Left → Type 0) (words : List (List ℕ)) (f : Option Form) (before : Option State)
    (left : Left) → f ≡ form words
    → ((s : State) → P (Some s) left → LeftByForm f s left) → P before left → LeftMeanwhile words before left
left_by P words f None left is gives h = tt
left_by P words f (Some s) left is gives h = subst (λ g. LeftByForm g s left) is (gives s h)

module _ {H : Type 0} (moment : H → ℕ) (left_since : H → ℕ → Left → Type 0) where
  -- nothing is called yet
  pub asking_begins : (asking : State → Asking Request) (o : Option State) (old : H)
      → ((left : Left) → left_since old (moment old) left → MayLeaveNow o left)
      → LeavesOnly moment left_since old old (LeftTo asking o)
  asking_begins asking o old now =
      begins moment left_since old (LeftTo asking o) (λ left since. left_here asking o left (now left since))

  -- a question whose command prints alone
  pub asking_says : (asking : State → Asking Request) (old mid new : H) (before told : Option State) (answer : Outcome)
      (text : List ℕ) → told ≡ before
      → IfSome before (λ s. Says (asking s) s s answer text)
      → LeavesOnly moment left_since old mid (LeftTo asking before)
      → Elapses moment left_since mid new (LeftInText text told)
      → LeavesOnly moment left_since old new (LeftTo asking before)
  asking_says asking old mid new before told answer text same says so_far time =
      goes_on moment left_since old mid new (LeftTo asking before) (LeftInText text before) so_far
      (subst (λ (x : Option State). Elapses moment left_since mid new (LeftInText text x)) same time)
      (said_left asking before answer text says)

  -- a question whose command prints alone, once it has read what it needs
  pub asking_leaves_behind : (asking : State → Asking Request) (old mid new : H) (before told : Option State)
      (answer : Outcome) (text : List ℕ) → told ≡ before
      → IfSome before (λ s. Says (asking s) s s answer text)
      → ((left : Left) → left_since old (moment old) left → MayLeaveNow before left)
      → Elapses moment left_since old mid (MayLeaveNow before)
      → Elapses moment left_since mid new (LeftInText text told)
      → LeavesOnly moment left_since old new (LeftTo asking before)
  asking_leaves_behind asking old mid new before told answer text same says only first second =
      asking_says asking old mid new before told answer text same says
      (goes_on moment left_since old old mid (LeftTo asking before) (MayLeaveNow before)
      (asking_begins asking before old only) first (left_here asking before))
      second

  -- a question whose command prints after some of it was done
  pub asking_prints : (asking : State → Asking Request) (old mid new : H) (before now : Option State) (out : Outcome)
      → IsReady asking before now out
      → LeavesOnly moment left_since old mid (LeftTo asking before)
      → ((left : Left) → moment old ≤ moment mid → MayLeaveNow now left → left_since mid (moment old) left)
      → Elapses moment left_since mid new (LeftInTold (may_have_written out) out now)
      → LeavesOnly moment left_since old new (LeftTo asking before)
  asking_prints asking old mid new before now out ready so_far here time =
      goes_on moment left_since old mid new (LeftTo asking before) (LeftInTold (may_have_written out) out now) so_far
      time
      (told_left asking before now out (may_have_written out) ready
      (λ left may. so_far.each left (here left so_far.later may)))

  -- what may be left at a command's moments may be left at those of the words that it is
  pub leaves_by : (words : List (List ℕ)) (f : Option Form) (old new : H) (before : Option State) → f ≡ form words
      → ((s : State) (left : Left) → LeftOf (form_asked f s) s left → LeftByForm f s left)
      → LeavesOnly moment left_since old new (LeftTo (λ s. form_asked f s) before)
      → LeavesOnly moment left_since old new (LeftMeanwhile words before)
  leaves_by words f old new before is gives run =
      weaker moment left_since old new (LeftTo (λ s. form_asked f s) before) (LeftMeanwhile words before)
      (λ left h. left_by (LeftTo (λ s. form_asked f s)) words f before left is (λ s. gives s left) h) run

  -- so may what is left of a change
  pub changes_by : (words : List (List ℕ)) (task : Task) (budget : ℕ) (old new : H) (before : Option State)
      → Some (change task budget) ≡ form words
      → LeavesOnly moment left_since old new (LeftToChange (change_asked task budget) before)
      → LeavesOnly moment left_since old new (LeftMeanwhile words before)
  changes_by words task budget old new before is run =
      weaker moment left_since old new (LeftToChange (change_asked task budget) before) (LeftMeanwhile words before)
      (λ left h. left_by (LeftToChange (change_asked task budget)) words (Some (change task budget)) before left is
      (λ s changed. changed) h) run

  -- and of a migration
  pub migrates_by : (words : List (List ℕ)) (old new : H) (before : Option State)
      → Some migrate_checkpoints ≡ form words
      → LeavesOnly moment left_since old new (LeftToMigration migrate_asked before)
      → LeavesOnly moment left_since old new (LeftMeanwhile words before)
  migrates_by words old new before is run =
      weaker moment left_since old new (LeftToMigration migrate_asked before) (LeftMeanwhile words before)
      (λ left h. left_by (LeftToMigration migrate_asked) words (Some migrate_checkpoints) before left is
      (λ s migrated. migrated) h) run

  -- words whose command prints alone
  pub command_leaves : (words : List (List ℕ)) (f : Option Form) (old new : H) (before : Option State)
      (answer : Outcome) (text : List ℕ) → f ≡ form words
      → ((s : State) (left : Left) → LeftOf (form_asked f s) s left → LeftByForm f s left)
      → IfSome before (λ s. Says (asked words s) s s answer text)
      → ((left : Left) → left_since old (moment old) left → MayLeaveNow before left)
      → Elapses moment left_since old new (LeftInText text before)
      → LeavesOnly moment left_since old new (LeftMeanwhile words before)
  command_leaves words f old new before answer text is gives says only time =
      leaves_by words f old new before is gives
      (subst (λ (g : Option Form). LeavesOnly moment left_since old new (LeftTo (λ s. form_asked g s) before)) (sym is)
      (asking_says (asked words) old old new before before answer text refl says
      (asking_begins (asked words) before old only) time))

  -- once it has read what it needs
  pub command_leaves_behind : (words : List (List ℕ)) (f : Option Form) (old mid new : H) (before told : Option State)
      (answer : Outcome) (text : List ℕ) → f ≡ form words
      → ((s : State) (left : Left) → LeftOf (form_asked f s) s left → LeftByForm f s left)
      → IfSome before (λ s. Says (asked words s) s s answer text) → told ≡ before
      → ((left : Left) → left_since old (moment old) left → MayLeaveNow before left)
      → Elapses moment left_since old mid (MayLeaveNow before)
      → Elapses moment left_since mid new (LeftInText text told)
      → LeavesOnly moment left_since old new (LeftMeanwhile words before)
  command_leaves_behind words f old mid new before told answer text is gives says same only first second =
      leaves_by words f old new before is gives
      (subst (λ (g : Option Form). LeavesOnly moment left_since old new (LeftTo (λ s. form_asked g s) before)) (sym is)
      (asking_leaves_behind (asked words) old mid new before told answer text same says only first second))
