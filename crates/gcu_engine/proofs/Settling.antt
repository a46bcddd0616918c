-- That a command that writes settles first what is pending.
use Rattle.std.proofs.Common.{◌≡◌, ◌⊎◌, ⊎_elim, inl, inr, ℕ, List, sym, ◌∙◌, subst, arith, Option, Some, None, IfSome}
use Rattle.host_core.specs.Crashes.{Image, Left, LeavesOnly}
use Rattle.host_core.specs.State.{State, settled, with_pending}
use Rattle.gcu_words.specs.Form.{Form, form}
use Rattle.gcu_words.specs.Form as forms
use Rattle.gcu_words.specs.Tasks.{Task}
use Rattle.gcu_requests.specs.Asked.{form_asked, migrate_asked}
use Rattle.gcu_requests.specs.WorkAsked.{change_asked}
use Rattle.command_answers.specs.Commands.{LeftTo, LeftToChange, LeftToEarly, LeftToMigration, LeftUnwritten}
use Rattle.command_answers.specs.Crashes.{LeftByForm, LeftOf}
use Rattle.writing_commands.specs.Doing.{LeavesSettled, SettlesWriting}
use Rattle.gcu_engine.specs.Headline.{IsWhole}
use Rattle.gcu_engine.specs.Settling.{IsWriting, SettlesFirst, SettlesTasks, SettlesWrites}
use Rattle.gcu_engine.proofs.Headlines.{early_before, whole_of}
use Rattle.gcu_engine.proofs.Intending.{change_intent}

-- the command does no task
abbrev pub IsNoChange : Option Form → Type 0
IsNoChange (Some (forms.change task budget)) = ⊥
IsNoChange other = Unit {0}

-- the command does no task, and writes nothing
abbrev IsNoWriting : Option Form → Type 0
IsNoWriting None = Unit {0}
IsNoWriting (Some f) = IsWriting f → ⊥

same_task : (a b : Task) (m n : ℕ) → Some (forms.change a m) ≡ Some (forms.change b n) → a ≡ b
same_task a b m n e = cc

settles_first : (words : List (List ℕ)) (task : Task) (budget : ℕ) (s : State) (IsLeftBefore IsLeftSince : Left → Type 0) → form words ≡ Some (forms.change task budget)
    → ((left : Left) → IsLeftSince left → LeftToEarly (change_asked task budget) (Some s) left)
    ⊎ ((left : Left) → IsLeftSince left → IsLeftBefore left ⊎ LeftToChange (change_asked task budget)
    (Some (with_pending settled s)) left)
    → SettlesFirst task words s IsLeftBefore IsLeftSince
settles_first words task budget s IsLeftBefore IsLeftSince is (inl early) =
    inl (λ left since. early_before task budget s left (early left since))
settles_first words task budget s IsLeftBefore IsLeftSince is (inr settles) =
    inr (λ left since. ⊎_elim (λ before. inl before) (λ h. inr
    (whole left h, change_intent task budget (with_pending settled s) left h)) (settles left since))
  where
    whole : (left : Left) → LeftToChange (change_asked task budget) (Some (with_pending settled s)) left
        → IsWhole words (with_pending settled s) left
    whole left h =
        whole_of words (with_pending settled s) left (subst (λ (f : Option Form). LeftByForm f (with_pending settled s)
        left) (sym is) h)

module _ {H : Type 0} (moment : H → ℕ) (left_since : H → ℕ → Left → Type 0) (words : List (List ℕ)) (old new : H) where
  -- of a host that may not tell its state
  pub settles : (task : Task) (budget : ℕ) (o : Option State) → Some (forms.change task budget) ≡ form words
      → LeavesOnly moment left_since old new (LeftToEarly (change_asked task budget) o)
      ⊎ LeavesSettled moment left_since old new o (LeftToChange (change_asked task budget))
      → IfSome o (λ s. SettlesTasks words s (left_since old (moment old)) (left_since new (moment old)))
  settles task budget None is run = tt
  settles task budget (Some s) is run = λ other n same.
      subst (λ (t : Task). SettlesFirst t words s (left_since old (moment old)) (left_since new (moment old)))
      (same_task task other budget n (is ∙ same))
      (settles_first words task budget s (left_since old (moment old)) (left_since new (moment old)) (sym is)
      (since run))
    where
      since : LeavesOnly moment left_since old new (LeftToEarly (change_asked task budget) (Some s))
          ⊎ LeavesSettled moment left_since old new (Some s) (LeftToChange (change_asked task budget))
          → ((left : Left) → left_since new (moment old) left → LeftToEarly (change_asked task budget) (Some s) left)
          ⊎ ((left : Left) → left_since new (moment old) left → left_since old (moment old) left
          ⊎ LeftToChange (change_asked task budget) (Some (with_pending settled s)) left)
      since (inl early) = inl early.each
      since (inr settled_left) = inr (λ left here. settled_left (moment old) left (omega arith) here)

  -- of words that are another command
  pub never_settles : (f : Option Form) (o : Option State) → f ≡ form words → IsNoChange f
      → IfSome o (λ s. SettlesTasks words s (left_since old (moment old)) (left_since new (moment old)))
  never_settles f None is none = tt
  never_settles f (Some s) is none = λ task budget same. absurd (subst IsNoChange (is ∙ same) none)

  -- ---- a command that writes and does no task

  writes_by : (f : Option Form) (P : Option State → Left → Type 0) (o : Option State) → f ≡ form words
      → ((s : State) (left : Left) → P (Some s) left → LeftByForm f s left)
      → SettlesWriting moment left_since old new o P
      → IfSome o (λ s. SettlesWrites words s (left_since old (moment old)) (left_since new (moment old)))
  writes_by f P None is gives run = tt
  writes_by f P (Some s) is gives run = λ other same writes. by run
    where
      meanwhile : (left : Left) → P (Some (with_pending settled s)) left
          → LeftByForm (form words) (with_pending settled s) left
      meanwhile left h =
          subst (λ (g : Option Form). LeftByForm g (with_pending settled s) left) is (gives (with_pending settled s) left h)

      right : (left : Left) → P (Some (with_pending settled s)) left
          → IsWhole words (with_pending settled s) left × LeftByForm (form words) (with_pending settled s) left
      right left h = (whole_of words (with_pending settled s) left (meanwhile left h), meanwhile left h)

      by : SettlesWriting moment left_since old new (Some s) P
          → ((left : Left) → left_since new (moment old) left → Image s.pending s.files left.files)
          ⊎ ((left : Left) → left_since new (moment old) left → left_since old (moment old) left
          ⊎ (IsWhole words (with_pending settled s) left × LeftByForm (form words) (with_pending settled s) left))
      by (inl unwritten) = inl (λ left since. unwritten.each left since)
      by (inr settled_left) = inr (λ left since.
          ⊎_elim (λ before. inl before) (λ h. inr (right left h)) (settled_left (moment old) left (omega arith) since))

  pub settles_writes : (f : Option Form) (o : Option State) → f ≡ form words
      → ((s : State) (left : Left) → LeftOf (form_asked f s) s left → LeftByForm f s left)
      → SettlesWriting moment left_since old new o (LeftTo (λ s. form_asked f s))
      → IfSome o (λ s. SettlesWrites words s (left_since old (moment old)) (left_since new (moment old)))
  settles_writes f o is gives run = writes_by f (LeftTo (λ s. form_asked f s)) o is gives run

  pub settles_migration : (o : Option State) → Some forms.migrate_checkpoints ≡ form words
      → SettlesWriting moment left_since old new o (LeftToMigration migrate_asked)
      → IfSome o (λ s. SettlesWrites words s (left_since old (moment old)) (left_since new (moment old)))
  settles_migration o is run =
      writes_by (Some forms.migrate_checkpoints) (LeftToMigration migrate_asked) o is (λ s left h. h) run

  -- of words that are another command
  pub never_writes : (f : Option Form) (o : Option State) → f ≡ form words → IsNoWriting f
      → IfSome o (λ s. SettlesWrites words s (left_since old (moment old)) (left_since new (moment old)))
  never_writes f None is none = tt
  never_writes f (Some s) is none = λ other same writes. absurd (subst IsNoWriting (is ∙ same) none writes)
