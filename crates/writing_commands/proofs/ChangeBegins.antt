-- A change from what is printed before it on.
use Rattle.std.proofs.Common.{◌≡◌, inl, inr, ℕ, List, [], append-nil, refl, sym, ◌∙◌, subst, Option, Some, None, IfSome, option_map}
use Rattle.host_core.specs.Counts.{Counts, NoneFell}
use Rattle.host_core.specs.Crashes.{Elapses, Left, LeavesOnly, MayLeave, MayLeaveInPrint, MayLeaveNow}
use Rattle.host_core.specs.State.{State, printed}
use Rattle.host_core.proofs.Runs as runs
use Rattle.change_apply.specs.Change.{Change}
use Rattle.gcu_output.specs.declared.outcomes.Outcome.{Outcome}
use Rattle.command_answers.specs.Crashes.{LeftChanged}
use Rattle.writing_commands.specs.Doing.{EndsChange, EndsFrom, LeftDoing}
use Rattle.writing_commands.proofs.Changes.{from_since}

-- all of it is printed
pub all_printed : (text : List ℕ) (c : Change) (o told after : Option State) (old mid new : Counts) (result : Outcome)
    → told ≡ option_map (printed text) o → NoneFell old mid → EndsFrom c told after mid new result
    → EndsChange text c o after old new result
all_printed text c o told after old mid new result is fell h =
    inr (from_since c (option_map (printed text) o) after old mid new result fell
    (subst (λ t. EndsFrom c t after mid new result) is h))

module _ {H : Type 0} (moment : H → ℕ) (left_since : H → ℕ → Left → Type 0) where
  -- while it is printed
  in_print : (text : List ℕ) (c : Change) (s : State) (old mid : H)
      → ((left : Left) → left_since old (moment old) left → MayLeave s left)
      → Elapses moment left_since old mid (MayLeaveInPrint text (Some s))
      → LeavesOnly moment left_since old mid (LeftDoing text c s)
  in_print text c s old mid now time =
      runs.goes_on moment left_since old old mid (LeftDoing text c s) (MayLeaveInPrint text (Some s))
      (runs.begins moment left_since old (LeftDoing text c s)
      (λ left since.
      let may = now left since in
      inl (
        [],
        text,
        refl,
        record {
          files = may.files;
          output = may.output ∙ sym (append-nil s.output);
          restarts =
              may.restarts;
        },
      )))
      time
      (λ left h. inl h)

  pub print_left : (text : List ℕ) (c : Change) (o : Option State) (old mid : H)
      → ((left : Left) → left_since old (moment old) left → MayLeaveNow o left)
      → Elapses moment left_since old mid (MayLeaveInPrint text o)
      → IfSome o (λ s. LeavesOnly moment left_since old mid (LeftDoing text c s))
  print_left text c None old mid now time = tt
  print_left text c (Some s) old mid now time = in_print text c s old mid now time

  pub doing_leaves : (text : List ℕ) (c : Change) (o told : Option State) (old mid new : H)
      → told ≡ option_map (printed text) o
      → ((left : Left) → left_since old (moment old) left → MayLeaveNow o left)
      → Elapses moment left_since old mid (MayLeaveInPrint text o)
      → IfSome told (λ s. LeavesOnly moment left_since mid new (LeftChanged c s))
      → IfSome o (λ s. LeavesOnly moment left_since old new (LeftDoing text c s))
  doing_leaves text c None told old mid new is now time does = tt
  doing_leaves text c (Some s) told old mid new is now time does =
      runs.joins moment left_since old mid new (LeftDoing text c s) (in_print text c s old mid now time)
      (runs.weaker moment left_since mid new (LeftChanged c (printed text s)) (LeftDoing text c s) (λ left h. inr h)
      (subst (λ t. IfSome t (λ s. LeavesOnly moment left_since mid new (LeftChanged c s))) is does))
