-- How changes of several scopes end whose plans are printed, and what a crash leaves until then.
use Rattle.std.proofs.Common.{◌≡◌, ◌≤◌, ⊎_elim, inl, inr, ℕ, List, [], ◌++◌, refl, sym, ap, ◌∙◌, subst, arith, append-nil, append_assoc, Option, Some, None, IfSome, option_map}
use Rattle.host_core.specs.Counts.{Counts, NoneFell}
use Rattle.host_core.specs.Crashes.{Elapses, Left, MayLeave, MayLeaveInPrint, MayLeaveNow}
use Rattle.host_core.specs.State.{IsFront, State, printed}
use Rattle.change_apply.specs.Ends.{MayRise}
use Rattle.change_apply.specs.declared.errors.ApplyFault.TheVariants.{Print}
use Rattle.scope_changes.specs.Crashes.{IsLeftAmong, LeavesSince}
use Rattle.scope_changes.specs.Ends.{StopsAll}
use Rattle.scope_changes.specs.Works.{ScopeWork}
use Rattle.gcu_output.specs.declared.outcomes.Outcome.{Outcome}
use Rattle.gcu_output.specs.declared.outcomes.Outcome.TheVariants.{PrintFault}
use Rattle.command_answers.specs.Answers.{HasCause}
use Rattle.writing_commands.specs.Doing.{IsEnded}
use Rattle.scope_commands.specs.ScopeCrashes.{LeftAmongScopes, LeftDoingScopes}
use Rattle.scope_commands.specs.ScopeEndings.{EndsScopes, EndsWorks, IsCutInLastOfAll, IsLastOfAll, acknowledged_in}
use Rattle.scope_commands.specs.ScopeWorks.{works_text}
use Rattle.writing_commands.proofs.Changes.{cause_from}
use Rattle.scope_commands.proofs.ScopesFaults.{IsLastIn}

-- ---- the end

-- the last line is printed, or a front of it
pub ends_works : (works : List ScopeWork) (o told after : Option State) (old mid new : Counts)
    (answer result : Outcome) (text : List ℕ) (step : ℕ) → step ≡ acknowledged_in works answer
    → IsLastIn works o told answer text → HasCause old new answer → IsEnded answer text step told after mid new result
    → EndsWorks works o after old new result
ends_works works None told after old mid new answer result text step are last cause (inl whole) =
    whole.1 ∙ ap (option_map (printed text)) last
ends_works works None told after old mid new answer result text step are last cause (inr part) =
    part.1.3 ∙ ap (option_map (printed part.1.0)) last
ends_works works (Some began) told after old mid new answer result text step are last cause (inl whole) =
    inl (
      last.0,
      text,
      subst (λ (a : Outcome). IsLastOfAll works began last.0 a text) (sym whole.0) last.2,
      whole.1 ∙
          ap (option_map (printed text)) last.1,
    )
ends_works works (Some began) told after old mid new answer result text step are last cause (inr part) =
    inr (inl (
      last.0,
      answer,
      part.1.0,
      part.1.1,
      subst (λ (t : List ℕ). IsLastOfAll works began last.0 answer t) part.1.2 last.2,
      cause,
      part.0 ∙ ap PrintFault are,
      part.1.3 ∙ ap (option_map (printed part.1.0)) last.1,
    ))

-- an acknowledgement is cut short, or the line before a scope
pub cut_in_work : (works : List ScopeWork) (o told : Option State) (old new : Counts) (k : ℕ)
    → StopsAll works (Print k) o told → EndsWorks works o told old new (PrintFault k)
cut_in_work works None told old new k h = h
cut_in_work works (Some began) told old new k h = inr (inr (h.0, k, (h.0, refl, h.2), refl, h.1))

-- ---- causes

-- no count falls in the changes
pub rise_fell : (old new : Counts) → MayRise old new → NoneFell old new
rise_fell old new rises = let same = rises.input in
    record { input = omega (arith, same); disk = rises.disk; print = rises.print; service = rises.service }

-- causes are some since before
cut_since : (works : List ScopeWork) (began : State) (after : Option State) (old mid new : Counts) (result : Outcome)
    → NoneFell old mid
    → IsCutInLastOfAll works began after mid new result → IsCutInLastOfAll works began after old new result
cut_since works began after old mid new result fell h =
    (h.0, h.1, h.2, h.3, h.4, cause_from old mid new h.1 fell h.5, h.6, h.7)

works_since : (works : List ScopeWork) (o after : Option State) (old mid new : Counts) (result : Outcome)
    → NoneFell old mid
    → EndsWorks works o after mid new result → EndsWorks works o after old new result
works_since works None after old mid new result fell h = h
works_since works (Some began) after old mid new result fell (inl h) = inl h
works_since works (Some began) after old mid new result fell (inr (inl h)) =
    inr (inl (cut_since works began after old mid new result fell h))
works_since works (Some began) after old mid new result fell (inr (inr h)) = inr (inr h)

pub scopes_since : (works : List ScopeWork) (o after : Option State) (old mid new : Counts) (result : Outcome)
    → NoneFell old mid
    → EndsScopes works o after mid new result → EndsScopes works o after old new result
scopes_since works o after old mid new result fell (inl h) = inl h
scopes_since works o after old mid new result fell (inr h) =
    inr (works_since works (option_map (printed (works_text works)) o) after old mid new result fell h)

-- all of the text is printed
pub text_printed : (works : List ScopeWork) (o told after : Option State) (text : List ℕ) (old mid new : Counts)
    (result : Outcome) → text ≡ works_text works
    → told ≡ option_map (printed text) o → NoneFell old mid → EndsWorks works told after mid new result
    → EndsScopes works o after old new result
text_printed works o told after text old mid new result same is fell h =
    inr (works_since works (option_map (printed (works_text works)) o) after old mid new result fell
    (subst (λ t. EndsWorks works t after mid new result) (is ∙ ap (λ (t : List ℕ). option_map (printed t) o) same) h))

-- ---- what a crash leaves

module _ {H : Type 0} (moment : H → ℕ) (left_since : H → ℕ → Left → Type 0) where
  module _ (works : List ScopeWork) (began now : State) (answer : Outcome) (text : List ℕ) (old mid new : H)
      (last : IsLastOfAll works began now answer text)
      (here : (left : Left) → moment old ≤ moment mid → MayLeave now left → left_since mid (moment old) left)
      (so_far : LeavesSince moment left_since old mid began (IsLeftAmong works began))
      (time : Elapses moment left_since mid new (MayLeaveInPrint text (Some now))) where
    in_line : (left : Left) → MayLeaveInPrint text (Some now) left → LeftAmongScopes works began left
    in_line left h =
        inr (record {
          now = now;
          answer = answer;
          part = h.0;
          rest = h.1;
          line = subst (λ (t : List ℕ). IsLastOfAll works began now answer t) h.2 last;
          output = h.3.output;
          is = so_far.each (record left { output = now.output })
              (here (record left { output = now.output })
              so_far.later (record { files = h.3.files; output = refl; restarts = h.3.restarts }));
        })

    ends_in : LeavesSince moment left_since old new began (LeftAmongScopes works began)
    ends_in = record {
      later = omega (arith, so_far.later, time.later);
      each = λ left since.
          ⊎_elim (λ before. inl (so_far.each left before)) (in_line left)
          (time.nothing_else (moment old) left so_far.later since);
      before = λ t le fronts left since.
          ⊎_elim (λ before. ⊎_elim (λ b. inl b) (λ among. inr (inl among)) (so_far.before t le fronts left before))
          (λ printing. inr (in_line left printing))
          (time.nothing_else t left (omega (arith, le, so_far.later)) since);
    }

  -- until the last line is printed
  pub works_left : (works : List ScopeWork) (o told : Option State) (answer : Outcome) (text : List ℕ)
      (old mid new : H) → IsLastIn works o told answer text
      → ((left : Left) → moment old ≤ moment mid → MayLeaveNow told left → left_since mid (moment old) left)
      → IfSome o (λ s. LeavesSince moment left_since old mid s (IsLeftAmong works s))
      → Elapses moment left_since mid new (MayLeaveInPrint text told)
      → IfSome o (λ s. LeavesSince moment left_since old new s (LeftAmongScopes works s))
  works_left works None told answer text old mid new last here so_far time = tt
  works_left works (Some began) told answer text old mid new last here so_far time =
      ends_in works began last.0 answer text old mid new last.2
      (λ left later may. here left later (subst (λ t. MayLeaveNow t left) (sym last.1) may)) so_far
      (subst (λ t. Elapses moment left_since mid new (MayLeaveInPrint text t)) last.1 time)

  -- where no last line is printed
  pub works_cut : (works : List ScopeWork) (o : Option State) (old mid : H)
      → IfSome o (λ s. LeavesSince moment left_since old mid s (IsLeftAmong works s))
      → IfSome o (λ s. LeavesSince moment left_since old mid s (LeftAmongScopes works s))
  works_cut works None old mid so_far = tt
  works_cut works (Some s) old mid so_far = record {
    later = so_far.later;
    each = λ left since. inl (so_far.each left since);
    before = λ t le fronts left since. ⊎_elim (λ b. inl b) (λ among. inr (inl among))
        (so_far.before t le fronts left since);
  }

  -- ---- the text of all plans

  module _ (works : List ScopeWork) (s : State) (text : List ℕ) (old mid : H) (same : text ≡ works_text works)
      (now : (left : Left) → left_since old (moment old) left → MayLeave s left)
      (time : Elapses moment left_since old mid (MayLeaveInPrint text (Some s))) where
    nothing_yet : (left : Left) → MayLeave s left → LeftDoingScopes works s left
    nothing_yet left may =
        inl (
          [],
          works_text works,
          refl,
          record {
            files = may.files;
            output = may.output ∙ sym (append-nil s.output);
            restarts = may.restarts;
          },
        )

    in_text : (left : Left) → MayLeaveInPrint text (Some s) left → LeftDoingScopes works s left
    in_text left h = inl (subst (λ (t : List ℕ). MayLeaveInPrint t (Some s) left) same h)

    text_in : LeavesSince moment left_since old mid s (LeftDoingScopes works s)
    text_in = record {
      later = time.later;
      each = λ left since. ⊎_elim (λ b. nothing_yet left (now left b)) (in_text left)
          (time.nothing_else (moment old) left (omega arith) since);
      before = λ t le fronts left since. ⊎_elim (λ b. inl b) (λ h. inr (in_text left h))
          (time.nothing_else t left le since);
    }

    -- no more than the text was printed
    fronts_on : (t : ℕ) → t ≤ moment old → ((left : Left) → left_since old t left → IsFront left.output s.output)
        → (left : Left) → left_since mid t left → IsFront left.output (printed text s).output
    fronts_on t le fronts left since =
        ⊎_elim
        (λ b. let f = fronts left b in
        (f.0 ++ text, ap (λ (o : List ℕ). o ++ text) f.1 ∙ append_assoc left.output f.0 text))
        (λ h. (
          h.1,
          ap (λ (o : List ℕ). s.output ++ o) h.2 ∙ sym (append_assoc s.output h.0 h.1)
              ∙ ap (λ (o : List ℕ). o ++ h.1) (sym h.3.output),
        ))
        (time.nothing_else t left le since)

    fronts_now : (left : Left) → left_since old (moment old) left → IsFront left.output s.output
    fronts_now left since = ([], sym (now left since).output ∙ sym (append-nil left.output))

    text_then : (new : H)
        → LeavesSince moment left_since mid new (printed text s) (LeftAmongScopes works (printed text s))
        → LeavesSince moment left_since old new s (LeftDoingScopes works s)
    text_then new does = record {
      later = omega (arith, time.later, does.later);
      each = λ left since.
          ⊎_elim (λ b. text_in.each left b) (among left)
          (does.before (moment old) time.later (fronts_on (moment old) (omega arith) fronts_now) left since);
      before = λ t le fronts left since.
          ⊎_elim (λ b. text_in.before t le fronts left b) (λ h. inr (among left h))
          (does.before t (omega (arith, le, time.later)) (fronts_on t le fronts) left since);
    }
      where
        among : (left : Left) → LeftAmongScopes works (printed text s) left → LeftDoingScopes works s left
        among left h = inr (subst (λ (x : List ℕ). LeftAmongScopes works (printed x s) left) same h)

  pub text_left : (works : List ScopeWork) (o : Option State) (text : List ℕ) (old mid : H) → text ≡ works_text works
      → ((left : Left) → left_since old (moment old) left → MayLeaveNow o left)
      → Elapses moment left_since old mid (MayLeaveInPrint text o)
      → IfSome o (λ s. LeavesSince moment left_since old mid s (LeftDoingScopes works s))
  text_left works None text old mid same now time = tt
  text_left works (Some s) text old mid same now time = text_in works s text old mid same now time

  pub scopes_left : (works : List ScopeWork) (o told : Option State) (text : List ℕ) (old mid new : H)
      → text ≡ works_text works → told ≡ option_map (printed text) o
      → ((left : Left) → left_since old (moment old) left → MayLeaveNow o left)
      → Elapses moment left_since old mid (MayLeaveInPrint text o)
      → IfSome told (λ s. LeavesSince moment left_since mid new s (LeftAmongScopes works s))
      → IfSome o (λ s. LeavesSince moment left_since old new s (LeftDoingScopes works s))
  scopes_left works None told text old mid new same is now time does = tt
  scopes_left works (Some s) told text old mid new same is now time does =
      text_then works s text old mid same now time new
      (subst (λ t. IfSome t (λ v. LeavesSince moment left_since mid new v (LeftAmongScopes works v))) is does)
