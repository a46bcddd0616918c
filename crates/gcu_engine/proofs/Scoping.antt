-- What is done over the files of a scope, as the folder has it.
use Rattle.std.proofs.Common.{◌≡◌, ◌≤◌, ◌⊎◌, ⊎_elim, inl, ℕ, List, [], refl, sym, ap, ◌∙◌, subst, arith, Option, Some, None, IfSome, IsSome}
use Rattle.std.specs.FinMap.{get}
use Rattle.host_core.specs.Counts.{Counts, NoneFell, NoneRose}
use Rattle.host_core.specs.Crashes.{Image, Left, LeavesOnly, MayLeaveNow}
use Rattle.host_core.specs.State.{Files, State, settled}
use Rattle.scopes.specs.Laws.{now_seen}
use Rattle.scopes.specs.Views.{AreOthersSame, AreOthersSettled, IsSeen, KeepsOthers}
use Rattle.scopes.specs.declared.scope.Scope.{Scope}
use Rattle.gcu_output.specs.declared.outcomes.Outcome.{Outcome}
use Rattle.gcu_words.specs.Form.{Form, form}
use Rattle.gcu_words.specs.Form as forms
use Rattle.gcu_requests.specs.Asked.{asked, form_asked, migrate_asked}
use Rattle.gcu_requests.specs.WorkAsked.{change_asked}
use Rattle.command_answers.specs.Answers.{Answers, Complete, IsRefusal}
use Rattle.command_answers.specs.Commands.{LeftUnwritten}
use Rattle.command_answers.specs.Crashes.{LeftByForm, LeftMeanwhile}
use Rattle.command_answers.proofs.Elapsing.{left_here, no_front, with_none}
use Rattle.scope_commands.specs.SeveralScopes.{IsLeftFrom}
use Rattle.gcu_engine.specs.Resuming.{IsStoppedIn, Resumes}
use Rattle.gcu_engine.specs.Scoped.{RunsInScope, seen_told}
use Rattle.gcu_engine.proofs.Headlines.{headline_in}
use Rattle.gcu_engine.proofs.Intending.{keeps_intent}

-- ---- the files of others

-- with nothing pending a crash leaves all files as they are
pub clean_others : (scope : Scope) (s : State) → s.pending ≡ settled → AreOthersSettled scope s
clean_others scope s clean left image =
    let is : left ≡ s.files = subst (λ p. Image p s.files left) clean image in
    λ name none. ap (λ (files : Files). get files name) is

others_now : (scope : Scope) (o q : Option State) → IfSome o (λ s. s.pending ≡ settled)
    → IfSome o (λ s. AreOthersSettled scope s → IfSome q (λ t. AreOthersSame scope s.files t.files × AreOthersSettled scope t))
    → IfSome o (λ s. IfSome q (λ t. AreOthersSame scope s.files t.files))
others_now scope None q clean keeps = tt
others_now scope (Some s) None clean keeps = tt
others_now scope (Some s) (Some t) clean keeps = (keeps (clean_others scope s clean)).0

others_ever : {H : Type 0} (moment : H → ℕ) (left_since : H → ℕ → Left → Type 0) (scope : Scope) (old new : H) (o : Option State) → moment old ≤ moment new
    → IfSome o (λ s. s.pending ≡ settled) → ((left : Left) → left_since old (moment old) left → MayLeaveNow o left)
    → IfSome o (λ s. AreOthersSettled scope s → (t : ℕ) (left : Left) → t ≤ moment old → left_since new t left → left_since old t left ⊎ AreOthersSame scope s.files left.files)
    → IfSome o (λ s. LeavesOnly moment left_since old new (λ left. AreOthersSame scope s.files left.files))
others_ever moment left_since scope old new None later clean now keeps = tt
others_ever moment left_since scope old new (Some s) later clean now keeps = record {
  later = later;
  each = λ left since.
      ⊎_elim (λ before. clean_others scope s clean left.files (now left before).files) (λ same. same)
      (keeps (clean_others scope s clean) (moment old) left (omega arith) since);
  before = keeps (clean_others scope s clean);
}

-- the same from an earlier moment on
others_before : {H : Type 0} (told : H → Option State) (moment : H → ℕ) (left_since : H → ℕ → Left → Type 0) (scope : Scope)
    (old new : H) (o : Option State) → told old ≡ o → IfSome o (λ s. s.pending ≡ settled)
    → IfSome o (λ s. AreOthersSettled scope s → (t : ℕ) (left : Left) → t ≤ moment old → left_since new t left
    → left_since old t left ⊎ AreOthersSame scope s.files left.files)
    → IfSome o (λ s. (left : Left) → IsLeftFrom told moment left_since old new left → AreOthersSame scope s.files left.files)
others_before told moment left_since scope old new None is clean keeps = tt
others_before told moment left_since scope old new (Some s) is clean keeps = λ left from.
    ⊎_elim
    (λ before. clean_others scope s clean left.files
    (subst (λ (p : Option State). MayLeaveNow p left) is (from.1.1 left before)).files) (λ same. same)
    (keeps (clean_others scope s clean) from.0 left from.1.0 from.2)

-- ---- what was there

-- a command leaves what was there, before it writes or prints
kept_meanwhile : (words : List (List ℕ)) (o : Option State) (left : Left) → MayLeaveNow o left → LeftMeanwhile words o left
kept_meanwhile words None left may = tt
kept_meanwhile words (Some s) left may = by (form words)
  where
    by : (f : Option Form) → LeftByForm f s left
    by (Some (forms.change task budget)) =
        inl ([], inl (no_front (change_asked task budget s) s), with_none s left may)
    by (Some forms.migrate_checkpoints) = inl (left_here migrate_asked (Some s) left may)
    by other = left_here (form_asked other) (Some s) left may

-- with no file written
kept_unwritten : (o : Option State) (left : Left) → MayLeaveNow o left → LeftUnwritten o left
kept_unwritten None left may = tt
kept_unwritten (Some s) left may = may.files

-- ---- a command

-- what is one is not none
pub some_or_none : {A : Type 0} (o : Option A) → IsSome o → o ≡ None → ⊥
some_or_none None some none = absurd cc
some_or_none (Some a) some none = absurd cc

pub is_there : {A : Type 0} (o : Option A) (a : A) → Some a ≡ o → o ≡ None → ⊥
is_there o a some none = let apart : Some a ≡ None = some ∙ none in absurd cc

-- what holds behind the views holds of the host
pub at_ends : {H : Type 0} (P : H → H → Type 0) (old behind new ended : H) → behind ≡ old → new ≡ ended → P behind ended → P old new
at_ends {H} P old behind new ended begins ends h = subst (λ (n : H). P old n) (sym ends) (subst (λ (o : H). P o ended) begins h)

module _ {H : Type 0} (told : H → Option State) (counts : H → Counts) (moment : H → ℕ) (left_since : H → ℕ → Left → Type 0)
    (words : List (List ℕ)) (result : Outcome) where
  -- what a run gives that begins on one view of a host and ends on another
  pub record IsViewed (from to : Scope) (old new : H) : Type 0 where
    pub answers : Answers words (seen_told from (told old)) (seen_told to (told new)) (counts old) (counts new) result
    pub later : moment old ≤ moment new
    pub each : (left : Left) → IsSeen to (left_since new (moment old)) left → LeftMeanwhile words (seen_told from (told old)) left
    pub before : (t : ℕ) (left : Left) → t ≤ moment old → IsSeen to (left_since new t) left
        → IsSeen from (left_since old t) left ⊎ LeftMeanwhile words (seen_told from (told old)) left
    pub early : IsRefusal result → (t : ℕ) (left : Left) → t ≤ moment old → IsSeen to (left_since new t) left
        → IsSeen from (left_since old t) left ⊎ LeftUnwritten (seen_told from (told old)) left
    pub complete : IfSome (seen_told from (told old)) (λ s. NoneRose (counts old) (counts new) → Complete (asked words s) result)
    pub resumes : IfSome (seen_told from (told old)) (λ s. NoneRose (counts old) (counts new) → IsStoppedIn s → Resumes words result)
    pub keeps : KeepsOthers told moment left_since from old new
    pub none_fell : NoneFell (counts old) (counts new)

  -- what has P where it was there or is left since, has it from an earlier moment on
  seen_before : (scope : Scope) (old new : H) (P : Left → Type 0)
      → ((t : ℕ) (left : Left) → t ≤ moment old → IsSeen scope (left_since new t) left
      → IsSeen scope (left_since old t) left ⊎ P left)
      → ((left : Left) → MayLeaveNow (seen_told scope (told old)) left → P left)
      → (left : Left) → IsSeen scope (IsLeftFrom told moment left_since old new) left → P left
  seen_before scope old new P before here left (whole, from, is) =
      ⊎_elim (λ b. here left (now_seen scope (told old) left from.1.1 b)) (λ p. p)
      (before from.0 left from.1.0 (whole, from.2, is))

  -- it is a run over the files of that scope
  viewed_run : (scope : Scope) (old new : H) → IfSome (told old) (λ s. s.pending ≡ settled) → ((left : Left) → left_since old (moment old) left → MayLeaveNow (told old) left)
      → IsViewed scope scope old new → RunsInScope told counts moment left_since scope words old new result
  viewed_run scope old new clean now h =
      let o = seen_told scope (told old) in
      let left = seen_before scope old new (LeftMeanwhile words o) h.before (kept_meanwhile words o) in
      record {
        answers = h.answers;
        crash = record { later = h.later; each = h.each; before = h.before };
        crash_from = left;
        headline = headline_in words o (seen_told scope (told new)) (counts old) (counts new) result
            (IsSeen scope (IsLeftFrom told moment left_since old new)) h.answers left
            (λ any. seen_before scope old new (LeftUnwritten o) (h.early any) (kept_unwritten o));
        intent = keeps_intent words o (IsSeen scope (IsLeftFrom told moment left_since old new)) left;
        complete = h.complete;
        resumes = h.resumes;
        others = others_now scope (told old) (told new) clean h.keeps.now;
        others_left = others_ever moment left_since scope old new (told old) h.keeps.later clean now h.keeps.ever;
        others_from = others_before told moment left_since scope old new (told old) refl clean h.keeps.ever;
        none_fell = h.none_fell;
      }

  -- the same of the host behind the views
  pub runs_viewed : (scope from to : Scope) (old behind new ended : H) → from ≡ scope → to ≡ from → behind ≡ old → new ≡ ended
      → IfSome (told old) (λ s. s.pending ≡ settled) → ((left : Left) → left_since old (moment old) left → MayLeaveNow (told old) left)
      → IsViewed from to behind ended → RunsInScope told counts moment left_since scope words old new result
  runs_viewed scope from to old behind new ended is same begins ends clean now h =
      viewed_run scope old new clean now
      (subst (λ (n : H). IsViewed scope scope old n) (sym ends)
      (subst (λ (o : H). IsViewed scope scope o ended) begins
      (subst (λ (s : Scope). IsViewed s s behind ended) is
      (subst (λ (s : Scope). IsViewed from s behind ended) same h))))
