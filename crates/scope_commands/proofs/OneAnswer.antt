-- That a change of several scopes asks one thing: so do its parts, scope after scope, and the searches for its plans.
use Rattle.std.proofs.Common.{◌≡◌, ◌≢◌, ℕ, List, [], ◌∷◌, Result, Ok, Err, refl, sym, ap, ◌∙◌}
use Rattle.host_core.specs.State.{State}
use Rattle.move_core.specs.Contexts.{rulebook}
use Rattle.move_core.specs.declared.contexts.Ctx.{Ctx}
use Rattle.move_core.specs.declared.moves.Move.{Move}
use Rattle.patch_core.specs.Operation.{Operation}
use Rattle.plan_search.specs.Searches.{IsSearchAnswer, SearchesAgree}
use Rattle.plan_search.specs.declared.errors.SearchError.{SearchError}
use Rattle.plan_search.specs.declared.errors.SearchError.TheVariants as search_error
use Rattle.scopes.specs.Splitting.{Part, split}
use Rattle.scopes.specs.Views.{seen}
use Rattle.scopes.specs.declared.scope.Scope.{Scope}
use Rattle.gcu_output.specs.declared.outcomes.Outcome.{Outcome}
use Rattle.gcu_output.specs.declared.outcomes.Outcome.TheVariants.{Budget, Unorderable}
use Rattle.gcu_inputs.specs.Asking.{Asking, follows, follows_by, of_each}
use Rattle.gcu_inputs.specs.IntentAsked.{uninterrupted}
use Rattle.gcu_inputs.specs.PatchAsked.{patch_asked, target}
use Rattle.gcu_inputs.specs.RulesAsked.{ctx_asked}
use Rattle.gcu_requests.specs.OneAnswer.{HasOneAnswer}
use Rattle.gcu_requests.specs.PlanAsked.{judged_asked, start_asked}
use Rattle.gcu_requests.specs.Request.{Planning}
use Rattle.gcu_requests.specs.ScopesAsked.{GivesWithin, ScopePlanning, part_asked, patched_asked, refusal_of, scopes_asked, split_answer, within}
use Rattle.gcu_requests.proofs.OneAnswer.{apart, asks_one, chain_one, follows_one, judged_one, same_err, start_one, uninterrupted_one}
use Rattle.command_answers.specs.Plannings.{HasNone, IsPlanFor}
use Rattle.command_answers.specs.ScopeTexts.{IsSolvedBy, plan_scopes_asked, scopes_solved, solved_asked}
use Rattle.scope_commands.specs.OneAnswer.{PlansOfScopesAreOne}

-- ---- a question of each, and of a scope

-- the same question of each
each_one : {X Y : Type 0} (ask : X → Asking Y) → ((x : X) → HasOneAnswer (ask x)) → (xs : List X)
    → HasOneAnswer (of_each ask xs)
each_one ask one [] = follows_one _
each_one ask one (x ∷ xs) =
    chain_one (ask x) _ (one x) (λ y. chain_one (of_each ask xs) _ (each_one ask one xs) (λ ys. follows_one _))

-- a refusal of a scope tells one refusal
within_one : {X : Type 0} (scope : Scope) (asking : Asking X) → HasOneAnswer asking → HasOneAnswer (within scope asking)
within_one {X} scope asking one = record { same = by }
  where
    by : (r q : Result X Outcome) → GivesWithin scope asking r → GivesWithin scope asking q → r ≡ q
    by (Ok x) (Ok y) h k = one.same (Ok x) (Ok y) h k
    by (Ok x) (Err f) h (of, k, is) =
        absurd (apart {X = X} x of (Ok x) (Err of) refl refl (one.same (Ok x) (Err of) h k))
    by (Err e) (Ok y) (of, h, is) k =
        absurd (apart {X = X} y of (Ok y) (Err of) refl refl (one.same (Ok y) (Err of) k h))
    by (Err e) (Err f) (of, h, is) (too, k, are) =
        let same : of ≡ too = same_err {X = X} of too (Err of) (Err too) refl refl (one.same (Err of) (Err too) h k) in
        ap (λ (o : Outcome). Err o) (is ∙ ap (refusal_of scope) same ∙ sym are)

-- ---- a plan, or why there is none

-- what a search tells
abbrev Told : Type 0
Told = Result (List Move) SearchError

-- no want of memory
abbrev IsTold : Told → Type 0
IsTold r = r ≢ Err search_error.Memory

plan_told : (ms : List Move) → IsTold (Ok ms)
plan_told ms e = cc

order_told : IsTold (Err search_error.Unorderable)
order_told e = cc

budget_told : (n : ℕ) → IsTold (Err (search_error.Budget n))
budget_told n e = cc

told_same : (ms ns : List Move) (r q : Told) → r ≡ Ok ms → q ≡ Ok ns → r ≡ q → ms ≡ ns
told_same ms ns r q is are same = cc

told_apart : (ms : List Move) (e : SearchError) (r q : Told) → r ≡ Ok ms → q ≡ Err e → r ≡ q → ⊥
told_apart ms e r q is are same = cc

reasons_apart : (n : ℕ) (r q : Told) → r ≡ Err search_error.Unorderable → q ≡ Err (search_error.Budget n) → r ≡ q → ⊥
reasons_apart n r q is are same = cc

module _ (agree : SearchesAgree) (p : Planning) where
  agreed : (r q : Told) → IsSearchAnswer (rulebook p.ctx) p.start p.goal p.budget r
      → IsSearchAnswer (rulebook p.ctx) p.start p.goal p.budget q → IsTold r → IsTold q → r ≡ q
  agreed r q h k told also = agree p.ctx p.start p.goal p.budget r q h k told also

  -- where there is a plan there is none for no reason
  plan_not : (ms : List Move) (e : Outcome) → IsPlanFor p ms → HasNone p e → ⊥
  plan_not ms Unorderable h k =
      told_apart ms search_error.Unorderable (Ok ms) (Err search_error.Unorderable) refl refl
      (agreed (Ok ms) (Err search_error.Unorderable) h k (plan_told ms) order_told)
  plan_not ms (Budget n) h k =
      told_apart ms (search_error.Budget n) (Ok ms) (Err (search_error.Budget n)) refl refl
      (agreed (Ok ms) (Err (search_error.Budget n)) h k (plan_told ms) (budget_told n))
  plan_not ms other h never = never

  -- one reason
  reason_not : (n : ℕ) → HasNone p Unorderable → HasNone p (Budget n) → ⊥
  reason_not n h k =
      reasons_apart n (Err search_error.Unorderable) (Err (search_error.Budget n)) refl refl
      (agreed (Err search_error.Unorderable) (Err (search_error.Budget n)) h k order_told (budget_told n))

  none_same : (e f : Outcome) → HasNone p e → HasNone p f → e ≡ f
  none_same Unorderable Unorderable h k = refl
  none_same Unorderable (Budget n) h k = absurd (reason_not n h k)
  none_same Unorderable other h never = absurd never
  none_same (Budget m) Unorderable h k = absurd (reason_not m k h)
  none_same (Budget m) (Budget n) h k = ap Budget (h.0 ∙ sym k.0)
  none_same (Budget m) other h never = absurd never
  none_same other f never k = absurd never

  plan_same : (r q : Result (List Move) Outcome) → IsSolvedBy p r → IsSolvedBy p q → r ≡ q
  plan_same (Ok ms) (Ok ns) h k =
      ap (λ (x : List Move). Ok x) (told_same ms ns (Ok ms) (Ok ns) refl refl
      (agreed (Ok ms) (Ok ns) h k (plan_told ms) (plan_told ns)))
  plan_same (Ok ms) (Err f) h k = absurd (plan_not ms f h k)
  plan_same (Err e) (Ok ns) h k = absurd (plan_not ns e k h)
  plan_same (Err e) (Err f) h k = ap (λ (o : Outcome). Err o) (none_same e f h k)

solved_one : SearchesAgree → (p : ScopePlanning) → HasOneAnswer (solved_asked p)
solved_one agree p =
    chain_one (within p.0 (follows_by (IsSolvedBy p.1))) _ (within_one p.0 (follows_by (IsSolvedBy p.1))
    (record { same = plan_same agree p.1 })) (λ ms. follows_one _)

-- ---- the questions

-- of one scope
patched_one : (ctx : Ctx) (budget : ℕ) (ops : List Operation) (s : State)
    → HasOneAnswer (patched_asked ctx budget ops s)
patched_one ctx budget ops s =
    chain_one (uninterrupted s) _ (uninterrupted_one s)
    (λ u. chain_one (start_asked ctx s) _ (start_one ctx s)
    (λ start. chain_one (follows (target ops start)) _ (follows_one _)
    (λ made. chain_one (judged_asked ctx start made) _ (judged_one ctx start made) (λ goal. follows_one _))))

part_one : (ctx : Ctx) (budget : ℕ) (s : State) (part : Part) → HasOneAnswer (part_asked ctx budget s part)
part_one ctx budget s part =
    chain_one (within part.0 (patched_asked ctx budget part.1 (seen part.0 s))) _
    (within_one part.0 (patched_asked ctx budget part.1 (seen part.0 s))
    (patched_one ctx budget part.1 (seen part.0 s))) (λ p. follows_one _)

-- what moves are judged by is one, and so are the answers of a search
module _ (judges : (s : State) → HasOneAnswer (ctx_asked s)) (agree : SearchesAgree) where
  scopes_one : (path : List ℕ) (budget : ℕ) (s : State) → HasOneAnswer (scopes_asked path budget s)
  scopes_one path budget s =
      chain_one (uninterrupted s) _ (uninterrupted_one s)
      (λ u. chain_one (ctx_asked s) _ (judges s)
      (λ ctx. chain_one (patch_asked path s) _ (asks_one _ _)
      (λ ops. chain_one (follows (split_answer (split ops))) _ (follows_one _)
      (λ parts. each_one (part_asked ctx budget s) (part_one ctx budget s) parts))))

  pub plans_one : PlansOfScopesAreOne
  plans_one path budget s =
      chain_one (scopes_solved path budget s) _ (chain_one (scopes_asked path budget s) _ (scopes_one path budget s)
      (λ plannings. each_one solved_asked (solved_one agree) plannings))
      (λ plans. follows_one _)
