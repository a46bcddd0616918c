-- Which answer comes, by what is ahead of goal by positions.
use Rattle.std.proofs.Common.{◌≡◌, ◌≢◌, ℕ, List, Result, Ok, Err, refl, ap, subst}
use Rattle.conf_doc.specs.declared.configuration.Config.{Config}
use Rattle.move_core.specs.Contexts.{rulebook}
use Rattle.move_core.specs.Ways.{IsLeast}
use Rattle.move_core.specs.declared.contexts.Ctx.{Ctx}
use Rattle.move_core.specs.declared.moves.Move.{Move}
use Rattle.plan_search.specs.ExactBudget.{IsExact}
use Rattle.plan_search.specs.Searches.{IsSearchAnswer}
use Rattle.plan_search.specs.declared.errors.SearchError.{SearchError}
use Rattle.plan_search.specs.declared.errors.SearchError.TheVariants.{Unorderable, Budget, Memory}

-- an answer is one plan
same_plan : (r : Result (List Move) SearchError) (ms ns : List Move) → r ≡ Ok ms → r ≡ Ok ns → ms ≡ ns
same_plan r ms ns e f = cc

module _ (ctx : Ctx) (start goal : Config) (n : ℕ) where
  pub exact : (r : Result (List Move) SearchError)
      → IsSearchAnswer (rulebook ctx) start goal n r → r ≢ Err Memory → IsExact (rulebook ctx) start goal n r
  exact (Ok ms) is none = record {
    plan = (λ h. ((ms, is.0), is.3), λ h. (ms, refl));
    least = λ ns e. subst (λ k. IsLeast (rulebook ctx) start goal k goal) (same_plan (Ok ms) ms ns refl e) is.2;
    budget = (λ e. absurd cc, λ h. absurd (is.3 h));
    unorderable = (λ e. absurd cc, λ h. absurd (h.0 (ms, is.0)));
  }
  exact (Err Unorderable) is none = record {
    plan = (λ h. let e = h.1 in absurd cc, λ h. absurd (is.0 h.0));
    least = λ ns e. absurd cc;
    budget = (λ e. absurd cc, λ h. absurd (is.2 h));
    unorderable = (λ e. (is.0, is.2), λ h. refl);
  }
  exact (Err (Budget b)) is none = record {
    plan = (λ h. let e = h.1 in absurd cc, λ h. absurd (h.1 is.2));
    least = λ ns e. absurd cc;
    budget = (λ e. is.2, λ h. ap (λ k. Err (Budget k)) is.0);
    unorderable = (λ e. absurd cc, λ h. absurd (h.1 is.2));
  }
  exact (Err Memory) is none = absurd (none refl)
