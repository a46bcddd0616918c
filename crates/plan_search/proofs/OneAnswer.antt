-- A question has one answer.
use Rattle.std.proofs.Common.{◌≡◌, ◌≢◌, ◌⊎◌, inl, inr, ℕ, List, [], ◌∷◌, Result, Ok, Err, refl, sym, ap, ◌∙◌}
use Rattle.conf_doc.specs.declared.configuration.Config.{Config}
use Rattle.move_core.specs.Contexts.{rulebook}
use Rattle.move_core.specs.declared.contexts.Ctx.{Ctx}
use Rattle.move_core.specs.declared.moves.Move.{Move}
use Rattle.plan_search.specs.FirstWays.{IsFirstWay, StandsBefore}
use Rattle.plan_search.specs.Kits.{moves_told, one_before}
use Rattle.plan_search.specs.Searches.{IsSearchAnswer, SearchesAgree}
use Rattle.plan_search.specs.declared.errors.SearchError.{SearchError}
use Rattle.plan_search.specs.declared.errors.SearchError.TheVariants.{Unorderable, Budget, Memory}
use Rattle.plan_search.proofs.Orders.{not_both_before}
use Rattle.plan_search.proofs.Positions.{least_is_first}

same_head : (m n : Move) (ms ns : List Move) → m ∷ ms ≡ n ∷ ns → m ≡ n
same_head m n ms ns e = cc

same_rest : (m n : Move) (ms ns : List Move) → m ∷ ms ≡ n ∷ ns → ms ≡ ns
same_rest m n ms ns e = cc

-- lists of moves are the same or not
lists_told : (ms ns : List Move) → (ms ≡ ns) ⊎ (ms ≢ ns)
lists_told [] [] = inl refl
lists_told [] (n ∷ ns) = inr (λ e. absurd cc)
lists_told (m ∷ ms) [] = inr (λ e. absurd cc)
lists_told (m ∷ ms) (n ∷ ns) = by (moves_told m n) (lists_told ms ns)
  where
    by : (m ≡ n) ⊎ (m ≢ n) → (ms ≡ ns) ⊎ (ms ≢ ns) → (m ∷ ms ≡ n ∷ ns) ⊎ (m ∷ ms ≢ n ∷ ns)
    by (inl e) (inl es) = inl (λ i. e i ∷ es i)
    by (inl e) (inr ne) = inr (λ es. ne (same_rest m n ms ns es))
    by (inr ne) rest = inr (λ es. ne (same_head m n ms ns es))

module _ (ctx : Ctx) (start goal : Config) where
  -- there is one first way
  pub one_first : (ms ns : List Move) → IsFirstWay (rulebook ctx) start goal ms
      → IsFirstWay (rulebook ctx) start goal ns → ms ≡ ns
  one_first ms ns a b = by (lists_told ms ns)
    where
      by : (ms ≡ ns) ⊎ (ms ≢ ns) → ms ≡ ns
      by (inl e) = e
      by (inr ne) =
          absurd (not_both_before (StandsBefore (rulebook ctx) start goal) (one_before (rulebook ctx) start goal) start ms ns
          (a.first ns b.way (λ e. ne (sym e))) (b.first ms a.way ne))

  one_answer : (n : ℕ) (r s : Result (List Move) SearchError)
      → IsSearchAnswer (rulebook ctx) start goal n r → IsSearchAnswer (rulebook ctx) start goal n s
      → r ≢ Err Memory → s ≢ Err Memory → r ≡ s
  one_answer n (Ok ms) (Ok ns) a b u v =
      ap Ok (one_first ms ns (least_is_first ctx start goal ms a.2) (least_is_first ctx start goal ns b.2))
  one_answer n (Ok ms) (Err Unorderable) a b u v = absurd (b.0 (ms, a.0))
  one_answer n (Ok ms) (Err (Budget k)) a b u v = absurd (a.3 b.2)
  one_answer n (Ok ms) (Err Memory) a b u v = absurd (v refl)
  one_answer n (Err Unorderable) (Ok ns) a b u v = absurd (a.0 (ns, b.0))
  one_answer n (Err Unorderable) (Err Unorderable) a b u v = refl
  one_answer n (Err Unorderable) (Err (Budget k)) a b u v = absurd (a.2 b.2)
  one_answer n (Err Unorderable) (Err Memory) a b u v = absurd (v refl)
  one_answer n (Err (Budget j)) (Ok ns) a b u v = absurd (b.3 a.2)
  one_answer n (Err (Budget j)) (Err Unorderable) a b u v = absurd (b.2 a.2)
  one_answer n (Err (Budget j)) (Err (Budget k)) a b u v = ap (λ x. Err (Budget x)) (a.0 ∙ sym b.0)
  one_answer n (Err (Budget j)) (Err Memory) a b u v = absurd (v refl)
  one_answer n (Err Memory) s a b u v = absurd (u refl)

pub searches_agree : SearchesAgree
searches_agree = one_answer
