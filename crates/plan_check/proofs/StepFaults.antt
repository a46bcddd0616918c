-- A step at fault, by its index.
use Rattle.std.proofs.Common.{◌≡◌, ℕ, suc, ◌+◌, ◌<◌, List, ◌∷◌, ◌++◌, length, take, drop, get_or, add-one, inl, sym, ap, ◌∙◌, subst, arith, drop-cons, take-append-drop}
use Rattle.std.proofs.lemmas.List.{length-take-le}
use Rattle.conf_doc.specs.WellFormed.{IsConfig}
use Rattle.conf_doc.specs.declared.configuration.Config.{Config}
use Rattle.move_core.specs.Plans.{IsWay}
use Rattle.move_core.specs.Rulebook.{Rulebook}
use Rattle.move_core.specs.declared.moves.Move.{Move}
use Rattle.plan_check.specs.Checks.{BreaksAt, IsFirstCause, IsFirstFault}
use Rattle.plan_texts.specs.declared.causes.NoWhy.{NoWhy}

-- a list, cut round an item
cut_at : {A : Type 0} (xs : List A) (i : ℕ) (x : A) → i < length xs → x ≡ get_or xs i x → xs ≡ take i xs ++ x ∷ drop (i + 1) xs
cut_at xs i x within is =
    let cut : drop i xs ≡ x ∷ drop (i + 1) xs = rw add-one (drop-cons xs i x within ∙ ap (λ y. y ∷ drop (suc i) xs) (sym is)) in
    sym (take-append-drop i xs) ∙ ap (λ l. take i xs ++ l) cut

module _ (book : Rulebook) (start goal : Config) (moves : List Move) (i : ℕ) (m : Move) (within : i < length moves) (is : m ≡ get_or moves i m) (cur : Config) (way : IsWay book goal start (take i moves) cur) where
  -- the moves before it lead to where it stands
  breaks : (step : ℕ) (why : NoWhy) → step ≡ i + 1 → IsConfig cur → IsFirstCause book goal cur m why → BreaksAt book start goal moves step why
  breaks step why number formed cause =
      let long : length (take i moves) ≡ i = length-take-le i moves (omega arith) in
      record {
        before = take i moves;
        mv = m;
        rest = drop (i + 1) moves;
        is = cut_at moves i m within is;
        number = number ∙ ap (λ n. n + 1) (sym long);
        cur = cur;
        formed = formed;
        way = way;
        cause = cause;
      }

  pub step_fault : (plan : List Move) → moves ≡ plan → (step : ℕ) (why : NoWhy) → step ≡ i + 1 → IsConfig cur → IsFirstCause book goal cur m why → IsFirstFault book start goal plan step why
  step_fault plan same step why number formed cause = inl (subst (λ ms. BreaksAt book start goal ms step why) same (breaks step why number formed cause))
