-- What a type statement leads to, found step by step.
use Rattle.std.proofs.Common.{◌≡◌, ◌<◌, ◌≤◌, ◌+◌, ℕ, zero, suc, List, [], ◌∷◌, ◌++◌, map, length, take, get_or, refl, sym, ap, subst, ◌∙◌, inl, inr, arith, append_assoc}
use Rattle.std.specs.Prelude.{Contains}
use Rattle.std.proofs.lemmas.Bool.{cases_lt}
use Rattle.std.proofs.lemmas.List.{append-nil, map-append, take_more}
use Rattle.std.proofs.lemmas.List.Elements.{Contains-get_or, Contains-append_left, Contains-append_right, Contains-append_cases, Contains-push_cases}
use Rattle.yang_scope.specs.Modules.{Module}
use Rattle.yang_scope.specs.Paths.{Placed}
use Rattle.yang_values.specs.Circles.{LeadsIn, IsReached}
use Rattle.yang_values.specs.TypeValues.{next}
use Rattle.yang_values.specs.Walks.{IsAdded, AreReached, AreReachedUpTo}

pub no_element : {X : Type 0} (x : X) → ¬ (Contains [] x)
no_element x c = absurd (omega (arith, c.1))

pub only : (q r : Placed) → Contains (q ∷ []) r → q ≡ r
only q r c = elim (Contains-push_cases [] q r c) [ inl n ↦ absurd (no_element r n) | inr e ↦ e ]

-- one that is there
pub added_none : (before : List Placed) (q : Placed) → Contains before q → IsAdded before (q ∷ []) before
added_none before q there = record {
  extra = [];
  behind = sym (append-nil before);
  from = λ r c. absurd (no_element r c);
  there = λ r c. subst (λ (s : Placed). Contains before s) (only q r c) there;
}

-- one that is not
pub added_one : (before after : List Placed) (q : Placed) → after ≡ before ++ q ∷ [] → IsAdded before (q ∷ []) after
added_one before after q is = record {
  extra = q ∷ [];
  behind = is;
  from = λ r c. c;
  there = λ r c. subst (λ (qs : List Placed). Contains qs r) (sym is) (Contains-append_right before (q ∷ []) r c);
}

-- some, and one more
pub added_more : (before some middle after : List Placed) (q : Placed) → IsAdded before some middle → IsAdded middle (q ∷ []) after → IsAdded before (some ++ q ∷ []) after
added_more before some middle after q a b = record {
  extra = a.extra ++ b.extra;
  behind = b.behind ∙ ap (λ qs. qs ++ b.extra) a.behind ∙ append_assoc before a.extra b.extra;
  from = λ r c. elim (Contains-append_cases a.extra b.extra r c) [
    | inl m ↦ Contains-append_left some (q ∷ []) r (a.from r m)
    | inr m ↦ Contains-append_right some (q ∷ []) r (b.from r m)
  ];
  there = λ r c. elim (Contains-append_cases some (q ∷ []) r c) [
    | inl m ↦ subst (λ (qs : List Placed). Contains qs r) (sym b.behind) (Contains-append_left middle b.extra r (a.there r m))
    | inr m ↦ b.there r m
  ];
}

-- none yet
pub added_nothing : (before : List Placed) → IsAdded before [] before
added_nothing before = record {
  extra = [];
  behind = sym (append-nil before);
  from = λ r c. c;
  there = λ r c. absurd (no_element r c);
}

-- one step more
pub leads_on : (modules : List Module) (n : ℕ) (p r q : Placed) → LeadsIn modules n p r → Contains (next modules r) q → LeadsIn modules (suc n) p q
leads_on modules zero p r q same c = (q, subst (λ (s : Placed). Contains (next modules s) q) (sym same) c, refl)
leads_on modules (suc n) p r q (s, first, rest) c = (s, first, leads_on modules n s r q rest c)

closed_on : (modules : List Module) (p : Placed) (qs : List Placed) → AreReached modules p qs → (n : ℕ) (r q : Placed) → Contains qs r → LeadsIn modules n r q → Contains qs q
closed_on modules p qs all zero r q there same = subst (λ (s : Placed). Contains qs s) same there
closed_on modules p qs all (suc n) r q there (s, first, rest) = closed_on modules p qs all n s q (all.closed r s there first) rest

-- what is reached is among them
pub reached_there : (modules : List Module) (p : Placed) (qs : List Placed) → AreReached modules p qs → (q : Placed) → IsReached modules p q → Contains qs q
reached_there modules p qs all q (n, (s, first, rest)) = closed_on modules p qs all n s q (all.first s first) rest

get_or-any : {X : Type 0} (xs : List X) (k : ℕ) (d e : X) → k < length xs → get_or xs k d ≡ get_or xs k e
get_or-any [] k d e w = absurd (omega arith)
get_or-any (x ∷ xs) zero d e w = refl
get_or-any (x ∷ xs) (suc k) d e w = get_or-any xs k d e (omega arith)

get_or-left : {X : Type 0} (xs ys : List X) (k : ℕ) (d : X) → k < length xs → get_or (xs ++ ys) k d ≡ get_or xs k d
get_or-left [] ys k d w = absurd (omega arith)
get_or-left (x ∷ xs) ys zero d w = refl
get_or-left (x ∷ xs) ys (suc k) d w = get_or-left xs ys k d (omega arith)

-- the first ones
pub reached_first : (modules : List Module) (p : Placed) (first qs : List Placed) → first ≡ next modules p → IsAdded [] first qs → AreReachedUpTo modules 0 p qs
reached_first modules p first qs is added = record {
  reached = λ q c. (0, (q, subst (λ (rs : List Placed). Contains rs q) is (added.from q (subst (λ (rs : List Placed). Contains rs q) added.behind c)), refl));
  first = λ q c. added.there q (subst (λ (rs : List Placed). Contains rs q) (sym is) c);
  closed = λ j q below c. absurd (omega arith);
}

-- those that the next one leads to
pub reached_more : (modules : List Module) (i : ℕ) (p r : Placed) (qs others after : List Placed) → i < length qs → r ≡ get_or qs i p → others ≡ next modules r
    → AreReachedUpTo modules i p qs → IsAdded qs others after → AreReachedUpTo modules (i + 1) p after
reached_more modules i p r qs others after within is leads all added = record {
  reached = λ q c. elim (Contains-append_cases qs added.extra q (subst (λ (rs : List Placed). Contains rs q) added.behind c)) [
    | inl m ↦ all.reached q m
    | inr m ↦ on q (added.from q m)
  ];
  first = λ q c. left q (all.first q c);
  closed = λ j q below c. elim (cases_lt j i) [
    | inl before ↦ left q (all.closed j q before (subst (λ (s : Placed). Contains (next modules s) q) (ap (λ rs. get_or rs j p) added.behind ∙ get_or-left qs added.extra j p (omega arith)) c))
    | inr after ↦
        let e : j ≡ i = omega arith in
        added.there q (subst (λ (rs : List Placed). Contains rs q) (sym leads) (subst (λ (s : Placed). Contains (next modules s) q) (ap (λ k. get_or after_all k p) e ∙ ap (λ rs. get_or rs i p) added.behind ∙ get_or-left qs added.extra i p within ∙ sym is) c))
  ];
}
  where
    after_all : List Placed
    after_all = after

    left : (q : Placed) → Contains qs q → Contains after q
    left q m = subst (λ (rs : List Placed). Contains rs q) (sym added.behind) (Contains-append_left qs added.extra q m)

    on : (q : Placed) → Contains others q → IsReached modules p q
    on q m =
        let from : IsReached modules p r = subst (λ (s : Placed). IsReached modules p s) (sym is) (all.reached (get_or qs i p) (Contains-get_or qs i p within)) in
        (suc from.0, leads_on modules (suc from.0) p r q from.1 (subst (λ (rs : List Placed). Contains rs q) leads m))

-- none is left to go on from
pub reached_end : (modules : List Module) (i : ℕ) (p : Placed) (qs : List Placed) → length qs ≤ i → AreReachedUpTo modules i p qs → AreReached modules p qs
reached_end modules i p qs past all = record {
  reached = all.reached;
  first = all.first;
  closed = λ r q there c. all.closed there.0 q (omega (arith, there.1)) (subst (λ (s : Placed). Contains (next modules s) q) (sym (get_or-any qs there.0 p r there.1 ∙ there.2)) c);
}

-- an element of a list
pub contains_at : {W : Type 0} {X : Type 0} (f : W → X) (ws : List W) (i : ℕ) (w : W) (x : X) → i < length ws → w ≡ get_or ws i w → f w ≡ x → Contains (map f ws) x
contains_at f [] i w x within is same = absurd (omega arith)
contains_at f (u ∷ ws) zero w x within is same = (0, omega arith, ap f (sym is) ∙ same)
contains_at f (u ∷ ws) (suc i) w x within is same =
    let c = contains_at f ws i w x (omega arith) is same in
    (suc c.0, omega (arith, c.1), c.2)

-- one more that it isn't
pub lacks_more : {W : Type 0} {X : Type 0} (f : W → X) (ws : List W) (i : ℕ) (w : W) (x : X) → i < length ws → w ≡ get_or ws i w → ¬ (f w ≡ x) → ¬ (Contains (map f (take i ws)) x) → ¬ (Contains (map f (take (i + 1) ws)) x)
lacks_more {X = X} f ws i w x within is other before c =
    let more : map f (take (i + 1) ws) ≡ map f (take i ws) ++ f (get_or ws i w) ∷ [] = ap (map f) (take_more ws i w within) ∙ map-append f (take i ws) (get_or ws i w ∷ []) in
    elim (Contains-push_cases (map f (take i ws)) (f (get_or ws i w)) x (subst (λ (xs : List X). Contains xs x) more c)) [
      | inl m ↦ before m
      | inr e ↦ other (ap f is ∙ e)
    ]

-- an element behind a function
pub get_or-mapped : {W : Type 0} {X : Type 0} (f : W → X) (ws : List W) (i : ℕ) (w : W) (d : X) → i < length ws → w ≡ get_or ws i w → f w ≡ get_or (map f ws) i d
get_or-mapped f [] i w d within is = absurd (omega arith)
get_or-mapped f (u ∷ ws) zero w d within is = ap f is
get_or-mapped f (u ∷ ws) (suc i) w d within is = get_or-mapped f ws i w d (omega arith) is

pub mapped_more : {W : Type 0} {X : Type 0} (f : W → X) (ws : List W) (i : ℕ) (w : W) → i < length ws → w ≡ get_or ws i w → map f (take (i + 1) ws) ≡ map f (take i ws) ++ f w ∷ []
mapped_more f ws i w within is = ap (map f) (take_more ws i w within) ∙ map-append f (take i ws) (get_or ws i w ∷ []) ∙ ap (λ v. map f (take i ws) ++ f v ∷ []) (sym is)
