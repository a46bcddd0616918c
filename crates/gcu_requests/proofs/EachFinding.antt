-- How what is found of each item makes what is found of all of them.
use Rattle.std.proofs.Common.{◌≡◌, ◌<◌, ◌≤◌, inr, ℕ, ◌+◌, List, [], ◌∷◌, ◌++◌, drop, get_or, length, map, take, refl, sym, ap, ◌∙◌, subst, append_assoc, Option, Some, None, Ok, Err, IfSome}
use Rattle.std.proofs.lemmas.List.{map-append, take-append-drop, take_all, take_more}
use Rattle.host_core.specs.State.{State}
use Rattle.gcu_output.specs.declared.outcomes.Outcome.{Outcome}
use Rattle.gcu_inputs.specs.Asking.{Asking, of_each}
use Rattle.gcu_inputs.specs.Preparing.{AreFound, Finds, Found}
use Rattle.gcu_inputs.proofs.Finding.{first_refused, then_found}

module _ {X Y V : Type 0} (view : V → Y) (ask : X → Asking Y) where
  -- one more is found
  pub one_more : (xs : List X) (x : X) (vs : List V) (v : V) → AreFound view ask xs vs → (ask x).Gives (Ok (view v))
      → AreFound view ask (xs ++ x ∷ []) (vs ++ v ∷ [])
  one_more [] x [] v found gives = (gives, tt)
  one_more [] x (w ∷ vs) v never gives = absurd never
  one_more (y ∷ xs) x [] v never gives = absurd never
  one_more (y ∷ xs) x (w ∷ vs) v found gives = (found.0, one_more xs x vs v found.1 gives)

  -- all are found
  pub all_given : (xs : List X) (vs : List V) → AreFound view ask xs vs → (of_each ask xs).Gives (Ok (map view vs))
  all_given [] [] found = refl
  all_given [] (v ∷ vs) never = absurd never
  all_given (x ∷ xs) [] never = absurd never
  all_given (x ∷ xs) (v ∷ vs) found = inr (view v, found.0, inr (map view vs, all_given xs vs found.1, refl))

  -- one is refused behind those that are found
  pub one_refused : (xs : List X) (x : X) (rest : List X) (vs : List V) (e : Outcome) → AreFound view ask xs vs
      → Found {X = V} view (Err e) (ask x) → Found {X = List V} (map view) (Err e) (of_each ask (xs ++ x ∷ rest))
  one_refused [] x rest [] e found h = first_refused view (map view) e (ask x) _ h
  one_refused [] x rest (v ∷ vs) e never h = absurd never
  one_refused (y ∷ xs) x rest [] e never h = absurd never
  one_refused (y ∷ xs) x rest (v ∷ vs) e found h =
      then_found view (map view) v (Err e) (ask y) _ (record { gives = found.0; stands = tt })
      (first_refused {X = List V} (map view) (map view) e (of_each ask (xs ++ x ∷ rest)) _
      (one_refused xs x rest vs e found.1 h))

-- ---- items by their places

module _ {S X : Type 0} (f : S → X) (items : List S) (i : ℕ) (item : S) (less : i < length items)
    (is : item ≡ get_or items i item) where
  -- the first ones and one more
  pub items_more : map f (take (i + 1) items) ≡ map f (take i items) ++ f item ∷ []
  items_more =
      ap (map f) (take_more items i item less ∙ ap (λ (x : S). take i items ++ x ∷ []) (sym is))
      ∙ map-append f (take i items) (item ∷ [])

  -- the first ones, one more, and the others
  items_around : map f items ≡ map f (take i items) ++ f item ∷ map f (drop (i + 1) items)
  items_around =
      ap (map f) (sym (take-append-drop (i + 1) items))
      ∙ map-append f (take (i + 1) items) (drop (i + 1) items)
      ∙ ap (λ (xs : List X). xs ++ map f (drop (i + 1) items)) items_more
      ∙ append_assoc (map f (take i items)) (f item ∷ []) (map f (drop (i + 1) items))

module _ {S X Y V : Type 0} (f : S → X) (view : V → Y) (ask : X → Asking Y) (items : List S) where
  -- one more is found
  pub more_given : (i : ℕ) (item : S) (vs all : List V) (v : V) → i < length items → item ≡ get_or items i item
      → all ≡ vs ++ v ∷ []
      → AreFound view ask (map f (take i items)) vs → (ask (f item)).Gives (Ok (view v))
      → AreFound view ask (map f (take (i + 1) items)) all
  more_given i item vs all v less is longer found gives =
      subst (AreFound view ask (map f (take (i + 1) items))) (sym longer)
      (subst (λ (xs : List X). AreFound view ask xs (vs ++ v ∷ [])) (sym (items_more f items i item less is))
      (one_more view ask (map f (take i items)) (f item) vs v found gives))

  -- all are found
  pub each_given : (i : ℕ) (vs : List V) → length items ≤ i → AreFound view ask (map f (take i items)) vs
      → Found (map view) (Ok vs) (of_each ask (map f items))
  each_given i vs behind found = record {
    gives =
        all_given view ask (map f items) vs
        (subst (λ (xs : List S). AreFound view ask (map f xs) vs) (take_all i items behind) found);
    stands = tt;
  }

  -- one is refused behind those that are found
  pub refused_behind : (i : ℕ) (item : S) (vs : List V) (e : Outcome) → i < length items → item ≡ get_or items i item
      → AreFound view ask (map f (take i items)) vs → Found {X = V} view (Err e) (ask (f item))
      → Found {X = List V} (map view) (Err e) (of_each ask (map f items))
  refused_behind i item vs e less is found h =
      subst (λ (xs : List X). Found {X = List V} (map view) (Err e) (of_each ask xs))
      (sym (items_around f items i item less is))
      (one_refused view ask (map f (take i items)) (f item) (map f (drop (i + 1) items)) vs e found h)

-- ---- the same over a host that may not tell its state

module _ {S X Y V : Type 0} (f : S → X) (view : V → Y) (ask : State → X → Asking Y) (items : List S) where
  -- nothing is asked yet
  pub none_found : (o : Option State) (vs : List V) → vs ≡ [] → IfSome o (λ s. AreFound view (ask s) [] vs)
  none_found None vs is = tt
  none_found (Some s) vs is = subst (AreFound view (ask s) []) (sym is) tt

  -- one more is found
  pub more_found : (i : ℕ) (item : S) (o q : Option State) (vs all : List V) (v : V) → i < length items
      → item ≡ get_or items i item
      → q ≡ o → all ≡ vs ++ v ∷ [] → IfSome o (λ s. AreFound view (ask s) (map f (take i items)) vs)
      → Finds q view (Ok v) (λ s. ask s (f item))
      → IfSome o (λ s. AreFound view (ask s) (map f (take (i + 1) items)) all)
  more_found i item None q vs all v less is same longer found h = tt
  more_found i item (Some s) q vs all v less is same longer found h =
      let here : Found view (Ok v) (ask s (f item)) = subst
      (λ (t : Option State). Finds t view (Ok v) (λ s. ask s (f item))) same h in
      more_given f view (ask s) items i item vs all v less is longer found here.gives

  -- all are found
  pub all_found : (i : ℕ) (o : Option State) (vs : List V) → length items ≤ i
      → IfSome o (λ s. AreFound view (ask s) (map f (take i items)) vs)
      → Finds o (map view) (Ok vs) (λ s. of_each (ask s) (map f items))
  all_found i None vs behind found = tt
  all_found i (Some s) vs behind found = each_given f view (ask s) items i vs behind found

  -- one is refused behind those that are found
  pub refused_among : (i : ℕ) (item : S) (o q : Option State) (vs : List V) (e : Outcome) → i < length items
      → item ≡ get_or items i item
      → q ≡ o → IfSome o (λ s. AreFound view (ask s) (map f (take i items)) vs)
      → Finds {X = V} q view (Err e) (λ s. ask s (f item))
      → Finds {X = List V} o (map view) (Err e) (λ s. of_each (ask s) (map f items))
  refused_among i item None q vs e less is same found h = tt
  refused_among i item (Some s) q vs e less is same found h =
      refused_behind f view (ask s) items i item vs e less is found
      (subst (λ (t : Option State). Finds {X = V} t view (Err e) (λ s. ask s (f item))) same h)
