-- A list of which some items are picked, and one item more.
use Rattle.std.proofs.Common.{◌≡◌, ◌<◌, ◌+◌, ℕ, Bool, true, false, List, [], ◌∷◌, ◌++◌, length, get_or, take, drop, cond, append_assoc, ap, sym, ◌∙◌}
use Rattle.std.proofs.lemmas.List.{append-nil, take-append-drop, take_more}
use Rattle.std.proofs.lemmas.List.Elements.{filter-append, filter_map-append}
use Rattle.std.specs.List.{filter_map, cons_option}
use Rattle.std.specs.Prelude.{Option, Some, None, filter}

module _ {X Y : Type 0} (h : X → Option Y) (xs : List X) (x : X) where
  -- one that gives y
  pub filter_map_given : (y : Y) → h x ≡ Some y → filter_map h (xs ++ x ∷ []) ≡ filter_map h xs ++ y ∷ []
  filter_map_given y e = filter_map-append h xs (x ∷ []) ∙ ap (λ o. filter_map h xs ++ cons_option o []) e

  -- one that gives nothing
  pub filter_map_none : h x ≡ None → filter_map h (xs ++ x ∷ []) ≡ filter_map h xs
  filter_map_none e = filter_map-append h xs (x ∷ []) ∙ ap (λ o. filter_map h xs ++ cons_option o []) e ∙ append-nil (filter_map h xs)

module _ {X : Type 0} (p : X → Bool) (xs : List X) (k : ℕ) (x : X) (less : k < length xs) (is : x ≡ get_or xs k x) where
  -- the first k items and the next one, which is picked or not
  next_of : (picks : Bool) → p x ≡ picks → filter p (take (k + 1) xs) ≡ filter p (take k xs) ++ cond picks (x ∷ []) []
  next_of picks e = ap (filter p) (take_more xs k x less ∙ ap (λ y. take k xs ++ y ∷ []) (sym is)) ∙ filter-append p (take k xs) (x ∷ []) ∙ ap (λ b. filter p (take k xs) ++ cond b (x ∷ []) []) e

  -- it is picked
  pub next_picked : p x ≡ true → filter p (take (k + 1) xs) ≡ filter p (take k xs) ++ x ∷ []
  next_picked e = next_of true e

  -- it is passed over
  pub next_passed : p x ≡ false → filter p (take (k + 1) xs) ≡ filter p (take k xs)
  next_passed e = next_of false e ∙ append-nil (filter p (take k xs))

  -- it is picked, and stands between those before it and those after it
  pub picked_between : p x ≡ true → filter p xs ≡ filter p (take k xs) ++ x ∷ filter p (drop (k + 1) xs)
  picked_between e =
      let after = filter p (drop (k + 1) xs) in
      sym (ap (filter p) (take-append-drop (k + 1) xs)) ∙ filter-append p (take (k + 1) xs) (drop (k + 1) xs) ∙ ap (λ l. l ++ after) (next_picked e) ∙ append_assoc (filter p (take k xs)) (x ∷ []) after
