-- Groups of places by what they want.
use Rattle.std.proofs.Common.{◌≡◌, ◌≢◌, ◌&&◌, ℕ, Bool, true, false, List, [], ◌∷◌, ◌++◌, Option, Some, None, get_or, set, refl, sym, ap, ◌∙◌, subst, nat_eq}
use Rattle.std.specs.Bool.{Decides}
use Rattle.std.specs.List.{find, position}
use Rattle.std.specs.Option.{option_map_or}
use Rattle.std.specs.Str.{bytes_eq}
use Rattle.std.proofs.lemmas.Bool.{false_from_ne_true}
use Rattle.std.proofs.lemmas.Bool.Decides.{Decides-and, Decides-eqb, Decides-like, not_from_Decides}
use Rattle.std.proofs.lemmas.Slice.Eq.{bytes_eq-Decides}
use Rattle.yang_types.specs.declared.types.Target.{Target}
use Rattle.ref_index.specs.PlaceMaps.{ChangesAt, is_for, places_in}
use Rattle.ref_index.specs.declared.leaf_group.Group.{Group}
use Rattle.ref_index.specs.declared.places.Place.{Place}
use Rattle.ref_index.proofs.Firsts.{IsFirstAt, find_at, find_beside, find_changed, find_elsewhere, find_pushed, first_at, none_passes}

abbrev AreSame : Target → Target → Type 0
AreSame a b = ((a.table ≡ b.table) × (a.shape ≡ b.shape)) × (a.part ≡ b.part)

abbrev made_of : List ℕ → ℕ → ℕ → Target
made_of table shape part = record { table = table; shape = shape; part = part }

same_parts : (a b : Target) → AreSame a b → a ≡ b
same_parts a b h =
    ap (λ x. made_of x a.shape a.part) h.0.0 ∙ ap (λ x. made_of b.table x a.part) h.0.1 ∙ ap (λ x. made_of b.table b.shape x) h.1

parts_same : (a b : Target) → a ≡ b → AreSame a b
parts_same a b e = ((ap (λ t. t.table) e, ap (λ t. t.shape) e), ap (λ t. t.part) e)

-- whether two leaves are the same
abbrev pub is_target : Target → Target → Bool
is_target t u = bytes_eq t.table u.table && nat_eq t.shape u.shape && nat_eq t.part u.part

pub targets_decide : (t u : Target) → Decides (is_target t u) (t ≡ u)
targets_decide t u =
    Decides-like (is_target t u) (same_parts t u) (parts_same t u)
    (Decides-and (bytes_eq t.table u.table && nat_eq t.shape u.shape) (nat_eq t.part u.part)
    (Decides-and (bytes_eq t.table u.table) (nat_eq t.shape u.shape) (bytes_eq-Decides t.table u.table) (Decides-eqb t.shape u.shape))
    (Decides-eqb t.part u.part))

-- the test tells the group of a leaf
is_for_decides : (t : Target) (g : Group) → Decides (is_for t g) (t ≡ g.target)
is_for_decides t g = targets_decide t g.target

-- it isn't that of another leaf
other_group : (t b : Target) (g : Group) → t ≡ g.target → b ≢ t → is_for b g ≡ false
other_group t b g is other = false_from_ne_true (is_for b g) (λ e. other ((is_for_decides b g).0 e ∙ sym is))

abbrev places_or_none : Option Group → List Place
places_or_none o = option_map_or (λ g. g.places.items) o []

-- the places of the group that is found
pub places_found : (t : Target) (gs : List Group) (i : ℕ) (d : Group) → position (is_for t) gs ≡ Some i → places_in gs t ≡ (get_or gs i d).places.items
places_found t gs i d at = ap places_or_none (find_at (is_for t) gs i d (first_at (is_for t) gs i d at))

-- none where none is found
pub no_places : (t : Target) (gs : List Group) → position (is_for t) gs ≡ None → places_in gs t ≡ []
no_places t gs none = ap places_or_none (none_passes (is_for t) gs none)

module _ (t : Target) (old : List Group) (f : List Place → List Place) where
  -- the places of the group of the leaf are changed
  pub change_group : (i : ℕ) (d g : Group) → position (is_for t) old ≡ Some i → g.target ≡ (get_or old i d).target
      → g.places.items ≡ f (get_or old i d).places.items → ChangesAt f t (places_in old) (places_in (set old i g))
  change_group i d g at target places =
      let first : IsFirstAt (is_for t) old i d = first_at (is_for t) old i d at in
      let is : t ≡ (get_or old i d).target = (is_for_decides t (get_or old i d)).0 first.passes in
      let now : t ≡ g.target = is ∙ sym target in
      record {
        here = ap places_or_none (find_changed (is_for t) old i d g first ((is_for_decides t g).1 now)) ∙ places
            ∙ ap (λ o. f (places_or_none o)) (sym (find_at (is_for t) old i d first));
        others = λ b other. ap places_or_none (find_elsewhere (is_for b) old i d g (other_group t b (get_or old i d) is other) (other_group t b g now other));
      }

  -- the places of the group are as before
  pub keep_group : (i : ℕ) (d g : Group) → position (is_for t) old ≡ Some i → g.target ≡ (get_or old i d).target
      → g.places.items ≡ (get_or old i d).places.items → (b : Target) → places_in (set old i g) b ≡ places_in old b
  keep_group i d g at target places b =
      let first : IsFirstAt (is_for t) old i d = first_at (is_for t) old i d at in
      let is : t ≡ (get_or old i d).target = (is_for_decides t (get_or old i d)).0 first.passes in
      let now : t ≡ g.target = is ∙ sym target in
      elim (is_target b t) as (λ x. is_target b t ≡ x → places_in (set old i g) b ≡ places_in old b) [
        | true ↦ λ e. subst (λ u. places_in (set old i g) u ≡ places_in old u) (sym ((targets_decide b t).0 e))
            (ap places_or_none (find_changed (is_for t) old i d g first ((is_for_decides t g).1 now)) ∙ places
            ∙ ap places_or_none (sym (find_at (is_for t) old i d first)))
        | false ↦ λ e.
            let other : b ≢ t = not_from_Decides (is_target b t) (targets_decide b t) e in
            ap places_or_none (find_elsewhere (is_for b) old i d g (other_group t b (get_or old i d) is other) (other_group t b g now other))
      ] refl

  -- a group of the leaf is added
  pub add_group : (g : Group) → position (is_for t) old ≡ None → g.target ≡ t → g.places.items ≡ f [] → ChangesAt f t (places_in old) (places_in (old ++ g ∷ []))
  add_group g none target places =
      let found : find (is_for t) old ≡ None = none_passes (is_for t) old none in
      record {
        here = ap places_or_none (find_pushed (is_for t) old g found ((is_for_decides t g).1 (sym target))) ∙ places ∙ ap (λ o. f (places_or_none o)) (sym found);
        others = λ b other. ap places_or_none (find_beside (is_for b) old g (other_group t b g (sym target) other));
      }

  -- a leaf without a group
  pub no_group : position (is_for t) old ≡ None → f [] ≡ [] → ChangesAt f t (places_in old) (places_in old)
  no_group none empty =
      let found : find (is_for t) old ≡ None = none_passes (is_for t) old none in
      let nothing : places_in old t ≡ [] = ap places_or_none found in
      record { here = nothing ∙ sym empty ∙ ap f (sym nothing); others = λ b other. refl }
