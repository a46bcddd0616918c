-- Lists of places, in which each is there once.
use Rattle.std.specs.Prelude.{ℕ, Bool, true, false, not, ◌&&◌, if◌then◌else◌, nat_eq, List, [], ◌∷◌, ◌++◌, Option, Some, None, filter}
use Rattle.std.specs.List.{list_all, list_any}
use Rattle.std.specs.Option.{option_cmp}
use Rattle.std.specs.Ordering.{is_gt, nat_cmp, ordering_then}
use Rattle.std.specs.Str.{bytes_eq}
use Rattle.std.specs.declared.cmp.Ordering.{Ordering}
use Rattle.host_core.specs.Names.{name_cmp}
use Rattle.ref_index.specs.declared.places.Place.{Place}

-- the field has that name, or there is none where no name is given
abbrev pub is_name : Option (List ℕ) → Option (List ℕ) → Bool
is_name None None = true
is_name None (Some b) = false
is_name (Some a) None = false
is_name (Some a) (Some b) = bytes_eq a b

-- the places are the same
abbrev pub is_place : Place → Place → Bool
is_place a b =
    nat_eq a.item b.item && is_name a.field b.field && bytes_eq a.key b.key
    && bytes_eq a.table b.table

-- with the place at the end, unless it is there
abbrev pub with_place : Place → List Place → List Place
with_place p ps = if list_any (λ q. is_place q p) ps then ps else ps ++ p ∷ []

-- without the place
abbrev pub without_place : Place → List Place → List Place
without_place p ps = filter (λ q. not (is_place q p)) ps

-- places are ordered by their tables, keys, fields and items
abbrev pub place_cmp : Place → Place → Ordering
place_cmp a b =
    ordering_then (ordering_then (ordering_then
    (name_cmp a.table b.table) (name_cmp a.key b.key))
    (option_cmp name_cmp a.field b.field)) (nat_cmp a.item b.item)

-- the place doesn't come after another one
abbrev pub is_up_to : Place → Place → Bool
is_up_to bound p = not (is_gt (place_cmp p bound))

-- nor does any of some places
abbrev pub are_up_to : Place → List Place → Bool
are_up_to bound ps = list_all (is_up_to bound) ps
