-- The order of the list of moves: by rank, then Remove before Replace before Add, then by the path name by name,
-- an item's index as a number, and last by the value, in the order of parts.
use Rattle.std.specs.Prelude.{ℕ}
use Rattle.std.specs.declared.cmp.Ordering.{Ordering}
use Rattle.std.specs.Cmp.Lexicographic.{slice_cmp}
use Rattle.std.specs.Option.{option_cmp}
use Rattle.std.specs.Ordering.{nat_cmp, ordering_then}
use Rattle.host_core.specs.Names.{name_cmp}
use Rattle.conf_doc.specs.PartOrder.{part_cmp}
use Rattle.move_core.specs.Moves.{Place, index, new_part, new_text, place}
use Rattle.move_core.specs.declared.moves.Move.{Move}
use Rattle.move_core.specs.declared.moves.Move.TheVariants.{Add, Remove, Replace, AddItem, RemoveItem}
use Rattle.move_core.specs.declared.moves.Ranked.{Ranked}

-- name by name
abbrev pub path_cmp : Place → Place → Ordering
path_cmp = slice_cmp name_cmp

-- Remove, Replace, Add
abbrev pub action : Move → ℕ
action (Remove path) = 0
action (Replace path part) = 1
action (Add path part) = 2
action (AddItem path i text) = 2
action (RemoveItem path i) = 0

-- by the names, then by the index: a field is before the items of its list
abbrev pub place_cmp : Move → Move → Ordering
place_cmp m n =
    ordering_then (path_cmp (place m) (place n)) (option_cmp nat_cmp (index m) (index n))

-- by the part, or of an item by the text
abbrev pub new_cmp : Move → Move → Ordering
new_cmp m n =
    ordering_then (option_cmp part_cmp (new_part m) (new_part n))
    (option_cmp name_cmp (new_text m) (new_text n))

-- by action, then by path, then by value
abbrev pub move_cmp : Move → Move → Ordering
move_cmp m n =
    ordering_then (nat_cmp (action m) (action n)) (ordering_then (place_cmp m n) (new_cmp m n))

-- by tier, then by number of extensions, then by class
abbrev pub rank_cmp : Ranked → Ranked → Ordering
rank_cmp r s =
    ordering_then (nat_cmp r.tier s.tier)
    (ordering_then (nat_cmp r.depth s.depth) (nat_cmp r.class s.class))

-- by rank, then by move
abbrev pub listed_cmp : Ranked → Ranked → Ordering
listed_cmp r s = ordering_then (rank_cmp r s) (move_cmp r.mv s.mv)
