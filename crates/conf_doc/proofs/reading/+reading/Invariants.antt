use Rattle.std.proofs.Common.{◌≡◌, ◌+◌, ◌*◌, ◌≤◌, ◌++◌, map, string_bytes}
use Rattle.std.specs.Vec.Iter.{into_iter_items}
use Rattle.std.specs.Map.{keys_of}
use Rattle.serde_json.specs.Data.{depth, items_depth, members_depth}
use Rattle.serde_json.specs.View.{view, items_view, members_view}
use Rattle.conf_doc.specs.Trees.{document}
use Rattle.conf_doc.proofs.Walks.{ItemsWalk, MembersWalk}
use Rattle.conf_doc.proofs.reading.+reading.Given as goal

abbrev pub decreases-read_value : goal.decreases-read_value
decreases-read_value l = 4 * depth (view l.value)

abbrev pub decreases-read_items : goal.decreases-read_items
decreases-read_items l = 4 * items_depth (items_view l.values.items) + 3

abbrev pub decreases-read_item : goal.decreases-read_item
decreases-read_item l = 4 * depth (view l.value) + 1

abbrev pub decreases-read_map : goal.decreases-read_map
decreases-read_map l = 4 * members_depth (members_view l.values.entries) + 3

abbrev pub decreases-read_members : goal.decreases-read_members
decreases-read_members l = 4 * members_depth (members_view l.values.items) + 2

abbrev pub decreases-read_member : goal.decreases-read_member
decreases-read_member l = 4 * depth (view l.value) + 1

abbrev pub invariant-read_items-loop-value : goal.invariant-read_items-loop-value
invariant-read_items-loop-value l = record {
  walk : ItemsWalk (items_view l.fn.values.items) (items_view (into_iter_items l.value-iterator)) l.items;
  nested : items_depth (items_view (into_iter_items l.value-iterator)) ≤ items_depth (items_view l.fn.values.items);
}

abbrev pub invariant-read_members-loop-name : goal.invariant-read_members-loop-name
invariant-read_members-loop-name l = record {
  walk : MembersWalk (members_view l.fn.values.items) (members_view (into_iter_items l.name-iterator)) (map (λ m. (m.0, document m.1)) l.members.items);
  nested : members_depth (members_view (into_iter_items l.name-iterator)) ≤ members_depth (members_view l.fn.values.items);
  names : map (λ m. m.0) l.members.items ++ map string_bytes (keys_of (into_iter_items l.name-iterator)) ≡ map string_bytes (keys_of l.fn.values.items);
}
