-- What a walk over JSON values has left nests no deeper than all of them.
use Rattle.std.proofs.Common.{◌≡◌, ◌≤◌, ℕ, List, ap, arith}
use Rattle.std.proofs.Math.Nat.{le-max_left, le-max_right}
use Rattle.serde_json.specs.Data.{Data, Items, Members, item, member, depth, items_depth, members_depth}

module _ {now left : Items} {d : Data} {n : ℕ} (is : now ≡ item d left) (nested : items_depth now ≤ n) where
  pub item_nests : depth d ≤ n
  item_nests = omega (arith, nested, ap items_depth is, le-max_left (depth d) (items_depth left))

  pub items_nest : items_depth left ≤ n
  items_nest = omega (arith, nested, ap items_depth is, le-max_right (depth d) (items_depth left))

module _ {now left : Members} {d : Data} {k : List ℕ} {n : ℕ} (is : now ≡ member k d left) (nested : members_depth now ≤ n) where
  pub member_nests : depth d ≤ n
  member_nests = omega (arith, nested, ap members_depth is, le-max_left (depth d) (members_depth left))

  pub members_nest : members_depth left ≤ n
  members_nest = omega (arith, nested, ap members_depth is, le-max_right (depth d) (members_depth left))
