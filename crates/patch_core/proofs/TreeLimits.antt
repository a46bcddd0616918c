-- Trees within the limit, and trees that are not.
use Rattle.std.specs.Prelude.{◌≡◌, ◌<◌, ◌≤◌, Bool, true, false, ◌&&◌, nat_le, Result, Ok, Err}
use Rattle.std.proofs.Common.{refl, ap, ◌∙◌, arith}
use Rattle.std.proofs.lemmas.Bool.{lt-leb}
use Rattle.conf_doc.specs.Document.{Document, text, list, object, Items, no_items, item, Members, no_members, member, weight, items_weight, members_weight, depth, items_depth, members_depth}
use Rattle.host_core.specs.Answers.{◌>>=◌}
use Rattle.patch_core.specs.Apply.{fits, most_levels, most_weight, within_limit}
use Rattle.patch_core.specs.declared.errors.FailWhy.{FailWhy}
use Rattle.patch_core.specs.declared.errors.FailWhy.TheVariants.{TooLarge}

-- each level has a node
mutual
  pub depth_weighs : (d : Document) → depth d ≤ weight d
  depth_weighs (text s) = omega arith
  depth_weighs (list ds) = omega (arith, items_depth_weighs ds)
  depth_weighs (object ms) = omega (arith, members_depth_weighs ms)

  items_depth_weighs : (ds : Items) → items_depth ds ≤ items_weight ds
  items_depth_weighs no_items = omega arith
  items_depth_weighs (item d ds) = omega (arith, depth_weighs d, items_depth_weighs ds)

  members_depth_weighs : (ms : Members) → members_depth ms ≤ members_weight ms
  members_depth_weighs no_members = omega arith
  members_depth_weighs (member k d ms) = omega (arith, depth_weighs d, members_depth_weighs ms)

and_false : (b : Bool) → (b && false) ≡ false
and_false true = refl
and_false false = refl

pub too_heavy : (r : Result Document FailWhy) (d : Document) → r ≡ Ok d → most_weight < weight d → (r >>= within_limit) ≡ Err TooLarge
too_heavy r d is heavy =
    let no : fits d ≡ false = ap (λ (b : Bool). nat_le (depth d) most_levels && b) (lt-leb (weight d) most_weight heavy) ∙ and_false (nat_le (depth d) most_levels) in
    rw (is, no) refl
