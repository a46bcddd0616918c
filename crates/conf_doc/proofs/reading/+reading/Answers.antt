use Rattle.std.proofs.Common.{[], ◌∷◌, ◌++◌, map, string_bytes, sym, ap, ◌∙◌, append-nil, arith}
use Rattle.std.proofs.lemmas.Result.{err_from_is_err_and}
use Rattle.std.specs.Map.{keys_of}
use Rattle.serde_json.specs.View.{items_view, members_view}
use Rattle.conf_doc.specs.Trees.{document}
use Rattle.conf_doc.proofs.Lists.{map-append, names_more, none_left}
use Rattle.conf_doc.proofs.Names.{rising_keys, rising-map}
use Rattle.conf_doc.proofs.NestedValues.{item_nests, items_nest, member_nests, members_nest}
use Rattle.conf_doc.proofs.Walks.{item_fails, item_found, items_end, member_fails, member_found, members_end}
use Rattle.conf_doc.proofs.reading.+reading.Goals as goal

pub read_items-read_item-requires : goal.read_items-read_item-requires
read_items-read_item-requires t c =
    let nests = item_nests (ap items_view c.in-Some.ensures.steps.0) c.loop-value.invariant.nested in
    omega (arith, nests)

pub read_members-read_member-requires : goal.read_members-read_member-requires
read_members-read_member-requires t c =
    let nests = member_nests (ap members_view c.in-Some.ensures.steps.0) c.loop-name.invariant.nested in
    omega (arith, nests)

pub read_items-returns-in_err-tree : goal.read_items-returns-in_err-tree
read_items-returns-in_err-tree t c =
    let p = err_from_is_err_and c.from_residual.result c.from_residual.ensures.1 in
    rw (p.1, p.2) (item_fails _ _ _ _ _ _ c.loop-value.invariant.walk _ (ap items_view c.in-Some.ensures.steps.0) c.len.ensures c.in_err-tree.ensures)

pub read_items-loop-value-preserved : goal.read_items-loop-value-preserved
read_items-loop-value-preserved t c =
    let is = ap items_view c.in-Some.ensures.steps.0 in record {
      walk = item_found _ _ _ _ _ _ c.loop-value.invariant.walk _ _ is c.len.ensures c.in_ok-tree.ensures c.in_ok-push.ensures.ok;
      nested = items_nest is c.loop-value.invariant.nested;
    }

pub read_items-returns : goal.read_items-returns
read_items-returns t c = items_end _ _ _ c.loop-value.invariant.walk (ap items_view (none_left _ _ c.loop-value.value-iterator.rest.ok.0 c.in-None.ensures.steps.0))

pub read_members-returns-in_err-tree : goal.read_members-returns-in_err-tree
read_members-returns-in_err-tree t c =
    let p = err_from_is_err_and c.from_residual-in_err-tree.result c.from_residual-in_err-tree.ensures.1 in
    let stops = rw c.as_str.ensures.value at c.in_err-tree.ensures in
    rw (p.1, p.2) (member_fails _ _ _ _ _ _ c.loop-name.invariant.walk _ (ap members_view c.in-Some.ensures.steps.0) stops)

pub read_members-loop-name-preserved : goal.read_members-loop-name-preserved
read_members-loop-name-preserved t c =
    let l = c.loop-name in
    let is = c.in-Some.ensures.steps.0 in
    let pushed = rw c.from.ensures at c.in_ok-push.ensures.items in
    let finds = rw c.as_str.ensures.value at c.in_ok-tree.ensures in
    let seen = ap (map (λ m. (m.0, document m.1))) pushed ∙ map-append (λ m. (m.0, document m.1)) l.members.items ((string_bytes c.in-Some.name, c.in_ok-tree.tree) ∷ []) in record {
      walk = member_found _ _ _ _ _ _ l.invariant.walk _ _ (ap members_view is) finds seen;
      nested = members_nest (ap members_view is) l.invariant.nested;
      names = names_more string_bytes _ _ _ (c.in-Some.name, c.in-Some.value) _ _ _ l.invariant.names is pushed;
    }

pub read_members-from_sorted-requires : goal.read_members-from_sorted-requires
read_members-from_sorted-requires t c =
    let l = c.loop-name in
    let none = none_left _ _ l.name-iterator.rest.ok.0 c.in-None.ensures.steps.0 in
    let names = sym (append-nil _) ∙ ap (λ es. map (λ m. m.0) l.members.items ++ map string_bytes (keys_of es)) (sym none) ∙ l.invariant.names in
    rising-map document l.members.items (rising_keys l.members.items _ names c.requires)

pub read_members-returns : goal.read_members-returns
read_members-returns t c = rw c.from_sorted.ensures (members_end _ _ _ c.loop-name.invariant.walk (ap members_view (none_left _ _ c.loop-name.name-iterator.rest.ok.0 c.in-None.ensures.steps.0)))
