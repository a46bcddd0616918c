use Rattle.std.proofs.Common.{rules, [], ◌∷◌, ◌++◌, ap, sym, ◌∙◌}
use Rattle.std.proofs.lemmas.List.Elements.{All-push}
use Rattle.real_host.specs.Listings.{item_name, IsEntry}
use Rattle.real_host.proofs.Picking.{filter_map_given, filter_map_none}
use Rattle.real_host.proofs.listing.listed_names.Goals as goal

pub loop-item-preserved-in-Continue-branch-3 : goal.loop-item-preserved-in-Continue-branch-3
loop-item-preserved-in-Continue-branch-3 g c =
    let inv = c.loop-item.invariant in
    let name = sym c.in_ok-name.ensures.name ∙ c.in-Some-2.is in
    let more = filter_map_given item_name c.loop-item.yielded c.in-Some.item c.in-Some-2.name name in record {
      entries = All-push IsEntry c.loop-item.yielded c.in-Some.item inv.entries (search rules);
      names = c.in_ok-push.ensures.items ∙ ap (λ names. names ++ c.in-Some-2.name ∷ []) inv.names ∙ sym more;
    }

pub loop-item-preserved : goal.loop-item-preserved
loop-item-preserved g c =
    let inv = c.loop-item.invariant in
    let none = sym c.in_ok-name.ensures.name ∙ c.in_default.is in record {
      entries = All-push IsEntry c.loop-item.yielded c.in-Some.item inv.entries (search rules);
      names = inv.names ∙ sym (filter_map_none item_name c.loop-item.yielded c.in-Some.item none);
    }
