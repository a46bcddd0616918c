use Rattle.std.proofs.Common.{List, subst}
use Rattle.ref_index.specs.EntryNames.{AddsLone, HoldsParts}
use Rattle.ref_index.specs.declared.entry_names.EntryName.{EntryName}
use Rattle.ref_index.proofs.SameWants.{all_differences}
use Rattle.ref_index.proofs.entry_names.differences.Goals as goal

pub returns : goal.returns
returns c models =
    let Adds : List EntryName → Type 0 = λ names. AddsLone c.args.first.now c.args.second.now names c.add_lone.new.found.items in
    all_differences models c.args.first.now c.args.second.now c.add_lone.new.found.items c.add_lone-2.new.found.items c.add_changed.new.found.items c.in_ok-parts.parts
    c.add_lone.ensures.formed c.add_lone-2.ensures.formed (subst Adds c.new-found.ensures.items c.in_ok-add_lone.ensures.keys) c.in_ok-add_lone-2.ensures.keys
    (subst (λ names. HoldsParts names c.in_ok-parts.parts) c.as_slice.ensures.value c.in_ok-parts.ensures) c.in_ok-add_changed.ensures
