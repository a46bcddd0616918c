use Rattle.std.proofs.Common.{List, subst}
use Rattle.conf_check.specs.declared.want_iter.WantAt.{WantAt}
use Rattle.ref_index.specs.EntryNames.{AddsLacking}
use Rattle.ref_index.proofs.Collecting.{lacking_adds}
use Rattle.ref_index.proofs.differences.add_of_entry.Goals as goal

pub returns-clause-gone : goal.returns-clause-gone
returns-clause-gone c =
    let before = c.in_ok-before.before.items in
    let after = c.in_ok-after.after.items in
    let old = c.args.changes.now.gone.items in
    let new = c.add_lacking.new.found.items in
    let P : List WantAt → Type 0 = λ xs. AddsLacking xs c.as_slice-2.result.now old new in
    let Q : List WantAt → Type 0 = λ ys. AddsLacking before ys old new in
    lacking_adds c.args.models.now c.args.config.now c.args.next.now c.args.table.now c.args.key.now before after old new
    c.in_ok-before.ensures c.in_ok-after.ensures (subst Q c.as_slice-2.ensures.value (subst P c.as_slice.ensures.value c.in_ok-add_lacking.ensures))

pub returns-clause-come : goal.returns-clause-come
returns-clause-come c =
    let before = c.in_ok-before.before.items in
    let after = c.in_ok-after.after.items in
    let old = c.args.changes.now.come.items in
    let new = c.add_lacking-2.new.found.items in
    let P : List WantAt → Type 0 = λ xs. AddsLacking xs c.as_slice-4.result.now old new in
    let Q : List WantAt → Type 0 = λ ys. AddsLacking after ys old new in
    lacking_adds c.args.models.now c.args.next.now c.args.config.now c.args.table.now c.args.key.now after before old new
    c.in_ok-after.ensures c.in_ok-before.ensures (subst Q c.as_slice-4.ensures.value (subst P c.as_slice-3.ensures.value c.in_ok-add_lacking-2.ensures))
