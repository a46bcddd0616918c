use Rattle.std.proofs.Common.{◌≡◌, None, ap, sym, subst, ◌∙◌}
use Rattle.std.specs.Prelude.{OnOk}
use Rattle.std.specs.FinMap.{get}
use Rattle.host_core.specs.State.{with_file}
use Rattle.host_core.specs.Steps.{bytes_in, undone}
use Rattle.host_core.proofs.PickedImages.{content_again}
use Rattle.host_core.proofs.images.undo_in.Goals as goal

pub returns-in_ok-set_content-in-Renamed : goal.returns-in_ok-set_content-in-Renamed
returns-in_ok-set_content-in-Renamed c =
    let files = c.args.files.now in
    let to = c.in-Renamed.to in
    let had = c.take-there.ensures.old ∙ ap (get files) c.as_str.ensures.text in
    let taken = c.take-there.ensures.after ∙ ap (λ n. with_file n None files) c.as_str.ensures.text in
    let replaced = bytes_in c.in-Renamed.replaced in
    let before = c.in_ok-set_content-in-Renamed.ensures ∙ ap (with_file to replaced) taken ∙ content_again to None replaced files in
    subst (λ f. OnOk c.set_content-in-Renamed-2.result (c.set_content-in-Renamed-2.new.files ≡ f))
    ((λ i. with_file c.in-Renamed.from (had i) (before i)) ∙ ap (λ u. undone u files) (sym c.in-Renamed.is))
    c.set_content-in-Renamed-2.ensures
