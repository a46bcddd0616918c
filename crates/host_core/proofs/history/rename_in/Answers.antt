use Rattle.std.proofs.Common.{◌≡◌, None, ap, sym, ◌∙◌}
use Rattle.std.specs.FinMap.{get}
use Rattle.std.proofs.lemmas.Map.Text.{is_eq-slice_cmp}
use Rattle.host_core.specs.State.{rename, with_file}
use Rattle.host_core.proofs.EntriesOfFiles.{tie_of, rename_itself, put_and_take, rename_back}
use Rattle.host_core.proofs.history.rename_in.Goals as goal

pub returns-then-eq-clause-ok : goal.returns-then-eq-clause-ok
returns-then-eq-clause-ok c =
    let from = c.args.from.now in
    let to = c.args.to.now in
    let same : from ≡ to = tie_of from to (is_eq-slice_cmp from to ∙ sym c.eq.ensures ∙ c.if-eq.true) in
    sym (ap (λ n. rename from n c.args.files.now) (sym same) ∙ rename_itself from c.args.files.now)

pub returns-clause-ok : goal.returns-clause-ok
returns-clause-ok c =
    let from = c.args.from.now in
    let to = c.args.to.now in
    let files = c.args.files.now in
    c.discard.ensures
    ∙ ap (with_file from None) c.in_ok-replaced.ensures.ok
    ∙ put_and_take from to files (is_eq-slice_cmp from to ∙ sym c.eq.ensures ∙ c.if-eq.false)

pub returns-clause-undo : goal.returns-clause-undo
returns-clause-undo c =
    let from = c.args.from.now in
    let to = c.args.to.now in
    let files = c.args.files.now in
    let apart = is_eq-slice_cmp from to ∙ sym c.eq.ensures ∙ c.if-eq.false in
    let is : c.discard.new.self ≡ rename from to files =
    c.discard.ensures
    ∙ ap (with_file from None) c.in_ok-replaced.ensures.ok
    ∙ put_and_take from to files apart in
    (λ i. with_file (c.in_ok-old.ensures i) (get (is i) (c.in_ok-new.ensures i)) (with_file (c.in_ok-new.ensures i) (c.in_ok-replaced.ensures.old i) (is i)))
    ∙ rename_back from to files apart
