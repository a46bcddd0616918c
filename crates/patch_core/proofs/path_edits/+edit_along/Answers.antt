use Rattle.std.specs.Prelude.{Result}
use Rattle.std.proofs.Common.{subst, ◌∙◌}
use Rattle.conf_doc.specs.Document.{Document}
use Rattle.conf_doc.specs.Trees.{document}
use Rattle.patch_core.specs.Edits.{HandsOut}
use Rattle.patch_core.specs.Stops.{stop_fault}
use Rattle.patch_core.specs.declared.errors.FailWhy.{FailWhy}
use Rattle.patch_core.proofs.EditMeasures.{measured_above}
use Rattle.patch_core.proofs.Paths.{one_fewer, first_and_rest, edit_goes_on, edit_stops, edit_misses, target_goes_on}
use Rattle.patch_core.proofs.path_edits.+edit_along.Goals as goal

pub returns-in-Ok-edit_along : goal.returns-in-Ok-edit_along
returns-in-Ok-edit_along t c =
    let are = first_and_rest c.next-item.result c.args.rest.now c.in-len1-up.len_at_least c.next-item.is in
    let there = c.in-Ok.ensures.child in
    record {
      left = edit_goes_on c.args.edit c.args.token.now c.next-item.result _ c.args.rest.now (document c.args.tree) (document c.in-Ok.opened.1) _ _ are there c.in-Ok-edit_along.ensures.left
          (c.close_gap.ensures ∙ c.in-Ok.ensures.gap.fills (document c.in-Ok-edit_along.field-0.tree));
      taken = subst (λ (r : Result Document FailWhy). HandsOut c.args.edit c.in-Ok-edit_along.field-0.out r)
          (target_goes_on c.args.token.now c.next-item.result _ c.args.rest.now (document c.args.tree) (document c.in-Ok.opened.1) are there) c.in-Ok-edit_along.ensures.taken;
      measured = measured_above c.args.edit c.in-Ok-edit_along.field-0 c.close_gap.result c.in-Ok.opened.0 c.args.token.now (document c.args.tree) (document c.in-Ok.opened.1) _ _
          (one_fewer c.args.rest.now c.in-len1-up.len_at_least) c.in-Ok.ensures.gap c.in-Ok-edit_along.ensures.measured c.close_gap.ensures;
    }

pub returns-in-Err-edit_along-clause-left : goal.returns-in-Err-edit_along-clause-left
returns-in-Err-edit_along-clause-left t c =
    let are = first_and_rest c.next-item.result c.args.rest.now c.in-len1-up.len_at_least c.next-item.is in
    edit_stops c.args.edit c.args.token.now c.next-item.result _ c.args.rest.now (document c.args.tree) (document c.in-Ok.opened.1) (stop_fault c.in-Err-edit_along.stop) are c.in-Ok.ensures.child c.in-Err-edit_along.ensures.left

pub returns-in-Err-clause-left : goal.returns-in-Err-clause-left
returns-in-Err-clause-left t c =
    let are = first_and_rest c.next-item.result c.args.rest.now c.in-len1-up.len_at_least c.next-item.is in
    edit_misses c.args.edit c.args.token.now c.next-item.result _ c.args.rest.now (document c.args.tree) c.in-Err.why are c.in-Err.ensures.child
