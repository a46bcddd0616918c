use Rattle.std.proofs.Common.{[], ◌∷◌, None, ap, ◌∙◌}
use Rattle.host_core.specs.Steps.{moved_to}
use Rattle.host_core.specs.State.{with_file, after_listing}
use Rattle.host_core.specs.declared.pending.Step.TheVariants.{List as Lists}
use Rattle.host_core.proofs.Stepping.{lists}
use Rattle.host_core.proofs.history.History.remove.Goals as goal

pub returns-clause-ok : goal.returns-clause-ok
returns-clause-ok c =
    let h = c.self.inside in
    lists h.inputs h.output.items h.restarts h.files c.remove_in-undo.new.files h.pending c.list.new.pending h.steps.items c.list.new.steps.items
    c.remove_in-undo.result (with_file c.args.name.now None)
    c.remove_in-undo.ensures.undo
    (c.remove_in-undo.ensures.after ∙ ap (λ n. with_file n None h.files) c.in_ok-key.ensures)
    (ap (λ m. m.state.pending) c.self.view_is ∙ c.requires)
    c.list.ensures.pending
    (c.list.ensures.steps ∙ ap (λ steps. Lists ∷ steps) c.in_ok-reserve.ensures.items)
    ∙ ap (λ m. moved_to (after_listing (with_file c.args.name.now None) m.state) [] m) c.self.view_is
