use Rattle.std.proofs.Common.{[], ◌∷◌, ap, ◌∙◌}
use Rattle.host_core.specs.Steps.{moved_to}
use Rattle.host_core.specs.State.{rename, after_listing}
use Rattle.host_core.specs.declared.pending.Step.TheVariants.{List as Lists}
use Rattle.host_core.proofs.Stepping.{lists}
use Rattle.host_core.proofs.history.History.rename.Goals as goal

pub returns-clause-ok : goal.returns-clause-ok
returns-clause-ok c =
    let h = c.self.inside in
    lists h.inputs h.output.items h.restarts h.files c.rename_in.new.files h.pending c.list.new.pending h.steps.items c.list.new.steps.items
    c.in_ok-undo.undo (rename c.args.from.now c.args.to.now)
    c.in_ok-undo.ensures.undo c.in_ok-undo.ensures.ok
    (ap (λ m. m.state.pending) c.self.view_is ∙ c.requires.settled)
    c.list.ensures.pending
    (c.list.ensures.steps ∙ ap (λ steps. Lists ∷ steps) c.in_ok-reserve.ensures.items)
    ∙ ap (λ m. moved_to (after_listing (rename c.args.from.now c.args.to.now) m.state) [] m) c.self.view_is
