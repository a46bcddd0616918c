use Rattle.std.proofs.Common.{[], ◌∷◌, Some, ap, ◌∙◌}
use Rattle.host_core.specs.Steps.{moved_to}
use Rattle.host_core.specs.State.{after_write}
use Rattle.host_core.specs.declared.pending.Pending.TheVariants.{Dirty}
use Rattle.host_core.specs.declared.pending.Step.TheVariants.{Write}
use Rattle.host_core.proofs.Stepping.{writes}
use Rattle.host_core.proofs.history.History.write.Goals as goal

pub returns-clause-ok : goal.returns-clause-ok
returns-clause-ok c =
    let h = c.self.inside in
    writes h.inputs h.output.items h.restarts h.files c.put_copy.new.self h.pending c.replace-pending.new.dest h.steps.items c.push_front_reserved.new.self.items
    c.args.name.now c.in_ok-again.again c.args.bytes.now c.in_ok-content.content
    c.in_ok-content.ensures.old
    c.in_ok-content.ensures.ok
    (c.replace-pending.ensures.after ∙ ap Dirty c.new-2.ensures)
    c.in_ok-again.ensures
    (c.push_front_reserved.ensures.items ∙ (λ i. Write (c.replace-pending.ensures.value i) c.in_ok-again.again c.in_ok-content.content ∷ c.in_ok-reserve.ensures.items i))
    ∙ ap (λ m. moved_to (after_write c.args.name.now (Some c.args.bytes.now) m.state) [] m) c.self.view_is
