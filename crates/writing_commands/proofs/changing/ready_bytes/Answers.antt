use Rattle.std.proofs.Common.{All, List, ℕ, map, ap, sym, subst, ◌∙◌}
use Rattle.change_apply.specs.Change.{ArePositions, change_of, restarts_of}
use Rattle.writing_commands.specs.FaultLines.{AreFaultLines}
use Rattle.writing_commands.proofs.ReadyChanges.{are_positions, has_bytes}
use Rattle.writing_commands.proofs.changing.ready_bytes.Goals as goal

pub prepare-requires-clause-positions : goal.prepare-requires-clause-positions
prepare-requires-clause-positions c =
    subst (All (ArePositions c.args.settings.now)) (sym (c.items.ensures ∙ c.in_ok-services.ensures))
    (are_positions c.args.settings.now c.args.plan.now)

pub fault_lines-requires : goal.fault_lines-requires
fault_lines-requires c =
    subst (All (ArePositions c.args.settings.now)) (sym (c.items-2.ensures ∙ c.in_ok-services.ensures))
    (are_positions c.args.settings.now c.args.plan.now)

pub returns-clause-bytes : goal.returns-clause-bytes
returns-clause-bytes c =
    has_bytes _ c.args.settings.now c.args.stored.now c.args.plan.now
    (c.in_ok-ready.ensures ∙ ap (λ (ss : List (List ℕ)). change_of c.args.stored.now c.args.plan.now ss
    c.args.settings.now) (c.items.ensures ∙ c.in_ok-services.ensures))
    c.len.ensures
    (subst (λ (ss : List (List ℕ)). AreFaultLines (map (restarts_of c.args.settings.now) ss) c.in_ok-lines.lines)
    (c.items-2.ensures ∙ c.in_ok-services.ensures) c.in_ok-lines.ensures)
