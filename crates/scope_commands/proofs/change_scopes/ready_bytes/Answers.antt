use Rattle.std.proofs.Common.{All, List, ℕ, ap, length, map, sym, subst, ◌∙◌}
use Rattle.change_apply.specs.Change.{ArePositions, restarts_of}
use Rattle.writing_commands.specs.FaultLines.{AreFaultLines}
use Rattle.scope_commands.proofs.ScopeReadiness.{all_positions, has_all_bytes}
use Rattle.scope_commands.proofs.change_scopes.ready_bytes.Goals as goal

pub fault_lines-requires : goal.fault_lines-requires
fault_lines-requires c =
    let settings = c.args.all.now.ctx.settings in
    subst (All (ArePositions settings)) (sym (c.items.ensures ∙ c.in_ok-services.ensures))
    (all_positions settings c.args.plans.now)

pub returns-clause-bytes : goal.returns-clause-bytes
returns-clause-bytes c =
    let settings = c.args.all.now.ctx.settings in
    has_all_bytes _ c.args.all.now c.args.plans.now c.requires.found c.in_ok-changes.ensures c.in_ok-text.ensures
    (c.len.ensures ∙ ap length c.in_ok-services.ensures)
    (subst (λ (ss : List (List ℕ)). AreFaultLines (map (restarts_of settings) ss) c.in_ok-lines.lines)
    (c.items.ensures ∙ c.in_ok-services.ensures) c.in_ok-lines.ensures)
