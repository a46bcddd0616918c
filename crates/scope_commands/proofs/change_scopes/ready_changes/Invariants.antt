use Rattle.std.proofs.Common.{◌≡◌, take}
use Rattle.scope_commands.specs.ReadyScopes.{works_by}
use Rattle.scope_commands.proofs.change_scopes.ready_changes.Given as goal

-- the changes of the first i scopes
abbrev pub invariant-loop-i : goal.invariant-loop-i
invariant-loop-i l = l.changes ≡ works_by l.all.ctx.settings (take l.i l.all.scopes) (take l.i l.plans)
