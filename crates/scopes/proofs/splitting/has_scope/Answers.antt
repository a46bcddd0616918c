use Rattle.std.proofs.Common.{sym, ◌∙◌}
use Rattle.patch_core.specs.Operation.{operation_of}
use Rattle.scopes.proofs.Scoping.{rootless}
use Rattle.scopes.proofs.splitting.has_scope.Goals as goal

pub returns-in-None : goal.returns-in-None
returns-in-None c = sym (rootless (operation_of c.args.op.now) (sym c.path_of.ensures ∙ c.in-None.ensures))
