use Rattle.std.proofs.Common.{Bool, true, cond, sym, ap}
use Rattle.std.specs.List.{before_first}
use Rattle.yang_scope.specs.Meanings.{is_colon}
use Rattle.yang_scope.specs.Paths.{is_prefix}
use Rattle.yang_scope.proofs.Colons.{no_colon}
use Rattle.yang_scope.proofs.key_leaves.is_prefix_given.Goals as goal

pub returns-in-None : goal.returns-in-None
returns-in-None c =
    let s = c.args.step.now in
    sym (ap (λ b. cond {A = Bool} b (is_prefix c.args.set.now c.args.number (before_first is_colon s)) true) (no_colon s c.split_once.result c.split_once.ensures.cases c.in-None.is))
