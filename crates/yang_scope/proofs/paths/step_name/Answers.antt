use Rattle.std.proofs.Common.{ℕ, List, cond, sym, ap}
use Rattle.std.specs.List.{after_first}
use Rattle.yang_scope.specs.Meanings.{is_colon}
use Rattle.yang_scope.proofs.Colons.{no_colon}
use Rattle.yang_scope.proofs.paths.step_name.Goals as goal

pub returns-in-None : goal.returns-in-None
returns-in-None c =
    let s = c.args.text.now in
    sym (ap (λ b. cond {A = List ℕ} b (after_first is_colon s) s) (no_colon s c.split_once.result c.split_once.ensures.cases c.in-None.is))
