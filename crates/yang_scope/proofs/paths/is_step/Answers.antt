use Rattle.std.proofs.Common.{◌∙◌, ◌&&◌, Bool, cond, sym, ap}
use Rattle.std.specs.List.{before_first, after_first}
use Rattle.yang_scope.specs.Identifiers.{is_identifier}
use Rattle.yang_scope.specs.Meanings.{is_colon}
use Rattle.yang_scope.proofs.Colons.{no_colon}
use Rattle.yang_scope.proofs.paths.is_step.Goals as goal

pub returns-in-None : goal.returns-in-None
returns-in-None c =
    let s = c.args.text.now in
    c.is_identifier-in-None.ensures
    ∙ sym (ap (λ b. cond {A = Bool} b (is_identifier (before_first is_colon s) && is_identifier (after_first is_colon s)) (is_identifier s)) (no_colon s c.split_once.result c.split_once.ensures.cases c.in-None.is))
