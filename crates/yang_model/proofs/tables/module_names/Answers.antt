use Rattle.std.proofs.Common.{ℕ, List, ◌++◌, option_map, slice_get, sym, ap, ◌∙◌, arith}
use Rattle.std.specs.Option.{option_to_list}
use Rattle.yang_scope.specs.Modules.{Module}
use Rattle.yang_model.specs.Leaves.{name_of}
use Rattle.yang_model.proofs.TableSteps.{map-there}
use Rattle.yang_model.proofs.tables.module_names.Goals as goal

pub loop-number-preserved : goal.loop-number-preserved
loop-number-preserved c =
    let modules = c.args.names.now in
    let n = c.loop-number.number in
    let f : Module → List ℕ = λ m. name_of m.statement in
    c.in_ok-push_module_name.ensures
    ∙ ap (λ (ns : List (List ℕ)). ns ++ option_to_list (option_map f (slice_get modules n))) c.loop-number.invariant
    ∙ sym (map-there f modules n (omega arith))
