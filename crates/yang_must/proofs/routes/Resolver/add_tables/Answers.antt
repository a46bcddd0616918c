use Rattle.std.proofs.Common.{rules, ℕ, List, option_map, subst, ap, sym, ◌∙◌, arith}
use Rattle.std.specs.List.{flat_map}
use Rattle.yang_must.specs.Findings.{Gains}
use Rattle.yang_must.specs.Routes.{spots_along, table_at}
use Rattle.yang_must.specs.SpotRefs.{spot_at}
use Rattle.yang_must.proofs.FollowedPaths.{Gains-both, Gains-none}
use Rattle.yang_must.proofs.Steps.{tables-next, tables-none, steps-past}
use Rattle.yang_must.proofs.routes.Resolver.add_tables.Goals as goal

pub loop-step-preserved : goal.loop-step-preserved
loop-step-preserved c = λ final rest.
    let tree = c.args.self.now.tree.now in
    let m = c.args.self.now.number in
    c.loop-step.invariant final
    (subst (λ (names : List (List ℕ)). Gains c.loop-step.reads.names final names)
    (sym (tables-next tree m c.args.steps.now c.loop-step.step-index c.step-item.result (search rules) (search rules) (spot_at c.loop-step.spot)
    (spot_at c.in-Some.next) (sym c.after.ensures ∙ ap (option_map spot_at) c.in-Some.is)))
    (Gains-both c.loop-step.reads.names c.add_table.new.reads.names final _ _ c.in_ok-add_table-in-Some.ensures rest))

pub returns-in-None : goal.returns-in-None
returns-in-None c =
    let tree = c.args.self.now.tree.now in
    let m = c.args.self.now.number in
    c.loop-step.invariant c.loop-step.reads.names
    (subst (λ (names : List (List ℕ)). Gains c.loop-step.reads.names c.loop-step.reads.names names)
    (sym (tables-none tree m c.args.steps.now c.loop-step.step-index c.step-item.result (search rules) (search rules) (spot_at c.loop-step.spot)
    (sym c.after.ensures ∙ ap (option_map spot_at) c.in-None.is)))
    (Gains-none c.loop-step.reads.names))

pub returns : goal.returns
returns c =
    let tree = c.args.self.now.tree.now in
    let m = c.args.self.now.number in
    c.loop-step.invariant c.loop-step.reads.names
    (subst (λ (names : List (List ℕ)). Gains c.loop-step.reads.names c.loop-step.reads.names names)
    (ap (λ ss. flat_map table_at (spots_along tree m ss (spot_at c.loop-step.spot))) (sym (steps-past c.args.steps.now c.loop-step.step-index (omega arith))))
    (Gains-none c.loop-step.reads.names))
