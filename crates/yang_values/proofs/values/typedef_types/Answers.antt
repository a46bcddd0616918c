use Rattle.std.proofs.Common.{rules, ◌+◌, ◌-◌, ◌++◌, ◌∙◌, map, Bor, sym, ap, arith}
use Rattle.yang_text.specs.Statements.{declaration}
use Rattle.yang_text.specs.declared.statements.Statement.{Statement}
use Rattle.yang_values.specs.Values.{most_steps, types_within}
use Rattle.yang_values.proofs.Chains.{chain_more, chain_end, chain_full}
use Rattle.yang_values.proofs.values.typedef_types.Goals as goal

pub returns-in-None : goal.returns-in-None
returns-in-None c =
    chain_end c.args.names.now most_steps c.loop-step.step (λ (s : Bor Statement). declaration s.now) _ c.loop-step.found.items c.loop-step.behind (omega arith) c.loop-step.invariant (search rules)

pub returns : goal.returns
returns c =
    chain_full c.args.names.now most_steps c.loop-step.step (λ (s : Bor Statement). declaration s.now) _ c.loop-step.found.items c.loop-step.behind (omega arith) c.loop-step.invariant

pub loop-step-preserved : goal.loop-step-preserved
loop-step-preserved c =
    let names = c.args.names.now in
    chain_more names most_steps c.loop-step.step (λ (s : Bor Statement). declaration s.now) (types_within names most_steps c.args.meaning) c.loop-step.found.items c.in-Some.statement c.loop-step.behind c.in-Some.next (omega arith) c.loop-step.invariant (search rules)
    ∙ ap (λ xs. map (λ (s : Bor Statement). declaration s.now) xs ++ types_within names (most_steps - (c.loop-step.step + 1)) c.in-Some.next) (sym c.in_ok-push-in-Some.ensures.items)
