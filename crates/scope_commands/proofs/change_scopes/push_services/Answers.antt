use Rattle.std.proofs.Common.{List, [], ◌∷◌, ◌++◌, ℕ, append-nil, append_assoc, arith, map, refl, sym, ap, take, ◌∙◌}
use Rattle.std.proofs.lemmas.List.{take_all}
use Rattle.move_core.specs.Services.{services_of}
use Rattle.move_core.specs.declared.moves.Move.{Move}
use Rattle.writing_commands.proofs.FaultTexts.{map_next}
use Rattle.scope_commands.proofs.change_scopes.push_services.Goals as goal

pub loop-k-init : goal.loop-k-init
loop-k-init c = sym (append-nil c.args.all.now)

pub loop-k-preserved : goal.loop-k-preserved
loop-k-preserved c =
    c.in_ok-push.ensures.ok
    ∙ ap (λ (l : List (List ℕ)). l ++ c.in_ok-services_of.field-0 ∷ []) c.loop-k.invariant
    ∙ append_assoc c.args.all.now (map (services_of c.args.settings.now) (take c.loop-k.k c.args.plan.now))
    (c.in_ok-services_of.field-0 ∷ [])
    ∙ ap (λ (l : List (List ℕ)). c.args.all.now ++ l)
    (map_next (services_of c.args.settings.now)
    c.args.plan.now c.loop-k.k c.at.result.now c.in_ok-services_of.field-0 (map (services_of c.args.settings.now)
    (take c.loop-k.k c.args.plan.now))
    c.at.ensures c.in_ok-services_of.ensures refl)

pub returns : goal.returns
returns c =
    c.loop-k.invariant
    ∙ ap (λ (ms : List Move). c.args.all.now ++ map (services_of c.args.settings.now) ms)
    (take_all c.loop-k.k c.args.plan.now (omega (arith, c.len-k-end.ensures, c.loop-k-test.false)))
