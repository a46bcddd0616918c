use Rattle.std.proofs.Common.{List, subst, sym, ◌∙◌, ap, map}
use Rattle.yang_scope.specs.Links.{IsBehind, link_behind}
use Rattle.yang_scope.specs.declared.meanings.Meaning.{Meaning}
use Rattle.yang_scope.proofs.TypedefDistances.{IsBehind-first, IsBehind-power}
use Rattle.yang_scope.proofs.links.all_links.Goals as goal

pub loop-round-init : goal.loop-round-init
loop-round-init c = subst (λ (ls : List (List Meaning)). IsBehind c.args.set.now 1 ls) (sym c.in_ok-links.ensures) (IsBehind-first c.args.set.now)

pub loop-round-preserved : goal.loop-round-preserved
loop-round-preserved c =
    IsBehind-power c.args.set.now c.loop-round.round c.loop-round.links c.in_ok-links-2.links c.loop-round.invariant
    (c.in_ok-links-2.ensures ∙ ap (λ ls. map (map (link_behind ls)) ls) c.items.ensures)
