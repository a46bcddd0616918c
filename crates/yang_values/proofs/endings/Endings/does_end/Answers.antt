use Rattle.std.proofs.Common.{List, sym, subst}
use Rattle.yang_scope.specs.Modules.{Module}
use Rattle.yang_scope.specs.Paths.{Placed}
use Rattle.yang_values.specs.Endings.{DoesEnd}
use Rattle.yang_values.specs.Walks.{placed}
use Rattle.yang_values.proofs.TypedefBases.{ends_at_base}
use Rattle.yang_values.proofs.Ends.{ends_among}
use Rattle.yang_values.proofs.endings.Endings.does_end.Goals as goal

pub returns-then-not-leads_on : goal.returns-then-not-leads_on
returns-then-not-leads_on c = λ e.
    let p : Placed = placed c.args.place.now in
    subst (λ (ms : List Module). DoesEnd ms p) c.self.view_is
    (ends_at_base c.self.inside.names.now p.0 p.1 c.base_of.result c.base_of.ensures (sym c.if-not-leads_on.ensures))

pub returns : goal.returns
returns c = λ e.
    let p : Placed = placed c.args.place.now in
    subst (λ (ms : List Module). DoesEnd ms p) c.self.view_is
    (ends_among c.self.inside.names.now c.self.inside.places.items.items c.self.invariant p (c.has.ensures e))
