use Rattle.std.proofs.Common.{List, [], arith, subst, sym}
use Rattle.conf_check.specs.declared.want_iter.WantAt.{WantAt}
use Rattle.ref_index.specs.EntryNames.{Adds, IsOneOf}
use Rattle.ref_index.proofs.Collecting.{adds_all, adds_next, adds_none}
use Rattle.ref_index.proofs.NamedEntries.{item_below}
use Rattle.ref_index.proofs.differences.changed_wants.Goals as goal

pub loop-i-init : goal.loop-i-init
loop-i-init c =
    let Gone : List WantAt → Type 0 = λ ys. Adds c.args.models.now c.args.config.now c.args.next.now (IsOneOf c.args.config.now c.args.names.now 0) [] ys in
    let Come : List WantAt → Type 0 = λ ys. Adds c.args.models.now c.args.next.now c.args.config.now (IsOneOf c.args.next.now c.args.names.now 0) [] ys in (
      subst Gone (sym c.new.ensures.items) (adds_none c.args.models.now c.args.config.now c.args.next.now c.args.names.now []),
      subst Come (sym c.new-2.ensures.items) (adds_none c.args.models.now c.args.next.now c.args.config.now c.args.names.now []),
    )

pub loop-i-preserved : goal.loop-i-preserved
loop-i-preserved c =
    let name = item_below c.args.names.now c.loop-i.i (omega (arith, c.loop-i-test.true)) in (
      adds_next c.args.models.now c.args.config.now c.args.next.now c.args.names.now c.loop-i.i name.0 [] c.loop-i.changes.gone.items c.add_at.new.changes.gone.items
          name.1 c.loop-i.invariant.0 (c.in_ok-add_at.ensures.gone name.0 name.1),
      adds_next c.args.models.now c.args.next.now c.args.config.now c.args.names.now c.loop-i.i name.0 [] c.loop-i.changes.come.items c.add_at.new.changes.come.items
          name.1 c.loop-i.invariant.1 (c.in_ok-add_at.ensures.come name.0 name.1),
    )

pub returns-clause-gone : goal.returns-clause-gone
returns-clause-gone c =
    let past = c.loop-i-test.false in
    adds_all c.args.models.now c.args.config.now c.args.next.now c.args.names.now c.loop-i.i c.loop-i.changes.gone.items (omega (arith, past))
    c.requires.of_first c.loop-i.invariant.0

pub returns-clause-come : goal.returns-clause-come
returns-clause-come c =
    let past = c.loop-i-test.false in
    adds_all c.args.models.now c.args.next.now c.args.config.now c.args.names.now c.loop-i.i c.loop-i.changes.come.items (omega (arith, past))
    c.requires.of_second c.loop-i.invariant.1
