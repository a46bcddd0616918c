use Rattle.std.proofs.Common.{Some, sym, ap, ◌∙◌}
use Rattle.plan_check.proofs.ItemLists.{first_of, none_here, none_there}
use Rattle.plan_check.proofs.Loops.{not_so}
use Rattle.plan_check.proofs.items.lists_at.Goals as goal

pub returns-in_default : goal.returns-in_default
returns-in_default c = none_here c.args.cur.now c.args.goal.now c.args.place.now c.args.i (sym c.in_default.ensures)

pub returns-in_default-list_at : goal.returns-in_default-list_at
returns-in_default-list_at c = none_there c.args.cur.now c.args.goal.now c.args.place.now c.args.i (sym c.in_default-list_at.ensures)

pub returns-then-not-differ_first : goal.returns-then-not-differ_first
returns-then-not-differ_first c = λ lists.
    not_so c.differ_first.result c.differ_first.ensures.1 c.if-not-differ_first.true
    (first_of c.args.cur.now c.args.goal.now c.args.place.now c.args.i c.items-old.result.now c.items-new.result.now
    (sym c.in-Some.ensures ∙ ap Some (sym c.items-old.ensures)) (sym c.in-Some-list_at.ensures ∙ ap Some (sym c.items-new.ensures)) lists)

pub returns : goal.returns
returns c = record {
  here = sym c.in-Some.ensures ∙ ap Some (sym c.items-old.ensures);
  there = sym c.in-Some-list_at.ensures ∙ ap Some (sym c.items-new.ensures);
  first = c.differ_first.ensures.0 c.if-not-differ_first.false;
}
