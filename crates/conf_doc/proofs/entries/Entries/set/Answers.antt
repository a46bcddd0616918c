use Rattle.std.proofs.Common.{sym, subst}
use Rattle.conf_doc.specs.ListHolders.{HasNoList, HaveNoList}
use Rattle.conf_doc.proofs.WellFormed.{each_set}
use Rattle.conf_doc.proofs.entries.Entries.set.Goals as goal

pub invariant_of-result : goal.invariant_of-result
invariant_of-result c =
    let still = c.still_hold_no_list-holds_no_list.ensures in (
      c.move_blocks-blocks.ensures,
      λ yes.
          subst HaveNoList (sym c.in_ok-list.ensures)
          (each_set HasNoList c.args.key.now c.args.entry c.self.inside.list (still.entry yes) (c.self.invariant.1 (still.before yes))),
    )
