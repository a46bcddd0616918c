use Rattle.recheck.proofs.Losers.{found_there}
use Rattle.recheck.proofs.losses.is_there.Goals as goal

pub returns : goal.returns
returns c = λ is.
    found_there c.args.next.now _ _ _ _ c.has_entry.result c.as_str-table.ensures.text c.as_str-key.ensures.text c.has_entry.ensures is
