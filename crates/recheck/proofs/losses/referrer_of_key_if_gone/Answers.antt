use Rattle.recheck.proofs.Losers.{has_lost}
use Rattle.recheck.proofs.losses.referrer_of_key_if_gone.Goals as goal

pub returns : goal.returns
returns c =
    has_lost c.args.models.now c.args.index.now.config c.args.next.now c.args.table.now c.args.key.now c.referrer_of_key.result c.has_entry.result
    c.has_entry.ensures c.if-has_entry.false c.referrer_of_key.ensures.wants c.referrer_of_key.ensures.there
