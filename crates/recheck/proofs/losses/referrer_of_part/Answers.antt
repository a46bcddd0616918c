use Rattle.std.proofs.Common.{sym}
use Rattle.recheck.proofs.Losers.{wants_part}
use Rattle.recheck.proofs.losses.referrer_of_part.Goals as goal

pub returns-clause-wants : goal.returns-clause-wants
returns-clause-wants c =
    wants_part c.args.index.now.models c.args.index.now.config c.args.table.now c.args.key.now c.args.shape c.args.part c.in-Ok.number c.in-Some.text.now
    c.referrers.result.now c.first_there.result (sym c.in-Some.ensures) c.in-Ok.ensures.1 c.referrers.ensures.each c.first_there.ensures.one
