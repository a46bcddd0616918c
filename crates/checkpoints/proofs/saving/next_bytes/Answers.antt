use Rattle.checkpoints.proofs.NumberListings.{next_text_is}
use Rattle.checkpoints.proofs.saving.next_bytes.Goals as goal

pub returns-clause-text : goal.returns-clause-text
returns-clause-text g c =
    next_text_is (g.H.Host.told c.args.host.now) c.args.config.now c.in_ok-number.number c.in_ok-text.text.items c.in_ok-number.ensures.number c.in_ok-text.ensures.text c.in_ok-text.ensures.content
