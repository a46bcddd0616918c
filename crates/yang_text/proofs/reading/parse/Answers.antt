use Rattle.yang_text.proofs.Theorems.{gives_spelled, gives_few, gives_faultless, gives_least}
use Rattle.yang_text.proofs.reading.parse.Goals as goal

pub returns : goal.returns
returns c =
    let text = c.args.bytes.now in
    let read = c.read_text.ensures in
    record { spelled = gives_spelled text c.read_text.result read; few = gives_few text c.read_text.result read; faultless = gives_faultless text c.read_text.result read; least = gives_least text c.read_text.result read; exact = read }
