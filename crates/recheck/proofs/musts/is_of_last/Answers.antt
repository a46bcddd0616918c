use Rattle.std.proofs.Common.{◌-◌, arith}
use Rattle.recheck.proofs.Readers.{last_by}
use Rattle.recheck.proofs.musts.is_of_last.Goals as goal

pub returns-then-i-gt0 : goal.returns-then-i-gt0
returns-then-i-gt0 c =
    let some = c.if-i-gt0.true in
    last_by c.args.verdicts.now (c.args.i - 1) c.args.i c.index-verdicts-i.result c.index-verdicts-i-then-i-gt0.result c.as_str.result.now
    c.as_str-then-i-gt0.result.now c.eq.result (omega (arith, some)) c.requires c.as_str.ensures.text c.as_str-then-i-gt0.ensures.text c.eq.ensures
