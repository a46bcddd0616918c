use Rattle.std.proofs.Common.{◌∙◌}
use Rattle.move_extend.specs.KeyLengths.{is_at_an_end}
use Rattle.move_extend.proofs.KeyLengths.{part_at_end}
use Rattle.move_extend.proofs.TextSearches.{any_of}
use Rattle.move_extend.proofs.mentions.may_have_part.Goals as goal

pub returns-then-is_short : goal.returns-then-is_short
returns-then-is_short c = λ short s has part.
    let key = c.args.key.now in
    c.has_end.ensures
    ∙ any_of (λ t. t.now) (is_at_an_end key) c.args.texts.now s has (part_at_end key s (short c.if-is_short.true) part)

pub returns : goal.returns
returns c = λ short s has part. c.has_part.ensures s has part
