use Rattle.std.proofs.Common.{◌<◌, length, below_more, arith}
use Rattle.std.proofs.lemmas.Option.{slice_get_within}
use Rattle.key_split.specs.Key.{key_parts}
use Rattle.recheck.specs.Changes.{IsPartUnwanted}
use Rattle.recheck.proofs.VerdictWalks.{when_false}
use Rattle.recheck.proofs.alone.is_some_part_wanted.Goals as goal

pub loop-part-preserved : goal.loop-part-preserved
loop-part-preserved c =
    below_more (λ n. IsPartUnwanted c.args.index.now.models c.args.index.now.config c.args.table.now c.args.shape c.args.key.now n) c.loop-part.part
    c.loop-part.invariant (when_false _ _ c.if-is_part_of_wanted.false c.is_part_of_wanted.ensures)

pub returns : goal.returns
returns c = λ part text at.
    let within : part < length (key_parts c.args.key.now) = slice_get_within (key_parts c.args.key.now) part text at in
    c.loop-part.invariant part (omega (arith, within, c.parts-part-end.ensures, c.loop-part-test.false)) text at
