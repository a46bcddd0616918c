use Rattle.std.proofs.Common.{◌≡◌, Some, None, ◌∙◌}
use Rattle.recheck.proofs.SoleEntries.{part_unwanted}
use Rattle.recheck.proofs.alone.is_part_of_wanted.Goals as goal

pub returns-in-Some : goal.returns-in-Some
returns-in-Some c =
    part_unwanted c.args.index.now.models c.args.index.now.config c.args.table.now c.args.shape c.args.key.now c.args.part c.in-Some.text.now
    c.is_part_wanted.result c.in-Some.ensures c.is_part_wanted.ensures

pub returns-in-None : goal.returns-in-None
returns-in-None c = λ text at.
    let none : None ≡ Some text = c.in-None.ensures ∙ at in
    absurd cc
