use Rattle.move_examples.proofs.DefinedMoves.{all_defined}
use Rattle.move_examples.proofs.boxes.listed_moves.Goals as goal

pub returns-clause-defined : goal.returns-clause-defined
returns-clause-defined g c =
    let s = c.args.situation.now in
    all_defined s.ctx s.start s.cur s.goal c.in_ok-listed.field-0
    (λ m is. c.listed_moves_are_defined.ensures.listed s.ctx s.cur s.goal m c.len-tables.ensures.formed is)
    c.in_ok-listed.ensures.listed
