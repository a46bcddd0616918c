use Rattle.std.proofs.Common.{sym, ◌∙◌}
use Rattle.yang_model.proofs.laws.models_are_one.Goals as goal

pub returns : goal.returns
returns c = λ files a b p q.
    let (readers, are) = c.readers_exist.ensures in
    (p readers are).1 ∙ sym (q readers are).1
