use Rattle.plan_texts.proofs.ItemLemmas.{no_index, one_index}
use Rattle.plan_texts.proofs.items.index_in.Goals as goal

pub returns-in-Ok : goal.returns-in-Ok
returns-in-Ok c =
    one_index c.args.token.now c.parse.result c.parse.ensures.value.0 c.in-Ok.index c.in-Ok.is

pub returns-in-Err : goal.returns-in-Err
returns-in-Err c =
    no_index c.args.token.now c.parse.result c.parse.ensures.value.0 c.in-Err.field-0 c.in-Err.is
