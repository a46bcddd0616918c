use Rattle.std.proofs.Common.{IsUtf8, sym, subst}
use Rattle.plan_texts.proofs.CountLemmas.{count_is_text}
use Rattle.plan_texts.proofs.counts.read_count.Goals as goal

pub returns-in-Err : goal.returns-in-Err
returns-in-Err c = λ n small same. c.in-Err.ensures.cases.0 (subst IsUtf8 (sym same) (count_is_text n small))
