use Rattle.std.proofs.Common.{arith, ◌∙◌}
use Rattle.patch_core.proofs.Numbers.{is_index_from_digits}
use Rattle.patch_core.proofs.indexes.is_index.Goals as goal

pub returns-then-first-ne48 : goal.returns-then-first-ne48
returns-then-first-ne48 c = c.all_digits.ensures ∙ is_index_from_digits c.args.token.now (omega arith) c.if-first-ne48.true
