use Rattle.std.proofs.Common.{arith, rules}
use Rattle.conf_doc.proofs.Escapes.{escaped-other}
use Rattle.conf_doc.proofs.pointers.push_escaped_char.Goals as goal

-- any other character stays as it is
pub returns-in_default : goal.returns-in_default
returns-in_default c = let other = escaped-other c.args.c (search rules) (search rules) in grind (arith, other)
