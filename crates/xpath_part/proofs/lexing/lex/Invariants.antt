use Rattle.std.proofs.Common.{◌≡◌, ◌++◌, drop, option_map}
use Rattle.xpath_part.specs.Lexing.{lex, lex_from}
use Rattle.xpath_part.proofs.lexing.lex.Given as goal

abbrev pub invariant-loop-at : goal.invariant-loop-at
invariant-loop-at l = option_map (λ ts. l.tokens.items ++ ts) (lex_from l.mode (drop l.at l.bytes)) ≡ lex l.bytes
