use Rattle.std.proofs.Common.{◌≡◌, ◌++◌, drop, option_map}
use Rattle.yang_pattern.specs.declared.tokens.Mode.TheVariants.{Outside}
use Rattle.yang_pattern.specs.Lexing.{lex}
use Rattle.yang_pattern.proofs.tokens.split_letters.Given as goal

abbrev pub invariant-loop-letter : goal.invariant-loop-letter
invariant-loop-letter l =
    option_map (λ ts. l.tokens.items ++ ts) (lex l.mode (drop l.letter-index l.letters)) ≡ lex Outside l.letters
