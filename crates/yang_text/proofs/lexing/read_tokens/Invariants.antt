use Rattle.std.proofs.Common.{◌≡◌, ◌≤◌, ◌+◌, ◌++◌, drop}
use Rattle.yang_text.specs.Lexing.{lex, tokens}
use Rattle.yang_text.proofs.lexing.read_tokens.Given as goal

abbrev pub invariant-loop-at : goal.invariant-loop-at
invariant-loop-at l = record {
  line : l.line ≤ l.at + 1;
  rest : l.found.items ++ lex l.mode l.at l.line (drop l.at l.bytes) ≡ tokens l.bytes;
}
