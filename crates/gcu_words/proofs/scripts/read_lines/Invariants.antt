use Rattle.std.proofs.Common.{◌≡◌, suc, length}
use Rattle.gcu_words.specs.Scripts.{lines_from, pieces_of, script}
use Rattle.gcu_words.proofs.ScriptLemmas.{behind}
use Rattle.gcu_words.proofs.scripts.read_lines.Given as goal

abbrev pub invariant-loop-number : goal.invariant-loop-number
invariant-loop-number l = record {
  so_far : script l.bytes ≡ behind l.lines (lines_from (suc l.number) (pieces_of l.rest));
  count : length l.lines ≡ l.number;
}
