use Rattle.std.proofs.Common.{◌≡◌, take, false}
use Rattle.std.specs.List.{All}
use Rattle.gcu_words.specs.Scripts.{is_feed}
use Rattle.gcu_words.proofs.scripts.split_line.Given as goal

abbrev pub invariant-loop-i : goal.invariant-loop-i
invariant-loop-i l = All (λ b. is_feed b ≡ false) (take l.i l.text)
