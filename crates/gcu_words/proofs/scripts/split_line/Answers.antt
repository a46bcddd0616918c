use Rattle.std.proofs.Common.{◌≡◌, sym, subst, false}
use Rattle.std.proofs.lemmas.Bool.{ne_eqb}
use Rattle.std.proofs.lemmas.List.{take_more}
use Rattle.std.proofs.lemmas.List.Elements.{All-push}
use Rattle.std.specs.List.{All}
use Rattle.gcu_words.specs.Scripts.{is_feed}
use Rattle.gcu_words.proofs.scripts.split_line.Goals as goal

pub loop-i-preserved : goal.loop-i-preserved
loop-i-preserved c =
    subst (All (λ b. is_feed b ≡ false)) (sym (take_more c.args.text.now c.loop-i.i 0 c.loop-i-test.true))
    (All-push (λ b. is_feed b ≡ false) _ _ c.loop-i.invariant (ne_eqb _ 10 c.if-text-i-eq10.false))
