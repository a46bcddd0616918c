use Rattle.std.proofs.Common.{◌≡◌, ◌≢◌, ◌++◌, List, ℕ, subst}
use Rattle.std.specs.Prelude.{MatchOption}
use Rattle.move_core.specs.Operations.{number_text}
use Rattle.plan_texts.proofs.MoveTexts.{numbered_answer}
use Rattle.plan_texts.proofs.steps.read_step.Goals as goal

pub returns-in-Some : goal.returns-in-Some
returns-in-Some c =
    let number = c.args.number in
    let line = c.args.line.now in
    let is = subst (λ o. MatchOption o ((rest : List ℕ) → line ≢ number_text number ++ rest) (λ rest. line ≡ number_text number ++ rest.now))
    c.in-Some.is c.in_ok-text.ensures in
    numbered_answer number line c.in-Some.text.now is c.read_move.result c.read_move.ensures
