use Rattle.std.proofs.Common.{◌≡◌, ◌≢◌, ◌++◌, List, ℕ, subst, ◌∙◌}
use Rattle.std.specs.Prelude.{MatchOption}
use Rattle.std.proofs.lemmas.Bool.Decides.{Decides-eqb}
use Rattle.std.proofs.lemmas.Slice.Eq.{strip_prefix_is}
use Rattle.plan_texts.proofs.steps.after_number.Goals as goal

pub returns : goal.returns
returns c =
    let line = c.args.line.now in
    let begin = c.as_bytes.result.now in
    let r = c.strip_prefix.result in
    let cut = strip_prefix_is Decides-eqb line begin r c.strip_prefix.ensures.cases in
    subst (λ b. MatchOption r ((rest : List ℕ) → line ≢ b ++ rest) (λ x. line ≡ b ++ x.now))
    (c.as_bytes.ensures.value ∙ c.in_ok-begin.ensures.ok) cut
