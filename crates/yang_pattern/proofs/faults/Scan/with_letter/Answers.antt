use Rattle.std.proofs.Common.{◌≡◌, ◌∙◌, sym, ap, refl, Option, Some, None}
use Rattle.yang_pattern.specs.declared.symbols.Token.{Token}
use Rattle.yang_pattern.specs.declared.tokens.Step.{Step}
use Rattle.yang_pattern.specs.Lexing.{advance}
use Rattle.yang_pattern.proofs.Scanning.{lexed_quiet, lexed_token}
use Rattle.yang_pattern.proofs.faults.Scan.with_letter.Goals as goal

pub returns-in-Some-with : goal.returns-in-Some-with
returns-in-Some-with c =
    let t = c.in-Some-token.token in
    let n = c.in-Some.step.mode in
    let with : Option Token → Option Step = λ token. Some (record { mode = n; token = token }) in
    let brings : advance c.args.mode c.args.letter ≡ with (Some t) =
    sym c.in_ok-advance.ensures ∙ (c.in-Some.is ∙ ap with c.in-Some-token.is) in (
      refl,
      λ letters is.
          lexed_token letters c.args.mode n c.args.standing c.in-Some-with.standing c.args.letter t brings c.in-Some-with.ensures is,
    )

pub returns-in-None-token : goal.returns-in-None-token
returns-in-None-token c =
    let n = c.in-Some.step.mode in
    let with : Option Token → Option Step = λ token. Some (record { mode = n; token = token }) in
    let brings : advance c.args.mode c.args.letter ≡ with None =
    sym c.in_ok-advance.ensures ∙ (c.in-Some.is ∙ ap with c.in-None-token.is) in
    (refl, λ letters is. lexed_quiet letters c.args.mode n c.args.standing c.args.letter brings is)
