use Rattle.std.proofs.Common.{arith, ◌≡◌, ◌∷◌, ◌++◌, ◌+◌, drop, get_or, option_map, add-one, ap, sym, ◌∙◌}
use Rattle.std.proofs.Math.Seq.{drop-cons}
use Rattle.std.proofs.lemmas.Result.{err_from_is_err_and}
use Rattle.xpath_part.specs.Lexing.{lex, lex_from}
use Rattle.xpath_part.proofs.Lexemes.{lex_step, lex_stops, lex_ends, lex_cut}
use Rattle.xpath_part.proofs.lexing.lex.Goals as goal

pub loop-at-preserved : goal.loop-at-preserved
loop-at-preserved c =
    let bytes = c.as_bytes-bytes.result.now in
    let here : drop c.loop-at.at bytes ≡ get_or bytes c.loop-at.at 0 ∷ drop (c.loop-at.at + 1) bytes = rw add-one (drop-cons bytes c.loop-at.at 0 c.loop-at-test.true) in
    lex_step c.loop-at.mode c.in_ok-mode.mode (get_or bytes c.loop-at.at 0) (drop (c.loop-at.at + 1) bytes) c.loop-at.tokens.items c.advance.new.tokens.items _
    c.in_ok-mode.ensures.ok
    (ap (λ bs. option_map (λ ts. c.loop-at.tokens.items ++ ts) (lex_from c.loop-at.mode bs)) (sym here) ∙ c.loop-at.invariant)

pub returns-in_err-mode-clause-bad : goal.returns-in_err-mode-clause-bad
returns-in_err-mode-clause-bad c =
    let bytes = c.as_bytes-bytes.result.now in
    let here : drop c.loop-at.at bytes ≡ get_or bytes c.loop-at.at 0 ∷ drop (c.loop-at.at + 1) bytes = rw add-one (drop-cons bytes c.loop-at.at 0 c.loop-at-test.true) in
    let p = err_from_is_err_and c.from_residual.result c.from_residual.ensures.1 in
    rw (p.1, p.2)
    (lex_stops c.loop-at.mode (get_or bytes c.loop-at.at 0) (drop (c.loop-at.at + 1) bytes) c.loop-at.tokens.items _ c.in_err-mode.field-0.0
    c.in_err-mode.ensures.bad
    (ap (λ bs. option_map (λ ts. c.loop-at.tokens.items ++ ts) (lex_from c.loop-at.mode bs)) (sym here) ∙ c.loop-at.invariant ∙ ap lex c.as_bytes-bytes.ensures.value))

pub returns-in_ok-push_ended-in-Ends-clause-ok : goal.returns-in_ok-push_ended-in-Ends-clause-ok
returns-in_ok-push_ended-in-Ends-clause-ok c =
    ap lex (sym c.as_bytes-bytes.ensures.value)
    ∙ lex_ends c.loop-at.mode c.loop-at.at c.as_bytes-bytes.result.now c.loop-at.tokens.items c.push_ended.new.tokens.items c.in-Ends.ended c.finish.result _
    c.loop-at-test.false c.finish.ensures c.in-Ends.is c.in_ok-push_ended-in-Ends.ensures c.loop-at.invariant

pub returns-in_default : goal.returns-in_default
returns-in_default c = record {
  ok = tt;
  bad = ap lex (sym c.as_bytes-bytes.ensures.value)
      ∙ lex_cut c.loop-at.mode c.loop-at.at c.as_bytes-bytes.result.now c.loop-at.tokens.items c.finish.result _
      c.loop-at-test.false c.finish.ensures c.in_default.not-Ends c.loop-at.invariant;
  place = omega arith;
}
