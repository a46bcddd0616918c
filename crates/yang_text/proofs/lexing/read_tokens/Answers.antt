use Rattle.std.proofs.Common.{◌≡◌, ◌∙◌, sym, subst, ap, All, ◌+◌, ◌++◌, drop, length, option_to_list, get_or, arith}
use Rattle.std.proofs.lemmas.List.{drop_more, drop_all}
use Rattle.yang_text.specs.Lexing.{tokens}
use Rattle.yang_text.specs.Texts.{IsWithin, IsCut}
use Rattle.yang_text.proofs.Cuts.{tokens_within, tokens_cut, tokens_few}
use Rattle.yang_text.proofs.TokenSteps.{lex_more, lex_done, next_line_le}
use Rattle.yang_text.proofs.lexing.read_tokens.Goals as goal

pub loop-at-preserved : goal.loop-at-preserved
loop-at-preserved c =
    let bytes = c.args.bytes.now in
    let at = c.loop-at.at in
    record {
      line = omega (arith, next_line_le c.loop-at.line c.window_at-window.result.byte, c.next_line-line.ensures, c.loop-at.invariant.line);
      rest = lex_more c.loop-at.found.items c.push_found.new.tokens.items _ c.loop-at.mode at c.loop-at.line (drop at bytes) (get_or bytes at 0) (drop (at + 1) bytes) c.advance-step.result c.next_line-line.result
          (drop_more bytes at 0 c.loop-at-test.true) (cc) (cc) (c.in_ok-push_found.ensures) c.loop-at.invariant.rest;
    }

found_is : (c : goal.In_ok-push_found-2) → c.push_found-2.new.tokens.items ≡ tokens c.args.bytes.now
found_is c =
    let bytes = c.args.bytes.now in
    let ends : c.loop-at.at ≡ length bytes = omega arith in
    lex_done c.loop-at.found.items c.push_found-2.new.tokens.items _ c.loop-at.mode c.loop-at.at c.loop-at.line (drop c.loop-at.at bytes) (length bytes)
    (drop_all c.loop-at.at bytes (omega arith)) ends
    (c.in_ok-push_found-2.ensures ∙ ap (λ o. c.loop-at.found.items ++ option_to_list o) c.open_fault.ensures)
    c.loop-at.invariant.rest

pub returns : goal.returns
returns c =
    let bytes = c.args.bytes.now in
    record {
      tokens = found_is c;
      within = subst (λ ts. All (IsWithin bytes) ts) (sym (found_is c)) (tokens_within bytes);
      cut = λ u. subst (λ ts. All (IsCut bytes) ts) (sym (found_is c)) (tokens_cut bytes u);
      few = omega (arith, tokens_few bytes, ap length (found_is c));
    }
