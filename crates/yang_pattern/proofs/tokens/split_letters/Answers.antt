use Rattle.std.proofs.Common.{◌∙◌, sym, ap, ◌+◌, ◌++◌, drop, option_map}
use Rattle.std.proofs.lemmas.List.{at_drop_more}
use Rattle.std.proofs.lemmas.Result.{err_from_is_err_and}
use Rattle.yang_pattern.specs.declared.tokens.Mode.TheVariants.{Outside}
use Rattle.yang_pattern.specs.Lexing.{lex}
use Rattle.yang_pattern.proofs.LetterSteps.{IfNoPattern-weaker}
use Rattle.yang_pattern.proofs.LexRuns.{lex_begins, lex_ends, lex_open}
use Rattle.yang_pattern.proofs.tokens.split_letters.Goals as goal

pub loop-letter-init : goal.loop-letter-init
loop-letter-init c = lex_begins c.new-tokens.result.items Outside c.args.letters.now c.new-tokens.ensures.items

pub loop-letter-preserved : goal.loop-letter-preserved
loop-letter-preserved c =
    let l = c.loop-letter in
    let ls = c.args.letters.now in
    c.in_ok-mode.ensures.ok (drop (l.letter-index + 1) ls)
    ∙ (sym (at_drop_more (λ xs. option_map (λ ts. l.tokens.items ++ ts) (lex l.mode xs)) ls l.letter-index _ c.loop-letter-test.true) ∙ l.invariant)

pub returns-in_err-mode-clause-bad : goal.returns-in_err-mode-clause-bad
returns-in_err-mode-clause-bad c =
    let l = c.loop-letter in
    let ls = c.args.letters.now in
    let p = err_from_is_err_and c.from_residual.result c.from_residual.ensures.1 in
    rw (p.1, p.2)
    (IfNoPattern-weaker c.in_err-mode.field-0.0
    (λ none. sym l.invariant
    ∙ (at_drop_more (λ xs. option_map (λ ts. l.tokens.items ++ ts) (lex l.mode xs)) ls l.letter-index _ c.loop-letter-test.true
    ∙ ap (option_map (λ ts. l.tokens.items ++ ts)) (none (drop (l.letter-index + 1) ls))))
    c.in_err-mode.ensures.bad)

pub returns-in-Outside-clause-ok : goal.returns-in-Outside-clause-ok
returns-in-Outside-clause-ok c =
    let l = c.loop-letter in
    let ls = c.args.letters.now in
    lex_ends l.tokens.items l.mode ls l.letter-index (lex Outside ls) c.loop-letter-test.false c.in-Outside.is l.invariant

pub returns-in_default-clause-bad : goal.returns-in_default-clause-bad
returns-in_default-clause-bad c =
    let l = c.loop-letter in
    let ls = c.args.letters.now in
    lex_open l.tokens.items l.mode ls l.letter-index (lex Outside ls) c.loop-letter-test.false c.in_default.not-Outside l.invariant
