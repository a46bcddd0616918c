use Rattle.std.proofs.Common.{◌∙◌, sym, ap, chars, option_map, ◌++◌, false}
use Rattle.std.specs.Str.Iter.{chars_rest}
use Rattle.std.proofs.lemmas.Result.{err_from_is_err_and}
use Rattle.std.proofs.lemmas.Str.{IsUtf8-past_char, chars_past_char}
use Rattle.yang_pattern.specs.Letters.{letters_from}
use Rattle.yang_pattern.proofs.LetterSteps.{chars_none, ends_behind, ends_well, IfNoPattern-weaker}
use Rattle.yang_pattern.proofs.letters.read_letters.Goals as goal

pub loop-c-preserved : goal.loop-c-preserved
loop-c-preserved c =
    let inv = c.loop-c.invariant in
    let old = chars_rest c.loop-c.c-iterator in
    let new = chars_rest c.next.new.self in
    let d = c.in-Some.c in
    let parts = c.in-Some.ensures.steps.0 in
    let split = chars_past_char old new d inv.text parts in
    let read = c.in_ok-after_backslash.ensures.ok in
    record {
      text = IsUtf8-past_char old new d inv.text parts;
      rest = read (chars new) ∙ (ap (λ cs. option_map (λ ls. c.loop-c.letters.items ++ ls) (letters_from c.loop-c.after_backslash cs)) (sym split) ∙ inv.rest);
    }

pub returns-in_err-after_backslash-clause-bad : goal.returns-in_err-after_backslash-clause-bad
returns-in_err-after_backslash-clause-bad c =
    let inv = c.loop-c.invariant in
    let old = chars_rest c.loop-c.c-iterator in
    let new = chars_rest c.next.new.self in
    let split = chars_past_char old new c.in-Some.c inv.text c.in-Some.ensures.steps.0 in
    let p = err_from_is_err_and c.from_residual.result c.from_residual.ensures.1 in
    rw (p.1, p.2)
    (IfNoPattern-weaker c.in_err-after_backslash.field-0.0
    (λ none. sym inv.rest ∙ ap (λ o. option_map (λ ls. c.loop-c.letters.items ++ ls) o) (ap (λ cs. letters_from c.loop-c.after_backslash cs) split ∙ none (chars new)))
    c.in_err-after_backslash.ensures.bad)

pub returns-then-after_backslash-clause-bad : goal.returns-then-after_backslash-clause-bad
returns-then-after_backslash-clause-bad c =
    let inv = c.loop-c.invariant in
    ends_behind c.loop-c.after_backslash c.loop-c.letters.items (chars (chars_rest c.loop-c.c-iterator)) (letters_from false (chars c.args.text.now)) (chars_none (chars_rest c.loop-c.c-iterator) c.in-None.ensures.steps.0.0) c.if-after_backslash.true inv.rest

pub returns-clause-ok : goal.returns-clause-ok
returns-clause-ok c =
    let inv = c.loop-c.invariant in
    ends_well c.loop-c.after_backslash c.loop-c.letters.items (chars (chars_rest c.loop-c.c-iterator)) (letters_from false (chars c.args.text.now)) (chars_none (chars_rest c.loop-c.c-iterator) c.in-None.ensures.steps.0.0) c.if-after_backslash.false inv.rest
