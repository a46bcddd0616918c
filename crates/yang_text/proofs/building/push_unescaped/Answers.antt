use Rattle.std.proofs.Common.{◌∙◌, sym, ap, ◌++◌, string_bytes}
use Rattle.std.proofs.lemmas.List.{nil_from_length, append-nil}
use Rattle.std.proofs.lemmas.Str.{IsUtf8-past_char}
use Rattle.std.specs.Str.Iter.{chars_rest}
use Rattle.yang_text.specs.Texts.{unescape}
use Rattle.yang_text.proofs.Escapes.{none_left}
use Rattle.yang_text.proofs.building.push_unescaped.Goals as goal

pub loop-c-preserved : goal.loop-c-preserved
loop-c-preserved c =
    let inv = c.loop-c.invariant in
    let old = chars_rest c.loop-c.c-iterator in
    let new = chars_rest c.next.new.self in
    let parts = c.in-Some.ensures.steps.0 in
    record {
      text = IsUtf8-past_char old new c.in-Some.c inv.text parts;
      rest = c.in_ok-after_backslash.ensures new ∙ ap (λ bs. string_bytes c.loop-c.out ++ unescape c.loop-c.after_backslash bs) (sym parts) ∙ inv.rest;
    }

pub returns : goal.returns
returns c =
    let none = nil_from_length (chars_rest c.loop-c.c-iterator) c.in-None.ensures.steps.0.0 in
    sym (append-nil (string_bytes c.loop-c.out)) ∙ ap (λ bs. string_bytes c.loop-c.out ++ bs) (sym (none_left c.loop-c.after_backslash _ none)) ∙ c.loop-c.invariant.rest
