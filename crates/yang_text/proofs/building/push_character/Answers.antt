use Rattle.std.proofs.Common.{◌∙◌, sym, ap, false, ◌++◌, string_bytes, append_assoc, encode_utf8}
use Rattle.yang_text.specs.Texts.{unescape}
use Rattle.yang_text.proofs.Escapes.{plain_character, meant_character}
use Rattle.yang_text.proofs.building.push_character.Goals as goal

pub returns-in_ok-push : goal.returns-in_ok-push
returns-in_ok-push c = λ bs.
    ap (λ xs. xs ++ unescape false bs) c.in_ok-push.ensures.bytes
    ∙ append_assoc (string_bytes c.args.out.now) (encode_utf8 c.escape_meaning.result) (unescape false bs)
    ∙ ap (λ d. string_bytes c.args.out.now ++ (encode_utf8 d ++ unescape false bs)) c.escape_meaning.ensures
    ∙ ap (λ xs. string_bytes c.args.out.now ++ xs) (sym (meant_character c.args.c bs))
    ∙ ap (λ b. string_bytes c.args.out.now ++ unescape b (encode_utf8 c.args.c ++ bs)) (sym c.if-after_backslash.true)

pub returns-in_ok-push-2 : goal.returns-in_ok-push-2
returns-in_ok-push-2 c = λ bs.
    ap (λ xs. xs ++ unescape false bs) c.in_ok-push-2.ensures.bytes
    ∙ append_assoc (string_bytes c.args.out.now) (encode_utf8 c.args.c) (unescape false bs)
    ∙ ap (λ xs. string_bytes c.args.out.now ++ xs) (sym (plain_character c.args.c bs c.if-c-eq92.false))
    ∙ ap (λ b. string_bytes c.args.out.now ++ unescape b (encode_utf8 c.args.c ++ bs)) (sym c.if-after_backslash.false)
