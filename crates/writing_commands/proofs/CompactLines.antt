-- A compact text is one line.
use Rattle.std.proofs.Common.{◌≡◌, ◌≢◌, ℕ, List, [], ◌∷◌, ◌++◌, ◌/◌, ◌%◌, Bool, true, false, cond, refl, subst, arith}
use Rattle.std.specs.Prelude.{nat_lt}
use Rattle.std.specs.Char.{digit_char}
use Rattle.std.proofs.lemmas.Bool.Decides.{nat_tests}
use Rattle.json.specs.Print.{escape, escape_byte, escape_letter, quoted}
use Rattle.serde_json.specs.Written.{comma_if, items_text, members_text}
use Rattle.conf_doc.specs.Document.{Document, text, list, object, Items, no_items, item, Members, no_members, member}
use Rattle.conf_doc.specs.Texts.{compact, item_values, member_values}
use Rattle.writing_commands.proofs.Lines.{IsOneLine, one_line-append}

letter_is_no_end : (x : ℕ) → escape_letter x ≢ 10
letter_is_no_end x e = grind (arith, nat_tests)

glyph_is_no_end : (d : ℕ) → digit_char d ≢ 10
glyph_is_no_end d e = grind (arith, nat_tests)

plain_byte : (x : ℕ) → nat_lt 0 (escape_letter x) ≡ false → x ≢ 10
plain_byte x plain e =
    let own : nat_lt 0 (escape_letter 10) ≡ false = subst (λ n. nat_lt 0 (escape_letter n) ≡ false) e plain in cc

escaped_by : (x : ℕ) (b c : Bool) → (b ≡ false → x ≢ 10)
    → IsOneLine (cond b (92 ∷ escape_letter x ∷ [])
    (cond c (92 ∷ 117 ∷ 48 ∷ 48 ∷ digit_char (x / 16) ∷ digit_char (x % 16) ∷ []) (x ∷ [])))
escaped_by x true c h = (omega arith, (letter_is_no_end x, tt))
escaped_by x false true h = (
  omega arith,
  (
    omega arith,
    (omega arith, (omega arith, (glyph_is_no_end (x / 16), (glyph_is_no_end (x % 16), tt)))),
  ),
)
escaped_by x false false h = (h refl, tt)

escaped_byte : (x : ℕ) → IsOneLine (escape_byte x)
unfolding escape_byte
escaped_byte x = escaped_by x (nat_lt 0 (escape_letter x)) (nat_lt x 32) (plain_byte x)

escaped : (s : List ℕ) → IsOneLine (escape s)
escaped [] = tt
escaped (x ∷ s) = one_line-append (escape_byte x) (escape s) (escaped_byte x) (escaped s)

quoted_is_one_line : (s : List ℕ) → IsOneLine (quoted s)
quoted_is_one_line s =
    (omega arith, one_line-append (escape s) (34 ∷ []) (escaped s) (omega arith, tt))

comma : (later : Bool) → IsOneLine (comma_if later)
comma false = tt
comma true = (omega arith, tt)

mutual
  pub compact_is_one_line : (d : Document) → IsOneLine (compact d)
  compact_is_one_line (text s) = quoted_is_one_line s
  compact_is_one_line (list ds) = (omega arith, items_are_one_line false ds)
  compact_is_one_line (object ms) = (omega arith, members_are_one_line false ms)

  items_are_one_line : (later : Bool) (ds : Items) → IsOneLine (items_text later (item_values ds))
  items_are_one_line later no_items = (omega arith, tt)
  items_are_one_line later (item d ds) =
      one_line-append (comma_if later) (compact d ++ items_text true (item_values ds)) (comma later)
      (one_line-append (compact d) (items_text true (item_values ds)) (compact_is_one_line d)
      (items_are_one_line true ds))

  members_are_one_line : (later : Bool) (ms : Members) → IsOneLine (members_text later (member_values ms))
  members_are_one_line later no_members = (omega arith, tt)
  members_are_one_line later (member k d ms) =
      one_line-append (comma_if later) (quoted k ++ 58 ∷ (compact d ++ members_text true (member_values ms)))
      (comma later)
      (one_line-append (quoted k) (58 ∷ (compact d ++ members_text true (member_values ms))) (quoted_is_one_line k) (
        omega arith,
        one_line-append (compact d) (members_text true (member_values ms)) (compact_is_one_line d)
            (members_are_one_line true ms),
      ))
