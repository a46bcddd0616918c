-- What the text of a file of format 2 holds.
use Rattle.std.proofs.Common.{◌≡◌, ℕ, zero, suc, ◌≤◌, true, nat_lt, List, [], ◌∷◌, Some, None, Result, IsUtf8, refl, ap, ◌∙◌, arith}
use borrow.Author.Tests.{ltb-true}
use Rattle.std.proofs.lemmas.Bool.{and_parts}
use Rattle.std.proofs.lemmas.Str.{IsUtf8-from_ascii}
use Rattle.std.proofs.lemmas.Fmt.{IsAscii-decimal}
use Rattle.std.specs.List.{list_all}
use Rattle.std.specs.Prelude.{decimal, option_and_then}
use Rattle.std.specs.Str.{IsAscii}
use Rattle.std.specs.Result.{result_ok}
use Rattle.conf_doc.specs.Document.{Document, deepest, depth}
use Rattle.conf_doc.specs.Sound.{IsSound}
use Rattle.conf_doc.specs.WellFormed.{IsConfig}
use Rattle.conf_doc.specs.declared.configuration.Config.{Config}
use Rattle.conf_doc.specs.declared.errors.ReadError.{ReadError}
use Rattle.conf_doc.proofs.ReadTree.{depth_tree, sound_tree}
use Rattle.conf_doc.proofs.RoundTrip.{config_back}
use Rattle.checkpoints.specs.TreeTexts.{ReadsAs}
use Rattle.checkpoints.specs.Formats.{config_member, config_of, content, content_of, format_2, format_member, greatest_number, members_in, number_in, point_tree, sequence_member, with_number}
use Rattle.checkpoints.specs.Migrations.{old_held}
use Rattle.checkpoints.proofs.Contents.{not_numbered, numbered_is}
use Rattle.checkpoints.proofs.Decimals.{number_is}

-- each byte is ASCII
are_ascii : (bs : List ℕ) → list_all (λ b. nat_lt b 128) bs ≡ true → IsAscii bs
are_ascii [] e i = omega arith
are_ascii (b ∷ bs) e zero = ltb-true b 128 (and_parts (nat_lt b 128) (list_all (λ b. nat_lt b 128) bs) e).0
are_ascii (b ∷ bs) e (suc i) = are_ascii bs (and_parts (nat_lt b 128) (list_all (λ b. nat_lt b 128) bs) e).1 i

literal : (bs : List ℕ) → list_all (λ b. nat_lt b 128) bs ≡ true → IsUtf8 bs
literal bs e = IsUtf8-from_ascii bs (are_ascii bs e)

ascii_utf8 : (n : ℕ) → n ≤ greatest_number → IsUtf8 (decimal n)
ascii_utf8 n most = IsUtf8-from_ascii (decimal n) (IsAscii-decimal n (omega arith))

-- its maps rise, and its texts are UTF-8
pub sound_point : (c : Config) (n : ℕ) → IsConfig c → n ≤ greatest_number → IsSound (point_tree c n)
sound_point c n is most = (
  refl,
  (
    literal config_member refl,
    sound_tree c is,
    (literal format_member refl, literal format_2 refl, (literal sequence_member refl, ascii_utf8 n most, tt)),
  ),
)

-- it nests one deeper than a configuration
pub shallow_point : (c : Config) (n : ℕ) → depth (point_tree c n) ≤ deepest
shallow_point c n = omega (arith, depth_tree c)

-- it holds the configuration and the number
pub point_content : (c : Config) (n : ℕ) → IsConfig c → n ≤ greatest_number → content_of (point_tree c n) ≡ Some (record { config = c; number = n })
point_content c n is most =
    let number : number_in (members_in (point_tree c n)) ≡ Some n = number_is n (decimal n) most refl in
    numbered_is (point_tree c n) n number
    ∙ ap (λ r. with_number n (result_ok r)) (config_back c is)

pub point_held : (c : Config) (n : ℕ) → IsConfig c → n ≤ greatest_number → (bytes : List ℕ) → ReadsAs bytes (point_tree c n)
    → content bytes ≡ Some (record { config = c; number = n })
point_held c n is most bytes reads =
    ap (λ (r : Result Document ReadError). option_and_then content_of (result_ok r)) (reads (sound_point c n is most) (shallow_point c n))
    ∙ point_content c n is most

-- and isn't of the old format
pub point_not_old : (c : Config) (n : ℕ) → IsConfig c → n ≤ greatest_number → (bytes : List ℕ) → ReadsAs bytes (point_tree c n) → old_held bytes ≡ None
point_not_old c n is most bytes reads =
    let number : number_in (members_in (point_tree c n)) ≡ Some n = number_is n (decimal n) most refl in
    ap (λ (r : Result Document ReadError). option_and_then config_of (result_ok r)) (reads (sound_point c n is most) (shallow_point c n))
    ∙ not_numbered (point_tree c n) n number
