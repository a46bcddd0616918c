-- The two formats of a checkpoint's file. The old one is a configuration. Format 2 is a map of a
-- configuration, the format and a sequence number. Any layout is read alike.
use Rattle.std.specs.Prelude.{ℕ, List, [], ◌∷◌, ◌++◌, codes, length, bytes_eq, decimal, nat_le, ◌&&◌, ◌==◌, if◌then◌else◌, Bool, false, Option, Some, None, option_and_then, option_map}
use Rattle.std.specs.Option.{option_map_or, option_or}
use Rattle.std.specs.Result.{result_ok}
use Rattle.std.specs.Str.Parse.{digits_value}
use Rattle.host_core.specs.Characters.{decimal_base}
use Rattle.conf_doc.specs.Configuration.{tree}
use Rattle.conf_doc.specs.Document.{Document, text, list, object, members_of, pairs}
use Rattle.conf_doc.specs.Pairs.{find}
use Rattle.conf_doc.specs.Reading.{reading}
use Rattle.conf_doc.specs.Shaping.{configuration}
use Rattle.conf_doc.specs.Texts.{line_feed, pretty_text}
use Rattle.conf_doc.specs.declared.configuration.Config.{Config}
use Rattle.checkpoints.specs.declared.content.Content.{Content}

-- ---- the sequence number

-- the greatest number
abbrev pub greatest_number : ℕ
greatest_number = 4294967295

-- the number, where it is no greater than that and the text is its decimal
abbrev pub if_decimal : ℕ → List ℕ → Option ℕ
if_decimal n digits =
    if nat_le n greatest_number && bytes_eq (decimal n) digits then Some n else None

-- the number that a text is in decimal, without leading zeros
abbrev pub number_of : List ℕ → Option ℕ
number_of digits = if_decimal (digits_value decimal_base digits) digits

-- ---- the members of a map

-- the member of the configuration
abbrev pub config_member : List ℕ
config_member = codes "config"

-- the member that names the format
abbrev pub format_member : List ℕ
format_member = codes "format"

-- the member of the number
abbrev pub sequence_member : List ℕ
sequence_member = codes "sequence"

-- how format 2 is named
abbrev pub format_2 : List ℕ
format_2 = codes "2"

-- the members of a map, as pairs
abbrev pub members_in : Document → List (List ℕ × Document)
members_in (text s) = []
members_in (list ds) = []
members_in (object ms) = pairs ms

-- the text that a document is, or none
abbrev pub text_in : Document → Option (List ℕ)
text_in (text s) = Some s
text_in (list ds) = None
text_in (object ms) = None

-- the text that a member is
abbrev pub text_at : List ℕ → List (List ℕ × Document) → Option (List ℕ)
text_at name ms = option_and_then text_in (find name ms)

-- whether there are three members, one of which names the format
abbrev pub has_format_2 : List (List ℕ × Document) → Bool
has_format_2 ms =
    length ms == 3 && option_map_or (bytes_eq format_2) (text_at format_member ms) false

-- ---- what a document holds

-- the configuration that a document is, or none
abbrev pub config_of : Document → Option Config
config_of d = result_ok (configuration d)

-- a configuration with this number
abbrev pub with_number : ℕ → Option Config → Option Content
with_number n config = option_map (λ c. record { config = c; number = n }) config

-- of the old format: a configuration, whose number is 0
abbrev pub old_content : Document → Option Content
old_content d = with_number 0 (config_of d)

-- the number among three members, one of which names the format
abbrev pub number_in : List (List ℕ × Document) → Option ℕ
number_in ms =
    if has_format_2 ms then option_and_then number_of (text_at sequence_member ms) else None

-- the configuration that a member is
abbrev pub config_at : List (List ℕ × Document) → Option Config
config_at ms = option_and_then config_of (find config_member ms)

-- of format 2: a map of exactly three members, `config` a configuration, `format` the text `2`, and
-- `sequence` a number in decimal
abbrev pub numbered_content : List (List ℕ × Document) → Option Content
numbered_content ms = option_and_then (λ n. with_number n (config_at ms)) (number_in ms)

-- of either format; nothing is of both
abbrev pub content_of : Document → Option Content
content_of d = option_or (old_content d) (numbered_content (members_in d))

-- ---- what bytes hold

-- what the bytes of a checkpoint's file hold, or none where they are of neither format
abbrev pub content : List ℕ → Option Content
content bytes = option_and_then content_of (result_ok (reading bytes))

-- the number of the checkpoint whose file has these bytes
abbrev pub number_held : List ℕ → Option ℕ
number_held bytes = option_map (λ c. c.number) (content bytes)

-- ---- what is written

-- the map of format 2
abbrev pub point_tree : Config → ℕ → Document
point_tree config number =
    object (members_of
    ((config_member, tree config) ∷ (format_member, text format_2)
    ∷ (sequence_member, text (decimal number)) ∷ []))

-- the text of a file of format 2: sorted, a line for each item and member, and a line feed
abbrev pub point_text : Config → ℕ → List ℕ
point_text config number = pretty_text (point_tree config number) ++ line_feed
