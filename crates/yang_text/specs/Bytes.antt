-- Bytes of a YANG text (RFC 7950, section 6.1.3 and 6.2), in this profile.
use Rattle.std.specs.Prelude.{ℕ, ◌==◌, ◌||◌, ◌&&◌, not, Bool, false, List, [], ◌∷◌, nat_le, if◌then◌else◌}
use Rattle.std.specs.List.{list_all}
use Rattle.host_core.specs.Characters.{backslash, capital_a, capital_z, carriage_return, close_brace, colon, digit_nine, digit_zero, double_quote, full_stop, hyphen, letter_a, letter_n, letter_t, letter_z, line_feed, open_brace, semicolon, single_quote, slash, space, star, tab, underscore}

-- space, tab, carriage return, line feed
abbrev pub is_blank : ℕ → Bool
is_blank b = b == space || b == tab || b == carriage_return || b == line_feed

-- what an unquoted text may hold
abbrev pub is_word_byte : ℕ → Bool
is_word_byte b = not (is_blank b || b == double_quote || b == single_quote || b == semicolon
    || b == open_brace || b == close_brace)

-- two bytes: `//`, `/*` or `*/`
abbrev pub is_comment_sign : ℕ → ℕ → Bool
is_comment_sign b next =
    (b == slash && (next == slash || next == star)) || (b == star && next == slash)

-- the two bytes after a byte of an unquoted text end that text
abbrev pub ends_word : ℕ → ℕ → Bool
ends_word next later = not (is_word_byte next) || is_comment_sign next later

-- behind a backslash: `n`, `t`, a double quote or a backslash
abbrev pub is_escapable : ℕ → Bool
is_escapable b = b == letter_n || b == letter_t || b == double_quote || b == backslash

-- what an escape stands for
abbrev pub escape_meaning : ℕ → ℕ
escape_meaning b =
    if b == letter_n then line_feed
    else (if b == letter_t then tab
    else b)

-- from the first to the last
abbrev pub is_between : ℕ → ℕ → ℕ → Bool
is_between first last b = nat_le first b && nat_le b last

-- what begins an identifier: a letter of ASCII or an underscore
abbrev pub is_letter : ℕ → Bool
is_letter b = is_between capital_a capital_z b || is_between letter_a letter_z b || b == underscore

-- of an identifier behind its first byte, or a colon
abbrev pub is_name_byte : ℕ → Bool
is_name_byte b =
    is_letter b || is_between digit_zero digit_nine b || b == hyphen || b == full_stop || b == colon

-- an identifier, or one with colons, which is the keyword of an extension
abbrev pub is_keyword : List ℕ → Bool
is_keyword [] = false
is_keyword (b ∷ bs) = is_letter b && list_all is_name_byte bs
