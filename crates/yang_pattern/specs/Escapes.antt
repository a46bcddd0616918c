-- What escapes stand for.
use Rattle.std.specs.Prelude.{ℕ, ◌==◌, ◌||◌, Bool, Option, Some, None, if◌then◌else◌}
use Rattle.host_core.specs.Characters.{backslash, bar, carriage_return, circumflex, close_brace, close_bracket, close_parenthesis, full_stop, hyphen, letter_n, letter_r, letter_t, line_feed, open_brace, open_bracket, open_parenthesis, plus, question_mark, star, tab}

-- `. \ ? * + { } ( ) [ ] | - ^`
abbrev pub is_escapable : ℕ → Bool
is_escapable c =
    c == full_stop || c == backslash || c == question_mark || c == star || c == plus
    || c == open_brace || c == close_brace || c == open_parenthesis || c == close_parenthesis
    || c == open_bracket || c == close_bracket || c == bar || c == hyphen || c == circumflex

-- what an escape stands for: `\n`, `\r`, `\t`, or the character itself
abbrev pub escaped_character : ℕ → Option ℕ
escaped_character c =
    if c == letter_n then Some line_feed
    else if c == letter_r then Some carriage_return
    else if c == letter_t then Some tab
    else if is_escapable c then Some c
    else None
