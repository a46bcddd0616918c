-- Characters of ASCII, each by its code (RFC 20), and the base of decimal numbers.
use Rattle.std.specs.Prelude.{ℕ}

-- a tab
abbrev pub tab : ℕ
tab = 9

-- a line feed
abbrev pub line_feed : ℕ
line_feed = 10

-- a carriage return
abbrev pub carriage_return : ℕ
carriage_return = 13

-- a space
abbrev pub space : ℕ
space = 32

-- `!`
abbrev pub exclamation_mark : ℕ
exclamation_mark = 33

-- `"`
abbrev pub double_quote : ℕ
double_quote = 34

-- `'`
abbrev pub single_quote : ℕ
single_quote = 39

-- `(`
abbrev pub open_parenthesis : ℕ
open_parenthesis = 40

-- `)`
abbrev pub close_parenthesis : ℕ
close_parenthesis = 41

-- `*`
abbrev pub star : ℕ
star = 42

-- `+`
abbrev pub plus : ℕ
plus = 43

-- `,`
abbrev pub comma : ℕ
comma = 44

-- `-`
abbrev pub hyphen : ℕ
hyphen = 45

-- `.`
abbrev pub full_stop : ℕ
full_stop = 46

-- `/`
abbrev pub slash : ℕ
slash = 47

-- `0`
abbrev pub digit_zero : ℕ
digit_zero = 48

-- `1`
abbrev pub digit_one : ℕ
digit_one = 49

-- `7`
abbrev pub digit_seven : ℕ
digit_seven = 55

-- `9`
abbrev pub digit_nine : ℕ
digit_nine = 57

-- `:`
abbrev pub colon : ℕ
colon = 58

-- `;`
abbrev pub semicolon : ℕ
semicolon = 59

-- `<`
abbrev pub less_than : ℕ
less_than = 60

-- `=`
abbrev pub equals : ℕ
equals = 61

-- `>`
abbrev pub more_than : ℕ
more_than = 62

-- `?`
abbrev pub question_mark : ℕ
question_mark = 63

-- `A`
abbrev pub capital_a : ℕ
capital_a = 65

-- `Z`
abbrev pub capital_z : ℕ
capital_z = 90

-- `[`
abbrev pub open_bracket : ℕ
open_bracket = 91

-- `\`
abbrev pub backslash : ℕ
backslash = 92

-- `]`
abbrev pub close_bracket : ℕ
close_bracket = 93

-- `^`
abbrev pub circumflex : ℕ
circumflex = 94

-- `_`
abbrev pub underscore : ℕ
underscore = 95

-- `a`
abbrev pub letter_a : ℕ
letter_a = 97

-- `n`
abbrev pub letter_n : ℕ
letter_n = 110

-- `r`
abbrev pub letter_r : ℕ
letter_r = 114

-- `t`
abbrev pub letter_t : ℕ
letter_t = 116

-- `z`
abbrev pub letter_z : ℕ
letter_z = 122

-- `{`
abbrev pub open_brace : ℕ
open_brace = 123

-- `|`
abbrev pub bar : ℕ
bar = 124

-- `}`
abbrev pub close_brace : ℕ
close_brace = 125

-- `~`
abbrev pub tilde : ℕ
tilde = 126

-- of decimal digits
abbrev pub decimal_base : ℕ
decimal_base = 10
