-- The script of several operators: what one of them asks on each line.
use Rattle.std.specs.Prelude.{◌≡◌, ⊤, true, ℕ, suc, List, [], ◌∷◌, codes, length, Bool, not, ◌==◌, nat_le, if◌then◌else◌, Option, Some, None, Result, Ok, Err}
use Rattle.std.specs.List.{slice_split}
use Rattle.std.specs.Str.{is_utf8}
use Rattle.host_core.specs.Answers.{map_ok}
use Rattle.host_core.specs.Characters.{line_feed, space}
use Rattle.checkpoints.specs.Names.{is_good_name}
use Rattle.gcu_words.specs.Words.{is_word}
use Rattle.gcu_words.specs.declared.script_lines.ScriptLine.{ScriptLine}
use Rattle.gcu_words.specs.declared.script_lines.ScriptLine.TheVariants.{Begin, Step, Retarget, End}

-- ---- a line

-- what stands between the spaces of a text
abbrev pub words_of : List ℕ → List (List ℕ)
words_of text = slice_split (λ b. b == space) text

-- `step NAME` or `end NAME`, by names as those of checkpoints
abbrev pub line_of_two : (command name : List ℕ) → Option ScriptLine
line_of_two command name =
    if not (is_good_name name) then None
    else if is_word command (codes "step") then Some (Step name)
    else if is_word command (codes "end") then Some (End name)
    else None

-- `begin NAME FILE` or `retarget NAME FILE`, where the file has a name
abbrev pub line_of_three : (command name file : List ℕ) → Option ScriptLine
line_of_three command name file =
    if not (is_good_name name) then None
    else if length file == 0 then None
    else if is_word command (codes "begin") then Some (Begin name file)
    else if is_word command (codes "retarget") then Some (Retarget name file)
    else None

-- the line that words are
abbrev pub line_of_words : List (List ℕ) → Option ScriptLine
line_of_words (command ∷ name ∷ []) = line_of_two command name
line_of_words (command ∷ name ∷ file ∷ []) = line_of_three command name file
line_of_words other = None

-- the line that a text without a line feed is, with single spaces
abbrev pub line_of : List ℕ → Option ScriptLine
line_of text = if is_utf8 text then line_of_words (words_of text) else None

-- ---- all lines

-- how many lines a script may have
abbrev pub most_lines : ℕ
most_lines = 256

-- it ends a line
abbrev pub is_feed : ℕ → Bool
is_feed b = b == line_feed

-- what stands before each line feed, and behind the last one
abbrev pub pieces_of : List ℕ → List (List ℕ)
pieces_of text = slice_split is_feed text

-- a line that may stand there, where it isn't one too many
abbrev pub line_at : ℕ → List ℕ → Option ScriptLine
line_at number piece = if nat_le number most_lines then line_of piece else None

-- a line before others, or its number
abbrev pub before : ℕ → Option ScriptLine → Result (List ScriptLine) ℕ → Result (List ScriptLine) ℕ
before number None others = Err number
before number (Some line) others = map_ok (λ lines. line ∷ lines) others

-- behind the last line feed nothing stands
abbrev pub last_of : ℕ → List ℕ → Result (List ScriptLine) ℕ
last_of number piece = if length piece == 0 then Ok [] else Err number

-- the lines of some pieces, which are counted on from a number: each but the last one is a line
abbrev pub lines_from : ℕ → List (List ℕ) → Result (List ScriptLine) ℕ
lines_from number [] = Ok []
lines_from number (piece ∷ []) = last_of number piece
lines_from number (piece ∷ next ∷ more) =
    before number (line_at number piece) (lines_from (suc number) (next ∷ more))

-- the lines of a script, or the number of the first one that has no form, no line feed, or is one too many
abbrev pub script : List ℕ → Result (List ScriptLine) ℕ
script text = lines_from 1 (pieces_of text)

-- ---- names

-- the session that a line is for
abbrev pub name_of : ScriptLine → List ℕ
name_of (Begin name file) = name
name_of (Step name) = name
name_of (Retarget name file) = name
name_of (End name) = name

-- each line is for a session of a good name
abbrev pub AreNamed : List ScriptLine → Type 0
AreNamed [] = ⊤
AreNamed (line ∷ lines) = (is_good_name (name_of line) ≡ true) × AreNamed lines
