-- What is told of a folder: what the file `intent` is, and how many step files are applied.
use Rattle.std.specs.Prelude.{ℕ, List, ◌++◌, codes, decimal}
use Rattle.gcu_output.specs.Lines.{line_feed}
use Rattle.gcu_output.specs.declared.statuses.Intent.{Intent}
use Rattle.gcu_output.specs.declared.statuses.Intent.TheVariants.{Absent, Whole, Broken}

-- what the file is, in a word
abbrev pub intent_word : Intent → List ℕ
intent_word Absent = codes "none"
intent_word Whole = codes "whole"
intent_word Broken = codes "broken"

-- the two lines before the last, of that word
abbrev pub status_lines : List ℕ → ℕ → List ℕ
status_lines word steps =
    codes "intent " ++ word ++ line_feed ++ codes "steps " ++ decimal steps ++ line_feed

-- the two lines before the last
abbrev pub status_text : Intent → ℕ → List ℕ
status_text intent steps = status_lines (intent_word intent) steps
