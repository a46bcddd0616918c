-- What a text is read as.
use Rattle.std.specs.Prelude.{ℕ, ◌+◌, ◌==◌, List, [], ◌∷◌, ◌++◌, option_to_list, take, fold, count_by, Option, Some, None, Result, Ok, Err, if◌then◌else◌}
use Rattle.std.specs.Str.{is_utf8}
use Rattle.std.specs.Str.Lossy.{utf8_valid_len}
use Rattle.host_core.specs.Characters.{line_feed}
use Rattle.yang_text.specs.Building.{built}
use Rattle.yang_text.specs.Declarations.{Declaration}
use Rattle.yang_text.specs.Faults.{lower_of, faults_from}
use Rattle.yang_text.specs.Lexing.{tokens}
use Rattle.yang_text.specs.declared.errors.ModelWhy.TheVariants.{NotUtf8}
use Rattle.yang_text.specs.declared.faults.Fault.{Fault}
use Rattle.yang_text.specs.declared.faults.Phase.TheVariants.{Due}

-- lines are counted from 1 by line feeds
abbrev pub line_at : List ℕ → ℕ → ℕ
line_at text at = count_by (λ b. b == line_feed) (take at text) + 1

-- the first byte that is part of no character
abbrev pub utf8_fault : List ℕ → Option Fault
utf8_fault text =
    if is_utf8 text then None
    else Some (record { line = line_at text (utf8_valid_len text); why = NotUtf8 })

-- of all faults but one at the end of the text, the one of the lowest line and of those the first by name
abbrev pub least_before_end : List ℕ → Option Fault
least_before_end text = fold lower_of (utf8_fault text) (faults_from text Due 0 (tokens text))

-- by the least fault before the end
abbrev pub reading_by : Option Fault → List ℕ → Result (List Declaration) Fault
reading_by None text = built text (tokens text)
reading_by (Some fault) text = Err fault

-- the statements of a text, or its fault: one at the end of the text comes only where there is no other
abbrev pub reading : List ℕ → Result (List Declaration) Fault
reading text = reading_by (least_before_end text) text

-- the fault at the end of a text
abbrev pub end_fault : Result (List Declaration) Fault → List Fault
end_fault (Ok ds) = []
end_fault (Err f) = f ∷ []

-- faults, or else that at the end
abbrev pub or_at_end : List Fault → List Fault → List Fault
or_at_end [] end = end
or_at_end (f ∷ fs) end = f ∷ fs

-- all faults of a text: one at its end comes only where there is no other
abbrev pub faults : List ℕ → List Fault
faults text =
    or_at_end (option_to_list (utf8_fault text) ++ faults_from text Due 0 (tokens text))
    (end_fault (built text (tokens text)))
