-- The names of the lines of a script.
use Rattle.std.proofs.Common.{◌≡◌, ℕ, suc, List, [], ◌∷◌, codes, length, Bool, true, false, not, ◌==◌, if◌then◌else◌, nat_le, Option, Some, None, Result, Ok, Err, IfOk, refl, subst}
use Rattle.std.specs.Str.{is_utf8}
use Rattle.checkpoints.specs.Names.{is_good_name}
use Rattle.gcu_words.specs.Words.{is_word}
use Rattle.host_core.specs.Answers.{Gives}
use Rattle.gcu_words.specs.ScriptFaults.{script_fault}
use Rattle.gcu_words.specs.Scripts.{AreNamed, before, line_at, line_of_three, line_of_two, line_of_words, lines_from, most_lines, name_of, pieces_of, script, words_of}
use Rattle.gcu_words.specs.declared.errors.ScriptError.{ScriptError}
use Rattle.gcu_words.specs.declared.script_lines.ScriptLine.{ScriptLine}
use Rattle.gcu_words.specs.declared.script_lines.ScriptLine.TheVariants.{Begin, Step, Retarget, End}

abbrev IsNamed : ScriptLine → Type 0
IsNamed line = is_good_name (name_of line) ≡ true

-- a line of that name is named so
is_named : (line l : ScriptLine) → Some line ≡ Some l → IsNamed line → IsNamed l
is_named line l e good = let same : line ≡ l = cc in subst IsNamed same good

two_named : (command name : List ℕ) (l : ScriptLine) → line_of_two command name ≡ Some l → IsNamed l
two_named command name l h = by (is_good_name name) (is_word command (codes "step")) (is_word command (codes "end")) refl h
  where
    by : (g a b : Bool) → is_good_name name ≡ g → (if not g then None else if a then Some (Step name) else if b then Some (End name) else None) ≡ Some l → IsNamed l
    by false a b e h = absurd cc
    by true true b e h = is_named (Step name) l h e
    by true false true e h = is_named (End name) l h e
    by true false false e h = absurd cc

three_named : (command name file : List ℕ) (l : ScriptLine) → line_of_three command name file ≡ Some l → IsNamed l
three_named command name file l h =
    by (is_good_name name) (length file == 0) (is_word command (codes "begin")) (is_word command (codes "retarget")) refl h
  where
    by : (g n a b : Bool) → is_good_name name ≡ g
        → (if not g then None else if n then None else if a then Some (Begin name file) else if b then Some (Retarget name file) else None) ≡ Some l → IsNamed l
    by false n a b e h = absurd cc
    by true true a b e h = absurd cc
    by true false true b e h = is_named (Begin name file) l h e
    by true false false true e h = is_named (Retarget name file) l h e
    by true false false false e h = absurd cc

words_named : (ws : List (List ℕ)) (l : ScriptLine) → line_of_words ws ≡ Some l → IsNamed l
words_named [] l h = absurd cc
words_named (a ∷ []) l h = absurd cc
words_named (a ∷ b ∷ []) l h = two_named a b l h
words_named (a ∷ b ∷ c ∷ []) l h = three_named a b c l h
words_named (a ∷ b ∷ c ∷ d ∷ ws) l h = absurd cc

line_named : (n : ℕ) (piece : List ℕ) (l : ScriptLine) → line_at n piece ≡ Some l → IsNamed l
line_named n piece l h = by (nat_le n most_lines) (is_utf8 piece) h
  where
    by : (a b : Bool) → (if a then (if b then line_of_words (words_of piece) else None) else None) ≡ Some l → IsNamed l
    by true true h = words_named (words_of piece) l h
    by true false h = absurd cc
    by false b h = absurd cc

all_named : (r : Result (List ScriptLine) ℕ) (some lines : List ScriptLine) → r ≡ Ok some → r ≡ Ok lines → AreNamed some → AreNamed lines
all_named r some lines a b good = let same : some ≡ lines = cc in subst AreNamed same good

-- each line that was read is
lines_named : (n : ℕ) (pieces : List (List ℕ)) (lines : List ScriptLine) → lines_from n pieces ≡ Ok lines → AreNamed lines
lines_named n [] lines h = all_named (Ok []) [] lines refl h tt
lines_named n (piece ∷ []) lines h = by (length piece == 0) h
  where
    by : (b : Bool) → (if b then Ok [] else Err n) ≡ Ok lines → AreNamed lines
    by true h = all_named (Ok []) [] lines refl h tt
    by false h = absurd cc
lines_named n (piece ∷ next ∷ more) lines h = by (line_at n piece) (lines_from (suc n) (next ∷ more)) (line_named n piece) (lines_named (suc n) (next ∷ more)) h
  where
    by : (o : Option ScriptLine) (r : Result (List ScriptLine) ℕ) → ((l : ScriptLine) → o ≡ Some l → IsNamed l)
        → ((ls : List ScriptLine) → r ≡ Ok ls → AreNamed ls) → before n o r ≡ Ok lines → AreNamed lines
    by None r one others h = absurd cc
    by (Some l) (Err e) one others h = absurd cc
    by (Some l) (Ok ls) one others h = all_named (Ok (l ∷ ls)) (l ∷ ls) lines refl h (one l refl, others ls refl)

-- so is each line of a script
pub script_named : (text : List ℕ) (lines : List ScriptLine) → script text ≡ Ok lines → AreNamed lines
script_named text lines is = lines_named 1 (pieces_of text) lines is

pub result_named : (text : List ℕ) (r : Result (List ScriptLine) ScriptError) → Gives (λ (lines : List ScriptLine). lines) script_fault r (script text) → IfOk r AreNamed
result_named text (Ok lines) is = script_named text lines is
result_named text (Err e) is = tt
