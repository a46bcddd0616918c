-- What a document holds, by whether it has a number.
use Rattle.std.proofs.Common.{◌≡◌, ℕ, List, [], ◌∷◌, Bool, true, false, cond, Option, Some, None, Result, Ok, Err, refl, ap, ◌∙◌, option_map}
use Rattle.std.proofs.lemmas.Bool.{and_parts}
use Rattle.std.specs.Option.{option_map_or, option_or}
use Rattle.std.specs.Prelude.{bytes_eq, length, option_and_then, ◌==◌}
use Rattle.std.specs.Result.{result_ok}
use Rattle.host_core.specs.Answers.{both}
use Rattle.conf_doc.specs.Document.{Document, text, list, object, Members, no_members, member, pairs}
use Rattle.conf_doc.specs.Pairs.{find}
use Rattle.conf_doc.specs.Reading.{Way, below, reading}
use Rattle.conf_doc.specs.Shaping.{configuration, named, parts, shape_checked, shaping, table_of}
use Rattle.conf_doc.specs.declared.configuration.Config.{Config}
use Rattle.conf_doc.specs.declared.configuration.Table.{Table}
use Rattle.conf_doc.specs.declared.errors.ReadError.{ReadError}
use Rattle.conf_doc.specs.declared.errors.ShapeError.{ShapeError}
use Rattle.checkpoints.specs.Formats.{config_at, config_of, content_of, format_2, format_member, has_format_2, members_in, number_in, text_at, text_in, with_number}
use Rattle.checkpoints.specs.Points.{held}
use Rattle.checkpoints.specs.declared.content.Content.{Content}
use Rattle.checkpoints.proofs.NamesOfFiles.{is_name}

-- ---- what has a number is no configuration

not_below : (k : List ℕ) (part : Result Table Way) (rest : Result (List (List ℕ × Table)) Way)
    → result_ok part ≡ None → result_ok (both (λ a more. (k, a) ∷ more) (below k (named k part)) rest) ≡ None
not_below [] part rest none = refl
not_below (b ∷ bs) (Ok t) rest none = absurd cc
not_below (b ∷ bs) (Err way) rest none = refl

not_behind : {A B C : Type 0} (f : A → B → C) (first : Result A Way) (rest : Result B Way) → result_ok rest ≡ None → result_ok (both f first rest) ≡ None
not_behind f (Ok a) (Ok b) none = absurd cc
not_behind f (Ok a) (Err way) none = refl
not_behind f (Err way) rest none = refl

no_table : (d : Document) (s : List ℕ) → Some d ≡ Some (text s) → result_ok (table_of d) ≡ None
no_table (text t) s e = refl
no_table (list ds) s e = refl
no_table (object ms) s e = absurd cc

-- a member that is a text is no table
not_tables : (name s : List ℕ) (ms : Members) → find name (pairs ms) ≡ Some (text s) → result_ok (parts table_of ms) ≡ None
not_tables name s no_members e = absurd cc
not_tables name s (member k d ms) e = by (not_tables name s ms) (is_name name k) e
  where
    by : (find name (pairs ms) ≡ Some (text s) → result_ok (parts table_of ms) ≡ None) → (b : Bool)
        → cond b (Some d) (find name (pairs ms)) ≡ Some (text s) → result_ok (parts table_of (member k d ms)) ≡ None
    by behind true here = not_below k (table_of d) (parts table_of ms) (no_table d s here)
    by behind false there = not_behind (λ a more. (k, a) ∷ more) (below k (named k (table_of d))) (parts table_of ms) (behind there)

format_text : (o : Option Document) → option_map_or (bytes_eq format_2) (option_and_then text_in o) false ≡ true → (s : List ℕ) × (o ≡ Some (text s))
format_text None h = absurd cc
format_text (Some (text s)) h = (s, refl)
format_text (Some (list ds)) h = absurd cc
format_text (Some (object ms)) h = absurd cc

is_there : (b : Bool) (o : Option ℕ) (n : ℕ) → cond b o None ≡ Some n → b ≡ true
is_there true o n e = refl
is_there false o n e = absurd cc

not_old : (ms : Members) (n : ℕ) → number_in (pairs ms) ≡ Some n → config_of (object ms) ≡ None
not_old ms n e =
    let has : has_format_2 (pairs ms) ≡ true = is_there (has_format_2 (pairs ms)) _ n e in
    let format = format_text (find format_member (pairs ms)) (and_parts (length (pairs ms) == 3) (option_map_or (bytes_eq format_2) (text_at format_member (pairs ms)) false) has).1 in
    not_tables format_member format.0 ms format.1

pub not_numbered : (d : Document) (n : ℕ) → number_in (members_in d) ≡ Some n → config_of d ≡ None
not_numbered (text s) n e = absurd cc
not_numbered (list ds) n e = absurd cc
not_numbered (object ms) n e = not_old ms n e

-- ---- by the number

-- what has a number is of format 2
pub numbered_is : (d : Document) (n : ℕ) → number_in (members_in d) ≡ Some n → content_of d ≡ with_number n (config_at (members_in d))
numbered_is (text s) n e = absurd cc
numbered_is (list ds) n e = absurd cc
numbered_is (object ms) n e =
    ap (λ c. option_or (with_number 0 c) (option_and_then (λ m. with_number m (config_at (pairs ms))) (number_in (pairs ms)))) (not_old ms n e)
    ∙ ap (option_and_then (λ m. with_number m (config_at (pairs ms)))) e

or_none : {A : Type 0} (o : Option A) → option_or o None ≡ o
or_none None = refl
or_none (Some a) = refl

-- any other is of the old format, or of none
pub old_is : (d : Document) → number_in (members_in d) ≡ None → content_of d ≡ with_number 0 (config_of d)
old_is d e =
    ap (λ m. option_or (with_number 0 (config_of d)) (option_and_then (λ n. with_number n (config_at (members_in d))) m)) e
    ∙ or_none (with_number 0 (config_of d))

-- ---- what bytes hold

shape_ok : (r : Result Config Way) (c : Config) → shape_checked r ≡ Ok c → result_ok r ≡ Some c
shape_ok (Ok b) c e = let same : b ≡ c = cc in ap (λ (x : Config). Some x) same
shape_ok (Err way) c e = absurd cc

pub shape_err : (r : Result Config Way) (e : ShapeError) → shape_checked r ≡ Err e → result_ok r ≡ None
shape_err (Ok b) e is = absurd cc
shape_err (Err way) e is = refl

-- a configuration's text holds it
pub held_read : (bytes : List ℕ) (d : Document) (c : Config) → reading bytes ≡ Ok d → shaping d ≡ Ok c → held bytes ≡ Some c
held_read bytes d c reads shapes =
    ap (λ (r : Result Document ReadError). option_map (λ (x : Content). x.config) (option_and_then content_of (result_ok r))) reads
    ∙ ap (λ (o : Option Config). option_map (λ (x : Content). x.config) (option_or (with_number 0 o) (option_and_then (λ n. with_number n (config_at (members_in d))) (number_in (members_in d)))))
    (shape_ok (configuration d) c shapes)
