-- How the list of the files of models, the files and their texts are found one after the other.
use Rattle.std.proofs.Common.{ℕ, List, [], ◌∷◌, ◌++◌, Option, Some, None, Result, Ok, Err, IfErr, ◌≡◌, subst}
use Rattle.host_core.specs.Answers.{Gives}
use Rattle.host_core.specs.State.{State}
use Rattle.gcu_inputs.specs.ModelList.{paths_of}
use Rattle.gcu_output.specs.declared.outcomes.Outcome.{Outcome}
use Rattle.gcu_inputs.specs.ModelFiles.{File, Text, bytes_asked, files_asked, list_path, list_limit, model_limit, paths_asked, text_answer, texts_in, texts_asked}
use Rattle.gcu_inputs.specs.Preparing.{Finds, RefusesAlways, refusal}
use Rattle.gcu_inputs.proofs.Finding.{first_refused, then_found, found_always}

abbrev self : {X : Type 0} → X → X
self x = x

-- there is no list
pub no_list : (o : Option State) (path : List ℕ) (e : Outcome) → path ≡ list_path
    → Finds {X = List ℕ} o self (Err e) (bytes_asked path list_limit)
    → Finds {X = List (List ℕ)} o self (Err e) paths_asked
no_list None path e is h = tt
no_list (Some s) path e is h =
    first_refused self self e (bytes_asked list_path list_limit s) _
    (subst (λ p. Finds {X = List ℕ} (Some s) self (Err e) (bytes_asked p list_limit)) is h)

-- what the list gives
pub list_read : (o : Option State) (path bytes : List ℕ) (r : Result (List (List ℕ)) Outcome) → path ≡ list_path
    → Finds o self (Ok bytes) (bytes_asked path list_limit)
    → Gives self refusal r (text_answer path (paths_of bytes)) → IfErr r RefusesAlways
    → Finds o self r paths_asked
list_read None path bytes r is h gives always = tt
list_read (Some s) path bytes r is h gives always =
    then_found self self bytes r (bytes_asked list_path list_limit s) _
    (subst (λ p. Finds (Some s) self (Ok bytes) (bytes_asked p list_limit)) is h)
    (found_always self r (text_answer list_path (paths_of bytes)) _ (λ q same. same) (subst (λ p. Gives self refusal r (text_answer p (paths_of bytes))) is gives) always)

-- one file, and those at the other paths
pub file_read : (o : Option State) (found : List File) (path bytes : List ℕ) (paths : List (List ℕ)) (r : Result (List File) Outcome)
    → Finds o self (Ok bytes) (bytes_asked path model_limit)
    → Finds o self r (files_asked (found ++ (path, bytes) ∷ []) paths)
    → Finds o self r (files_asked found (path ∷ paths))
file_read None found path bytes paths r h rest = tt
file_read (Some s) found path bytes paths r h rest =
    then_found self self bytes r (bytes_asked path model_limit s) _ h rest

-- there are no files
pub no_files : (o : Option State) (paths : List (List ℕ)) (e : Outcome) → Finds o self (Ok paths) paths_asked
    → Finds {X = List File} o self (Err e) (files_asked [] paths) → Finds {X = List Text} o self (Err e) texts_asked
no_files None paths e h f = tt
no_files (Some s) paths e h f =
    then_found self self paths (Err e) (paths_asked s) _ h (first_refused self self e (files_asked [] paths s) _ f)

-- what the texts of the files give
pub texts_read : (o : Option State) (paths : List (List ℕ)) (files : List File) (r : Result (List Text) Outcome)
    → Finds o self (Ok paths) paths_asked
    → Finds o self (Ok files) (files_asked [] paths) → Gives self refusal r (texts_in [] files) → IfErr r RefusesAlways
    → Finds o self r texts_asked
texts_read None paths files r h f gives always = tt
texts_read (Some s) paths files r h f gives always =
    then_found self self paths r (paths_asked s) _ h
    (then_found self self files r (files_asked [] paths s) _ f (found_always self r (texts_in [] files) _ (λ q same. same) gives always))
