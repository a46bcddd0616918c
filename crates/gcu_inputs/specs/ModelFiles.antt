-- What a command asks of its host for the models: the list of their files, and then each file.
use Rattle.std.specs.Prelude.{◌≡◌, ℕ, List, [], ◌∷◌, ◌++◌, map, codes, length, All, ◌≤◌, ⊤, Some, slice_get, Result, Ok, Err}
use Rattle.host_core.specs.Answers.{◌>>=◌}
use Rattle.host_core.specs.Inputs.{input_of}
use Rattle.host_core.specs.State.{State}
use Rattle.host_core.specs.declared.host_calls.Input.{Input}
use Rattle.host_core.specs.declared.host_calls.Input.TheVariants.{Absent, TooBig as longer, Bytes}
use Rattle.gcu_inputs.specs.ModelList.{paths_of}
use Rattle.yang_text.specs.Declarations.{Declaration, total_weight}
use Rattle.yang_text.specs.Reading.{reading}
use Rattle.yang_text.specs.declared.faults.Fault.{Fault}
use Rattle.yang_scope.specs.declared.faults.Fault as models
use Rattle.yang_model.specs.Answers.{AreModelsOf, IsLeastFaultOf}
use Rattle.yang_model.specs.ModelSets.{ModelSet}
use Rattle.gcu_output.specs.declared.outcomes.Outcome.{Outcome}
use Rattle.gcu_output.specs.declared.outcomes.Outcome.TheVariants.{NoInput, TooBig, BadModels}
use Rattle.gcu_inputs.specs.Asking.{Asking, an_input, asks, follows, follows_by, ◌>>>◌}

-- ---- the bytes of an input

-- what was found at a path, of at most that many bytes
abbrev pub bytes_in : List ℕ → ℕ → Input → Result (List ℕ) Outcome
bytes_in path limit Absent = Err (NoInput path)
bytes_in path limit longer = Err (TooBig path limit)
bytes_in path limit (Bytes bytes) = Ok bytes

-- no more bytes than the limit
abbrev pub IsWithin : ℕ → Input → Type 0
IsWithin limit (Bytes bytes) = length bytes ≤ limit
IsWithin limit other = ⊤

-- the bytes of the input at a path
abbrev pub bytes_asked : List ℕ → ℕ → State → Asking (List ℕ)
bytes_asked path limit s = asks an_input (bytes_in path limit (input_of s path limit))

-- ---- the list of the files

-- where the list is found
abbrev pub list_path : List ℕ
list_path = codes "models.list"

-- how many bytes it may have
abbrev pub list_limit : ℕ
list_limit = 65536

-- a text that is at fault is refused
abbrev pub text_answer : {X : Type 0} → List ℕ → Result X Fault → Result X Outcome
text_answer path (Ok x) = Ok x
text_answer path (Err fault) = Err (BadModels path fault.line fault.why)

-- the paths in the list
abbrev pub paths_asked : State → Asking (List (List ℕ))
paths_asked s =
    bytes_asked list_path list_limit s >>> λ bytes.
    follows (text_answer list_path (paths_of bytes))

-- ---- the files

-- how many bytes a file of models may have
abbrev pub model_limit : ℕ
model_limit = 1048576

-- a path, and the bytes that were found there
abbrev pub File : Type 0
File = List ℕ × List ℕ

-- no file has more bytes than it may have
abbrev pub AreShort : List File → Type 0
AreShort files = All (λ f. length f.1 ≤ model_limit) files

-- the files at some paths in turn, behind those that were found before
abbrev pub files_asked : List File → List (List ℕ) → State → Asking (List File)
files_asked found [] s = follows (Ok found)
files_asked found (path ∷ paths) s =
    bytes_asked path model_limit s >>> λ bytes.
    files_asked (found ++ (path, bytes) ∷ []) paths s

-- ---- the texts

-- a path, and the statements of the text that was found there
abbrev pub Text : Type 0
Text = List ℕ × List Declaration

-- the texts of some files in turn, behind those that were read before: the first at fault is refused
abbrev pub texts_in : List Text → List File → Result (List Text) Outcome
texts_in read [] = Ok read
texts_in read (file ∷ files) =
    text_answer file.0 (reading file.1) >>= λ ds.
    texts_in (read ++ (file.0, ds) ∷ []) files

-- the texts of all files of the list; every file is read before a text is looked at
abbrev pub texts_asked : State → Asking (List Text)
texts_asked s =
    paths_asked s >>> λ paths.
    files_asked [] paths s >>> λ files.
    follows (texts_in [] files)

-- no text has more statements than a file of models may have bytes
abbrev pub AreSmall : List Text → Type 0
AreSmall texts = All (λ t. total_weight t.1 ≤ model_limit) texts

-- ---- the models

-- the statements of some texts
abbrev pub statements_of : List Text → List (List Declaration)
statements_of texts = map (λ t. t.1) texts

-- the fault of models, told with the path of its file
pub record IsModelRefusal (texts : List Text) (e : Outcome) : Type 0 where
  pub fault : models.Fault
  pub least : IsLeastFaultOf (statements_of texts) fault
  pub path : List ℕ
  pub at : slice_get (map (λ t. t.0) texts) fault.file ≡ Some path
  pub told : e ≡ BadModels path fault.line fault.why

-- the models of some texts, or the least of their faults
abbrev pub AreModels : List Text → Result ModelSet Outcome → Type 0
AreModels texts (Ok models) = AreModelsOf (statements_of texts) models
AreModels texts (Err e) = IsModelRefusal texts e

-- the models that the list of files names
abbrev pub models_asked : State → Asking ModelSet
models_asked s = texts_asked s >>> λ texts. follows_by (AreModels texts)
