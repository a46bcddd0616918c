-- What is asked holds in the inputs: the models, the settings, and what the target makes of the stored configuration.
use Rattle.std.proofs.Common.{◌≡◌, inl, inr, ℕ, List, [], ◌∷◌, ◌++◌, length, append_assoc, append-nil, nat_lt, Bool, true, false, if◌then◌else◌, refl, sym, ap, ◌∙◌, subst, Option, Some, None, Result, Ok, Err}
use Rattle.std.specs.Prelude.{⊤}
use Rattle.std.specs.FinMap.{get}
use Rattle.host_core.specs.Answers.{◌>>=◌}
use Rattle.host_core.specs.Inputs.{within}
use Rattle.host_core.specs.State.{State}
use Rattle.host_core.specs.declared.host_calls.Input.TheVariants.{TooBig as longer, Bytes}
use Rattle.serde_json.specs.Data.{Data}
use Rattle.conf_doc.specs.Configuration.{tree}
use Rattle.conf_doc.specs.Document.{Document}
use Rattle.conf_doc.specs.Reading as documents
use Rattle.conf_doc.specs.Reading.{Way, document_of, json, json_checked, kind_checked}
use Rattle.conf_doc.specs.Shaping.{configuration, shape_checked, shaping}
use Rattle.conf_doc.specs.Texts.{value}
use Rattle.conf_doc.specs.declared.configuration.Config.{Config}
use Rattle.conf_doc.specs.declared.errors.ReadError.{ReadError}
use Rattle.conf_doc.specs.declared.errors.ReadError.TheVariants as read
use Rattle.conf_doc.specs.declared.errors.ShapeError.{ShapeError}
use Rattle.conf_doc.specs.declared.errors.ShapeError.TheVariants as shape
use Rattle.conf_store.specs.Files.{intent_file}
use Rattle.conf_store.specs.Stored.{config_in}
use Rattle.conf_store.specs.declared.errors.StoredWhy.{StoredWhy}
use Rattle.patch_core.specs.Apply.{apply}
use Rattle.patch_core.specs.Operation.{Operation}
use Rattle.patch_core.specs.Reading.{patch}
use Rattle.patch_core.specs.declared.errors.ApplyError.{ApplyError}
use Rattle.patch_core.specs.declared.errors.ApplyError.TheVariants as failed
use Rattle.patch_core.specs.declared.errors.PatchError.{PatchError}
use Rattle.gcu_inputs.specs.ModelList.{paths_of}
use Rattle.yang_text.specs.Reading.{reading}
use Rattle.yang_text.specs.declared.faults.Fault.{Fault}
use Rattle.yang_text.proofs.Theorems.{read_spells}
use Rattle.yang_model.specs.ModelSets.{ModelSet}
use Rattle.checkpoints.specs.Points.{Held, points}
use Rattle.move_core.specs.RulesFile.{rules}
use Rattle.move_core.specs.declared.contexts.Ctx.{Ctx}
use Rattle.move_core.specs.declared.errors.RulesError.{RulesError}
use Rattle.move_core.specs.declared.errors.RulesError.TheVariants as wrong
use Rattle.move_core.specs.declared.settings.Settings.{Settings}
use Rattle.gcu_words.specs.Targets.{Target, patched, replaced, resumed, rolled_back}
use Rattle.gcu_output.specs.declared.outcomes.Outcome.{Outcome}
use Rattle.gcu_inputs.specs.IntentAsked.{held_answer as intent_held, intended_asked}
use Rattle.gcu_inputs.specs.ModelFiles.{File, Text, bytes_asked, bytes_in, files_asked, list_limit, list_path, model_limit, models_asked, paths_asked, statements_of, text_answer, texts_in}
use Rattle.gcu_inputs.specs.PatchAsked.{patch_answer, patch_asked, patch_in, patch_limit, target, target_shape}
use Rattle.gcu_inputs.specs.PatchAsked as patches
use Rattle.gcu_inputs.specs.RulesAsked.{ctx_asked, rules_answer, rules_limit, rules_path, settings_asked}
use Rattle.gcu_requests.specs.FileAsked.{config_answer, document_answer, file_asked, file_limit}
use Rattle.gcu_requests.specs.PlanAsked.{made_asked}
use Rattle.gcu_requests.specs.PointAsked.{held_answer}
use Rattle.gcu_engine.specs.Contents.{HoldFiles, Holds, HoldsJson, IsMade}
use Rattle.gcu_engine.specs.Folder.{HoldsConfig, HoldsPatch}
use Rattle.gcu_engine.specs.RulesValues.{IsSettings}
use Rattle.gcu_engine.proofs.Folders.{holds_config}
use Rattle.gcu_engine.proofs.PatchResults.{patched_within}
use Rattle.gcu_engine.proofs.PatchTexts.{operations_are_held, value_there}
use Rattle.gcu_engine.proofs.RulesValues.{rules_said}
use Rattle.gcu_engine.proofs.WrittenModels.{AreStoredIn, IsReadIn}

-- ---- bytes

found_short : (short : Bool) (path : List ℕ) (limit : ℕ) (found bytes : List ℕ)
    → bytes_in path limit (if short then longer else Bytes found) ≡ Ok bytes → found ≡ bytes
found_short true path limit found bytes e = absurd cc
found_short false path limit found bytes e = let same : found ≡ bytes = cc in same

found_within : (o : Option (List ℕ)) (path : List ℕ) (limit : ℕ) (bytes : List ℕ)
    → bytes_in path limit (within limit o) ≡ Ok bytes → o ≡ Some bytes
found_within None path limit bytes e = absurd cc
found_within (Some found) path limit bytes e =
    ap (λ (b : List ℕ). Some b) (found_short (nat_lt limit (length found)) path limit found bytes e)

-- the bytes that are asked for are those of the input
bytes_found : (path : List ℕ) (limit : ℕ) (s : State) (bytes : List ℕ) → (bytes_asked path limit s).Gives (Ok bytes)
    → get s.inputs path ≡ Some bytes
bytes_found path limit s bytes e = found_within (get s.inputs path) path limit bytes e

-- ---- models

read_text : {X : Type 0} (path : List ℕ) (r : Result X Fault) (x : X) → text_answer path r ≡ Ok x → r ≡ Ok x
read_text path (Ok y) x e = let same : y ≡ x = cc in ap (λ z. Ok z) same
read_text path (Err fault) x e = absurd cc

listed_are : (s : State) (paths : List (List ℕ)) → (paths_asked s).Gives (Ok paths) → Holds s list_path paths_of paths
listed_are s paths (inl never) = absurd never
listed_are s paths (inr (bytes, found, e)) =
    (bytes, bytes_found list_path list_limit s bytes found, read_text list_path (paths_of bytes) paths e)

-- the files at some paths have these bytes
abbrev AreFilesAt : State → List (List ℕ) → List File → Type 0
AreFilesAt s [] [] = ⊤
AreFilesAt s (path ∷ paths) (file ∷ files) = (get s.inputs path ≡ Some file.1) × AreFilesAt s paths files
AreFilesAt s paths files = ⊥

files_are : (found : List File) (paths : List (List ℕ)) (s : State) (files : List File)
    → (files_asked found paths s).Gives (Ok files)
    → (more : List File) × (files ≡ found ++ more) × AreFilesAt s paths more
files_are found [] s files e = let same : found ≡ files = cc in ([], sym same ∙ sym (append-nil found), tt)
files_are found (path ∷ paths) s files (inl never) = absurd never
files_are found (path ∷ paths) s files (inr (bytes, at, rest)) =
    let (more, e, are) = files_are (found ++ (path, bytes) ∷ []) paths s files rest in (
      (path, bytes) ∷ more,
      e ∙ append_assoc found ((path, bytes) ∷ []) more,
      (bytes_found path model_limit s bytes at, are),
    )

-- the bytes of some files are read as the statements of some texts
abbrev AreReadAs : List File → List Text → Type 0
AreReadAs [] [] = ⊤
AreReadAs (file ∷ files) (text ∷ texts) = (reading file.1 ≡ Ok text.1) × AreReadAs files texts
AreReadAs files texts = ⊥

read_next : {X Y : Type 0} (path : List ℕ) (r : Result X Fault) (next : X → Result Y Outcome) (y : Y)
    → (text_answer path r >>= next) ≡ Ok y
    → (x : X) × (r ≡ Ok x) × (next x ≡ Ok y)
read_next path (Ok x) next y e = (x, refl, e)
read_next path (Err fault) next y e = absurd cc

texts_are : (before : List Text) (files : List File) (texts : List Text) → texts_in before files ≡ Ok texts
    → (more : List Text) × (texts ≡ before ++ more) × AreReadAs files more
texts_are before [] texts e = let same : before ≡ texts = cc in ([], sym same ∙ sym (append-nil before), tt)
texts_are before (file ∷ files) texts e =
    let (ds, is, rest) = read_next file.0 (reading file.1) (λ ds. texts_in (before ++ (file.0, ds) ∷ []) files) texts e
    in
    let (more, same, are) = texts_are (before ++ (file.0, ds) ∷ []) files texts rest in
    ((file.0, ds) ∷ more, same ∙ append_assoc before ((file.0, ds) ∷ []) more, (is, are))

hold_files : (s : State) (paths : List (List ℕ)) (files : List File) (texts : List Text) → AreFilesAt s paths files
    → AreReadAs files texts → HoldFiles s paths (statements_of texts)
hold_files s [] [] [] at are = tt
hold_files s (path ∷ paths) (file ∷ files) (text ∷ texts) (here, at) (is, are) =
    ((file.1, here, read_spells file.1 text.1 is), hold_files s paths files texts at are)
hold_files s [] (file ∷ files) texts at are = absurd at
hold_files s (path ∷ paths) [] texts at are = absurd at
hold_files s [] [] (text ∷ texts) at are = absurd are
hold_files s (path ∷ paths) (file ∷ files) [] at are = absurd are

-- the models that are asked for are those of the files
models_in : (s : State) (models : ModelSet) → (models_asked s).Gives (Ok models) → AreStoredIn s models
models_in s models (inl never) = absurd never
models_in s models (inr (texts, inl never, are)) = absurd never
models_in s models (inr (texts, inr (paths, listed, inl never), are)) = absurd never
models_in s models (inr (texts, inr (paths, listed, inr (files, found, read)), are)) =
    let (at, same, there) = files_are [] paths s files found in
    let (those, equal, alike) = texts_are [] files texts read in
    record {
      paths = paths;
      listed = listed_are s paths listed;
      files = statements_of texts;
      hold = subst (λ ts. HoldFiles s paths (statements_of ts)) (sym equal)
          (hold_files s paths files those (subst (AreFilesAt s paths) (sym same) there) alike);
      are = λ readers true. (are readers true).1;
    }

-- ---- settings

read_rules : (path : List ℕ) (r : Result Settings RulesError) (settings : Settings) → rules_answer path r ≡ Ok settings
    → r ≡ Ok settings
read_rules path (Ok x) settings e = let same : x ≡ settings = cc in ap (λ (y : Settings). Ok y) same
read_rules path (Err wrong.BadJson) settings e = absurd cc
read_rules path (Err (wrong.Bad why)) settings e = absurd cc
read_rules path (Err wrong.Memory) settings e = absurd cc

settings_in : (s : State) (settings : Settings) → (settings_asked s).Gives (Ok settings)
    → (d : Data) × HoldsJson s rules_path d × IsSettings d settings
settings_in s settings (inl never) = absurd never
settings_in s settings (inr (bytes, found, e)) =
    let (d, is, says) = rules_said bytes settings (read_rules rules_path (rules bytes) settings e) in
    (d, (bytes, bytes_found rules_path rules_limit s bytes found, is), says)

context_from : (s : State) (made ctx : Ctx) (r : Result Ctx Outcome) → r ≡ Ok made → r ≡ Ok ctx → made ≡ ctx
context_from s made ctx r a b = let same : made ≡ ctx = cc in same

-- what moves are judged by is in the inputs
pub context_in : (s : State) (ctx : Ctx) → (ctx_asked s).Gives (Ok ctx) → IsReadIn s ctx
context_in s ctx (inl never) = absurd never
context_in s ctx (inr (models, read, inl never)) = absurd never
context_in s ctx (inr (models, read, inr (settings, found, e))) =
    subst (IsReadIn s) (context_from s (record { models = models; settings = settings }) ctx _ refl e)
    (record { models = models_in s models read; settings = settings_in s settings found })

-- ---- the target

shaped : (r : Result Config ShapeError) (goal : Config) → target_shape r ≡ Ok goal → r ≡ Ok goal
shaped (Ok c) goal e = let same : c ≡ goal = cc in ap (λ (x : Config). Ok x) same
shaped (Err (shape.Shape place)) goal e = absurd cc
shaped (Err shape.Memory) goal e = absurd cc

-- a document that is shaped as a configuration is one
configuration_of : (r : Result Config Way) (goal : Config) → shape_checked r ≡ Ok goal → r ≡ Ok goal
configuration_of (Ok c) goal e = let same : c ≡ goal = cc in ap (λ (x : Config). Ok x) same
configuration_of (Err way) goal e = absurd cc

applied : (r : Result Document ApplyError) (goal : Config) → patches.target_in r ≡ Ok goal
    → (d : Document) × (r ≡ Ok d) × (shaping d ≡ Ok goal)
applied (Ok d) goal e = (d, refl, shaped (shaping d) goal e)
applied (Err (failed.Failed index why)) goal e = absurd cc
applied (Err failed.Memory) goal e = absurd cc

read_patch : (path : List ℕ) (r : Result (List Operation) PatchError) (ops : List Operation)
    → patch_answer path r ≡ Ok ops → r ≡ Ok ops
read_patch path (Ok x) ops e = let same : x ≡ ops = cc in ap (λ (y : List Operation). Ok y) same
read_patch path (Err fault) ops e = absurd cc

patch_short : (short : Bool) (path found : List ℕ) (ops : List Operation)
    → patch_in path (if short then longer else Bytes found) ≡ Ok ops → patch found ≡ Ok ops
patch_short true path found ops e = absurd cc
patch_short false path found ops e = read_patch path (patch found) ops e

patch_found : (o : Option (List ℕ)) (path : List ℕ) (ops : List Operation)
    → patch_in path (within patch_limit o) ≡ Ok ops → (bytes : List ℕ) × (o ≡ Some bytes) × (patch bytes ≡ Ok ops)
patch_found None path ops e = absurd cc
patch_found (Some found) path ops e = (found, refl, patch_short (nat_lt patch_limit (length found)) path found ops e)

config_shaped : (path : List ℕ) (r : Result Config ShapeError) (goal : Config) → config_answer path r ≡ Ok goal
    → r ≡ Ok goal
config_shaped path (Ok c) goal e = let same : c ≡ goal = cc in ap (λ (x : Config). Ok x) same
config_shaped path (Err (shape.Shape place)) goal e = absurd cc
config_shaped path (Err shape.Memory) goal e = absurd cc

document_read : (path : List ℕ) (r : Result Document ReadError) (goal : Config)
    → (document_answer path r >>= λ d. config_answer path (shaping d)) ≡ Ok goal
    → (d : Document) × (r ≡ Ok d) × (shaping d ≡ Ok goal)
document_read path (Ok d) goal e = (d, refl, config_shaped path (shaping d) goal e)
document_read path (Err read.BadJson) goal e = absurd cc
document_read path (Err (read.BadKind place)) goal e = absurd cc
document_read path (Err read.Memory) goal e = absurd cc

-- bytes that are read as a document are a JSON text of it
kind_told : (r : Result Document Way) (d : Document) → kind_checked r ≡ Ok d → r ≡ Ok d
kind_told (Ok x) d e = let same : x ≡ d = cc in ap (λ (y : Document). Ok y) same
kind_told (Err way) d e = absurd cc

json_told : (o : Option Data) (d : Document) → json_checked o ≡ Ok d → o ≡ Some (value d)
json_told None d e = absurd cc
json_told (Some x) d e = ap (λ (y : Data). Some y) (value_there x d (kind_told (document_of x) d e))

file_in : (path : List ℕ) (s : State) (goal : Config) → (file_asked path s).Gives (Ok goal)
    → HoldsConfig s.inputs path goal
file_in path s goal (inl never) = absurd never
file_in path s goal (inr (bytes, found, e)) =
    let (d, is, shapes) = document_read path (documents.reading bytes) goal e in (
      bytes,
      d,
      bytes_found path file_limit s bytes found,
      json_told (json bytes) d is,
      configuration_of (configuration d) goal shapes,
    )

point_held : (name : List ℕ) (o : Option Held) (goal : Config) → held_answer name o ≡ Ok goal → o ≡ Some (Some goal)
point_held name None goal e = absurd cc
point_held name (Some None) goal e = absurd cc
point_held name (Some (Some c)) goal e = let same : c ≡ goal = cc in ap (λ (x : Config). Some (Some x)) same

config_held : (r : Result Config StoredWhy) (goal : Config) → intent_held r ≡ Ok goal → r ≡ Ok goal
config_held (Ok c) goal e = let same : c ≡ goal = cc in ap (λ (x : Config). Ok x) same
config_held (Err why) goal e = absurd cc

intent_in : (s : State) (goal : Config) → (intended_asked s).Gives (Ok goal) → HoldsConfig s.files intent_file goal
intent_in s goal (inl never) = absurd never
intent_in s goal (inr (None, is, e)) = absurd cc
intent_in s goal (inr (Some bytes, is, e)) =
    let there : get s.files intent_file ≡ Some bytes = cc in
    holds_config s.files intent_file bytes goal there (config_held (config_in bytes) goal e)

-- a patch that is asked for makes of a configuration what is the target then
pub patch_makes : (path : List ℕ) (start : Config) (s : State) (goal : Config) (ops : List Operation)
    → (patch_asked path s).Gives (Ok ops) → target ops start ≡ Ok goal
    → HoldsPatch s.inputs path start goal
patch_makes path start s goal ops found e =
    let (bytes, at, reads) = patch_found (get s.inputs path) path ops found in
    let (d, is, shapes) = applied (apply ops (tree start)) goal e in (
      bytes,
      ops,
      d,
      at,
      (operations_are_held bytes ops).1 reads,
      patched_within ops (tree start) d is,
      configuration_of (configuration d) goal shapes,
    )

-- the goal is what the target makes of the start
pub target_made : (from : Target) (start : Config) (s : State) (goal : Config)
    → (made_asked from start s).Gives (Ok goal) → IsMade from s start goal
target_made (patched path) start s goal (inl never) = absurd never
target_made (patched path) start s goal (inr (ops, found, e)) = patch_makes path start s goal ops found e
target_made (replaced path) start s goal h = file_in path s goal h
target_made (rolled_back name) start s goal e = point_held name (get (points s.files) name) goal e
target_made resumed start s goal h = intent_in s goal h
