-- The stored configuration as documents, one after each step.
use Rattle.std.specs.Prelude.{ℕ, zero, suc, ◌+◌, List, Bool, Option, Some, None, is_some, Result, Ok}
use Rattle.std.specs.FinMap.{get}
use Rattle.host_core.specs.Answers.{◌>>=◌}
use Rattle.host_core.specs.State.{Files}
use Rattle.conf_doc.specs.Document.{Document}
use Rattle.conf_doc.specs.Reading.{document_of, json}
use Rattle.conf_doc.specs.Shaping.{configuration}
use Rattle.conf_doc.specs.Trees.{document}
use Rattle.conf_doc.specs.declared.trees.Tree.{Tree}
use Rattle.patch_core.specs.Apply.{apply_plain}
use Rattle.patch_core.specs.Operation.{Operation}
use Rattle.patch_core.specs.Reading.{patch}
use Rattle.conf_store.specs.Files.{config_file, folded_file, last_step, step_name}
use Rattle.conf_store.specs.Stored.{or_none, or_why}
use Rattle.conf_store.specs.declared.errors.StoredWhy.{StoredWhy}
use Rattle.conf_store.specs.declared.errors.StoredWhy.TheVariants.{NoFile, BadJson, BadKind, BadShape, BadStep}

-- the document, where it is a configuration
abbrev pub shaped : StoredWhy → Document → Result Document StoredWhy
shaped why d = or_why why (configuration d) >>= λ _. Ok d

-- the document that the bytes of a file hold
abbrev pub document_in : List ℕ → Result Document StoredWhy
document_in bytes = or_none BadJson (json bytes) >>= λ v. or_why BadKind (document_of v)

-- the same, where it is a configuration
abbrev pub shaped_in : List ℕ → Result Document StoredWhy
shaped_in bytes = document_in bytes >>= shaped BadShape

-- the document after the operations of the step of that number
abbrev pub document_after : ℕ → List Operation → Document → Result Document StoredWhy
document_after n ops d = or_why (BadStep n) (apply_plain ops d) >>= shaped (BadStep n)

-- the document after the step of that number, whose file holds a patch
abbrev pub document_after_file : ℕ → List ℕ → Document → Result Document StoredWhy
document_after_file n bytes d = or_why (BadStep n) (patch bytes) >>= λ ops. document_after n ops d

-- the document where the file of that number is missing, or what comes of it and of those behind it
abbrev pub unless_missing : Option (List ℕ) → ℕ → (Document → Result Document StoredWhy)
    → Document → Result Document StoredWhy
unless_missing None n behind d = Ok d
unless_missing (Some bytes) n behind d = document_after_file n bytes d >>= behind

-- the document after the steps from number n on, up to the first that is missing
abbrev pub documents_after : (more n : ℕ) → Files → Document → Result Document StoredWhy
documents_after zero n files d = Ok d
documents_after (suc more) n files d =
    unless_missing (get files (step_name n)) n (documents_after more (n + 1) files) d

-- the document after all steps
abbrev pub document_after_all : Files → Document → Result Document StoredWhy
document_after_all files d = documents_after last_step 1 files d

-- the document of the one file and the steps
abbrev pub document_stepped : Files → Result Document StoredWhy
document_stepped files =
    or_none NoFile (get files config_file) >>= λ bytes. shaped_in bytes >>= document_after_all files

-- what the folded file holds where it is there, else the other
abbrev pub or_unfolded : Option (List ℕ) → Result Document StoredWhy → Result Document StoredWhy
or_unfolded None unfolded = unfolded
or_unfolded (Some bytes) unfolded = shaped_in bytes

-- the document that the files stand for
abbrev pub document_stored : Files → Result Document StoredWhy
document_stored files = or_unfolded (get files folded_file) (document_stepped files)

-- that document, and whether the folded file is there
abbrev pub document_found : Files → Result (Document × Bool) StoredWhy
document_found files = document_stored files >>= λ d. Ok (d, is_some (get files folded_file))

-- a tree that was found behind so many steps, seen so
abbrev pub stepped_tree : Tree × ℕ → Document
stepped_tree f = document f.0

-- the same with whether the folded file holds it
abbrev pub tree_found : Tree × Bool × ℕ → Document × Bool
tree_found f = (document f.0, f.1)
