-- What loading a folder answers.
use Rattle.std.specs.Prelude.{◌≡◌, ℕ, Result, Ok, Err}
use Rattle.host_core.specs.State.{Files}
use Rattle.conf_doc.specs.Configuration.{tree}
use Rattle.conf_doc.specs.Document.{Document}
use Rattle.conf_doc.specs.Shaping.{configuration}
use Rattle.conf_doc.specs.Trees.{document}
use Rattle.conf_doc.specs.declared.configuration.Config.{Config}
use Rattle.conf_doc.specs.declared.trees.Tree.{Tree}
use Rattle.conf_store.specs.Applied.{AreApplied}
use Rattle.conf_store.specs.Folds.{StandsFor}
use Rattle.conf_store.specs.Stored.{stored}
use Rattle.conf_store.specs.declared.errors.LoadError.{LoadError}
use Rattle.conf_store.specs.declared.errors.LoadError.TheVariants.{Bad, Disk, Memory}
use Rattle.conf_store.specs.declared.loaded.Stored.{Stored}

-- what passes, or why the files stand for nothing, unless the disk failed or memory was wanting
abbrev pub LoadsWhat : {A : Type 0} → (A → Type 0) → Files → Result A LoadError → Type 0
LoadsWhat Passes files (Ok a) = Passes a
LoadsWhat Passes files (Err (Bad why)) = stored files ≡ Err why
LoadsWhat Passes files (Err Disk) = Unit {0}
LoadsWhat Passes files (Err Memory) = Unit {0}

-- what the files stand for, with their step files
abbrev pub Loads : Files → Result Stored LoadError → Type 0
Loads files = LoadsWhat (λ what. StandsFor what files) files

-- the document of the configuration that the files stand for
pub record IsStoredTree (files : Files) (d : Document) : Type 0 where
  pub config : Config
  pub stands : stored files ≡ Ok config
  pub same : d ≡ tree config
  pub shaped : configuration d ≡ Ok config

-- the tree of what the files stand for
abbrev pub LoadsTree : Files → Result Tree LoadError → Type 0
LoadsTree files = LoadsWhat (λ t. IsStoredTree files (document t)) files

-- how many step files are applied in what the files stand for
abbrev pub CountsSteps : Files → Result ℕ LoadError → Type 0
CountsSteps files = LoadsWhat (AreApplied files) files
