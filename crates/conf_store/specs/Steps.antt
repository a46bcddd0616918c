-- When the next step file may be put, and what the files stand for with it.
use Rattle.std.specs.Prelude.{◌≡◌, ◌⊎◌, ◌<◌, ◌≤◌, ℕ, List, [], ◌∷◌, None, Ok, IsSome}
use Rattle.std.specs.FinMap.{get}
use Rattle.host_core.specs.State.{Files}
use Rattle.conf_doc.specs.Configuration.{tree}
use Rattle.conf_doc.specs.Document.{Document}
use Rattle.conf_doc.specs.Shaping.{configuration}
use Rattle.conf_doc.specs.declared.configuration.Config.{Config}
use Rattle.patch_core.specs.Apply.{result_of}
use Rattle.patch_core.specs.Operation.{Operation}
use Rattle.patch_core.specs.Reading.{patch}
use Rattle.conf_store.specs.Files.{folded_file, last_step, step_name}
use Rattle.conf_store.specs.Puts.{IsPutOrNot, put}
use Rattle.conf_store.specs.Stored.{stored}

-- the name is that of the first missing step file, and no step file of a greater number is there
pub record IsNextStep (name : List ℕ) (files : Files) : Type 0 where
  pub number : ℕ
  pub named : name ≡ step_name number
  pub first : 1 ≤ number
  pub last : number ≤ last_step
  pub there : (n : ℕ) → 1 ≤ n → n < number → IsSome (get files (step_name n))
  pub missing : (n : ℕ) → number ≤ n → n ≤ last_step → get files (step_name n) ≡ None

-- the bytes hold a patch of one operation, which makes the one configuration the other
pub record IsStep (bytes : List ℕ) (before after : Config) : Type 0 where
  pub op : Operation
  pub holds : patch bytes ≡ Ok (op ∷ [])
  pub left : Document
  pub leads : result_of op (tree before) ≡ Ok left
  pub shaped : configuration left ≡ Ok after

-- the second files stand for what the step in these bytes makes of what the first ones stand for
pub record IsStepped (bytes : List ℕ) (before after : Files) : Type 0 where
  pub start : Config
  pub stood : stored before ≡ Ok start
  pub next : Config
  pub step : IsStep bytes start next
  pub stands : stored after ≡ Ok next

-- a step file of that name with these bytes may be put
pub record CanStep (name bytes : List ℕ) (files : Files) : Type 0 where
  pub unfolded : get files folded_file ≡ None
  pub next_step : IsNextStep name files
  pub start : Config
  pub stood : stored files ≡ Ok start
  pub next : Config
  pub step : IsStep bytes start next

-- the step file is put, and the files stand for the configuration after it
pub record IsStepPut (name bytes : List ℕ) (before after : Files) : Type 0 where
  pub files : after ≡ put name bytes before
  pub stepped : IsStepped bytes before after

-- the step file is put or not, and the files stand for the configuration before the step or after it
pub record IsStepPutOrNot (name bytes : List ℕ) (before after : Files) : Type 0 where
  pub files : IsPutOrNot name bytes before after
  pub stands : (stored after ≡ stored before) ⊎ IsStepped bytes before after
