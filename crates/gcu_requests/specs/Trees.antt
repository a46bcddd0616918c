-- What a command asks for, as documents: its code goes from tree to tree and builds no configuration.
use Rattle.std.specs.Prelude.{◌≡◌, ℕ, List, Result}
use Rattle.host_core.specs.Answers.{map_ok}
use Rattle.host_core.specs.State.{State}
use Rattle.conf_doc.specs.Configuration.{tree}
use Rattle.conf_doc.specs.Document.{Document}
use Rattle.conf_doc.specs.Shaping.{shaping}
use Rattle.patch_core.specs.Apply.{apply}
use Rattle.patch_core.specs.Operation.{Operation}
use Rattle.gcu_output.specs.declared.outcomes.Outcome.{Outcome}
use Rattle.gcu_inputs.specs.PatchAsked.{target_in, target_shape}
use Rattle.gcu_inputs.specs.StoredAsked.{stored_asked}
use Rattle.gcu_inputs.specs.Asking.{Asking}
use Rattle.gcu_requests.specs.Asked.{patching_asked, target_asked}

-- the same calls, and what f makes of what they give
abbrev pub through : {X Y : Type 0} → (X → Y) → Asking X → Asking Y
through {X = X} f asking =
    record {
      Reads = asking.Reads;
      Gives = λ r. (q : Result X Outcome) × asking.Gives q × (map_ok f q ≡ r);
    }

-- the stored configuration
abbrev pub stored_document : State → Asking Document
stored_document s = through tree (stored_asked s)

-- a document of a configuration's shape
abbrev pub document_shape : Document → Result Document Outcome
document_shape d = map_ok tree (target_shape (shaping d))

-- what the operations make of a configuration's document
abbrev pub target_document : List Operation → Document → Result Document Outcome
target_document ops d = map_ok tree (target_in (apply ops d))

-- the configuration after a patch
abbrev pub patched_document : List ℕ → State → Asking Document
patched_document path s = through tree (patching_asked path s)

-- what a preview prints
abbrev pub preview_document : List ℕ → State → Asking Document
preview_document path s = through tree (target_asked path s)
