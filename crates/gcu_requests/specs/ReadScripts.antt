-- What is read for the script of several operators.
use Rattle.std.specs.Prelude.{◌<◌, ◌≤◌, ⊤, ℕ, List, [], ◌∷◌, IfSome, IsSome, map, length}
use Rattle.std.specs.List.{AllPass}
use Rattle.conf_doc.specs.WellFormed.{IsConfig}
use Rattle.conf_store.specs.Files.{is_step_name}
use Rattle.move_core.specs.Contexts.{IsNamed, IsValidIn}
use Rattle.patch_core.specs.Operation.{operations}
use Rattle.patch_core.specs.declared.patches.Patch.{Patch}
use Rattle.gcu_words.specs.Scripts.{most_lines}
use Rattle.gcu_words.specs.declared.script_lines.ScriptLine.{ScriptLine}
use Rattle.gcu_requests.specs.Request as request
use Rattle.gcu_requests.specs.Request.{Patched}
use Rattle.gcu_requests.specs.SessionsAsked.{file_of, patch_at}
use Rattle.gcu_requests.specs.declared.session_preparing.Operating.{Operating}

-- a path, and the patch that was found there, as a request has it
abbrev pub patched : List ℕ × Patch → Patched
patched p = (p.0, operations p.1)

-- the same of all
abbrev pub patched_all : List (List ℕ × Patch) → List Patched
patched_all found = map patched found

-- what was read for a script, as a request has it
abbrev pub operating_of : Operating → request.Operating
operating_of p =
    record {
      ctx = p.ctx;
      start = p.stored.config;
      lines = p.script;
      patches = patched_all p.patches;
      budget = p.budget;
    }

-- the file that the line names was found, where it names one
abbrev pub IsFound : List Patched → ScriptLine → Type 0
IsFound found line = IfSome (file_of line) (λ path. IsSome (patch_at path found))

-- so it is of each line
abbrev pub AreFound : List Patched → List ScriptLine → Type 0
AreFound found [] = ⊤
AreFound found (line ∷ lines) = IsFound found line × AreFound found lines

-- what was found before is found
abbrev pub GoesOn : List Patched → List Patched → Type 0
GoesOn before found = (path : List ℕ) → IsSome (patch_at path before) → IsSome (patch_at path found)

-- what a run of the script asks of it
pub record IsReadyToOperate (p : Operating) : Type 0 where
  pub named : IsNamed p.ctx
  pub formed : IsConfig p.stored.config
  pub names : AllPass is_step_name p.stored.steps
  pub start : IsValidIn p.ctx p.stored.config
  pub few : length p.script ≤ most_lines
  pub found : AreFound (patched_all p.patches) p.script
  pub budget : 0 < p.budget
