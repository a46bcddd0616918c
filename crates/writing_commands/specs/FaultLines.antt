-- The last lines of a change's faults, made before anything is written.
use Rattle.std.specs.Prelude.{◌≡◌, ◌==◌, ℕ, zero, suc, List, [], ◌∷◌, ◌++◌, length, map, get_or, if◌then◌else◌, Option, Some, None, slice_get}
use Rattle.move_core.specs.declared.settings.Settings.{Settings}
use Rattle.change_apply.specs.Change.{name_at}
use Rattle.change_apply.specs.declared.ready.Restart.{Restart}
use Rattle.gcu_output.specs.Lines.{last_line, service_line}
use Rattle.gcu_output.specs.declared.outcomes.Outcome.TheVariants.{DiskFault}
use Rattle.writing_commands.specs.declared.last_lines.FaultLines.{FaultLines}
use Rattle.writing_commands.specs.declared.last_lines.ServiceLine.{ServiceLine}

-- each restart has the name of its service
abbrev pub AreNamed : Settings → List Restart → Type 0
AreNamed settings restarts =
    (started : List Restart) (r : Restart) (due : List Restart) → restarts ≡ started ++ r ∷ due
    → r.name ≡ name_at settings r.service

-- the lines of disk faults behind fewer than so many acknowledgements
abbrev pub disk_lines : ℕ → List (List ℕ)
disk_lines zero = []
disk_lines (suc k) = disk_lines k ++ last_line (DiskFault k) ∷ []

-- the line behind so many, where there is one
abbrev pub line_at : List (List ℕ) → ℕ → List ℕ
line_at lines step = get_or lines step []

-- the line of a fault at a restart of the step behind so many
abbrev pub line_for : ℕ → Restart → ServiceLine
line_for step r = record { service = r.service; line = service_line step r.service r.name }

-- those of all its restarts
abbrev pub lines_for : ℕ → List Restart → List ServiceLine
lines_for step restarts = map (line_for step) restarts

-- those of the step behind so many, where there is one
abbrev pub service_lines_at : List (List ServiceLine) → ℕ → List ServiceLine
service_lines_at lines step = get_or lines step []

-- the line of that service among these
abbrev pub found : ℕ → List ServiceLine → Option (List ℕ)
found service [] = None
found service (l ∷ ls) = if l.service == service then Some l.line else found service ls

-- each step has the lines of its restarts
abbrev pub AreServiceLines : List (List Restart) → List (List ServiceLine) → Type 0
AreServiceLines restarts lines =
    (k : ℕ) (rs : List Restart) → slice_get restarts k ≡ Some rs
    → slice_get lines k ≡ Some (lines_for k rs)

-- the lines of a change whose steps have these restarts
pub record AreFaultLines (restarts : List (List Restart)) (lines : FaultLines) : Type 0 where
  pub disk : lines.disk ≡ disk_lines (suc (length restarts))
  pub services : AreServiceLines restarts lines.services
