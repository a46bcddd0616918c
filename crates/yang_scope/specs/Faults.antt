-- The order of faults, and the least of them.
use Rattle.std.specs.Prelude.{ℕ, ◌==◌, nat_lt, Bool, Option, Some, None, List, fold, if◌then◌else◌}
use Rattle.yang_text.specs.Declarations.{Declaration, line}
use Rattle.yang_text.specs.Whys.{why_number}
use Rattle.yang_text.specs.declared.errors.ModelWhy.{ModelWhy}
use Rattle.yang_scope.specs.declared.faults.Fault.{Fault}

-- a fault at a statement of a file
abbrev pub fault_at : ℕ → ModelWhy → Declaration → Fault
fault_at file why d = record { file = file; line = line d; why = why }

-- of one file: the lower line, then the first name
abbrev pub is_above : Fault → Fault → Bool
is_above f g =
    if f.line == g.line then nat_lt (why_number f.why) (why_number g.why)
    else nat_lt f.line g.line

-- the lower file, then the lower line, then the first name
abbrev pub is_before : Fault → Fault → Bool
is_before f g =
    if f.file == g.file then is_above f g
    else nat_lt f.file g.file

-- the lesser of a fault and the least one so far
abbrev pub lesser : Option Fault → Fault → Option Fault
lesser None f = Some f
lesser (Some g) f = if is_before f g then Some f else Some g

-- the least of some faults and of one that is there already
abbrev pub least_of : Option Fault → List Fault → Option Fault
least_of least faults = fold lesser least faults
