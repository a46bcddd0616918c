-- What an error tells.
use Rattle.std.specs.Prelude.{Option, Some, None}
use Rattle.yang_text.specs.declared.errors.TextError.{TextError}
use Rattle.yang_text.specs.declared.errors.TextError.TheVariants.{Fault as Told, Memory}
use Rattle.yang_text.specs.declared.faults.Fault.{Fault}

-- the fault that an error tells, or none for want of memory
abbrev pub text_fault : TextError → Option Fault
text_fault (Told line why) = Some (record { line = line; why = why })
text_fault Memory = None
