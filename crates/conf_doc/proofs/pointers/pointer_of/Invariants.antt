use Rattle.std.proofs.Common.{◌≡◌, take, string_bytes}
use Rattle.conf_doc.specs.Pointer.{pointer}
use Rattle.conf_doc.proofs.pointers.pointer_of.Given as goal

abbrev pub invariant-loop-token : goal.invariant-loop-token
invariant-loop-token l = string_bytes l.text ≡ pointer (take l.token-index l.token-items)
