use Rattle.std.proofs.Common.{◌≡◌, ◌∷◌, ◌++◌, take}
use Rattle.json.specs.Token.{begin_object}
use Rattle.conf_doc.specs.Tokens.{opened_members}
use Rattle.conf_doc.proofs.writing.write_parts.Given as goal

abbrev pub invariant-loop-i : goal.invariant-loop-i
invariant-loop-i g l = l.out ≡ l.fn.out ++ begin_object ∷ opened_members g.X.Written.as_document (take l.i l.parts)
