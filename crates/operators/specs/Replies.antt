-- What operators are told, as lines.
use Rattle.std.specs.Prelude.{ℕ, List, ◌++◌, codes, decimal, Bool, true, false}
use Rattle.conf_doc.specs.Texts.{compact, line_feed}
use Rattle.patch_core.specs.Writing.{operation_document}
use Rattle.move_core.specs.Operations.{op}
use Rattle.move_core.specs.declared.moves.Move.{Move}
use Rattle.sessions.specs.declared.replies.Reply.{Reply}
use Rattle.sessions.specs.declared.replies.Reply.TheVariants.{Began, Exists, Unknown, Refused, Moved, Idle, Applied, Retargeted, Ended}

-- a word, a space and a number
abbrev pub counted : List ℕ → ℕ → List ℕ
counted word n = word ++ codes " " ++ decimal n

-- how many commits were seen, and how many there are
abbrev pub moved : ℕ → ℕ → List ℕ
moved seen now = counted (codes "moved") seen ++ codes " " ++ decimal now

-- the compact text of the move's operation
abbrev pub applied : Move → List ℕ
applied m = codes "applied " ++ compact (operation_document (op m))

-- whether the session's goal was met
abbrev pub how_ended : Bool → List ℕ
how_ended true = codes "ended done"
how_ended false = codes "ended open"

-- what a reply says
abbrev pub said : Reply → List ℕ
said (Began count) = counted (codes "began") count
said Exists = codes "exists"
said Unknown = codes "unknown"
said (Refused number) = counted (codes "refused") number
said (Moved seen now) = moved seen now
said Idle = codes "idle"
said (Applied m) = applied m
said (Retargeted count) = counted (codes "retargeted") count
said (Ended done) = how_ended done

-- the line that the operator of that name is told
abbrev pub reply_line : List ℕ → Reply → List ℕ
reply_line name reply = name ++ codes " " ++ said reply ++ line_feed

-- how many commits there are
abbrev pub commits_line : ℕ → List ℕ
commits_line n = counted (codes "commits") n ++ line_feed
