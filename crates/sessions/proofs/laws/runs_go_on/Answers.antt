use Rattle.std.proofs.Common.{List, [], ◌∷◌, ◌++◌, refl, subst}
use Rattle.sessions.specs.Runs.{IsRun, Turn}
use Rattle.sessions.specs.Turns.{Event, IsTurn}
use Rattle.sessions.specs.Worlds.{WorldState}
use Rattle.sessions.specs.declared.replies.Reply.{Reply}
use Rattle.sessions.proofs.laws.runs_go_on.Goals as goal

go_on : (w next after : WorldState) (turns : List Turn) (event : Event) (reply : Reply)
    → IsRun w turns next → IsTurn next event reply after → IsRun w (turns ++ (event, reply) ∷ []) after
go_on w next after [] event reply run turn =
    let P : WorldState → Type 0 = λ v. IsTurn v event reply after in
    (after, subst P run turn, refl)
go_on w next after (t ∷ ts) event reply run turn = (run.0, run.1, go_on run.0 next after ts event reply run.2 turn)

pub returns : goal.returns
returns c w next after turns event reply run turn = go_on w next after turns event reply run turn
