use Rattle.std.proofs.Common.{◌≡◌, ℕ, true, List, Option, Some, None, refl, sym}
use Rattle.std.specs.Prelude.{Bool}
use Rattle.sessions.specs.Turns.{IsEnd}
use Rattle.sessions.specs.Worlds.{Session, WorldState, session_of}
use Rattle.sessions.specs.declared.replies.Reply.TheVariants.{Ended, Unknown}
use Rattle.sessions.proofs.laws.done_is_at_the_goal.Goals as goal

same_done : (a b : Bool) → Ended a ≡ Ended b → a ≡ b
same_done a b e = cc

by : (w after : WorldState) (name : List ℕ) (found : Option Session) → session_of name w ≡ found
    → IsEnd w name found (Ended true) after
    → (s : Session) × (session_of name w ≡ Some s) × (w.config ≡ s.goal)
by w after name None there turn = absurd (let other : Ended true ≡ Unknown = turn.0 in cc)
by w after name (Some s) there turn =
    (s, there, turn.1.0 (sym (same_done true turn.0 turn.2)))

pub returns : goal.returns
returns c w after name turn = by w after name (session_of name w) refl turn
