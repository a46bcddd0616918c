-- What a turn makes of a world: the same, one with another aim, one with a commit more, or one without a session.
use Rattle.std.proofs.Common.{◌≡◌, ℕ, ◌≤◌, List, [], ◌∷◌, length, Option, Some, None, refl, sym, subst, inl, inr}
use Rattle.conf_doc.specs.declared.configuration.Config.{Config}
use Rattle.move_core.specs.Contexts.{rulebook}
use Rattle.move_core.specs.Plans.{IsPlan}
use Rattle.move_core.specs.declared.moves.Move.{Move}
use Rattle.sessions.specs.Turns.{Aim, Begin, End, Event, IsBegin, IsEnd, IsNext, IsRetarget, IsStep, IsTurn, Refusal, Retarget, Step, Towards, with_aim, with_commit, without_session}
use Rattle.sessions.specs.Worlds.{Session, WorldState, session_of}
use Rattle.sessions.specs.declared.replies.Reply.{Reply}
use Rattle.sessions.specs.declared.replies.Reply.TheVariants.{Applied}

-- a step of that session, which has seen all commits, is told this move
pub record IsCommit (w : WorldState) (event : Event) (reply : Reply) (name : List ℕ) (s : Session) (m : Move)
    (rest : List Move) : Type 0 where
  pub event_is : event ≡ Step name
  pub reply_is : reply ≡ Applied m
  pub there : session_of name w ≡ Some s
  pub seen : length w.commits ≤ s.seen
  pub moves : s.rest ≡ m ∷ rest

-- what holds of the world as it was and of each that a turn may make of it
pub record OfEach (P : WorldState → Type 0) (w : WorldState) (event : Event) (reply : Reply) : Type 0 where
  pub same : P w
  pub aimed : (name : List ℕ) (goal : Config) (plan : List Move) → IsPlan (rulebook w.ctx) w.config goal plan
      → P (with_aim w name goal plan)
  pub committed : (name : List ℕ) (s : Session) (m : Move) (rest : List Move) → IsCommit w event reply name s m rest
      → P (with_commit w name s.goal m rest)
  pub ended : (name : List ℕ) → P (without_session w name)

module _ (P : WorldState → Type 0) (w : WorldState) (reply : Reply) (after : WorldState) where
  of_begin : (name : List ℕ) (aim : Aim) (found : Option Session) → OfEach P w (Begin name aim) reply
      → IsBegin w name aim found reply after → P after
  of_begin name aim (Some s) each turn = subst P (sym turn.1) each.same
  of_begin name (Refusal number) None each turn = subst P (sym turn.1) each.same
  of_begin name (Towards goal plan) None each turn = subst P (sym turn.2) (each.aimed name goal plan turn.0)

  of_next : (name : List ℕ) (s : Session) (rest : List Move) → OfEach P w (Step name) reply
      → session_of name w ≡ Some s → length w.commits ≤ s.seen → s.rest ≡ rest
      → IsNext w name s.goal rest reply after → P after
  of_next name s [] each there seen moves turn = subst P (sym turn.1) each.same
  of_next name s (m ∷ rest) each there seen moves turn =
      subst P (sym turn.1) (each.committed name s m rest
      (record { event_is = refl; reply_is = turn.0; there = there; seen = seen; moves = moves }))

  of_step : (name : List ℕ) (found : Option Session) → OfEach P w (Step name) reply → session_of name w ≡ found
      → IsStep w name found reply after → P after
  of_step name None each there turn = subst P (sym turn.1) each.same
  of_step name (Some s) each there (inl turn) = subst P (sym turn.1.1) each.same
  of_step name (Some s) each there (inr turn) = of_next name s s.rest each there turn.0 refl turn.1

  of_retarget : (name : List ℕ) (aim : Aim) (found : Option Session) → OfEach P w (Retarget name aim) reply
      → IsRetarget w name aim found reply after → P after
  of_retarget name aim None each turn = subst P (sym turn.1) each.same
  of_retarget name (Refusal number) (Some s) each turn = subst P (sym turn.1) each.same
  of_retarget name (Towards goal plan) (Some s) each turn = subst P (sym turn.2) (each.aimed name goal plan turn.0)

  of_end : (name : List ℕ) (found : Option Session) → OfEach P w (End name) reply → IsEnd w name found reply after → P after
  of_end name None each turn = subst P (sym turn.1) each.same
  of_end name (Some s) each turn = subst P (sym turn.3) (each.ended name)

  -- so it holds of the world after the turn
  pub of_turn : (event : Event) → OfEach P w event reply → IsTurn w event reply after → P after
  of_turn (Begin name aim) each turn = of_begin name aim (session_of name w) each turn
  of_turn (Step name) each turn = of_step name (session_of name w) each refl turn
  of_turn (Retarget name aim) each turn = of_retarget name aim (session_of name w) each turn
  of_turn (End name) each turn = of_end name (session_of name w) each turn
