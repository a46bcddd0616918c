use Rattle.std.proofs.Common.{ℕ, List, Option, Some, None, refl}
use Rattle.std.specs.Prelude.{IsNone, IsSome}
use Rattle.sessions.specs.Turns.{Aim, IsBegin, IsEnd, IsRetarget, IsStep, Refusal}
use Rattle.sessions.specs.Worlds.{Session, WorldState, session_of}
use Rattle.sessions.specs.declared.replies.Reply.TheVariants.{Exists, Refused, Unknown}
use Rattle.sessions.proofs.laws.refusals_are_turns.Goals as goal

module _ (w : WorldState) (name : List ℕ) where
  exists : (aim : Aim) (found : Option Session) → IsSome found → IsBegin w name aim found Exists w
  exists aim None there = absurd cc
  exists aim (Some s) there = (refl, refl)

  refused_begin : (number : ℕ) (found : Option Session) → IsNone found → IsBegin w name (Refusal number) found (Refused number) w
  refused_begin number None absent = (refl, refl)
  refused_begin number (Some s) absent = absurd cc

  unknown_step : (found : Option Session) → IsNone found → IsStep w name found Unknown w
  unknown_step None absent = (refl, refl)
  unknown_step (Some s) absent = absurd cc

  unknown_retarget : (aim : Aim) (found : Option Session) → IsNone found → IsRetarget w name aim found Unknown w
  unknown_retarget aim None absent = (refl, refl)
  unknown_retarget aim (Some s) absent = absurd cc

  refused_retarget : (number : ℕ) (found : Option Session) → IsSome found
      → IsRetarget w name (Refusal number) found (Refused number) w
  refused_retarget number None there = absurd cc
  refused_retarget number (Some s) there = (refl, refl)

  unknown_end : (found : Option Session) → IsNone found → IsEnd w name found Unknown w
  unknown_end None absent = (refl, refl)
  unknown_end (Some s) absent = absurd cc

pub returns-clause-exists : goal.returns-clause-exists
returns-clause-exists c w name aim there = exists w name aim (session_of name w) there

pub returns-clause-refused_begin : goal.returns-clause-refused_begin
returns-clause-refused_begin c w name number absent = refused_begin w name number (session_of name w) absent

pub returns-clause-unknown_step : goal.returns-clause-unknown_step
returns-clause-unknown_step c w name absent = unknown_step w name (session_of name w) absent

pub returns-clause-unknown_retarget : goal.returns-clause-unknown_retarget
returns-clause-unknown_retarget c w name aim absent = unknown_retarget w name aim (session_of name w) absent

pub returns-clause-refused_retarget : goal.returns-clause-refused_retarget
returns-clause-refused_retarget c w name number there = refused_retarget w name number (session_of name w) there

pub returns-clause-unknown_end : goal.returns-clause-unknown_end
returns-clause-unknown_end c w name absent = unknown_end w name (session_of name w) absent
