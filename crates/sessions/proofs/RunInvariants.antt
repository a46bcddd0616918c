-- Runs keep what every world keeps, and the context and the opening; commits only come behind those that are there.
use Rattle.std.proofs.Common.{◌≡◌, ℕ, arith, List, [], ◌∷◌, ◌++◌, append_assoc, append-nil, length, refl, sym, ap, ◌∙◌, subst}
use Rattle.move_core.specs.Contexts.{rulebook}
use Rattle.move_core.specs.Plans.{IsPlan}
use Rattle.move_core.specs.declared.moves.Move.{Move}
use Rattle.sessions.specs.Runs.{IsRun, Turn}
use Rattle.sessions.specs.Turns.{Event, IsTurn}
use Rattle.sessions.specs.Worlds.{IsKept, IsOnCourse, Session, WorldState}
use Rattle.sessions.specs.declared.commits.Commit.{Commit}
use Rattle.sessions.specs.declared.replies.Reply.{Reply}
use Rattle.sessions.proofs.WorldInvariants.{with_aim_is_kept, with_commit_is_kept, without_session_is_kept}
use Rattle.sessions.proofs.TurnResults.{IsCommit, of_turn}

-- the plan of a session that has seen all commits begins with its next move
plan_of : (w : WorldState) (event : Event) (reply : Reply) (name : List ℕ) (s : Session) (m : Move) (rest : List Move)
    → IsKept w → IsCommit w event reply name s m rest → IsPlan (rulebook w.ctx) w.config s.goal (m ∷ rest)
plan_of w event reply name s m rest kept commit =
    let course : IsOnCourse w s = kept.courses name s commit.there in
    let below = course.seen in
    let above = commit.seen in
    let all : s.seen ≡ length w.commits = omega arith in
    let P : List Move → Type 0 = λ ms. IsPlan (rulebook w.ctx) w.config s.goal ms in
    subst P commit.moves (course.plan all)

-- a turn keeps it
pub turn_keeps : (w : WorldState) (event : Event) (reply : Reply) (after : WorldState)
    → IsKept w → IsTurn w event reply after → IsKept after
turn_keeps w event reply after kept turn = of_turn IsKept w reply after event (record {
  same = kept;
  aimed = λ name goal plan is_plan. with_aim_is_kept w name goal plan kept is_plan;
  committed = λ name s m rest commit.
      with_commit_is_kept w name s.goal m rest kept (plan_of w event reply name s m rest kept commit);
  ended = λ name. without_session_is_kept w name kept;
}) turn

-- and so does a run
pub run_keeps : (w after : WorldState) (turns : List Turn) → IsKept w → IsRun w turns after → IsKept after
run_keeps w after [] kept run = subst IsKept (sym run) kept
run_keeps w after (t ∷ ts) kept run = run_keeps run.0 after ts (turn_keeps w t.0 t.1 run.0 kept run.1) run.2

-- ---- what stays

-- the world goes on with the same context and opening, and with commits behind its own
pub record GoesOn (w after : WorldState) : Type 0 where
  pub ctx : after.ctx ≡ w.ctx
  pub opening : after.opening ≡ w.opening
  pub more : List Commit
  pub commits : after.commits ≡ w.commits ++ more

goes_on_itself : (w : WorldState) → GoesOn w w
goes_on_itself w = record { ctx = refl; opening = refl; more = []; commits = sym (append-nil w.commits) }

turn_goes_on : (w : WorldState) (event : Event) (reply : Reply) (after : WorldState) → IsTurn w event reply after → GoesOn w after
turn_goes_on w event reply after turn = of_turn (GoesOn w) w reply after event (record {
  same = goes_on_itself w;
  aimed = λ name goal plan is_plan. record { ctx = refl; opening = refl; more = []; commits = sym (append-nil w.commits) };
  committed = λ name s m rest commit. record { ctx = refl; opening = refl; more = _; commits = refl };
  ended = λ name. record { ctx = refl; opening = refl; more = []; commits = sym (append-nil w.commits) };
}) turn

-- a run goes on
pub run_goes_on : (w after : WorldState) (turns : List Turn) → IsRun w turns after → GoesOn w after
run_goes_on w after [] run = subst (GoesOn w) (sym run) (goes_on_itself w)
run_goes_on w after (t ∷ ts) run =
    let first : GoesOn w run.0 = turn_goes_on w t.0 t.1 run.0 run.1 in
    let others : GoesOn run.0 after = run_goes_on run.0 after ts run.2 in
    record {
      ctx = others.ctx ∙ first.ctx;
      opening = others.opening ∙ first.opening;
      more = first.more ++ others.more;
      commits = others.commits ∙ ap (λ (ks : List Commit). ks ++ others.more) first.commits ∙ append_assoc w.commits first.more others.more;
    }
