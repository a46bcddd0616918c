-- What a script keeps that has run, and how many commits it makes.
use Rattle.std.proofs.Common.{◌≡◌, ◌≤◌, ◌+◌, ℕ, suc, List, [], ◌∷◌, length, refl, ap, arith, length-append}
use Rattle.move_core.specs.Contexts.{IsValidIn}
use Rattle.gcu_words.specs.declared.script_lines.ScriptLine.{ScriptLine}
use Rattle.sessions.specs.Runs.{IsRun, Turn}
use Rattle.sessions.specs.Turns.{Event, IsTurn}
use Rattle.sessions.specs.Worlds.{IsKept, WorldState, opened}
use Rattle.sessions.specs.declared.replies.Reply.{Reply}
use Rattle.sessions.proofs.WorldInvariants.{opened_is_kept}
use Rattle.sessions.proofs.RunInvariants.{run_goes_on, run_keeps}
use Rattle.sessions.proofs.TurnResults.{of_turn}
use Rattle.gcu_requests.specs.Request.{Operating, Patched}
use Rattle.operators.specs.Runs.{IsOperated, IsRunOf}
use Rattle.operators.proofs.ScriptRuns.{run_is, turn_is}

-- ---- how many commits

-- a turn makes one at most
turn_adds : (w : WorldState) (event : Event) (reply : Reply) (after : WorldState) → IsTurn w event reply after
    → length after.commits ≤ suc (length w.commits)
turn_adds w event reply after turn =
    of_turn (λ v. length v.commits ≤ suc (length w.commits)) w reply after event (record {
      same = omega arith;
      aimed = λ name goal plan is_plan. omega arith;
      committed = λ name s m rest commit.
          let more = length-append w.commits (record { name = name; goal = s.goal; mv = m } ∷ []) in omega (arith, more);
      ended = λ name. omega arith;
    }) turn

-- so does a line
lines_add : (patches : List Patched) (budget : ℕ) (w after : WorldState) (lines : List ScriptLine)
    (replies : List Reply) → IsRunOf patches budget w lines replies after
    → length after.commits ≤ length w.commits + length lines
lines_add patches budget w after [] [] is =
    let same : length after.commits ≡ length w.commits = ap (λ (v : WorldState). length v.commits) is in
    omega (arith, same)
lines_add patches budget w after [] (reply ∷ replies) never = absurd never
lines_add patches budget w after (line ∷ lines) [] never = absurd never
lines_add patches budget w after (line ∷ lines) (reply ∷ replies) (next, turn, run) =
    let one = turn_is patches budget w next line reply turn in
    let first : length next.commits ≤ suc (length w.commits) = turn_adds w one.0 reply next one.1 in
    let others : length after.commits ≤ length next.commits + length lines = lines_add patches budget next after lines
    replies run in
    let count : length (line ∷ lines) ≡ suc (length lines) = refl in
    omega (arith, first, others, count)

module _ (p : Operating) (text : List ℕ) (after : WorldState) (is : IsOperated p text after) where
  -- the run of the world that it is
  operated_run : (turns : List Turn) × IsRun (opened p.ctx p.start) turns after
  operated_run = let run = run_is p.patches p.budget (opened p.ctx p.start) after p.lines is.0 is.1 in (run.0, run.1)

  -- ---- what is kept

  pub operated_kept : IsValidIn p.ctx p.start → IsKept after
  operated_kept valid =
      run_keeps (opened p.ctx p.start) after operated_run.0 (opened_is_kept p.ctx p.start valid) operated_run.1

  pub operated_ctx : after.ctx ≡ p.ctx
  operated_ctx = (run_goes_on (opened p.ctx p.start) after operated_run.0 operated_run.1).ctx

  pub operated_opening : after.opening ≡ p.start
  operated_opening = (run_goes_on (opened p.ctx p.start) after operated_run.0 operated_run.1).opening

  pub operated_few : length after.commits ≤ length p.lines
  operated_few = let all = lines_add p.patches p.budget (opened p.ctx p.start) after p.lines is.0 is.1 in
      omega (arith, all)
