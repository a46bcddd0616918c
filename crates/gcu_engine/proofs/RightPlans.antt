-- What is planned, or committed by operators, is right: its configurations, its moves and its goal.
use Rattle.std.proofs.Common.{◌≡◌, inl, inr, ℕ, zero, suc, List, [], ◌∷◌, ◌++◌, length, refl, sym, ap, ◌∙◌, subst, Some, Result, Ok, Err}
use Rattle.std.specs.List.{flat_map}
use Rattle.std.proofs.lemmas.List.{length-map}
use Rattle.host_core.specs.State.{State}
use Rattle.conf_doc.specs.declared.configuration.Config.{Config}
use Rattle.conf_store.specs.Stored.{stored}
use Rattle.conf_store.specs.declared.errors.StoredWhy.{StoredWhy}
use Rattle.move_core.specs.Contexts.{IsValidIn, rulebook}
use Rattle.move_core.specs.Moves.{step}
use Rattle.move_core.specs.Operations.{plan_text}
use Rattle.move_core.specs.Plans.{IsWay, conf}
use Rattle.move_core.specs.declared.contexts.Ctx.{Ctx}
use Rattle.move_core.specs.declared.moves.Move.{Move}
use Rattle.gcu_words.specs.Targets.{Target}
use Rattle.gcu_output.specs.declared.outcomes.Outcome.{Outcome}
use Rattle.gcu_inputs.specs.StoredAsked.{stored_answer}
use Rattle.gcu_words.specs.Tasks.{Task, reach, run_script}
use Rattle.gcu_requests.specs.PlanAsked.{goal_asked, planning_asked, start_asked}
use Rattle.gcu_requests.specs.Request.{Operating, Planning, Work, ctx_of, operated, planned, start_of}
use Rattle.gcu_requests.specs.SessionsAsked.{operating_asked}
use Rattle.gcu_requests.specs.WorkAsked.{work_asked}
use Rattle.operators.specs.Replies.{commits_line, reply_line}
use Rattle.operators.specs.Runs.{IsOperated}
use Rattle.operators.proofs.WorldInvariants.{operated_ctx, operated_kept, operated_opening}
use Rattle.sessions.specs.Runs.{moves_of}
use Rattle.sessions.specs.Worlds.{Leads, WorldState}
use Rattle.sessions.specs.declared.commits.Commit.{Commit}
use Rattle.sessions.specs.declared.replies.Reply.{Reply}
use Rattle.sessions.proofs.CommitWays.{each_is_valid}
use Rattle.gcu_engine.specs.Contents.{IsMade}
use Rattle.gcu_engine.specs.Headline.{IsRightWork, IsTextOf}
use Rattle.command_answers.specs.Plannings.{IsPlanFor}
use Rattle.command_answers.specs.Works.{IsWorkOf}
use Rattle.gcu_engine.proofs.CommitGoals.{AreHeld, lines_are, lines_held, names_told, run_commits}
use Rattle.gcu_engine.proofs.Contents.{context_in, target_made}
use Rattle.gcu_engine.proofs.Folders.{stores_is}
use Rattle.gcu_engine.proofs.WrittenModels.{IsReadIn, read_written, text_written, valid_written, written_ctx}

-- ---- what is asked

pub stored_from : (r : Result Config StoredWhy) (c : Config) → stored_answer r ≡ Ok c → r ≡ Ok c
stored_from (Ok x) c e = let same : x ≡ c = cc in ap (λ (y : Config). Ok y) same
stored_from (Err why) c e = absurd cc

-- the start is the stored configuration, which is valid
pub record IsStart (ctx : Ctx) (s : State) (start : Config) : Type 0 where
  pub stands : stored s.files ≡ Ok start
  pub valid : IsValidIn ctx start

start_is : (ctx : Ctx) (s : State) (start : Config) → (start_asked ctx s).Gives (Ok start) → IsStart ctx s start
start_is ctx s start (inl never) = absurd never
start_is ctx s start (inr (c, there, (valid, same))) = record {
  stands = stored_from (stored s.files) c there ∙ ap (λ (x : Config). Ok x) (sym same);
  valid = subst (IsValidIn ctx) (sym same) valid;
}

-- the goal is what the target makes of it
made_is : (from : Target) (ctx : Ctx) (start : Config) (s : State) (goal : Config)
    → (goal_asked from ctx start s).Gives (Ok goal) → IsMade from s start goal
made_is from ctx start s goal (inl never) = absurd never
made_is from ctx start s goal (inr (made, given, inl never)) = absurd never
made_is from ctx start s goal (inr (made, given, inr (u, same, inl never))) = absurd never
made_is from ctx start s goal (inr (made, given, inr (u, same, inr (v, keys, (valid, is))))) =
    subst (IsMade from s start) (sym is) (target_made from start s made given)

-- what a plan needs is what is asked
pub record IsAsked (from : Target) (s : State) (p : Planning) : Type 0 where
  pub read : IsReadIn s p.ctx
  pub start : IsStart p.ctx s p.start
  pub made : IsMade from s p.start p.goal

pub planning_is : (q p : Planning) (r : Result Planning Outcome) → r ≡ Ok q → r ≡ Ok p → q ≡ p
planning_is q p r a e = let same : q ≡ p = cc in same

pub asked_is : (from : Target) (budget : ℕ) (s : State) (p : Planning) → (planning_asked from budget s).Gives (Ok p)
    → IsAsked from s p
asked_is from budget s p (inl never) = absurd never
asked_is from budget s p (inr (u, gate, inl never)) = absurd never
asked_is from budget s p (inr (u, gate, inr (ctx, read, inl never))) = absurd never
asked_is from budget s p (inr (u, gate, inr (ctx, read, inr (start, st, inl never)))) = absurd never
asked_is from budget s p (inr (u, gate, inr (ctx, read, inr (start, st, inr (goal, go, e))))) =
    subst (IsAsked from s) (planning_is (record { ctx = ctx; start = start; goal = goal; budget = budget }) p _ refl e)
    (record {
      read = context_in s ctx read;
      start = start_is ctx s start st;
      made = made_is from ctx start s goal go;
    })

-- what the run of a script needs is what is asked
pub record IsRunAsked (s : State) (p : Operating) : Type 0 where
  pub read : IsReadIn s p.ctx
  pub start : IsStart p.ctx s p.start
  pub held : AreHeld s p.patches

operating_is : (q p : Operating) (r : Result Operating Outcome) → r ≡ Ok q → r ≡ Ok p → q ≡ p
operating_is q p r a e = let same : q ≡ p = cc in same

run_is : (path : List ℕ) (budget : ℕ) (s : State) (p : Operating) → (operating_asked path budget s).Gives (Ok p)
    → IsRunAsked s p
run_is path budget s p (inl never) = absurd never
run_is path budget s p (inr (u, gate, inl never)) = absurd never
run_is path budget s p (inr (u, gate, inr (ctx, read, inl never))) = absurd never
run_is path budget s p (inr (u, gate, inr (ctx, read, inr (start, st, inl never)))) = absurd never
run_is path budget s p (inr (u, gate, inr (ctx, read, inr (start, st, inr (lines, script, inl never))))) = absurd never
run_is path budget s p (inr (u, gate, inr (ctx, read, inr (start, st, inr (lines, script, inr (patches, found, e)))))) =
    subst (IsRunAsked s)
    (operating_is (record { ctx = ctx; start = start; lines = lines; patches = patches; budget = budget }) p _ refl e)
    (record {
      read = context_in s ctx read;
      start = start_is ctx s start st;
      held = lines_held s [] lines patches tt
          found;
    })

-- what a task needs is what is asked
abbrev pub IsWorkAsked : Task → State → Work → Type 0
IsWorkAsked (reach from) s (planned p) = IsAsked from s p
IsWorkAsked (run_script path) s (operated p) = IsRunAsked s p
IsWorkAsked task s w = ⊥

pub work_is : (task : Task) (budget : ℕ) (s : State) (w : Work) → (work_asked task budget s).Gives (Ok w)
    → IsWorkAsked task s w
work_is (reach from) budget s w (inl never) = absurd never
work_is (reach from) budget s w (inr (p, given, e)) =
    let same : planned p ≡ w = cc in subst (IsWorkAsked (reach from) s) same (asked_is from budget s p given)
work_is (run_script path) budget s w (inl never) = absurd never
work_is (run_script path) budget s w (inr (p, given, e)) =
    let same : operated p ≡ w = cc in subst (IsWorkAsked (run_script path) s) same (run_is path budget s p given)

-- ---- a way

module _ (ctx : Ctx) (goal : Config) where
  pub way_valid : (c : Config) (ms : List Move) (x : Config) → IsValidIn ctx c → IsWay (rulebook ctx) goal c ms x
      → (i : ℕ) → IsValidIn ctx (conf c ms i)
  way_valid c [] x valid way i = valid
  way_valid c (m ∷ ms) x valid way zero = valid
  way_valid c (m ∷ ms) x valid way (suc i) = way_valid (step c m) ms x way.0.rules.full way.1 i

  pub way_last : (c : Config) (ms : List Move) (x : Config) → IsWay (rulebook ctx) goal c ms x
      → conf c ms (length ms) ≡ x
  way_last c [] x way = sym way
  way_last c (m ∷ ms) x way = way_last (step c m) ms x way.1

-- ---- commits

-- what the operators of a script have committed leads on from the stored configuration
run_leads : (p : Operating) (text : List ℕ) (after : WorldState) → IsValidIn p.ctx p.start → IsOperated p text after
    → Leads (rulebook p.ctx) p.start after.commits after.config
run_leads p text after valid told =
    let from : Leads (rulebook p.ctx) after.opening after.commits after.config =
    subst (λ (x : Ctx). Leads (rulebook x) after.opening after.commits after.config) (operated_ctx p text after told)
    (operated_kept p text after told valid).leads in
    subst (λ (x : Config). Leads (rulebook p.ctx) x after.commits after.config) (operated_opening p text after told)
    from

-- ---- right moves

-- what a task asks for and what it then does, as the headline says it
pub record IsRight (task : Task) (s : State) (ctx : Ctx) (start : Config) (ms : List Move) (text : List ℕ) : Type 0
  where
    pub read : IsReadIn s ctx
    pub stands : stored s.files ≡ Ok start
    pub valid : (i : ℕ) → IsValidIn ctx (conf start ms i)
    pub is : IsTextOf task s ctx start ms text

-- a plan for what is asked
right_plan : (from : Target) (s : State) (p : Planning) (ms : List Move) (text : List ℕ) → IsAsked from s p
    → IsPlanFor p ms → text ≡ plan_text ms
    → IsRight (reach from) s p.ctx p.start ms text
right_plan from s p ms text is plan told =
    record {
      read = is.read;
      stands = is.start.stands;
      valid = way_valid p.ctx p.goal p.start ms p.goal is.start.valid plan.0;
      is = (p.goal, is.made, plan.0, told);
    }

-- what the operators of a script commit
right_run : (path : List ℕ) (s : State) (p : Operating) (text : List ℕ) (after : WorldState) → IsRunAsked s p
    → IsOperated p text after
    → IsRight (run_script path) s p.ctx p.start (moves_of after.commits) text
right_run path s p text after is told =
    let leads = run_leads p text after is.start.valid told in
    record {
      read = is.read;
      stands = is.start.stands;
      valid = λ i. each_is_valid (rulebook p.ctx) p.start after.commits after.config i is.start.valid leads;
      is = (
        names_told p.lines told.0,
        run_commits s p.ctx p.start p.patches p.budget p.lines told.0 after is.start.valid is.held told.1,
        told.2
            ∙ ap (λ (t : List ℕ). t ++ commits_line (length after.commits)) (lines_are p.lines told.0)
            ∙ ap (λ (n : ℕ). flat_map (λ (t : List ℕ × Reply). reply_line t.0 t.1) (names_told p.lines told.0) ++
            commits_line n)
            (sym (length-map after.commits (λ (k : Commit). k.mv))),
      );
    }

pub is_right : (task : Task) (s : State) (w : Work) (ms : List Move) (text : List ℕ) → IsWorkAsked task s w
    → IsWorkOf w ms text → IsRight task s (ctx_of w) (start_of w) ms text
is_right (reach from) s (planned p) ms text is work = right_plan from s p ms text is work.0 work.1
is_right (reach from) s (operated p) ms text never work = absurd never
is_right (run_script path) s (planned p) ms text never work = absurd never
is_right (run_script path) s (operated p) ms text is (after, told, moves) =
    subst (λ (x : List Move). IsRight (run_script path) s p.ctx p.start x text) (sym moves)
    (right_run path s p text after is told)

-- the moves of a work that is asked are right
abbrev pub right_work : (task : Task) (s : State) (w : Work) (ms : List Move) (text : List ℕ) → IsWorkAsked task s w
    → IsWorkOf w ms text → IsRightWork task s
right_work task s w ms text is work = record {
  ctx = written_ctx s (ctx_of w) (is_right task s w ms text is work).read;
  read = read_written s (ctx_of w) (is_right task s w ms text is work).read;
  start = start_of w;
  stands = (stores_is s.files (start_of w)).1 (is_right task s w ms text is work).stands;
  moves = ms;
  valid = λ i.
      valid_written s (ctx_of w) (is_right task s w ms text is work).read (conf (start_of w) ms i)
      ((is_right task s w ms text is work).valid i);
  text = text;
  is = text_written s (ctx_of w) (is_right task s w ms text is work).read task (start_of w) ms text
      (is_right task s w ms text is work).is;
}
