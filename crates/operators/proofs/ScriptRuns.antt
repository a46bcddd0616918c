-- How the lines of a script make its run.
use Rattle.std.proofs.Common.{◌≡◌, ◌∙◌, inl, inr, ℕ, Bool, true, false, List, [], ◌∷◌, ◌++◌, map, length, refl, sym, ap, subst, append_assoc, Option, Some, None, IsNone, IsSome, Result, Ok, Err, IfOk, OnOk}
use Rattle.std.proofs.lemmas.List.{append-nil}
use Rattle.std.proofs.lemmas.Result.{IfOk-weaker}
use Rattle.conf_doc.specs.declared.configuration.Config.{Config}
use Rattle.move_core.specs.Contexts.{rulebook}
use Rattle.move_core.specs.Plans.{IsPlan}
use Rattle.move_core.specs.declared.contexts.Ctx.{Ctx}
use Rattle.move_core.specs.declared.moves.Move.{Move}
use Rattle.patch_core.specs.Operation.{Operation}
use Rattle.operators.specs.Replies.{commits_line, reply_line}
use Rattle.gcu_words.specs.Scripts.{name_of}
use Rattle.gcu_words.specs.declared.script_lines.ScriptLine.{ScriptLine}
use Rattle.gcu_words.specs.declared.script_lines.ScriptLine.TheVariants.{Begin, Step, Retarget, End}
use Rattle.sessions.specs.Runs.{IsRun, Turn}
use Rattle.sessions.specs.Turns as turns
use Rattle.sessions.specs.Turns.{Aim, Event, IsTurn, Refusal, Towards}
use Rattle.sessions.specs.Worlds.{WorldState, opened, session_of}
use Rattle.sessions.specs.declared.replies.Reply.{Reply}
use Rattle.sessions.specs.declared.replies.Reply.TheVariants.{Exists, Unknown}
use Rattle.gcu_output.specs.Lines.{number}
use Rattle.gcu_output.specs.declared.outcomes.Outcome.{Outcome}
use Rattle.gcu_output.specs.declared.outcomes.Outcome.TheVariants.{Done, Memory, Usage, InputFault, DiskFault, PrintFault, ServiceFault, Unorderable, Budget}
use Rattle.gcu_inputs.specs.Asking.{Asking}
use Rattle.gcu_inputs.specs.Preparing.{FailsIn, Found, RefusesAlways, refusal}
use Rattle.gcu_requests.specs.Request.{Operating, Patched}
use Rattle.gcu_requests.specs.SessionsAsked.{aim_asked, patch_at}
use Rattle.operators.specs.Runs.{AreTold, IsAim, IsAimOf, IsOperated, IsPlanned, IsRunOf, IsTurnOf, reply_lines}

-- ---- aims

-- what refuses always is refused by its answer
refused_as : (e : Outcome) (asking : Asking Config) → RefusesAlways e → ¬ (e ≡ Memory) → FailsIn (refusal e) asking
    → asking.Gives (Err e)
refused_as Done asking never other h = absurd never
refused_as Memory asking always other h = absurd (other refl)
refused_as Usage asking never other h = absurd never
refused_as InputFault asking never other h = absurd never
refused_as (DiskFault step) asking never other h = absurd never
refused_as (PrintFault step) asking never other h = absurd never
refused_as (ServiceFault step service) asking never other h = absurd never
refused_as Unorderable asking never other h = absurd never
refused_as (Budget n) asking never other h = absurd never
refused_as e asking always other h = h

module _ (budget : ℕ) (ctx : Ctx) (ops : List Operation) (now : Config) where
  -- the patch is refused
  pub refusal_aim : (e : Outcome) (a : Aim) → Found {X = Config} (λ c. c) (Err e) (aim_asked ctx ops now)
      → RefusesAlways e → ¬ (e ≡ Memory) → a ≡ Refusal (number e)
      → IsAim budget ctx ops now a
  refusal_aim e a h always other is =
      subst (IsAim budget ctx ops now) (sym is) (inl (e, refused_as e (aim_asked ctx ops now) always other h.gives, refl))

  pub refused_aims : {E X : Type 0} (view : X → Aim) (e : Outcome) (r : Result X E)
      → Found {X = Config} (λ c. c) (Err e) (aim_asked ctx ops now) → RefusesAlways e
      → IfOk r (λ a. ¬ (e ≡ Memory)) → IfOk r (λ a. view a ≡ Refusal (number e))
      → IfOk r (λ a. IsAim budget ctx ops now (view a))
  refused_aims view e (Ok a) h always other is = refusal_aim e (view a) h always other is
  refused_aims view e (Err x) h always other is = tt

  -- there is a goal
  pub goal_aim : {E X : Type 0} (goal : Config) (view : X → Aim) (r : Result X E)
      → Found (λ (c : Config). c) (Ok goal) (aim_asked ctx ops now)
      → IfOk r (λ a. IsPlanned budget ctx now goal (view a)) → IfOk r (λ a. IsAim budget ctx ops now (view a))
  goal_aim goal view r h planned = IfOk-weaker r _ _ (λ a is. inr (goal, h.gives, is)) planned

module _ (patches : List Patched) (budget : ℕ) (ctx : Ctx) (file : List ℕ) (now : Config) where
  -- what the patch in a file aims at
  pub file_aim : {E X : Type 0} (ops : List Operation) (view : X → Aim) (r : Result X E)
      → Some ops ≡ patch_at file patches
      → IfOk r (λ a. IsAim budget ctx ops now (view a)) → IfOk r (λ a. IsAimOf patches budget ctx file now (view a))
  file_aim ops view r found is = IfOk-weaker r _ _ (λ a h. (ops, sym found, h)) is

  -- its plan leads to its goal
  pub plan_of : (goal : Config) (ms : List Move) → IsAimOf patches budget ctx file now (Towards goal ms)
      → IsPlan (rulebook ctx) now goal ms
  plan_of goal ms (ops, found, inl never) = absurd never
  plan_of goal ms (ops, found, inr (at, given, planned)) =
      subst (λ g. IsPlan (rulebook ctx) now g ms) (sym planned.0) planned.1.0

-- ---- turns

-- a session that isn't known isn't there
pub isnt_there : {A : Type 0} (o : Option A) (b : Bool) → b ≡ false → (IsSome o → b ≡ true) → IsNone o
isnt_there None b is h = refl
isnt_there (Some a) b is h = let known : b ≡ true = h refl in absurd cc

none_some : {A : Type 0} (o : Option A) → IsNone o → IsSome o → ⊥
none_some None none some = cc
none_some (Some a) none some = cc

module _ (patches : List Patched) (budget : ℕ) (w : WorldState) (name file : List ℕ) where
  pub exists_told : IsSome (session_of name w) → IsTurn w (turns.Begin name (Refusal 0)) Exists w
      → IsTurnOf patches budget w (Begin name file) Exists w
  exists_told there turn = (Refusal 0, (λ none. absurd (none_some (session_of name w) none there)), turn)

  pub unknown_told : IsNone (session_of name w) → IsTurn w (turns.Retarget name (Refusal 0)) Unknown w
      → IsTurnOf patches budget w (Retarget name file) Unknown w
  unknown_told none turn = (Refusal 0, (λ there. absurd (none_some (session_of name w) none there)), turn)

  pub begin_told : {E : Type 0} (aim : Aim) (r : Result Reply E) (after : WorldState)
      → IsAimOf patches budget w.ctx file w.config aim
      → IfOk r (λ reply. IsTurn w (turns.Begin name aim) reply after)
      → IfOk r (λ reply. IsTurnOf patches budget w (Begin name file) reply after)
  begin_told aim r after is turn = IfOk-weaker r _ _ (λ reply t. (aim, (λ none. is), t)) turn

  pub retarget_told : {E : Type 0} (aim : Aim) (r : Result Reply E) (after : WorldState)
      → IsAimOf patches budget w.ctx file w.config aim
      → IfOk r (λ reply. IsTurn w (turns.Retarget name aim) reply after)
      → IfOk r (λ reply. IsTurnOf patches budget w (Retarget name file) reply after)
  retarget_told aim r after is turn = IfOk-weaker r _ _ (λ reply t. (aim, (λ there. is), t)) turn

-- ---- lines

module _ (patches : List Patched) (budget : ℕ) where
  pub told_none : (w : WorldState) (text : List ℕ) → AreTold patches budget [] w text w text
  told_none w text = ([], refl, sym (append-nil text))

  pub told_more : (line : ScriptLine) (lines : List ScriptLine) (reply : Reply) (w next after : WorldState)
      (before told text : List ℕ)
      → IsTurnOf patches budget w line reply next → told ≡ before ++ reply_line (name_of line) reply
      → AreTold patches budget lines next told after text
      → AreTold patches budget (line ∷ lines) w before after text
  told_more line lines reply w next after before told text turn is (replies, run, same) = (
    reply ∷ replies,
    (next, turn, run),
    same ∙ ap (λ t. t ++ reply_lines lines replies) is ∙ append_assoc before (reply_line (name_of line) reply)
        (reply_lines lines replies),
  )

  pub told_on : {E X : Type 0} (r : Result X E) (line : ScriptLine) (lines : List ScriptLine) (reply : Reply)
      (w next after : WorldState) (before told text : List ℕ)
      → IsTurnOf patches budget w line reply next → told ≡ before ++ reply_line (name_of line) reply
      → OnOk r (AreTold patches budget lines next told after text)
      → OnOk r (AreTold patches budget (line ∷ lines) w before after text)
  told_on (Ok x) line lines reply w next after before told text turn is more =
      told_more line lines reply w next after before told text turn is more
  told_on (Err e) line lines reply w next after before told text turn is more = tt

  -- ---- as a run of the world

  pub turn_is : (w after : WorldState) (line : ScriptLine) (reply : Reply) → IsTurnOf patches budget w line reply after
      → (event : Event) × IsTurn w event reply after
  turn_is w after (Begin name file) reply t = (turns.Begin name t.0, t.2)
  turn_is w after (Step name) reply t = (turns.Step name, t)
  turn_is w after (Retarget name file) reply t = (turns.Retarget name t.0, t.2)
  turn_is w after (End name) reply t = (turns.End name, t)

  pub run_is : (w after : WorldState) (lines : List ScriptLine) (replies : List Reply)
      → IsRunOf patches budget w lines replies after
      → (ts : List Turn) × IsRun w ts after × (map (λ t. t.1) ts ≡ replies)
  run_is w after [] [] is = ([], is, refl)
  run_is w after [] (reply ∷ replies) never = absurd never
  run_is w after (line ∷ lines) [] never = absurd never
  run_is w after (line ∷ lines) (reply ∷ replies) (next, turn, run) =
      let one = turn_is w next line reply turn in
      let more = run_is next after lines replies run in
      ((one.0, reply) ∷ more.0, (next, one.1, more.1), ap (λ rs. reply ∷ rs) more.2)

-- ---- the whole

pub operated_is : (p : Operating) (w after : WorldState) (told text : List ℕ) (count : ℕ)
    → w ≡ opened p.ctx p.start → AreTold p.patches p.budget p.lines w [] after told
    → text ≡ told ++ commits_line count → count ≡ length after.commits → IsOperated p text after
operated_is p w after told text count opening (replies, run, same) is counted = (
  replies,
  subst (λ v. IsRunOf p.patches p.budget v p.lines replies after) opening run,
  is ∙ ap (λ t. t ++ commits_line count) same ∙ ap (λ n. reply_lines p.lines replies ++ commits_line n) counted,
)
