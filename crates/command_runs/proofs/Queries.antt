-- What a command that does no task was asked, and what it printed: nothing is acknowledged.
use Rattle.std.proofs.Common.{◌≡◌, ◌≤◌, ◌<◌, ◌^◌, ◌⊎◌, inl, inr, ℕ, List, [], ◌∷◌, ◌++◌, Bool, true, false, length, append-nil, append_assoc, Option, Some, None, Result, Ok, Err, refl, sym, ap, ◌∙◌, subst, arith}
use Rattle.std.specs.Prelude.{codes, decimal}
use Rattle.std.specs.FinMap.{get}
use Rattle.host_core.specs.Counts.{Counts}
use Rattle.host_core.specs.State.{State}
use Rattle.json.specs.Layout.{pretty_from}
use Rattle.conf_doc.specs.Texts.{file_text}
use Rattle.conf_doc.specs.declared.configuration.Config.{Config}
use Rattle.conf_store.specs.Applied.{applied}
use Rattle.checkpoints.specs.Migrations.{NewFile}
use Rattle.checkpoints.specs.Numbers.{is_full, numbered_points}
use Rattle.checkpoints.specs.Points.{Held, points}
use Rattle.move_core.specs.Contexts.{IsValidIn}
use Rattle.move_core.specs.declared.contexts.Ctx.{Ctx}
use Rattle.move_core.specs.declared.moves.Move.{Move}
use Rattle.gcu_words.specs.Options.{most_budget}
use Rattle.gcu_output.specs.declared.outcomes.Outcome.{Outcome}
use Rattle.gcu_output.specs.declared.outcomes.Outcome.TheVariants.{Done, Memory, InputFault, DiskFault, PrintFault, ServiceFault, Unorderable, Budget}
use Rattle.gcu_output.specs.Lines.{last_line, line_feed}
use Rattle.gcu_output.specs.Statuses.{status_text}
use Rattle.gcu_output.specs.declared.statuses.Intent.{Intent}
use Rattle.gcu_output.specs.declared.statuses.Intent.TheVariants.{Absent, Broken, Whole}
use Rattle.gcu_inputs.specs.Asking.{Asking}
use Rattle.gcu_words.specs.Form as forms
use Rattle.gcu_words.specs.Form.{Form}
use Rattle.gcu_requests.specs.Asked.{absent_answer, form_asked, there_answer}
use Rattle.gcu_requests.specs.InterruptionAsked.{intent_of}
use Rattle.gcu_requests.specs.PlanAsked.{planning_asked, start_asked}
use Rattle.gcu_words.specs.Targets.{Target}
use Rattle.gcu_words.specs.Tasks.{Task, reach, run_script}
use Rattle.gcu_requests.specs.Request as request
use Rattle.gcu_requests.specs.Request.{Operating, Planning, Request, Work, operated, planned}
use Rattle.gcu_requests.specs.SessionsAsked.{operating_asked, script_answer, script_asked}
use Rattle.gcu_requests.specs.WorkAsked.{work_asked}
use Rattle.gcu_words.proofs.NamedLines.{script_named}
use Rattle.gcu_words.specs.Scripts.{AreNamed, script}
use Rattle.gcu_words.specs.declared.script_lines.ScriptLine.{ScriptLine}
use Rattle.host_core.specs.Answers.{map_ok}
use Rattle.command_answers.specs.Answers.{IsDoneOutput, IsUntouched, LeavesDone, LeavesStopped, Prints, Says}
use Rattle.command_answers.specs.Plannings.{IsPlanFor}
use Rattle.command_answers.specs.Summary.{counted, summary, yes_line}
use Rattle.command_answers.specs.Works.{IsWorkOf}
use Rattle.command_runs.specs.Works.{FitTheirPlaces, IsWork}
use Rattle.command_runs.proofs.Acknowledgements as acked
use Rattle.command_runs.proofs.Acknowledgements.{Quiet}
use Rattle.command_runs.proofs.Budgets.{IsBudgeted}
use Rattle.command_runs.proofs.CommitTexts.{KeepsWorlds, operated_told}
use Rattle.command_runs.proofs.CompactTexts.{heads, tails}
use Rattle.command_runs.proofs.Fitting.{way_fits}
use Rattle.command_runs.proofs.GoodNames.{Lacks}
use Rattle.command_runs.proofs.LastLines.{IsPlain, last_is_plain, last_line_is_quiet}
use Rattle.command_runs.proofs.OtherTexts.{line_has_no_told, number_has_no_told, sign_has_no_told}
use Rattle.command_runs.proofs.OperatorTexts.{HasNoTold}
use Rattle.command_runs.proofs.PlanHeads.{quiet_has_none}
use Rattle.command_runs.proofs.PointNames.{points_have_no_steps}
use Rattle.command_runs.proofs.SessionLines.{decimal_is_low, low_more, no_broken, no_none, no_whole}
use Rattle.command_runs.proofs.WorkOutputs.{AreToldBy, HasNeither, HasNoSteps, front_of_no_steps, front_of_work, unplanned_front}

-- ---- what is asked

-- a work may be done: its budget is one of words, its names are good, and it starts from a valid configuration
abbrev pub IsReady : Work → Type 0
IsReady (planned p) = p.budget ≤ most_budget
IsReady (operated p) = AreNamed p.lines × IsValidIn p.ctx p.start

-- what a command may be asked that does no task
pub data Query (s : State) : Request → Type 0 where
  previews : (c : Config) → Query s (request.preview c)
  checks : Query s request.check
  lists : Query s (request.list_checkpoints (numbered_points s.files))
  saves : (name : List ℕ) (c : Config) → Query s (request.save_checkpoint name c)
  deletes : (name : List ℕ) → Query s (request.delete_checkpoint name)
  plans : (w : Work) → IsReady w → Query s (request.plan w)
  demos : (p : Planning) (ports : ℕ) → Query s (request.demo p ports)
  accepts : (count : ℕ) → Query s (request.accept_plan count)
  tells : (intent : Intent) (steps : ℕ) → Query s (request.status intent steps)
  gives_up : Query s request.abandon

-- a plan is asked for with the budget of the words
pub planning_budget : (from : Target) (budget : ℕ) (s : State) (p : Planning)
    → (planning_asked from budget s).Gives (Ok p) → p.budget ≡ budget
planning_budget from budget s p (inl never) = absurd never
planning_budget from budget s p (inr (u, gate, inl never)) = absurd never
planning_budget from budget s p (inr (u, gate, inr (ctx, g, inl never))) = absurd never
planning_budget from budget s p (inr (u, gate, inr (ctx, g, inr (start, h, inl never)))) = absurd never
planning_budget from budget s p (inr (u, gate, inr (ctx, g, inr (start, h, inr (goal, k, e))))) =
    let same : record { ctx = ctx; start = start; goal = goal; budget = budget } ≡ p = cc in
    sym (ap (λ (q : Planning). q.budget) same)

-- a script that was read has good names
answer_named : (r : Result (List ScriptLine) ℕ) (lines : List ScriptLine) → script_answer r ≡ Ok lines → r ≡ Ok lines
answer_named (Ok ls) lines e = let same : ls ≡ lines = cc in ap (λ (x : List ScriptLine). Ok x) same
answer_named (Err line) lines e = absurd cc

script_is_named : (path : List ℕ) (s : State) (lines : List ScriptLine) → (script_asked path s).Gives (Ok lines)
    → AreNamed lines
script_is_named path s lines (inl never) = absurd never
script_is_named path s lines (inr (bytes, g, e)) = script_named bytes lines (answer_named (script bytes) lines e)

-- and the configuration that it runs from is valid
start_is_valid : (ctx : Ctx) (s : State) (start : Config) → (start_asked ctx s).Gives (Ok start) → IsValidIn ctx start
start_is_valid ctx s start (inl never) = absurd never
start_is_valid ctx s start (inr (stored, g, (valid, same))) = subst (IsValidIn ctx) (sym same) valid

operating_ready : (path : List ℕ) (budget : ℕ) (s : State) (p : Operating)
    → (operating_asked path budget s).Gives (Ok p) → IsReady (operated p)
operating_ready path budget s p (inl never) = absurd never
operating_ready path budget s p (inr (u, gate, inl never)) = absurd never
operating_ready path budget s p (inr (u, gate, inr (ctx, g, inl never))) = absurd never
operating_ready path budget s p (inr (u, gate, inr (ctx, g, inr (start, h, inl never)))) = absurd never
operating_ready path budget s p (inr (u, gate, inr (ctx, g, inr (start, h, inr (lines, k, inl never))))) = absurd never
operating_ready path budget s p (inr (u, gate, inr (ctx, g, inr (start, h, inr (lines, k, inr (patches, l, e)))))) =
    let same : record { ctx = ctx; start = start; lines = lines; patches = patches; budget = budget } ≡ p = cc in
    subst (λ (q : Operating). IsReady (operated q)) same (script_is_named path s lines k, start_is_valid ctx s start h)

-- what a task needs may be done
pub work_ready : (task : Task) (budget : ℕ) → budget ≤ most_budget → (s : State) (w : Work)
    → (work_asked task budget s).Gives (Ok w) → IsReady w
work_ready (reach from) budget few s w (inl never) = absurd never
work_ready (reach from) budget few s w (inr (p, given, e)) =
    let same : planned p ≡ w = cc in
    subst IsReady same (subst (λ (n : ℕ). n ≤ most_budget) (sym (planning_budget from budget s p given)) few)
work_ready (run_script path) budget few s w (inl never) = absurd never
work_ready (run_script path) budget few s w (inr (p, given, e)) =
    let same : operated p ≡ w = cc in subst IsReady same (operating_ready path budget s p given)

-- no task is done, and no checkpoint is put anew
abbrev pub IsNoChange : Option Form → Type 0
IsNoChange (Some (forms.change task budget)) = ⊥
IsNoChange (Some forms.migrate_checkpoints) = ⊥
IsNoChange other = Unit {0}

saved : (s : State) (name : List ℕ) (c : Config) (r : Request) (full : Bool) (o : Option Held)
    → absent_answer name c full o ≡ Ok r → Query s r
saved s name c r false None e = let same : request.save_checkpoint name c ≡ r = cc in
    subst (Query s) same (saves name c)
saved s name c r true None e = absurd cc
saved s name c r full (Some held) e = absurd cc

deleted : (s : State) (name : List ℕ) (r : Request) (o : Option Held)
    → map_ok request.delete_checkpoint (there_answer name o) ≡ Ok r → Query s r
deleted s name r None e = absurd cc
deleted s name r (Some held) e = let same : request.delete_checkpoint name ≡ r = cc in
    subst (Query s) same (deletes name)

pub query_given : (o : Option Form) → IsNoChange o → IsBudgeted o → (s : State) (r : Request)
    → (form_asked o s).Gives (Ok r) → Query s r
query_given None none few s r e = absurd cc
query_given (Some (forms.preview path)) none few s r (inl never) = absurd never
query_given (Some (forms.preview path)) none few s r (inr (c, g, e)) =
    let same : request.preview c ≡ r = cc in subst (Query s) same (previews c)
query_given (Some forms.check) none few s r (inl never) = absurd never
query_given (Some forms.check) none few s r (inr (u, gate, inl never)) = absurd never
query_given (Some forms.check) none few s r (inr (u, gate, inr (models, g, inl never))) = absurd never
query_given (Some forms.check) none few s r (inr (u, gate, inr (models, g, inr (start, h, judged)))) =
    subst (Query s) (sym judged.1) checks
query_given (Some forms.list_checkpoints) none few s r (inl never) = absurd never
query_given (Some forms.list_checkpoints) none few s r (inr (u, gate, e)) =
    let same : request.list_checkpoints (numbered_points s.files) ≡ r = cc in subst (Query s) same lists
query_given (Some (forms.save_checkpoint word)) none few s r (inl never) = absurd never
query_given (Some (forms.save_checkpoint word)) none few s r (inr (name, g, inl never)) = absurd never
query_given (Some (forms.save_checkpoint word)) none few s r (inr (name, g, inr (u, h, inl never))) = absurd never
query_given (Some (forms.save_checkpoint word)) none few s r (inr (name, g, inr (u, h, inr (q, k, inl never)))) =
    absurd never
query_given (Some (forms.save_checkpoint word)) none few s r (inr (name, g, inr (u, h, inr (q, k, inr (start, l, e)))))
    =
    saved s name start r (is_full s.files) (get (points s.files) name) e
query_given (Some (forms.delete_checkpoint word)) none few s r (inl never) = absurd never
query_given (Some (forms.delete_checkpoint word)) none few s r (inr (name, g, inl never)) = absurd never
query_given (Some (forms.delete_checkpoint word)) none few s r (inr (name, g, inr (u, h, inl never))) = absurd never
query_given (Some (forms.delete_checkpoint word)) none few s r (inr (name, g, inr (u, h, inr (v, gate, e)))) =
    deleted s name r (get (points s.files) name) e
query_given (Some (forms.plan word budget)) none few s r (inl never) = absurd never
query_given (Some (forms.plan word budget)) none few s r (inr (task, g, inl never)) = absurd never
query_given (Some (forms.plan word budget)) none few s r (inr (task, g, inr (w, h, e))) =
    let same : request.plan w ≡ r = cc in subst (Query s) same (plans w (work_ready task budget few s w h))
query_given (Some (forms.change task budget)) none few s r g = absurd none
query_given (Some forms.migrate_checkpoints) none few s r g = absurd none
query_given (Some (forms.demo seed ports)) none few s r (inl never) = absurd never
query_given (Some (forms.demo seed ports)) none few s r (inr (p, g, e)) =
    let same : request.demo p ports ≡ r = cc in subst (Query s) same (demos p ports)
query_given (Some (forms.check_plan patch plan)) none few s r (inl never) = absurd never
query_given (Some (forms.check_plan patch plan)) none few s r (inr (u, g, inl never)) = absurd never
query_given (Some (forms.check_plan patch plan)) none few s r
    (inr (u, g, inr (c, h, inl never))) = absurd never
query_given (Some (forms.check_plan patch plan)) none few s r
    (inr (u, g, inr (c, h, inr (start, k, inl never)))) = absurd never
query_given (Some (forms.check_plan patch plan)) none few s r
    (inr (u, g, inr (c, h, inr (start, k, inr (goal, l, inl never))))) = absurd never
query_given (Some (forms.check_plan patch plan)) none few s r
    (inr (u, g, inr (c, h, inr (start, k, inr (goal, l, inr (ms, m, accepted)))))) =
    subst (Query s) (sym accepted.1) (accepts (length ms))
query_given (Some forms.status) none few s r (inl never) = absurd never
query_given (Some forms.status) none few s r (inr (c, g, inl never)) = absurd never
query_given (Some forms.status) none few s r (inr (c, g, inr (found, h, e))) =
    let same : request.status (intent_of found) (applied s.files) ≡ r = cc in
    subst (Query s) same (tells (intent_of found) (applied s.files))
query_given (Some forms.abandon) none few s r (inl never) = absurd never
query_given (Some forms.abandon) none few s r (inr (u, g, inl never)) = absurd never
query_given (Some forms.abandon) none few s r (inr (u, g, inr (v, gate, e))) = let same : request.abandon ≡ r = cc in
    subst (Query s) same gives_up

-- ---- what is printed

-- neither a plan nor what operators are told, one of these with a last line behind it, or at most an empty one
abbrev Printed : List ℕ → Type 0
Printed text =
    HasNeither text
    ⊎ (((ms : List Move) × (front : List ℕ) × AreToldBy ms front × (text ≡ front ++ last_line Done))
    ⊎ HasNoSteps text)

-- its front acknowledges nothing
printed_front : (part rest : List ℕ) → Printed (part ++ rest) → (ms : List Move) × IsWork part ms 0
printed_front part rest (inl neither) = ([], unplanned_front part rest neither)
printed_front part rest (inr (inr few)) = front_of_no_steps part rest few
printed_front part rest (inr (inl (ms, front, told, e))) =
    front_of_work ms front (last_line Done) part rest (last_line_is_quiet Done) told e

pub plain_has_neither : (text : List ℕ) → IsPlain text → HasNeither text
plain_has_neither text plain = (quiet_has_none text plain.0, plain.1)

last_printed : (text : List ℕ) (e : Outcome) → text ≡ last_line e → Printed text
last_printed text e is = inl (plain_has_neither text (last_is_plain e text is))

-- the plan of a search for one
pub plan_fits : (p : Planning) (ms : List Move) → IsPlanFor p ms → FitTheirPlaces ms
plan_fits p ms is = way_fits p.ctx p.goal p.start ms p.goal is.0

pub plan_is_short : (p : Planning) (ms : List Move) → p.budget ≤ most_budget → IsPlanFor p ms → length ms < 2 ^ 64
plan_is_short p ms few is = let less = is.1 in omega (arith, few, less)

brace_first : (c : Config) (behind : List ℕ) → (more : List ℕ) × (file_text c ++ behind ≡ 123 ∷ more)
unfolding pretty_from
brace_first c behind = (_, refl)

-- what is printed before a work tells its moves
pub work_told : KeepsWorlds → (w : Work) (ms : List Move) (text : List ℕ) → IsReady w → IsWorkOf w ms text
    → AreToldBy ms text
work_told keeps (planned p) ms text few (is, e) = inl (plan_fits p ms is, plan_is_short p ms few is, e)
work_told keeps (operated p) ms text (named, valid) (after, is, moves) =
    operated_told keeps p ms text after named valid is moves

-- a text that begins with a word and a number
counted_has_no_told : (w : List ℕ) → Lacks 32 w → (codes "commits" ≡ w → ⊥) → (n : ℕ) (x : List ℕ)
    → HasNoTold (w ++ 32 ∷ (decimal n ++ x))
counted_has_no_told w plain other n x =
    number_has_no_told w plain other (decimal n ++ x) (low_more (decimal n) x (decimal_is_low n))

ports_have_no_told : (n : ℕ) (rest x text : List ℕ) → text ≡ ((counted (codes "ports") n ++ line_feed) ++ rest) ++ x
    → HasNoTold text
ports_have_no_told n rest x text is =
    subst HasNoTold
    (sym (is ∙ append_assoc (counted (codes "ports") n ++ line_feed) rest x ∙ append_assoc (counted (codes "ports") n)
    line_feed (rest ++ x)
    ∙ append_assoc (codes "ports ") (decimal n) (line_feed ++ (rest ++ x))))
    (counted_has_no_told (codes "ports") (omega arith, (omega arith, (omega arith, (omega arith, (omega arith, tt)))))
    (λ e. let h = heads 99 112 _ _ e in omega (arith, h)) n (line_feed ++ (rest ++ x)))

demo_has_no_told : (ports steps : ℕ) (text : List ℕ) → text ≡ summary ports steps ++ last_line Done → HasNoTold text
demo_has_no_told ports steps text is = ports_have_no_told ports _ (last_line Done) text is

yes_has_no_told : (count : ℕ) (text : List ℕ) → text ≡ yes_line count ++ last_line Done → HasNoTold text
yes_has_no_told count text is =
    subst HasNoTold
    (sym (is ∙ append_assoc (counted (codes "yes") count) line_feed (last_line Done) ∙ append_assoc (codes "yes ")
    (decimal count) (line_feed ++ last_line Done)))
    (counted_has_no_told (codes "yes") (omega arith, (omega arith, (omega arith, tt)))
    (λ e. let h = heads 99 121 _ _ e in omega (arith, h)) count (line_feed ++ last_line Done))

status_has_no_told : (intent : Intent) (steps : ℕ) → HasNoTold (status_text intent steps ++ last_line Done)
status_has_no_told intent steps = by intent
  where
    intent_is : Lacks 32 (codes "intent")
    intent_is = (omega arith, (omega arith, (omega arith, (omega arith, (omega arith, (omega arith, tt))))))

    other : codes "commits" ≡ codes "intent" → ⊥
    other e = let h = heads 99 105 _ _ e in omega (arith, h)

    rest : List ℕ
    rest = ((codes "steps " ++ decimal steps) ++ line_feed) ++ last_line Done

    by : (intent : Intent) → HasNoTold (status_text intent steps ++ last_line Done)
    by Absent = line_has_no_told (codes "intent") intent_is other (codes "none") rest
        (omega arith, (omega arith, (omega arith, (omega arith, tt)))) no_none
    by Whole = line_has_no_told (codes "intent") intent_is other (codes "whole") rest
        (omega arith, (omega arith, (omega arith, (omega arith, (omega arith, tt))))) no_whole
    by Broken = line_has_no_told (codes "intent") intent_is other (codes "broken") rest
        (omega arith, (omega arith, (omega arith, (omega arith, (omega arith, (omega arith, tt)))))) no_broken

query_printed : KeepsWorlds → (s : State) (r : Request) (text : List ℕ) → Query s r → IsDoneOutput r text → Printed text
query_printed keeps s _ text (previews c) out =
    let h = brace_first c (last_line Done) in
    inl (subst HasNeither (sym (out ∙ h.1)) (
      quiet_has_none _ (acked.other 123 h.0 (omega arith) (omega arith)),
      sign_has_no_told 123 h.0 (omega arith) (omega arith) (λ e. cc),
    ))
query_printed keeps s _ text checks out = last_printed text Done out
query_printed keeps s _ text lists out = inr (inr (subst HasNoSteps (sym out) (points_have_no_steps s.files)))
query_printed keeps s _ text (saves name c) out = last_printed text Done out
query_printed keeps s _ text (deletes name) out = last_printed text Done out
query_printed keeps s _ text (plans w ready) (ms, front, is, e) =
    inr (inl (ms, front, work_told keeps w ms front ready is, e))
query_printed keeps s _ text (demos p ports) (ms, is, e) =
    inl (
      (λ ns (rest, same).
          let twice : 111 ≡ 108 = heads 111 108 _ _ (tails 112 112 _ _ (sym e ∙ same)) in omega (arith, twice)),
      demo_has_no_told ports (length ms) text e,
    )
query_printed keeps s _ text (accepts count) out =
    inl (
      quiet_has_none text (subst Quiet (sym out) (acked.other 121 _ (omega arith) (omega arith))),
      yes_has_no_told count text out,
    )
query_printed keeps s _ text (tells intent steps) out =
    inl (
      quiet_has_none text (subst Quiet (sym out) (acked.other 105 _ (omega arith) (omega arith))),
      subst HasNoTold
          (sym out) (status_has_no_told intent steps),
    )
query_printed keeps s _ text gives_up out = last_printed text Done out

-- ---- what is left before it

leaves_output : (s now : State) (r : Request) → Query s r → LeavesDone r s now → now.output ≡ s.output
leaves_output s now _ (previews c) h = ap (λ (t : State). t.output) h
leaves_output s now _ checks h = ap (λ (t : State). t.output) h
leaves_output s now _ lists h = ap (λ (t : State). t.output) h
leaves_output s now _ (saves name c) h = ap (λ (t : State). t.output) h.1
leaves_output s now _ (deletes name) h = ap (λ (t : State). t.output) h.1
leaves_output s now _ (plans q ready) h = ap (λ (t : State). t.output) h
leaves_output s now _ (demos p ports) h = ap (λ (t : State). t.output) h
leaves_output s now _ (accepts count) h = ap (λ (t : State). t.output) h
leaves_output s now _ (tells intent steps) h = ap (λ (t : State). t.output) h
leaves_output s now _ gives_up h = ap (λ (t : State). t.output) h

stopped_output : (s now : State) (r : Request) (step : ℕ) → Query s r → LeavesStopped r step s now
    → now.output ≡ s.output
stopped_output s now _ step (previews c) h = absurd h
stopped_output s now _ step checks h = absurd h
stopped_output s now _ step lists h = absurd h
stopped_output s now _ step (saves name c) h = h.1.output
stopped_output s now _ step (deletes name) h = h.1.output
stopped_output s now _ step (plans q ready) h = absurd h
stopped_output s now _ step (demos p ports) h = absurd h
stopped_output s now _ step (accepts count) h = absurd h
stopped_output s now _ step (tells intent steps) h = absurd h
stopped_output s now _ step gives_up h = h.1.output

no_change : (s : State) (w : Work) (r : Request) → r ≡ request.change w → Query s r → ⊥
no_change s w _ e (previews c) = cc
no_change s w _ e checks = cc
no_change s w _ e lists = cc
no_change s w _ e (saves name c) = cc
no_change s w _ e (deletes name) = cc
no_change s w _ e (plans q ready) = cc
no_change s w _ e (demos q ports) = cc
no_change s w _ e (accepts count) = cc
no_change s w _ e (tells intent steps) = cc
no_change s w _ e gives_up = cc

no_migration : (s : State) (news : List NewFile) (r : Request) → r ≡ request.migrate_checkpoints news → Query s r → ⊥
no_migration s news _ e (previews c) = cc
no_migration s news _ e checks = cc
no_migration s news _ e lists = cc
no_migration s news _ e (saves name c) = cc
no_migration s news _ e (deletes name) = cc
no_migration s news _ e (plans q ready) = cc
no_migration s news _ e (demos q ports) = cc
no_migration s news _ e (accepts count) = cc
no_migration s news _ e (tells intent steps) = cc
no_migration s news _ e gives_up = cc

module _ (keeps : KeepsWorlds) (s now : State) (asking : Asking Request)
    (query : (r : Request) → asking.Gives (Ok r) → Query s r) where
  untouched_output : IsUntouched asking s now → now.output ≡ s.output
  untouched_output (inl same) = ap (λ (t : State). t.output) same
  untouched_output (inr (reads, same)) = ap (λ (t : State). t.output) same

  says_printed : (e : Outcome) (text : List ℕ) → Says asking s now e text → Printed text × (now.output ≡ s.output)
  says_printed Done text (r, given, leaves, out) =
      let q = query r given in (query_printed keeps s r text q out, leaves_output s now r q leaves)
  says_printed Memory text h = (last_printed text Memory h.1, untouched_output h.0)
  says_printed InputFault text h = (last_printed text InputFault h.2, untouched_output h.1)
  says_printed (DiskFault step) text (reads, inl (first, same), is) =
      (last_printed text (DiskFault step) is, untouched_output same)
  says_printed (DiskFault step) text (reads, inr (r, given, stopped), is) =
      (last_printed text (DiskFault step) is, stopped_output s now r step (query r given) stopped)
  says_printed (PrintFault step) text never = absurd never
  says_printed (ServiceFault step service) text (w, given, halted, is) =
      absurd (no_change s w (request.change w) refl (query (request.change w) given))
  says_printed Unorderable text h = (last_printed text Unorderable h.2, untouched_output h.1)
  says_printed (Budget n) text h = (last_printed text (Budget n) h.2, untouched_output h.1)
  says_printed other text h = (last_printed text other h.2, untouched_output h.1)

  whole_printed : (e : Outcome) (text : List ℕ) → Says asking s now e text
      → ((ms : List Move) × IsWork text ms 0) × (now.output ≡ s.output)
  whole_printed e text says =
      let h = says_printed e text says in
      (printed_front text [] (subst Printed (sym (append-nil text)) h.0), h.1)

  -- what was printed acknowledges nothing
  pub prints_printed : (old new : Counts) (e : Outcome) (text : List ℕ) → Prints asking s now old new e text
      → ((ms : List Move) × IsWork text ms 0) × (now.output ≡ s.output)
  prints_printed old new (PrintFault step) text (inl (acked, (answer, rest, cause, says))) =
      let h = says_printed answer (text ++ rest) says in (printed_front text rest h.0, h.1)
  prints_printed old new (PrintFault step) text (inr (inl (w, given, cut))) =
      absurd (no_change s w (request.change w) refl (query (request.change w) given))
  prints_printed old new (PrintFault step) text (inr (inr (news, given, cut, none))) =
      absurd (no_migration s news (request.migrate_checkpoints news) refl
      (query (request.migrate_checkpoints news) given))
  prints_printed old new other text says = whole_printed other text says
