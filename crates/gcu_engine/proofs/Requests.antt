-- What a form requests, where it isn't refused.
use Rattle.std.proofs.Common.{◌≡◌, inl, inr, ℕ, List, length, refl, sym, subst, Bool, true, false, if◌then◌else◌, Option, Some, None, Result, Ok, Err}
use Rattle.std.specs.FinMap.{get}
use Rattle.host_core.specs.Answers.{map_ok}
use Rattle.host_core.specs.State.{State}
use Rattle.conf_doc.specs.declared.configuration.Config.{Config}
use Rattle.conf_store.specs.Applied.{applied}
use Rattle.conf_store.specs.Stored.{stored}
use Rattle.checkpoints.specs.Migrations.{migration}
use Rattle.checkpoints.specs.Names.{is_good_name}
use Rattle.checkpoints.specs.Numbers.{is_full, numbered_points}
use Rattle.checkpoints.specs.Points.{Held, points}
use Rattle.move_core.specs.declared.contexts.Ctx.{Ctx}
use Rattle.gcu_demo.specs.Demo as generated
use Rattle.gcu_words.specs.Options.{default_budget}
use Rattle.gcu_output.specs.declared.outcomes.Outcome.{Outcome}
use Rattle.gcu_output.specs.declared.outcomes.Outcome.TheVariants.{BadName}
use Rattle.gcu_output.specs.declared.statuses.Intent.{Intent}
use Rattle.gcu_words.specs.Form.{Form}
use Rattle.gcu_words.specs.Form as forms
use Rattle.gcu_words.specs.Tasks.{Task}
use Rattle.gcu_requests.specs.Asked.{absent_answer, delete_asked, form_asked, list_asked, migrate_asked, preview_asked, save_asked, there_answer}
use Rattle.gcu_requests.specs.Checking.{check_asked}
use Rattle.gcu_requests.specs.DemoAsked.{demo_asked, generated_asked}
use Rattle.gcu_requests.specs.InterruptionAsked.{abandon_asked, intent_of, status_asked}
use Rattle.gcu_requests.specs.PlanCheckAsked.{check_plan_asked}
use Rattle.gcu_requests.specs.Request as request
use Rattle.gcu_requests.specs.Request.{Planning, Request, Work}
use Rattle.gcu_requests.specs.WorkAsked.{change_asked, dry_run_asked}
use Rattle.writing_commands.proofs.Naming.{named_is}
use Rattle.gcu_engine.proofs.Contents.{context_in}
use Rattle.gcu_engine.proofs.RightPlans.{IsWorkAsked, planning_is, stored_from, work_is}
use Rattle.gcu_engine.proofs.WrittenModels.{IsReadIn}

-- ---- a task

-- what a task would do is requested where it is to be printed
pub plan_given : (task : Task) (budget : ℕ) (s : State) (r : Request) → (dry_run_asked task budget s).Gives (Ok r)
    → (w : Work) × IsWorkAsked task s w × (request.plan w ≡ r)
plan_given task budget s r (inl never) = absurd never
plan_given task budget s r (inr (x, named, inl never)) = absurd never
plan_given task budget s r (inr (x, named, inr (w, given, e))) =
    let same : request.plan w ≡ r = cc in
    (w, subst (λ (t : Task). IsWorkAsked t s w) (named_is task x named) (work_is x budget s w given), same)

-- a change is requested where it is to be done
pub change_given : (task : Task) (budget : ℕ) (s : State) (r : Request) → (change_asked task budget s).Gives (Ok r)
    → (w : Work) × IsWorkAsked task s w × (request.change w ≡ r)
change_given task budget s r (inl never) = absurd never
change_given task budget s r (inr (x, named, inl never)) = absurd never
change_given task budget s r (inr (x, named, inr (u, settles, inl never))) = absurd never
change_given task budget s r (inr (x, named, inr (u, settles, inr (w, given, e)))) =
    let same : request.change w ≡ r = cc in
    (w, subst (λ (t : Task). IsWorkAsked t s w) (named_is task x named) (work_is x budget s w given), same)

-- ---- each form

-- what a form requests, where it isn't refused
abbrev pub IsRequestOf : Option Form → State → Request → Type 0
IsRequestOf (Some (forms.plan task budget)) s r = (w : Work) × IsWorkAsked task s w × (request.plan w ≡ r)
IsRequestOf (Some (forms.change task budget)) s r = (w : Work) × IsWorkAsked task s w × (request.change w ≡ r)
IsRequestOf (Some (forms.demo seed ports)) s r =
    (p : Planning) × IsReadIn s p.ctx × (p.start ≡ generated.start seed ports) × (p.goal ≡ generated.goal seed ports)
    × (request.demo p ports ≡ r)
IsRequestOf (Some (forms.save_checkpoint name)) s r =
    (c : Config) × (stored s.files ≡ Ok c) × (request.save_checkpoint name c ≡ r)
IsRequestOf (Some (forms.delete_checkpoint name)) s r = request.delete_checkpoint name ≡ r
IsRequestOf (Some (forms.preview path)) s r = (c : Config) × (request.preview c ≡ r)
IsRequestOf (Some (forms.check_plan patch plan)) s r = (count : ℕ) × (request.accept_plan count ≡ r)
IsRequestOf (Some forms.status) s r = (intent : Intent) × (steps : ℕ) × (request.status intent steps ≡ r)
IsRequestOf (Some forms.abandon) s r = request.abandon ≡ r
IsRequestOf (Some forms.check) s r = request.check ≡ r
IsRequestOf (Some forms.list_checkpoints) s r = (all : List (List ℕ × Option ℕ)) × (request.list_checkpoints all ≡ r)
IsRequestOf (Some forms.migrate_checkpoints) s r = request.migrate_checkpoints (migration s.files) ≡ r
IsRequestOf None s r = ⊥

request_is : (q r : Request) (x : Result Request Outcome) → x ≡ Ok q → x ≡ Ok r → q ≡ r
request_is q r x a b = let same : q ≡ r = cc in same

generated_is : (seed ports : ℕ) (ctx : Ctx) (s : State) (p : Planning) → IsReadIn s ctx
    → (generated_asked seed ports ctx).Gives (Ok p)
    → IsReadIn s p.ctx × (p.start ≡ generated.start seed ports) × (p.goal ≡ generated.goal seed ports)
generated_is seed ports ctx s p read (inl never) = absurd never
generated_is seed ports ctx s p read (inr (start, given, inl never)) = absurd never
generated_is seed ports ctx s p read (inr (start, (valid, is), inr (goal, inl never, e))) = absurd never
generated_is seed ports ctx s p read (inr (start, (valid, is), inr (goal, inr (u, same, inl never), e))) = absurd never
generated_is seed ports ctx s p read
    (inr (start, (valid, is), inr (goal, inr (u, same, inr (v, keys, (fine, made))), e))) =
    subst (λ (q : Planning). IsReadIn s q.ctx × (q.start ≡ generated.start seed ports)
    × (q.goal ≡ generated.goal seed ports))
    (planning_is (record { ctx = ctx; start = start; goal = goal; budget = default_budget }) p _ refl e)
    (read, is, made)

demo_given : (seed ports : ℕ) (s : State) (r : Request) → (demo_asked seed ports s).Gives (Ok r)
    → IsRequestOf (Some (forms.demo seed ports)) s r
demo_given seed ports s r (inl never) = absurd never
demo_given seed ports s r (inr (p, inl never, e)) = absurd never
demo_given seed ports s r (inr (p, inr (u, gate, inl never), e)) = absurd never
demo_given seed ports s r (inr (p, inr (u, gate, inr (ctx, read, given)), e)) =
    let (context, start, goal) = generated_is seed ports ctx s p (context_in s ctx read) given in
    (p, context, start, goal, request_is (request.demo p ports) r _ refl e)

saved_is : (name : List ℕ) (config : Config) (full : Bool) (o : Option Held) (r : Request)
    → absent_answer name config full o ≡ Ok r → request.save_checkpoint name config ≡ r
saved_is name config false None r e = request_is (request.save_checkpoint name config) r _ refl e
saved_is name config true None r e = absurd cc
saved_is name config full (Some held) r e = absurd cc

deleted_is : (name : List ℕ) (o : Option Held) (r : Request)
    → map_ok request.delete_checkpoint (there_answer name o) ≡ Ok r → request.delete_checkpoint name ≡ r
deleted_is name None r e = absurd cc
deleted_is name (Some held) r e = request_is (request.delete_checkpoint name) r _ refl e

name_of : (b : Bool) (word name : List ℕ) → (if b then Ok word else Err (BadName word)) ≡ Ok name → word ≡ name
name_of true word name e = let same : word ≡ name = cc in same
name_of false word name e = absurd cc

save_given : (word : List ℕ) (s : State) (r : Request) → (save_asked word s).Gives (Ok r)
    → IsRequestOf (Some (forms.save_checkpoint word)) s r
save_given word s r (inl never) = absurd never
save_given word s r (inr (name, named, inl never)) = absurd never
save_given word s r (inr (name, named, inr (u, settles, inl never))) = absurd never
save_given word s r (inr (name, named, inr (u, settles, inr (q, checks, inl never)))) = absurd never
save_given word s r (inr (name, named, inr (u, settles, inr (q, checks, inr (start, there, e))))) =
    let same = name_of (is_good_name word) word name named in (
      start,
      stored_from (stored s.files) start there,
      subst (λ (n : List ℕ). request.save_checkpoint n start ≡ r) (sym same)
          (saved_is name start (is_full s.files) (get (points s.files) name) r e),
    )

delete_given : (word : List ℕ) (s : State) (r : Request) → (delete_asked word s).Gives (Ok r)
    → IsRequestOf (Some (forms.delete_checkpoint word)) s r
delete_given word s r (inl never) = absurd never
delete_given word s r (inr (name, named, inl never)) = absurd never
delete_given word s r (inr (name, named, inr (u, settles, inl never))) = absurd never
delete_given word s r (inr (name, named, inr (u, settles, inr (v, gate, e)))) =
    let same = name_of (is_good_name word) word name named in
    subst (λ (n : List ℕ). request.delete_checkpoint n ≡ r) (sym same) (deleted_is name (get (points s.files) name) r e)

check_given : (s : State) (r : Request) → (check_asked s).Gives (Ok r) → request.check ≡ r
check_given s r (inl never) = absurd never
check_given s r (inr (u, gate, inl never)) = absurd never
check_given s r (inr (u, gate, inr (models, read, inl never))) = absurd never
check_given s r (inr (u, gate, inr (models, read, inr (start, there, (valid, is))))) = sym is

preview_given : (path : List ℕ) (s : State) (r : Request) → (preview_asked path s).Gives (Ok r)
    → (c : Config) × (request.preview c ≡ r)
preview_given path s r (inl never) = absurd never
preview_given path s r (inr (c, made, e)) = (c, request_is (request.preview c) r _ refl e)

accept_given : (patch plan : List ℕ) (s : State) (r : Request) → (check_plan_asked patch plan s).Gives (Ok r)
    → (count : ℕ) × (request.accept_plan count ≡ r)
accept_given patch plan s r (inl never) = absurd never
accept_given patch plan s r (inr (u, gate, inl never)) = absurd never
accept_given patch plan s r (inr (u, gate, inr (ctx, read, inl never))) = absurd never
accept_given patch plan s r (inr (u, gate, inr (ctx, read, inr (start, is, inl never)))) = absurd never
accept_given patch plan s r (inr (u, gate, inr (ctx, read, inr (start, is, inr (goal, made, inl never))))) =
    absurd never
accept_given patch plan s r
    (inr (u, gate, inr (ctx, read, inr (start, is, inr (goal, made, inr (ms, held, (is_plan, same))))))) =
    (length ms, sym same)

list_given : (s : State) (r : Request) → (list_asked s).Gives (Ok r) → IsRequestOf (Some forms.list_checkpoints) s r
list_given s r (inl never) = absurd never
list_given s r (inr (u, gate, e)) =
    (numbered_points s.files, request_is (request.list_checkpoints (numbered_points s.files)) r _ refl e)

migrate_given : (s : State) (r : Request) → (migrate_asked s).Gives (Ok r)
    → request.migrate_checkpoints (migration s.files) ≡ r
migrate_given s r (inl never) = absurd never
migrate_given s r (inr (u, settles, inl never)) = absurd never
migrate_given s r (inr (u, settles, inr (v, gate, e))) =
    request_is (request.migrate_checkpoints (migration s.files)) r _ refl e

status_given : (s : State) (r : Request) → (status_asked s).Gives (Ok r) → IsRequestOf (Some forms.status) s r
status_given s r (inl never) = absurd never
status_given s r (inr (c, there, inl never)) = absurd never
status_given s r (inr (c, there, inr (found, is, e))) =
    (intent_of found, applied s.files, request_is (request.status (intent_of found) (applied s.files)) r _ refl e)

abandon_given : (s : State) (r : Request) → (abandon_asked s).Gives (Ok r) → request.abandon ≡ r
abandon_given s r (inl never) = absurd never
abandon_given s r (inr (u, settles, inl never)) = absurd never
abandon_given s r (inr (u, settles, inr (v, gate, e))) = request_is request.abandon r _ refl e

-- what is requested is what the form says
pub requested : (f : Option Form) (s : State) (r : Request) → (form_asked f s).Gives (Ok r) → IsRequestOf f s r
requested (Some (forms.plan task budget)) s r given = plan_given task budget s r given
requested (Some (forms.change task budget)) s r given = change_given task budget s r given
requested (Some (forms.demo seed ports)) s r given = demo_given seed ports s r given
requested (Some (forms.save_checkpoint name)) s r given = save_given name s r given
requested (Some (forms.delete_checkpoint name)) s r given = delete_given name s r given
requested (Some (forms.preview path)) s r given = preview_given path s r given
requested (Some (forms.check_plan patch plan)) s r given = accept_given patch plan s r given
requested (Some forms.check) s r given = check_given s r given
requested (Some forms.list_checkpoints) s r given = list_given s r given
requested (Some forms.migrate_checkpoints) s r given = migrate_given s r given
requested (Some forms.status) s r given = status_given s r given
requested (Some forms.abandon) s r given = abandon_given s r given
requested None s r e = absurd cc
