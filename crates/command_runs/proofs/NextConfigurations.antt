-- After a command the folder stands for a configuration of the next list, whatever a crash leaves of it.
use Rattle.std.proofs.Common.{◌≡◌, ◌≤◌, ◌⊎◌, inl, inr, ℕ, zero, suc, List, [], ◌∷◌, ◌++◌, Option, Some, None, Ok, refl, sym, ap, ◌∙◌, subst, arith}
use Rattle.std.specs.Prelude.{Contains}
use Rattle.std.proofs.lemmas.List.{append_cancel_left}
use Rattle.host_core.specs.Counts.{Counts}
use Rattle.host_core.specs.Crashes.{Image, Left, MayLeave}
use Rattle.host_core.specs.MemoryHost.{MemoryHost}
use Rattle.host_core.specs.Picks.{picked}
use Rattle.host_core.specs.State.{Files, Pending, State, dirty, listing, printed, settled}
use Rattle.host_core.specs.declared.crash.Pick.{Pick}
use Rattle.host_core.specs.declared.crash.Pick.TheVariants.{After, Before, Bytes, Gone}
use Rattle.conf_doc.specs.declared.configuration.Config.{Config}
use Rattle.conf_store.specs.Stored.{stored}
use Rattle.move_core.specs.Plans.{conf}
use Rattle.move_core.specs.declared.moves.Move.{Move}
use Rattle.gcu_words.specs.Options.{most_budget}
use Rattle.gcu_output.specs.declared.outcomes.Outcome.{Outcome}
use Rattle.gcu_words.specs.Form as forms
use Rattle.gcu_words.specs.Form.{Form, form}
use Rattle.gcu_words.specs.ScopeForm.{IsUnscoped}
use Rattle.gcu_words.specs.Tasks.{Task}
use Rattle.gcu_requests.specs.Asked.{form_asked, migrate_asked}
use Rattle.gcu_requests.specs.Request as request
use Rattle.gcu_requests.specs.Request.{Request}
use Rattle.command_answers.specs.Answers.{Leaves}
use Rattle.command_answers.specs.Crashes.{LeftByForm, LeftOf, LeftOfMigration, LeftWriting}
use Rattle.writing_commands.proofs.IntentRemovals.{either_stored}
use Rattle.command_runs.specs.Histories.{AllLead, AllStandFor, IsNext, LeadOn, Leads, StandFor, last_or_next}
use Rattle.command_runs.specs.Noted.{found}
use Rattle.command_runs.specs.Runs.{AreRun, IsPromised, IsRun, handed_on}
use Rattle.command_runs.specs.Works.{IsWork}
use Rattle.command_runs.specs.declared.stops.Ran.{Ran}
use Rattle.command_runs.specs.declared.stops.Stop.{Stop}
use Rattle.command_runs.proofs.Budgets.{IsBudgeted, form_is_budgeted}
use Rattle.command_runs.proofs.ChangeImages.{StandAtWork, left_at_work}
use Rattle.command_runs.proofs.CommitTexts.{KeepsWorlds}
use Rattle.command_runs.proofs.MigrationOutputs.{migration_has_neither}
use Rattle.command_runs.proofs.MoveOperations.{ReadsTokens}
use Rattle.command_runs.proofs.Queries.{IsNoChange, prints_printed, query_given}
use Rattle.command_runs.proofs.WorkOutputs.{unplanned, work_is_one}

-- ---- configurations of a list

there_first : (a b : Config) (cs : List Config) → Contains (a ∷ b ∷ cs) a
there_first a b cs = (0, omega arith, refl)

there_second : (a b : Config) (cs : List Config) → Contains (a ∷ b ∷ cs) b
there_second a b cs = (1, omega arith, refl)

there_behind : (a b c : Config) (cs : List Config) → Contains cs c → Contains (a ∷ b ∷ cs) c
there_behind a b c cs (i, low, at) = (suc (suc i), omega (arith, low), at)

-- the configurations after so many steps and after one more
last_there : (before : List Config) (start : Config) (ms : List Move) (k : ℕ)
    → Contains (last_or_next before start ms k) (conf start ms k)
last_there before start ms zero = there_first (conf start ms 0) (conf start ms 1) before
last_there before start ms (suc k) = there_first (conf start ms (suc k)) (conf start ms (suc (suc k))) []

next_there : (before : List Config) (start : Config) (ms : List Move) (k : ℕ)
    → Contains (last_or_next before start ms k) (conf start ms (suc k))
next_there before start ms zero = there_second (conf start ms 0) (conf start ms 1) before
next_there before start ms (suc k) = there_second (conf start ms (suc k)) (conf start ms (suc (suc k))) []

-- what stands for one of the list before does so where nothing is acknowledged
stand_before : (before : List Config) (start : Config) (ms : List Move) (k : ℕ) (files : Files) → k ≡ 0
    → StandFor before files
    → StandFor (last_or_next before start ms k) files
stand_before before start ms zero files e (c, stands, there) =
    (c, stands, there_behind (conf start ms 0) (conf start ms 1) c before there)
stand_before before start ms (suc k) files e h = absurd (omega (arith, e))

-- ---- one command

module _ (before : List Config) (s t : State) (output : List ℕ) (start : Config) (stands : stored s.files ≡ Ok start)
    (all : AllStandFor before s) (printed_is : t.output ≡ s.output ++ output) where
  stand_at : (ms : List Move) (k : ℕ) (files : Files) → StandAtWork s ms k files
      → StandFor (last_or_next before start ms k) files
  stand_at ms k files (inl (none, image)) = stand_before before start ms k files none (all files image)
  stand_at ms k files (inr (other, is, which)) =
      let found : Ok other ≡ Ok start = sym is ∙ stands in
      let same : other ≡ start = cc in
      by (subst (λ (c : Config). (stored files ≡ Ok (conf c ms k)) ⊎ (stored files ≡ Ok (conf c ms (suc k)))) same
      which)
    where
      by : (stored files ≡ Ok (conf start ms k)) ⊎ (stored files ≡ Ok (conf start ms (suc k)))
          → StandFor (last_or_next before start ms k) files
      by (inl h) = (conf start ms k, h, last_there before start ms k)
      by (inr h) = (conf start ms (suc k), h, next_there before start ms k)

  -- what a crash leaves of the end with these files
  abbrev left_with : Files → Left
  left_with files = record { files = files; output = t.output; restarts = t.restarts }

  may_leave : (files : Files) → Image t.pending t.files files → MayLeave t (left_with files)
  may_leave files image = record { files = image; output = refl; restarts = refl }

  -- the work that was done, and that all files that are left stand for one of the list that it makes
  abbrev IsLed : Type 0
  IsLed = (ms : List Move) × (k : ℕ) × IsWork output ms k
      × ((files : Files) → Image t.pending t.files files → StandFor (last_or_next before start ms k) files)

  -- a command that does a task
  changes_lead : ReadsTokens → KeepsWorlds → Image t.pending t.files t.files → (task : Task) (budget : ℕ)
      → budget ≤ most_budget
      → ((left : Left) → MayLeave t left → LeftByForm (Some (forms.change task budget)) s left) → IsLed
  changes_lead reads keeps now task budget few left =
      let at = λ (files : Files) (image : Image t.pending t.files files).
      left_at_work keeps task budget few s output (left_with files) printed_is
      (left (left_with files) (may_leave files image)) in
      let here = at t.files now in (
        here.0,
        here.1,
        here.2,
        λ files image.
            let there = at files image in
            let one = work_is_one reads output there.0 here.0 there.1 here.1 there.2 here.2 in
            subst (λ (ms : List Move). StandFor (last_or_next before start ms here.1) files) one.0
            (subst (λ (k : ℕ). StandFor (last_or_next before start there.0 k) files)
            one.1 (stand_at there.0 there.1 files there.3)),
      )

  -- ---- a command that does none

  writing_keeps : (r : Request) (part : List ℕ) (left : Left) → LeftWriting r (printed part s) left
      → stored left.files ≡ stored s.files
  writing_keeps (request.save_checkpoint name c) part left h = h.files.kept
  writing_keeps (request.delete_checkpoint name) part left h = h.files.kept
  writing_keeps request.abandon part left h = either_stored s.files left.files h.files
  writing_keeps other part left h = absurd h

  stand_left : (o : Option Form) (left : Left) → Image s.pending s.files s.files → LeftOf (form_asked o s) s left
      → StandFor before left.files
  stand_left o left now (part, front, inl may) = all left.files may.files
  stand_left o left now (part, front, inr (r, given, writing)) =
      let h = all s.files now in (h.0, writing_keeps r part left writing ∙ h.1, h.2)

  left_of : (o : Option Form) → IsNoChange o → (left : Left) → LeftByForm o s left → LeftOf (form_asked o s) s left
  left_of None none left h = h
  left_of (Some (forms.preview path)) none left h = h
  left_of (Some forms.check) none left h = h
  left_of (Some forms.list_checkpoints) none left h = h
  left_of (Some forms.migrate_checkpoints) none left h = absurd none
  left_of (Some (forms.save_checkpoint name)) none left h = h
  left_of (Some (forms.delete_checkpoint name)) none left h = h
  left_of (Some (forms.plan task budget)) none left h = h
  left_of (Some (forms.change task budget)) none left h = absurd none
  left_of (Some (forms.demo seed ports)) none left h = h
  left_of (Some (forms.check_plan patch plan)) none left h = h
  left_of (Some forms.status) none left h = h
  left_of (Some forms.abandon) none left h = h

  queries_lead : KeepsWorlds → (now : Image s.pending s.files s.files) (o : Option Form) → IsNoChange o → IsBudgeted o
      → (old new : Counts) (e : Outcome)
      → Leaves (form_asked o s) s (Some t) old new e → ((left : Left) → MayLeave t left → LeftByForm o s left) → IsLed
  queries_lead keeps now o none few old new e (ended, text, is, prints) left =
      let h = prints_printed keeps s ended (form_asked o s) (query_given o none few s) old new e text prints in
      let at : t ≡ printed text ended = cc in
      let whole : s.output ++ output ≡ s.output ++ text =
      sym printed_is ∙ ap (λ (u : State). u.output) at ∙ ap (λ (front : List ℕ). front ++ text) h.1 in
      let same : text ≡ output = sym (append_cancel_left s.output output text whole) in (
        h.0.0,
        0,
        subst (λ (w : List ℕ). IsWork w h.0.0 0) same h.0.1,
        λ files image.
            stand_before before start h.0.0 0 files refl
            (stand_left o (left_with files) now
            (left_of o none (left_with files) (left (left_with files) (may_leave files image)))),
      )

  -- ---- a migration of checkpoints

  stand_migrated : (left : Left) → Image s.pending s.files s.files → LeftOfMigration (migrate_asked s) s left
      → StandFor before left.files
  stand_migrated left now (inl h) = stand_left (Some forms.migrate_checkpoints) left now h
  stand_migrated left now (inr (news, given, inl h)) = let found = all s.files now in
      (found.0, h.same.kept ∙ found.1, found.2)
  stand_migrated left now (inr (news, given, inr h)) = let found = all s.files now in
      (found.0, h.is.same.kept ∙ found.1, found.2)

  migrates_lead : Image s.pending s.files s.files → (old new : Counts) (e : Outcome)
      → Leaves (migrate_asked s) s (Some t) old new e
      → ((left : Left) → MayLeave t left → LeftOfMigration (migrate_asked s) s left) → IsLed
  migrates_lead now old new e (ended, text, is, prints) left =
      let at : t ≡ printed text ended = cc in
      let whole : s.output ++ output ≡ ended.output ++ text = sym printed_is ∙ ap (λ (u : State). u.output) at in (
        [],
        0,
        unplanned output (migration_has_neither s ended output old new e text whole prints),
        λ files image.
            stand_before before start [] 0 files refl
            (stand_migrated (left_with files) now (left (left_with files) (may_leave files image))),
      )

-- what is there may be left
abbrev pub ReadsAsIs : Type 0
ReadsAsIs = (pending : Pending) (now : Files) → Image pending now now

-- each command leads to a list
promised_leads : ReadsTokens
    → KeepsWorlds → ReadsAsIs → (before : List Config) (words : List (List ℕ)) (s t : State) (output : List ℕ)
    (start : Config)
    (stands : stored s.files ≡ Ok start) (all : AllStandFor before s) (printed_is : t.output ≡ s.output ++ output)
    (old new : Counts) (e : Outcome) → IsUnscoped words → IsPromised words s t old new e
    → IsLed before s t output start stands all printed_is
promised_leads reads keeps now before words s t output start stands all printed_is old new e none promised =
    by (form words) (form_is_budgeted words) (promised.answers none) (promised.left none)
  where
    query : (o : Option Form) → IsNoChange o → IsBudgeted o → Leaves (form_asked o s) s (Some t) old new e
        → ((left : Left) → MayLeave t left → LeftByForm o s left)
        → IsLed before s t output start stands all printed_is
    query o none few answers left =
        queries_lead before s t output start stands all printed_is keeps (now s.pending s.files) o none few old new e
        answers left

    by : (o : Option Form) → IsBudgeted o → Leaves (form_asked o s) s (Some t) old new e
        → ((left : Left) → MayLeave t left → LeftByForm o s left)
        → IsLed before s t output start stands all printed_is
    by None few answers left = query None tt few answers left
    by (Some (forms.preview path)) few answers left = query (Some (forms.preview path)) tt few answers left
    by (Some forms.check) few answers left = query (Some forms.check) tt few answers left
    by (Some forms.list_checkpoints) few answers left = query (Some forms.list_checkpoints) tt few answers left
    by (Some forms.migrate_checkpoints) few answers left =
        migrates_lead before s t output start stands all printed_is (now s.pending s.files) old new e answers left
    by (Some (forms.save_checkpoint name)) few answers left =
        query (Some (forms.save_checkpoint name)) tt few answers left
    by (Some (forms.delete_checkpoint name)) few answers left =
        query (Some (forms.delete_checkpoint name)) tt few answers left
    by (Some (forms.plan task budget)) few answers left = query (Some (forms.plan task budget)) tt few answers left
    by (Some (forms.change task budget)) few answers left =
        changes_lead before s t output start stands all printed_is reads keeps (now t.pending t.files) task budget few
        left
    by (Some (forms.demo seed ports)) few answers left = query (Some (forms.demo seed ports)) tt few answers left
    by (Some (forms.check_plan patch plan)) few answers left =
        query (Some (forms.check_plan patch plan)) tt few answers left
    by (Some forms.status) few answers left = query (Some forms.status) tt few answers left
    by (Some forms.abandon) few answers left = query (Some forms.abandon) tt few answers left

-- ---- what is handed on

picked_may_be_left : ReadsAsIs → (pick : Pick) (pending : Pending) (files : Files)
    → Image pending files (picked pick pending files)
picked_may_be_left now Gone settled files = now settled files
picked_may_be_left now (Bytes bytes) settled files = now settled files
picked_may_be_left now Before settled files = now settled files
picked_may_be_left now After settled files = now settled files
picked_may_be_left now Gone (dirty name) files = (None, refl)
picked_may_be_left now (Bytes bytes) (dirty name) files = (Some bytes, refl)
picked_may_be_left now Before (dirty name) files = now (dirty name) files
picked_may_be_left now After (dirty name) files = now (dirty name) files
picked_may_be_left now Gone (listing before) files = inr refl
picked_may_be_left now (Bytes bytes) (listing before) files = inr refl
picked_may_be_left now Before (listing before) files = inl refl
picked_may_be_left now After (listing before) files = inr refl

handed_images : ReadsAsIs → (pick : Option Pick) (ended : MemoryHost) (files : Files)
    → Image (handed_on pick ended).state.pending (handed_on pick ended).state.files files
    → Image ended.state.pending ended.state.files files
handed_images now None ended files image = image
handed_images now (Some pick) ended files image =
    subst (Image ended.state.pending ended.state.files) (sym image)
    (picked_may_be_left now pick ended.state.pending ended.state.files)

-- what a command that ran leads to
pub run_leads : ReadsTokens → KeepsWorlds → ReadsAsIs → (stop : Stop) (host after : MemoryHost) (ran : Ran)
    → IsRun stop host after ran → IsUnscoped stop.words
    → (before : List Config) → AllStandFor before host.state → Leads before ran after.state
run_leads reads keeps now stop host after ran run none before all =
    let first = all host.state.files (now host.state.pending host.state.files) in
    let led = promised_leads reads keeps now before
    stop.words host.state run.ended.state ran.output first.0 first.1 all run.output
    host.counts run.ended.counts run.result none run.promised in (
      last_or_next before first.0 led.0 led.1,
      record {
        start = first.0;
        stands = ap stored run.finds ∙ first.1;
        moves = led.0;
        acknowledged = led.1;
        work = led.2;
        is = refl;
      },
      λ files image.
          led.3 files (handed_images now stop.pick run.ended files
          (subst (λ (m : MemoryHost). Image m.state.pending m.state.files files) run.handed image)),
    )

-- ---- one command more

pub runs_more : (stops : List Stop) (host next after : MemoryHost) (rans : List Ran) (stop : Stop) (ran : Ran)
    → AreRun stops host next rans → IsRun stop next after ran
    → AreRun (stops ++ stop ∷ []) host after (rans ++ ran ∷ [])
runs_more [] host next after [] stop ran are is =
    (after, subst (λ (m : MemoryHost). IsRun stop m after ran) are is, refl)
runs_more [] host next after (r ∷ rans) stop ran are is = absurd are
runs_more (s ∷ stops) host next after [] stop ran are is = absurd are
runs_more (s ∷ stops) host next after (r ∷ rans) stop ran (m, first, are) is =
    (m, first, runs_more stops m next after rans stop ran are is)

lead_more : (before : List Config) (rans : List Ran) (between : List Config) (ran : Ran) (after : List Config)
    → LeadOn before rans between → StandFor between (found ran) → IsNext between ran after
    → LeadOn before (rans ++ ran ∷ []) after
lead_more before [] between ran after lead stand next = (
  subst (λ (cs : List Config). StandFor cs (found ran)) lead stand,
  (after, subst (λ (cs : List Config). IsNext cs ran after) lead next, refl),
)
lead_more before (r ∷ rans) between ran after (first, (list, is, lead)) stand next =
    (first, (list, is, lead_more list rans between ran after lead stand next))

-- a command behind others leads on from what these lead to
pub all_lead_more : ReadsAsIs
    → (stop : Stop) (host after : MemoryHost) (rans : List Ran) (ran : Ran) (before : List Config)
    → IsRun stop host after ran
    → ((between : List Config) → AllStandFor between host.state → Leads between ran after.state)
    → AllLead before rans host.state → AllLead before (rans ++ ran ∷ []) after.state
all_lead_more now stop host after rans ran before run leads (between, lead, all) =
    let next = leads between all in
    let finds = all host.state.files (now host.state.pending host.state.files) in (
      next.0,
      lead_more before rans between ran next.0 lead (subst (StandFor between) (sym run.finds) finds) next.1,
      next.2,
    )
