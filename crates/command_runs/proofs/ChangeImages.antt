-- What a crash leaves of a command that does a task: the last acknowledged configuration or the next, by what
-- was printed.
use Rattle.std.proofs.Common.{◌≡◌, ◌≤◌, ◌⊎◌, inl, inr, ⊎_elim, ℕ, suc, List, [], ◌++◌, append_assoc, Ok, refl, sym, ap, ◌∙◌, subst}
use Rattle.std.proofs.lemmas.List.{append_cancel_left}
use Rattle.host_core.specs.Crashes.{Image, Left}
use Rattle.host_core.specs.State.{Files, State}
use Rattle.conf_doc.specs.declared.configuration.Config.{Config}
use Rattle.conf_store.specs.Stored.{stored}
use Rattle.move_core.specs.Plans.{conf}
use Rattle.move_core.specs.declared.moves.Move.{Move}
use Rattle.change_apply.specs.Acknowledgements.{acks}
use Rattle.change_apply.specs.Change.{Change, name_at}
use Rattle.change_apply.specs.Crashes.{StandAt}
use Rattle.gcu_words.specs.Options.{most_budget}
use Rattle.gcu_output.specs.declared.outcomes.Outcome.{Outcome}
use Rattle.gcu_output.specs.declared.outcomes.Outcome.TheVariants.{Done, Memory, InputFault, DiskFault, PrintFault, ServiceFault, Unorderable, Budget}
use Rattle.gcu_inputs.specs.Asking.{Asking}
use Rattle.gcu_words.specs.Tasks.{Task}
use Rattle.gcu_requests.specs.Request as request
use Rattle.gcu_requests.specs.Request.{Request, Work, ctx_of}
use Rattle.gcu_requests.specs.WorkAsked.{change_asked}
use Rattle.command_answers.specs.Answers.{IsDoneOutput, Says}
use Rattle.command_answers.specs.Changing.{IsChangeFor, IsLast, acknowledged as acknowledged_in, begun}
use Rattle.command_answers.specs.Crashes.{IsOutputFront, IsWorkFront, LeftChanged, LeftEarly, LeftOfChange}
use Rattle.writing_commands.proofs.IntentRemovals.{begun_output}
use Rattle.command_runs.specs.Works.{AreAcknowledged, IsWork}
use Rattle.command_runs.proofs.Acknowledgements.{acknowledged_by, cut_acknowledged, printed_acks, quiet_front}
use Rattle.command_runs.proofs.CommitTexts.{KeepsWorlds}
use Rattle.command_runs.proofs.LastLines.{IsPlain, last_is_plain, service_is_plain}
use Rattle.command_runs.proofs.Queries.{IsReady, plain_has_neither, work_ready, work_told}
use Rattle.command_runs.proofs.WorkOutputs.{AreToldBy, cut_work, told_work, unplanned_front}

-- what the files stand for: what one of those from before does where nothing is acknowledged, or the
-- configuration after so many steps or one more
abbrev pub StandAtWork : State → List Move → ℕ → Files → Type 0
StandAtWork s ms k files =
    ((k ≡ 0) × Image s.pending s.files files)
    ⊎ ((start : Config) × (stored s.files ≡ Ok start)
    × ((stored files ≡ Ok (conf start ms k)) ⊎ (stored files ≡ Ok (conf start ms (suc k)))))

-- a command printed this and left these files
abbrev pub IsLeftAtWork : State → List ℕ → Files → Type 0
IsLeftAtWork s output files = (ms : List Move) × (k : ℕ) × IsWork output ms k × StandAtWork s ms k files

same_change : (w v : Work) → request.change w ≡ request.change v → w ≡ v
same_change w v e = let same : w ≡ v = cc in same

-- a work is to be done that may be
change_given : (task : Task) (budget : ℕ) → budget ≤ most_budget → (s : State) (r : Request)
    → (change_asked task budget s).Gives (Ok r)
    → (w : Work) × (request.change w ≡ r) × IsReady w
change_given task budget few s r (inl never) = absurd never
change_given task budget few s r (inr (word, named, inl never)) = absurd never
change_given task budget few s r (inr (word, named, inr (u, settles, inl never))) = absurd never
change_given task budget few s r (inr (word, named, inr (u, settles, inr (w, given, e)))) =
    let same : request.change w ≡ r = cc in (w, same, work_ready word budget few s w given)

change_ready : (task : Task) (budget : ℕ) → budget ≤ most_budget → (s : State) (w : Work)
    → (change_asked task budget s).Gives (Ok (request.change w)) → IsReady w
change_ready task budget few s w given =
    let h = change_given task budget few s (request.change w) given in
    subst IsReady (same_change h.0 w h.1) h.2

-- so is the text behind the acknowledgements
line_is_plain : (c : Change) (began now : State) (e : Outcome) (text : List ℕ) → IsLast c began now e text
    → IsPlain text
line_is_plain c began now Done text h = last_is_plain Done text h.1
line_is_plain c began now (DiskFault step) text h = last_is_plain (DiskFault step) text h.1
line_is_plain c began now (ServiceFault step service) text h = service_is_plain step service h.0.refused.name text h.1
line_is_plain c began now other text never = absurd never

module _ (keeps : KeepsWorlds) (task : Task) (budget : ℕ) (few : budget ≤ most_budget) (s : State) (output : List ℕ)
  where
    abbrev asking : Asking Request
    asking = change_asked task budget s

    -- what is said of a change begins with neither a plan nor what operators are told
    said_is_plain : (now : State) (e : Outcome) (text : List ℕ) → Says asking s now e text → IsPlain text
    said_is_plain now Done text (r, given, leaves, out) =
        let h = change_given task budget few s r given in
        last_is_plain Done text (subst (λ (q : Request). IsDoneOutput q text) (sym h.1) out)
    said_is_plain now Memory text h = last_is_plain Memory text h.1
    said_is_plain now InputFault text h = last_is_plain InputFault text h.2
    said_is_plain now (DiskFault step) text h = last_is_plain (DiskFault step) text h.2
    said_is_plain now (PrintFault step) text never = absurd never
    said_is_plain now (ServiceFault step service) text (w, given, halted, is) =
        service_is_plain step service (name_at (ctx_of w).settings service) text is
    said_is_plain now Unorderable text h = last_is_plain Unorderable text h.2
    said_is_plain now (Budget n) text h = last_is_plain (Budget n) text h.2
    said_is_plain now other text h = last_is_plain other text h.2

    -- the text before a change tells its moves
    change_told : (w : Work) (c : Change) (text : List ℕ) → asking.Gives (Ok (request.change w)) → IsChangeFor w s c text
        → AreToldBy c.moves text
    change_told w c text given is = work_told keeps w c.moves text (change_ready task budget few s w given) is.work

    -- ---- nothing is begun

    first_work : (part : List ℕ) → IsOutputFront asking s part ⊎ IsWorkFront asking s part
        → (ms : List Move) × IsWork part ms 0
    first_work part (inl (now, answer, rest, says, same)) =
        ([], unplanned_front part rest (plain_has_neither (part ++ rest) (said_is_plain now answer (part ++ rest) says)))
    first_work part (inr (w, c, text, rest, given, is, e)) =
        cut_work c.moves text part rest (change_told w c text given is) e

    early : (left : Left) → left.output ≡ s.output ++ output → LeftEarly asking s left → IsLeftAtWork s output left.files
    early left printed_is (part, front, may) =
        let same : part ≡ output = append_cancel_left s.output part output (sym may.output ∙ printed_is) in
        let work = first_work part front in
        (work.0, 0, subst (λ (t : List ℕ). IsWork t work.0 0) same work.1, inl (refl, may.files))

    -- ---- a change

    -- behind the text before it
    behind : (text more : List ℕ) → (begun text s).output ++ more ≡ s.output ++ output → output ≡ text ++ more
    behind text more e =
        sym (append_cancel_left s.output (text ++ more) output (sym (append_assoc s.output text more) ∙ e))

    at_work : (w : Work) (c : Change) (text : List ℕ) (k : ℕ) (more : List ℕ) (files : Files)
        → asking.Gives (Ok (request.change w)) → IsChangeFor w s c text
        → AreAcknowledged k more → (begun text s).output ++ more ≡ s.output ++ output → StandAt c k files
        → IsLeftAtWork s output files
    at_work w c text k more files given is acknowledged e stand = (
      c.moves,
      k,
      told_work c.moves text more output k (change_told w c text given is) (behind text more e) acknowledged,
      inr (c.stored.config, is.stands.config, ⊎_elim (λ h. inl h) (λ next. inr next.stands) stand),
    )

    changed : (w : Work) (c : Change) (text : List ℕ) (left : Left) → asking.Gives (Ok (request.change w))
        → IsChangeFor w s c text
        → left.output ≡ s.output ++ output → LeftChanged c (begun text s) left → IsLeftAtWork s output left.files
    changed w c text left given is printed_is (answered, began, a, b, inl h) =
        at_work w c text h.done (acks h.done ++ h.output.part) left.files given is
        (cut_acknowledged h.done h.output.part h.output.rest h.output.line h.output.cut)
        (sym (ap (λ (o : List ℕ). o ++ (acks h.done ++ h.output.part)) (begun_output c (begun text s) began b))
        ∙ sym (append_assoc began.output (acks h.done) h.output.part) ∙ sym h.output.printed ∙ printed_is) h.stands
    changed w c text left given is printed_is (answered, began, a, b, inr h) =
        let done = acknowledged_in c h.answer in
        let line = line_is_plain c answered h.now h.answer (h.part ++ h.rest) h.line in
        let same : h.is.done ≡ done = printed_acks h.is.done done began.output h.is.output in
        at_work w c text done (acks done ++ h.part) left.files given is
        (acknowledged_by done h.part (quiet_front h.part h.rest line.0))
        (sym (ap (λ (o : List ℕ). o ++ (acks done ++ h.part)) (begun_output c (begun text s) began b))
        ∙ sym (append_assoc began.output (acks done) h.part) ∙ sym h.output ∙ printed_is)
        (subst (λ (k : ℕ). StandAt c k left.files) same h.is.stands)

    -- whatever is left of such a command
    pub left_at_work : (left : Left) → left.output ≡ s.output ++ output → LeftOfChange asking s left
        → IsLeftAtWork s output left.files
    left_at_work left printed_is (inl h) = early left printed_is h
    left_at_work left printed_is (inr (w, c, text, given, is, h, points_are)) =
        changed w c text left given is printed_is h
