-- The stages of one step: its file is put, its services are restarted, it is acknowledged.
use Rattle.std.proofs.Common.{◌≡◌, ◌<◌, ◌≤◌, inl, inr, ℕ, zero, suc, ◌+◌, List, [], ◌∷◌, ◌++◌, length, take, drop, get_or, Option, Some, None, option_map, refl, sym, ap, ◌∙◌, subst, arith, append-nil, append_assoc, drop-cons}
use Rattle.std.specs.Prelude.{IfSome, flat_map, slice_get}
use Rattle.std.specs.FinMap.{get}
use Rattle.std.proofs.lemmas.List.{map_more, take-append-drop, take_all}
use Rattle.host_core.specs.Crashes.{Left, LeavesOnly, MayLeave, MayLeaveInPrint, MayLeaveNow, Image}
use Rattle.host_core.specs.State.{Files, PrintsPart, State, after_restart, printed, settled}
use Rattle.conf_store.specs.Changes.{AreLeft, Changes, IsSettled, Settles}
use Rattle.conf_store.specs.Files.{config_file, intent_file, last_step, step_name}
use Rattle.conf_store.specs.Steps.{CanStep, IsStep, IsStepPut, IsStepPutOrNot}
use Rattle.conf_store.specs.Stored.{stored}
use Rattle.move_core.specs.declared.moves.Move.{Move}
use Rattle.change_apply.specs.Acknowledgements.{HasAcknowledged, ack, acks}
use Rattle.change_apply.specs.Change.{Change, conf_at, names, restarted, restarts_at, step_text, steps}
use Rattle.change_apply.specs.Crashes.{HasNext, HasSmallSteps, IsLeft}
use Rattle.change_apply.specs.Ends.{Stops, worked}
use Rattle.change_apply.specs.Stages.{AreSteps, AtPut, AtStage, AtStep}
use Rattle.change_apply.specs.declared.errors.ApplyFault.TheVariants.{Disk, Service, Print}
use Rattle.change_apply.specs.declared.ready.Restart.{Restart}
use Rattle.change_apply.proofs.KeptIntents.{held}
use Rattle.change_apply.proofs.Moments.{LeavesOf, changes}
use Rattle.change_apply.proofs.StepFiles.{either_intent, either_kept, either_others, either_small, either_stands, may_step, one_more}

-- ---- what is told at a stage

module _ (change : Change) where
  pub settled_at : (put : ℕ) (services : List (List ℕ)) (acked : ℕ) (o n : Option State) → AtStage change put services acked o n → IfSome n IsSettled
  settled_at put services acked None n at = subst (λ m. IfSome m IsSettled) (sym at) tt
  settled_at put services acked (Some s) n at = subst (λ m. IfSome m IsSettled) (sym at.1) refl

  pub files_at : (put : ℕ) (services : List (List ℕ)) (acked : ℕ) (Q : Files → Type 0)
      → ((before f : Files) → AreSteps change put before f → Q f) → (o n : Option State) → AtStage change put services acked o n → IfSome n (λ t. Q t.files)
  files_at put services acked Q gives None n at = subst (λ m. IfSome m (λ t. Q t.files)) (sym at) tt
  files_at put services acked Q gives (Some s) n at = subst (λ m. IfSome m (λ t. Q t.files)) (sym at.1) (gives s.files at.0 at.2)

  -- the same with other words for what was restarted
  pub same_services : (put acked : ℕ) (services others : List (List ℕ)) → services ≡ others → (o n : Option State)
      → AtStage change put services acked o n → AtStage change put others acked o n
  same_services put acked services others e o n at = subst (λ names. AtStage change put names acked o n) e at

-- ---- what a crash leaves

pub not_empty : (k : ℕ) → ack k ≡ [] → ⊥
not_empty k e = cc

-- no part of the next acknowledgement is there
abbrev pub quiet : (k : ℕ) (before after : List ℕ) → after ≡ before ++ acks k → HasAcknowledged k before after
quiet k before after e = record {
  part = [];
  rest = ack (suc k);
  line = refl;
  cut = not_empty (suc k);
  printed = e ∙ sym (append-nil (before ++ acks k));
}

-- with nothing pending the files are as they read
pub left_files : (s : State) (left : Left) → s.pending ≡ settled → MayLeave s left → left.files ≡ s.files
left_files s left clean may = subst (λ p. Image p s.files left.files) clean may.files

-- between two steps
pub left_at_step : (change : Change) (k : ℕ) → k ≤ steps change → (o n : Option State) → AtStep change k o n → (left : Left) → MayLeaveNow n left
    → IfSome o (λ s. IsLeft change s left)
left_at_step change k within None n at left may = tt
left_at_step change k within (Some s) n at left may =
    let here : MayLeave (worked at.0 k (restarted change k) s) left = subst (λ m. MayLeaveNow m left) at.1 may in
    let same : left.files ≡ at.0 = left_files (worked at.0 k (restarted change k) s) left refl here in
    record {
      done = k;
      within = within;
      output = quiet k s.output left.output here.output;
      unfinished = λ some. absurd (some refl);
      stands = inl (ap stored same ∙ at.2.stands);
      started = [];
      due = restarts_at change k;
      next = refl;
      restarts = here.restarts ∙ sym (append-nil (s.restarts ++ restarted change k));
      in_order = inl refl;
      others = λ q other apart. ap (λ (g : Files). get g q) same ∙ at.2.others q other apart;
      intent = held change k s.files left.files (ap (λ (g : Files). get g intent_file) same ∙ at.2.intent);
      small = λ one less. subst (HasSmallSteps change k) (sym same) at.2.small;
      kept = λ less nothing. ap (λ (g : Files). get g config_file) same ∙ at.2.kept nothing;
    }

-- one step fewer is there too
one_fewer : (change : Change) (k : ℕ) (f : Files) → HasSmallSteps change (suc k) f → HasSmallSteps change k f
one_fewer change k f small = record {
  bytes = small.bytes;
  config = small.config;
  holds = small.holds;
  steps = λ i m low is. small.steps i m (omega (arith, low)) is;
  unfolded = small.unfolded;
}

-- the services of one step more
more_restarted : (all : List (List Restart)) (k : ℕ) → flat_map names (take (suc k) all) ≡ flat_map names (take k all) ++ names (get_or all k [])
more_restarted [] zero = refl
more_restarted [] (suc k) = refl
more_restarted (r ∷ all) zero = append-nil (names r)
more_restarted (r ∷ all) (suc k) = ap (λ (l : List (List ℕ)). names r ++ l) (more_restarted all k) ∙ sym (append_assoc (names r) (flat_map names (take k all)) (names (get_or all k [])))

-- ---- the step that is due

-- the step behind the first k does this move
pub record IsDue (change : Change) (k : ℕ) (m : Move) : Type 0 where
  pub is : slice_get change.moves k ≡ Some m
  pub within : k < steps change
  pub few : suc k ≤ last_step
  pub leads : IsStep (step_text m) (conf_at change k) (conf_at change (suc k))

module _ (change : Change) (k : ℕ) (m : Move) (due : IsDue change k m) where
  abbrev name : List ℕ
  name = step_name (suc k)

  abbrev text : List ℕ
  text = step_text m

  pub can_put : (o p : Option State) → AtStep change k o p → IfSome p (λ s. CanStep name text s.files)
  can_put o p at = files_at change k (restarted change k) k (CanStep name text) (λ before f are. may_step change k before f are m due.is due.few due.leads due.within) o p at

  put_any : (before f g : Files) → AreSteps change k before f → IsStepPut name text f g → AreSteps change (suc k) before g
  put_any before f g are by =
      subst (AreSteps change (suc k) before) (sym by.files) (one_more change k before f are m due.is due.few due.leads (subst (IsStepPut name text f) by.files by))

  -- it is put
  pub puts : (o p n : Option State) → AtStep change k o p → Settles (IsStepPut name text) p n → AtPut change k 0 o n
  puts None p n at ends = subst (λ q. Settles (IsStepPut name text) q n) at ends
  puts (Some s) p n at ends =
      let later : Settles (IsStepPut name text) (Some (worked at.0 k (restarted change k) s)) n = subst (λ q. Settles (IsStepPut name text) q n) at.1 ends in (
        later.0,
        later.1 ∙ ap (λ (names : List (List ℕ)). Some (worked later.0 k names s)) (sym (append-nil (restarted change k))),
        put_any s.files at.0 later.0 at.2 later.2,
      )

  -- it can't be put
  pub put_stops : (o p n : Option State) → AtStep change k o p → Changes (IsStepPutOrNot name text) p n → Stops change (Disk k) o n
  put_stops None p n at ends = subst (λ q. Changes (IsStepPutOrNot name text) q n) at ends
  put_stops (Some s) p n at ends =
      let later : Changes (IsStepPutOrNot name text) (Some (worked at.0 k (restarted change k) s)) n = subst (λ q. Changes (IsStepPutOrNot name text) q n) at.1 ends in
      let leads = later.2 in (
        later.0,
        later.1,
        record {
          within = omega (arith, due.within);
          inputs = leads.inputs;
          output = leads.output ∙ sym (append-nil (s.output ++ acks k));
          restarts = leads.restarts ∙ sym (append-nil (s.restarts ++ restarted change k));
          stands = either_stands change k s.files at.0 at.2 m due.is due.few due.leads due.within later.0.files leads.reads;
          intent = held change k s.files later.0.files (either_intent change k s.files at.0 at.2 m due.is due.few due.leads later.0.files leads.reads);
          others = either_others change k s.files at.0 at.2 m due.is due.few due.leads later.0.files leads.reads;
          kept = λ less. either_kept change k s.files at.0 at.2 m due.is due.few due.leads later.0.files leads.reads;
        },
      )

  left_putting : (s : State) (f : Files) → AreSteps change k s.files f → (left : Left)
      → AreLeft (IsStepPutOrNot name text) (worked f k (restarted change k) s) left → IsLeft change s left
  left_putting s f are left left_so = record {
    done = k;
    within = omega (arith, due.within);
    output = quiet k s.output left.output left_so.output;
    unfinished = λ some. absurd (some refl);
    stands = either_stands change k s.files f are m due.is due.few due.leads due.within left.files left_so.files;
    started = [];
    due = restarts_at change k;
    next = refl;
    restarts = left_so.restarts ∙ sym (append-nil (s.restarts ++ restarted change k));
    in_order = inl refl;
    others = either_others change k s.files f are m due.is due.few due.leads left.files left_so.files;
    intent = held change k s.files left.files (either_intent change k s.files f are m due.is due.few due.leads left.files left_so.files);
    small = λ one less. either_small change k s.files f are m due.is due.few due.leads left.files left_so.files;
    kept = λ less. either_kept change k s.files f are m due.is due.few due.leads left.files left_so.files;
  }

  module _ {H : Type 0} (moment : H → ℕ) (left_since : H → ℕ → Left → Type 0) where
    pub putting : (o p : Option State) (old new : H) → AtStep change k o p
        → IfSome p (λ s. LeavesOnly moment left_since old new (AreLeft (IsStepPutOrNot name text) s)) → LeavesOf moment left_since change o old new
    putting None p old new at run = tt
    putting (Some s) p old new at run =
        changes moment left_since change (IsStepPutOrNot name text) s (worked at.0 k (restarted change k) s) old new (left_putting s at.0 at.2) p at.1 run

  -- ---- its services

  -- it is put
  next_put : (s : State) (f : Files) → AreSteps change (suc k) s.files f → HasNext change k f
  next_put s f are = record { within = due.within; stands = are.stands; small = are.small; intent = are.intent }

  left_put : (s : State) (f : Files) → AreSteps change (suc k) s.files f → (g : Files) → g ≡ f → HasNext change k g
  left_put s f are g same = subst (HasNext change k) (sym same) (next_put s f are)

  abbrev rs : List Restart
  rs = restarts_at change k

  -- what a crash leaves between two restarts
  left_restarting : (i : ℕ) (s : State) (f : Files) → AreSteps change (suc k) s.files f → (left : Left)
      → MayLeave (worked f k (restarted change k ++ names (take i rs)) s) left → IsLeft change s left
  left_restarting i s f are left may =
      let same : left.files ≡ f = left_files (worked f k (restarted change k ++ names (take i rs)) s) left refl may in
      record {
        done = k;
        within = omega (arith, due.within);
        output = quiet k s.output left.output may.output;
        unfinished = λ some. absurd (some refl);
        stands = inr (left_put s f are left.files same);
        started = take i rs;
        due = drop i rs;
        next = sym (take-append-drop i rs);
        restarts = may.restarts ∙ sym (append_assoc s.restarts (restarted change k) (names (take i rs)));
        in_order = inr (left_put s f are left.files same);
        others = λ q other apart. ap (λ (g : Files). get g q) same ∙ are.others q other apart;
        intent = held change k s.files left.files (ap (λ (g : Files). get g intent_file) same ∙ are.intent);
        small = λ one less. subst (HasSmallSteps change k) (sym same) (one_fewer change k f are.small);
        kept = λ less nothing. ap (λ (g : Files). get g config_file) same ∙ are.kept nothing;
      }

  pub left_at_put : (i : ℕ) (o n : Option State) → AtPut change k i o n → (left : Left) → MayLeaveNow n left → IfSome o (λ s. IsLeft change s left)
  left_at_put i None n at left may = tt
  left_at_put i (Some s) n at left may = left_restarting i s at.0 at.2 left (subst (λ m. MayLeaveNow m left) at.1 may)

  module _ (i : ℕ) (r : Restart) (low : i < length rs) (is : r ≡ get_or rs i r) where
    one_up : suc i ≡ i + 1
    one_up = omega arith

    more_names : names (take (suc i) rs) ≡ names (take i rs) ++ r.name ∷ []
    more_names = ap (λ (j : ℕ). names (take j rs)) one_up ∙ map_more (λ (x : Restart). x.name) rs i r low ∙ ap (λ (x : Restart). names (take i rs) ++ x.name ∷ []) (sym is)

    -- one is requested
    pub restarts_more : (o p n : Option State) → AtPut change k i o p → n ≡ option_map (after_restart r.name) p → AtPut change k (suc i) o n
    restarts_more None p n at e = e ∙ ap (option_map (after_restart r.name)) at
    restarts_more (Some s) p n at e = (
      at.0,
      e ∙ ap (option_map (after_restart r.name)) at.1 ∙ ap (λ (l : List (List ℕ)). Some (record (worked at.0 k [] s) { restarts = l })) regrouped,
      at.2,
    )
      where
        regrouped : (s.restarts ++ (restarted change k ++ names (take i rs))) ++ r.name ∷ [] ≡ s.restarts ++ (restarted change k ++ names (take (suc i) rs))
        regrouped =
            append_assoc s.restarts (restarted change k ++ names (take i rs)) (r.name ∷ [])
            ∙ ap (λ (l : List (List ℕ)). s.restarts ++ l) (append_assoc (restarted change k) (names (take i rs)) (r.name ∷ []) ∙ ap (λ (l : List (List ℕ)). restarted change k ++ l) (sym more_names))

    -- it isn't
    pub restart_stops : (o p n : Option State) → AtPut change k i o p → n ≡ p → Stops change (Service k r.service) o n
    restart_stops None p n at e = e ∙ at
    restart_stops (Some s) p n at e = (
      worked at.0 k (restarted change k ++ names (take i rs)) s,
      e ∙ at.1,
      record {
        started = take i rs;
        refused = r;
        due = drop (suc i) rs;
        next = sym (take-append-drop i rs) ∙ ap (λ (l : List Restart). take i rs ++ l) (drop_here rs i low is);
        named = refl;
        stopped = record {
          within = omega (arith, due.within);
          inputs = refl;
          output = sym (append-nil (s.output ++ acks k));
          restarts = sym (append_assoc s.restarts (restarted change k) (names (take i rs)));
          stands = inr (next_put s at.0 at.2);
          intent = held change k s.files at.0 at.2.intent;
          others = at.2.others;
          kept = λ less. at.2.kept;
        };
        put = next_put s at.0 at.2;
      },
    )
      where
        drop_here : (xs : List Restart) (i : ℕ) → i < length xs → r ≡ get_or xs i r → drop i xs ≡ r ∷ drop (suc i) xs
        drop_here xs i low is = drop-cons xs i r low ∙ ap (λ (x : Restart). x ∷ drop (suc i) xs) (sym is)

  -- ---- its acknowledgement

  all_restarted : restarted change k ++ names (take (length rs) rs) ≡ restarted change (suc k)
  all_restarted =
      ap (λ (l : List Restart). restarted change k ++ names l) (take_all (length rs) rs (omega arith)) ∙ sym (more_restarted change.restarts k)

  -- it is printed
  pub acknowledged : (o p n : Option State) → AtPut change k (length rs) o p → n ≡ option_map (printed (ack (suc k))) p → AtStep change (suc k) o n
  acknowledged None p n at e = e ∙ ap (option_map (printed (ack (suc k)))) at
  acknowledged (Some s) p n at e = (
    at.0,
    e ∙ ap (option_map (printed (ack (suc k)))) at.1
        ∙ (λ i. Some (record s { files = at.0; pending = settled; output = append_assoc s.output (acks k) (ack (suc k)) i; restarts = s.restarts ++ all_restarted i })),
    at.2,
  )

  -- it isn't, or a part of it alone
  pub print_stops : (o p n : Option State) → AtPut change k (length rs) o p → PrintsPart (ack (suc k)) p n → Stops change (Print k) o n
  print_stops None p n at (part, rest, line, e) = e ∙ ap (option_map (printed part)) at
  print_stops (Some s) p n at (part, rest, line, e) = (
    record (worked at.0 k (restarted change k ++ names (take (length rs) rs)) s) { output = (s.output ++ acks k) ++ part },
    e ∙ ap (option_map (printed part)) at.1,
    record {
      part = part;
      rest = rest;
      line = line;
      stopped = record {
        within = omega (arith, due.within);
        inputs = refl;
        output = refl;
        restarts =
            sym (append_assoc s.restarts (restarted change k) (names (take (length rs) rs)))
            ∙ ap (λ (l : List Restart). s.restarts ++ restarted change k ++ names l) (take_all (length rs) rs (omega arith));
        stands = inr (next_put s at.0 at.2);
        intent = held change k s.files at.0 at.2.intent;
        others = at.2.others;
        kept = λ less. at.2.kept;
      };
      put = next_put s at.0 at.2;
    },
  )

  -- what a crash leaves while it is printed
  left_printing : (part rest : List ℕ) → ack (suc k) ≡ part ++ rest → (s : State) (f : Files) → AreSteps change (suc k) s.files f → (left : Left)
      → left.files ≡ f → left.output ≡ (s.output ++ acks k) ++ part → left.restarts ≡ s.restarts ++ (restarted change k ++ names (take (length rs) rs)) → IsLeft change s left
  left_printing part [] line s f are left same output restarts = record {
    done = suc k;
    within = omega (arith, due.within);
    output = quiet (suc k) s.output left.output (output ∙ append_assoc s.output (acks k) part ∙ ap (λ (l : List ℕ). s.output ++ (acks k ++ l)) (sym (line ∙ append-nil part)));
    unfinished = λ some. absurd (some refl);
    stands = inl (ap stored same ∙ are.stands);
    started = [];
    due = restarts_at change (suc k);
    next = refl;
    restarts = restarts ∙ ap (λ (l : List (List ℕ)). s.restarts ++ l) all_restarted ∙ sym (append-nil (s.restarts ++ restarted change (suc k)));
    in_order = inl refl;
    others = λ q other apart. ap (λ (g : Files). get g q) same ∙ are.others q other apart;
    intent = held change (suc k) s.files left.files (ap (λ (g : Files). get g intent_file) same ∙ are.intent);
    small = λ one less. subst (HasSmallSteps change (suc k)) (sym same) are.small;
    kept = λ less nothing. ap (λ (g : Files). get g config_file) same ∙ are.kept nothing;
  }
  left_printing part (x ∷ rest) line s f are left same output restarts = record {
    done = k;
    within = omega (arith, due.within);
    output = record {
      part = part;
      rest = x ∷ rest;
      line = line;
      cut = some_left x rest;
      printed = output;
    };
    unfinished = λ some. left_put s f are left.files same;
    stands = inr (left_put s f are left.files same);
    started = rs;
    due = [];
    next = sym (append-nil rs);
    restarts =
        restarts ∙ sym (append_assoc s.restarts (restarted change k) (names (take (length rs) rs)))
        ∙ ap (λ (l : List Restart). s.restarts ++ restarted change k ++ names l) (take_all (length rs) rs (omega arith));
    in_order = inr (left_put s f are left.files same);
    others = λ q other apart. ap (λ (g : Files). get g q) same ∙ are.others q other apart;
    intent = held change k s.files left.files (ap (λ (g : Files). get g intent_file) same ∙ are.intent);
    small = λ one less. subst (HasSmallSteps change k) (sym same) (one_fewer change k f are.small);
    kept = λ less nothing. ap (λ (g : Files). get g config_file) same ∙ are.kept nothing;
  }
    where
      some_left : (x : ℕ) (rest : List ℕ) → x ∷ rest ≡ [] → ⊥
      some_left x rest e = cc

  pub left_in_print : (o p : Option State) → AtPut change k (length rs) o p → (left : Left) → MayLeaveInPrint (ack (suc k)) p left → IfSome o (λ s. IsLeft change s left)
  left_in_print None p at left may = tt
  left_in_print (Some s) p at left (part, rest, line, may) =
      let t : State = record (worked at.0 k (restarted change k ++ names (take (length rs) rs)) s) { output = (s.output ++ acks k) ++ part } in
      let here : MayLeave t left = subst (λ m. MayLeaveNow m left) (ap (option_map (printed part)) at.1) may in
      left_printing part rest line s at.0 at.2 left (left_files t left refl here) here.output here.restarts
