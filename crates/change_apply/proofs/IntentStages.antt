-- The file `intent` during a change: put before all else, and taken away behind all else.
use Rattle.std.proofs.Common.{◌≡◌, ◌<◌, ◌⊎◌, inl, inr, ⊎_elim, ℕ, true, false, List, [], ◌++◌, Option, Some, None, Ok, option_map, refl, sym, ap, ◌∙◌, subst, arith, append-nil}
use Rattle.std.specs.Prelude.{IfSome, IsSome, is_some}
use Rattle.std.specs.FinMap.{get}
use Rattle.host_core.specs.Crashes.{Left, LeavesOnly, MayLeave, MayLeaveNow}
use Rattle.host_core.specs.State.{CanMove, Files, State, settled, with_file}
use Rattle.conf_doc.specs.Texts.{file_text}
use Rattle.conf_store.specs.Changes.{AreLeft, Changes, IsSettled, Settles}
use Rattle.conf_store.specs.Files.{config_file, folded_file, intent_file, is_step_name, scratch, step_name}
use Rattle.conf_store.specs.Folds.{StandsFor}
use Rattle.conf_store.specs.Puts.{IsPutOrNot, IsSame, after_put, put}
use Rattle.conf_store.specs.Stored.{stored}
use Rattle.conf_store.proofs.Entries.{same_steps}
use Rattle.conf_store.proofs.FileMaps.{get_other, get_there, gone_twice}
use Rattle.conf_store.proofs.FoldResults.{config_not_scratch, folded_not_scratch, same_stored, seen, step_not_scratch}
use Rattle.change_apply.specs.Acknowledgements.{acks}
use Rattle.change_apply.specs.Change.{Change, conf_at, goal, restarted, restarts_at, steps}
use Rattle.change_apply.specs.Crashes.{IsLeft, KeepsOthers}
use Rattle.change_apply.specs.Ends.{Finishes, IsApplied, Stops, worked}
use Rattle.change_apply.specs.Intents.{HoldsGoal, IsClosed, IsClosedOrNot, IsOver}
use Rattle.change_apply.specs.Stages.{AreAllFolded, AtBeginning, AtFolded, AtIntent, IsIntended}
use Rattle.change_apply.specs.declared.errors.ApplyFault.TheVariants.{Disk}
use Rattle.change_apply.proofs.IntentNames.{config_not_intent, folded_not_intent, intent_not_scratch, no_step_intent}
use Rattle.change_apply.proofs.KeptIntents.{kept_at_end, kept_at_start}
use Rattle.change_apply.proofs.Moments.{LeavesOf, changes}
use Rattle.change_apply.proofs.StepFiles.{at_start}
use Rattle.change_apply.proofs.StepStages.{left_files, quiet}

-- ---- it is put

-- all files but these two are as before
abbrev AreAlike : Files → Files → Type 0
AreAlike f g = (q : List ℕ) → (q ≡ scratch → ⊥) → (q ≡ intent_file → ⊥) → get g q ≡ get f q

same_configuration : (f g : Files) → AreAlike f g → stored g ≡ stored f
same_configuration f g alike =
    same_stored f g (alike folded_file folded_not_scratch folded_not_intent) (alike config_file config_not_scratch config_not_intent)
    (λ n. alike (step_name n) (step_not_scratch n) (no_step_intent n))

put_alike : (text : List ℕ) (f g : Files) → IsPutOrNot intent_file text f g → AreAlike f g
put_alike text f g either q hidden apart =
    ⊎_elim (λ same. seen f g same q hidden)
    (λ same. seen (with_file intent_file (Some text) f) g same q hidden ∙ get_other intent_file (Some text) f q apart) either

put_intent : (text : List ℕ) (f g : Files) → IsPutOrNot intent_file text f g → IsSame f g ⊎ (get g intent_file ≡ Some text)
put_intent text f g either =
    ⊎_elim (λ same. inl same)
    (λ same. inr (seen (with_file intent_file (Some text) f) g same intent_file intent_not_scratch ∙ get_there intent_file (Some text) f)) either

still_stands : (change : Change) (f g : Files) → AreAlike f g → StandsFor change.stored f → StandsFor change.stored g
still_stands change f g alike stands = record {
  config = same_configuration f g alike ∙ stands.config;
  steps = same_steps g f (λ q a_step. alike q (apart_from scratch refl q a_step) (apart_from intent_file refl q a_step)) ∙ stands.steps;
  folded = ap (λ (o : Option (List ℕ)). is_some o) (alike folded_file folded_not_scratch folded_not_intent) ∙ stands.folded;
}
  where
    apart_from : (name : List ℕ) → is_step_name name ≡ false → (q : List ℕ) → is_step_name q ≡ true → q ≡ name → ⊥
    apart_from name isnt q a_step e = let both : true ≡ false = sym a_step ∙ ap is_step_name e ∙ isnt in cc

module _ (change : Change) where
  abbrev text : List ℕ
  text = file_text (goal change)

  start_stands : (s : State) → StandsFor change.stored s.files → stored s.files ≡ Ok (conf_at change 0)
  start_stands s stands = stands.config ∙ at_start change

  -- ---- before all else

  pub at_beginning : (o : Option State) → IfSome o IsSettled → IfSome o (λ s. StandsFor change.stored s.files) → AtBeginning change o o
  at_beginning None clean stands = refl
  at_beginning (Some s) clean stands = (refl, clean, stands)

  pub clean_at : (o n : Option State) → AtBeginning change o n → IfSome n IsSettled
  clean_at None n at = subst (λ m. IfSome m IsSettled) (sym at) tt
  clean_at (Some s) n at = subst (λ m. IfSome m IsSettled) (sym at.0) at.1

  -- what is left while it is put
  first_leaves : (s : State) → StandsFor change.stored s.files → (left : Left) → AreLeft (IsPutOrNot intent_file text) s left → IsLeft change s left
  first_leaves s stands left so =
      let alike = put_alike text s.files left.files so.files in
      let same = same_configuration s.files left.files alike ∙ start_stands s stands in
      record {
        done = 0;
        within = omega arith;
        output = quiet 0 s.output left.output (so.output ∙ sym (append-nil s.output));
        unfinished = λ some. absurd (some refl);
        stands = inl same;
        started = [];
        due = restarts_at change 0;
        next = refl;
        restarts = so.restarts ∙ sym (append-nil s.restarts) ∙ sym (append-nil (s.restarts ++ restarted change 0));
        in_order = inl refl;
        others = λ q other apart. alike q other.not_scratch apart;
        intent = kept_at_start change s.files left.files same (put_intent text s.files left.files so.files);
        small = λ one less. absurd (omega (arith, one));
        kept = λ less nothing. alike config_file config_not_scratch config_not_intent;
      }

  -- before anything is done
  pub left_at_beginning : (o n : Option State) → AtBeginning change o n → (left : Left) → MayLeaveNow n left → IfSome o (λ s. IsLeft change s left)
  left_at_beginning None n at left may = tt
  left_at_beginning (Some s) n at left may =
      let here : MayLeave s left = subst (λ m. MayLeaveNow m left) at.0 may in
      let same : left.files ≡ s.files = left_files s left at.1 here in
      first_leaves s at.2 left (record { files = inl (ap (with_file scratch None) same); output = here.output; restarts = here.restarts })

  intended_files : (f : Files) → StandsFor change.stored f → (g : Files) → g ≡ put intent_file text f → IsIntended change f g
  intended_files f stands g e =
      let alike : AreAlike f g = put_alike text f g (inr (ap (with_file scratch None) e ∙ gone_twice scratch intent_file (Some text) f)) in
      record {
        stood = stands;
        stands = still_stands change f g alike stands;
        config = alike config_file config_not_scratch config_not_intent;
        intent = ap (λ (m : Files). get m intent_file) e ∙ get_there intent_file (Some text) (with_file scratch None f);
        others = λ q other apart. alike q other.not_scratch apart;
      }

  -- what is put with the bytes of the goal
  module _ (bytes : List ℕ) (is : bytes ≡ text) where
    pub intended : (o p n : Option State) → AtBeginning change o p → n ≡ option_map (after_put intent_file bytes) p → AtIntent change o n
    intended None p n at ends = ends ∙ ap (option_map (after_put intent_file bytes)) at
    intended (Some s) p n at ends =
        let files : Files = put intent_file bytes s.files in (
          files,
          ends ∙ ap (option_map (after_put intent_file bytes)) at.0
              ∙ (λ i. Some (record s { files = files; pending = settled; output = sym (append-nil s.output) i; restarts = sym (append-nil s.restarts) i })),
          intended_files s.files at.2 files (ap (λ (b : List ℕ). put intent_file b s.files) is),
        )

    pub intent_stops : (o p n : Option State) → AtBeginning change o p → Changes (IsPutOrNot intent_file bytes) p n → Stops change (Disk 0) o n
    intent_stops None p n at ends = subst (λ q. Changes (IsPutOrNot intent_file bytes) q n) at ends
    intent_stops (Some s) p n at ends =
        let later : Changes (IsPutOrNot intent_file bytes) (Some s) n = subst (λ q. Changes (IsPutOrNot intent_file bytes) q n) at.0 ends in
        let leads = later.2 in
        let reads : IsPutOrNot intent_file text s.files later.0.files = subst (λ (b : List ℕ). IsPutOrNot intent_file b s.files later.0.files) is leads.reads in
        let alike = put_alike text s.files later.0.files reads in
        let same = same_configuration s.files later.0.files alike ∙ start_stands s at.2 in (
          later.0,
          later.1,
          record {
            within = omega arith;
            inputs = leads.inputs;
            output = leads.output ∙ sym (append-nil s.output) ∙ sym (append-nil (s.output ++ acks 0));
            restarts = leads.restarts ∙ sym (append-nil s.restarts) ∙ sym (append-nil (s.restarts ++ restarted change 0));
            stands = inl same;
            intent = kept_at_start change s.files later.0.files same (put_intent text s.files later.0.files reads);
            others = λ q other apart. alike q other.not_scratch apart;
            kept = λ less nothing. alike config_file config_not_scratch config_not_intent;
          },
        )

    pub intending : {H : Type 0} (moment : H → ℕ) (left_since : H → ℕ → Left → Type 0) (o p : Option State) (old new : H) → AtBeginning change o p
        → IfSome p (λ s. LeavesOnly moment left_since old new (AreLeft (IsPutOrNot intent_file bytes) s)) → LeavesOf moment left_since change o old new
    intending moment left_since None p old new at run = tt
    intending moment left_since (Some s) p old new at run =
        changes moment left_since change (IsPutOrNot intent_file bytes) s s old new
        (λ left so. first_leaves s at.2 left (subst (λ (b : List ℕ). AreLeft (IsPutOrNot intent_file b) s left) is so)) p at.0 run

  -- ---- a change without steps

  begun : (s : State) → IsSettled s → s ≡ worked s.files 0 (restarted change 0) s
  begun s clean = λ i. record s { pending = clean i; output = sym (append-nil s.output) i; restarts = sym (append-nil s.restarts) i }

  pub nothing_to_do : steps change ≡ 0 → (o : Option State) → IfSome o IsSettled → IfSome o (λ s. StandsFor change.stored s.files) → Finishes change o o
  nothing_to_do none None clean stands = refl
  nothing_to_do none (Some s) clean stands = (
    s.files,
    ap (λ (t : State). Some t) (begun s clean) ∙ sym (ap (λ k. Some (worked s.files k (restarted change k) s)) none),
    record {
      stands = subst (λ k. stored s.files ≡ Ok (conf_at change k)) (sym none) (start_stands s stands);
      none = λ e. refl;
      some = λ less. absurd (omega (arith, less, none));
    },
  )

-- ---- it is taken away

module _ (change : Change) where
  -- the state in which it is
  abbrev at_close : Files → State → State
  at_close f s = worked f (steps change) (restarted change (steps change)) s

  pub may_close : (o p : Option State) → AtFolded change o p → IfSome p (CanMove intent_file)
  may_close None p at = subst (λ m. IfSome m (CanMove intent_file)) (sym at) tt
  may_close (Some s) p at =
      subst (λ m. IfSome m (CanMove intent_file)) (sym at.1)
      (refl, subst (λ (found : Option (List ℕ)). IsSome found) (sym at.2.intent) refl)

  closed_alike : (f g : Files) → IsClosed f g → (q : List ℕ) → (q ≡ intent_file → ⊥) → get g q ≡ get f q
  closed_alike f g e q apart = ap (λ (m : Files). get m q) e ∙ get_other intent_file None f q apart

  -- gone or not
  either_alike : (f g : Files) → IsClosedOrNot f g → (q : List ℕ) → (q ≡ intent_file → ⊥) → get g q ≡ get f q
  either_alike f g either q apart = ⊎_elim (λ (e : g ≡ f). ap (λ (m : Files). get m q) e) (λ (e : IsClosed f g). closed_alike f g e q apart) either

  either_stands : (f g : Files) → IsClosedOrNot f g → stored f ≡ Ok (goal change) → stored g ≡ Ok (goal change)
  either_stands f g either stands = same_configuration f g (λ q hidden apart. either_alike f g either q apart) ∙ stands

  is_over : (before f : Files) → AreAllFolded change before f → (g : Files) → IsClosed f g → IsOver change g
  is_over before f are g closed = record {
    gone = ap (λ (m : Files). get m intent_file) closed ∙ get_there intent_file None f;
    stands = either_stands f g (inr closed) are.stands;
    steps_gone = same_steps g f (λ q a_step. closed_alike f g closed q (no_intent q a_step)) ∙ are.names;
    unfolded = closed_alike f g closed folded_file folded_not_intent ∙ are.folded;
  }
    where
      no_intent : (q : List ℕ) → is_step_name q ≡ true → q ≡ intent_file → ⊥
      no_intent q a_step e = let both : true ≡ false = sym a_step ∙ ap is_step_name e in cc

  either_intent : (before f : Files) → AreAllFolded change before f → (g : Files) → IsClosedOrNot f g → HoldsGoal change g ⊎ IsOver change g
  either_intent before f are g either =
      ⊎_elim (λ (e : g ≡ f). inl (ap (λ (m : Files). get m intent_file) e ∙ are.intent)) (λ (e : IsClosed f g). inr (is_over before f are g e)) either

  applied : 0 < steps change → (before f : Files) → AreAllFolded change before f → (g : Files) → IsClosed f g → IsApplied change before g
  applied some before f are g closed =
      let over = is_over before f are g closed in
      record {
        stands = over.stands;
        none = λ e. absurd (omega (arith, e, some));
        some = λ _. record {
          config_text = closed_alike f g closed config_file config_not_intent ∙ are.config_text;
          steps = over.steps_gone;
          folded = over.unfolded;
          intent = over.gone;
          others = λ q other apart. closed_alike f g closed q apart ∙ are.others q other apart;
        };
      }

  pub closed : 0 < steps change → (o p n : Option State) → AtFolded change o p → Settles IsClosed p n → Finishes change o n
  closed some None p n at ends = subst (λ q. Settles IsClosed q n) at ends
  closed some (Some s) p n at ends =
      let later : Settles IsClosed (Some (at_close at.0 s)) n = subst (λ q. Settles IsClosed q n) at.1 ends in
      (later.0, later.1, applied some s.files at.0 at.2 later.0 later.2)

  pub close_stops : (o p n : Option State) → AtFolded change o p → Changes IsClosedOrNot p n → Stops change (Disk (steps change)) o n
  close_stops None p n at ends = subst (λ q. Changes IsClosedOrNot q n) at ends
  close_stops (Some s) p n at ends =
      let later : Changes IsClosedOrNot (Some (at_close at.0 s)) n = subst (λ q. Changes IsClosedOrNot q n) at.1 ends in
      let leads = later.2 in
      let stands = either_stands at.0 later.0.files leads.reads at.2.stands in (
        later.0,
        later.1,
        record {
          within = omega arith;
          inputs = leads.inputs;
          output = leads.output ∙ sym (append-nil (s.output ++ acks (steps change)));
          restarts = leads.restarts ∙ sym (append-nil (s.restarts ++ restarted change (steps change)));
          stands = inl stands;
          intent = kept_at_end change s.files later.0.files stands (either_intent s.files at.0 at.2 later.0.files leads.reads);
          others = λ q other apart. either_alike at.0 later.0.files leads.reads q apart ∙ at.2.others q other apart;
          kept = λ less nothing. absurd (omega (arith, less));
        },
      )

  close_leaves : (s : State) (f : Files) → AreAllFolded change s.files f → (left : Left) → AreLeft IsClosedOrNot (at_close f s) left → IsLeft change s left
  close_leaves s f are left so =
      let stands = either_stands f left.files so.files are.stands in
      record {
        done = steps change;
        within = omega arith;
        output = quiet (steps change) s.output left.output so.output;
        unfinished = λ some. absurd (some refl);
        stands = inl stands;
        started = [];
        due = restarts_at change (steps change);
        next = refl;
        restarts = so.restarts ∙ sym (append-nil (s.restarts ++ restarted change (steps change)));
        in_order = inl refl;
        others = λ q other apart. either_alike f left.files so.files q apart ∙ are.others q other apart;
        intent = kept_at_end change s.files left.files stands (either_intent s.files f are left.files so.files);
        small = λ one less. absurd (omega (arith, less));
        kept = λ less nothing. absurd (omega (arith, less));
      }

  pub closing : {H : Type 0} (moment : H → ℕ) (left_since : H → ℕ → Left → Type 0) (o p : Option State) (old new : H) → AtFolded change o p
      → IfSome p (λ s. LeavesOnly moment left_since old new (AreLeft IsClosedOrNot s)) → LeavesOf moment left_since change o old new
  closing moment left_since None p old new at run = tt
  closing moment left_since (Some s) p old new at run =
      changes moment left_since change IsClosedOrNot s (at_close at.0 s) old new (close_leaves s at.0 at.2) p at.1 run
