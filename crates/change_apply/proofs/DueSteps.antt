-- The step that is due, by the bytes that are ready for it.
use Rattle.std.proofs.Common.{◌≡◌, ◌<◌, ℕ, zero, suc, List, [], ◌∷◌, length, map, get_or, true, false, Option, Some, Result, Ok, Err, option_map, sym, ap, ◌∙◌, subst, arith}
use Rattle.std.specs.Prelude.{IfSome, OnErr, OnOk, is_err, slice_get}
use Rattle.std.proofs.lemmas.List.{length-map}
use Rattle.std.proofs.lemmas.Option.{slice_get-map}
use Rattle.host_core.specs.Crashes.{Elapses, Left, LeavesOnly, MayLeaveInPrint, MayLeaveNow}
use Rattle.host_core.specs.State.{PrintsPart, State, after_restart, printed}
use Rattle.conf_store.specs.Changes.{AreLeft, Changes, Settles}
use Rattle.conf_store.specs.Files.{step_name}
use Rattle.conf_store.specs.Steps.{CanStep, IsStepPut, IsStepPutOrNot}
use Rattle.move_core.specs.declared.moves.Move.{Move}
use Rattle.change_apply.specs.Acknowledgements.{ack}
use Rattle.change_apply.specs.Change.{Change, restarts_at, step_text, steps}
use Rattle.change_apply.specs.Ends.{Stops}
use Rattle.change_apply.specs.Stages.{AtPut, AtStep}
use Rattle.change_apply.specs.declared.errors.ApplyFault.TheVariants.{Disk, Print, Service}
use Rattle.change_apply.specs.Work.{IsReady, change_in, count}
use Rattle.change_apply.specs.declared.ready.ReadyStep.{ReadyStep}
use Rattle.change_apply.specs.declared.ready.Restart.{Restart}
use Rattle.change_apply.specs.declared.ready.Work.{Work}
use Rattle.change_apply.proofs.Moments.{LeavesOf, begins, goes_on}
use Rattle.change_apply.proofs.StepStages.{IsDue, acknowledged, can_put, left_at_put, left_in_print, print_stops, put_stops, puts, putting, restart_stops, restarts_more}

pub count_is : (work : Work) → steps (change_in work) ≡ count work
count_is work = length-map work.steps (λ (s : ReadyStep). s.mv)

pub get_from_slice : {A : Type 0} (xs : List A) (k : ℕ) (x d : A) → slice_get xs k ≡ Some x → get_or xs k d ≡ x
get_from_slice [] k x d e = absurd cc
get_from_slice (y ∷ xs) zero x d e = cc
get_from_slice (y ∷ xs) (suc k) x d e = get_from_slice xs k x d e

module _ (work : Work) (k : ℕ) (s : ReadyStep) (at : slice_get work.steps k ≡ Some s) where
  pub restarts_here : restarts_at (change_in work) k ≡ s.restarts
  restarts_here =
      get_from_slice (map (λ s. s.restarts) work.steps) k s.restarts []
      (slice_get-map (λ (s : ReadyStep). s.restarts) work.steps k ∙ ap (option_map (λ (s : ReadyStep). s.restarts)) at)

  pub due_here : IsReady work → k < count work → IsDue (change_in work) k s.mv
  due_here ready within = record {
    is = slice_get-map (λ (s : ReadyStep). s.mv) work.steps k ∙ ap (option_map (λ (s : ReadyStep). s.mv)) at;
    within = omega (arith, within, count_is work);
    few = omega (arith, within, ready.few);
    leads = (ready.steps_ready k s at).1;
  }

-- the same of two texts, with two others that are equal
both : (P : List ℕ → List ℕ → Type 0) {a b c d : List ℕ} → a ≡ b → c ≡ d → P a c → P b d
both P {a} {b} {c} {d} e f h = subst (λ x. P x d) e (subst (λ y. P a y) f h)

-- what a call does with a file of that name and these bytes
module _ (change : Change) (k : ℕ) (m : Move) (due : IsDue change k m) (name bytes : List ℕ) (is_name : name ≡ step_name (suc k)) (is_text : bytes ≡ step_text m) where
  pub can_be_put : (o p : Option State) → AtStep change k o p → IfSome p (λ s. CanStep name bytes s.files)
  can_be_put o p at = both (λ q b. IfSome p (λ s. CanStep q b s.files)) (sym is_name) (sym is_text) (can_put change k m due o p at)

  pub is_put : (o p n : Option State) → AtStep change k o p → Settles (IsStepPut name bytes) p n → AtPut change k 0 o n
  is_put o p n at ends = puts change k m due o p n at (both (λ q b. Settles (IsStepPut q b) p n) is_name is_text ends)

  pub isnt_put : (o p n : Option State) → AtStep change k o p → Changes (IsStepPutOrNot name bytes) p n → Stops change (Disk k) o n
  isnt_put o p n at ends = put_stops change k m due o p n at (both (λ q b. Changes (IsStepPutOrNot q b) p n) is_name is_text ends)

  pub while_put : {H : Type 0} (moment : H → ℕ) (left_since : H → ℕ → Left → Type 0) (o p : Option State) (old new : H) → AtStep change k o p
      → IfSome p (λ s. LeavesOnly moment left_since old new (AreLeft (IsStepPutOrNot name bytes) s)) → LeavesOf moment left_since change o old new
  while_put moment left_since o p old new at run =
      putting change k m due moment left_since o p old new at
      (both (λ q b. IfSome p (λ s. LeavesOnly moment left_since old new (AreLeft (IsStepPutOrNot q b) s))) is_name is_text run)

-- what a call does that prints these bytes
module _ (change : Change) (k : ℕ) (m : Move) (due : IsDue change k m) (bytes : List ℕ) (is_line : bytes ≡ ack (suc k)) where
  pub is_printed : (o p n : Option State) → AtPut change k (length (restarts_at change k)) o p → n ≡ option_map (printed bytes) p → AtStep change (suc k) o n
  is_printed o p n at e = acknowledged change k m due o p n at (subst (λ b. n ≡ option_map (printed b) p) is_line e)

  pub isnt_printed : (o p n : Option State) → AtPut change k (length (restarts_at change k)) o p → PrintsPart bytes p n → Stops change (Print k) o n
  isnt_printed o p n at e = print_stops change k m due o p n at (subst (λ b. PrintsPart b p n) is_line e)

  pub while_printed : {H : Type 0} (moment : H → ℕ) (left_since : H → ℕ → Left → Type 0) (told : H → Option State) (o : Option State) (old new : H)
      → AtPut change k (length (restarts_at change k)) o (told old) → ((left : Left) → left_since old (moment old) left → MayLeaveNow (told old) left)
      → Elapses moment left_since old new (MayLeaveInPrint bytes (told old)) → LeavesOf moment left_since change o old new
  while_printed moment left_since told o old new at now time =
      goes_on moment left_since change o old old new (MayLeaveInPrint bytes (told old))
      (begins moment left_since change o old (λ left since. left_at_put change k m due (length (restarts_at change k)) o (told old) at left (now left since))) time
      (λ left may. left_in_print change k m due o (told old) at left (subst (λ b. MayLeaveInPrint b (told old) left) is_line may))

-- of a call that was tested
pub err_holds : {T E P : Type 0} (r : Result T E) → true ≡ is_err r → OnErr r P → P
err_holds (Ok x) e h = absurd cc
err_holds (Err y) e h = h

pub ok_holds : {T E P : Type 0} (r : Result T E) → false ≡ is_err r → OnOk r P → P
ok_holds (Ok x) e h = h
ok_holds (Err y) e h = absurd cc

-- what a call does that requests the restart behind the first i
module _ (change : Change) (k : ℕ) (m : Move) (due : IsDue change k m) (all : List Restart) (are : restarts_at change k ≡ all)
    (i : ℕ) (r : Restart) (low : i < length all) (is : r ≡ get_or all i r) where
  low_there : i < length (restarts_at change k)
  low_there = subst (λ (l : List Restart). i < length l) (sym are) low

  is_there : r ≡ get_or (restarts_at change k) i r
  is_there = subst (λ (l : List Restart). r ≡ get_or l i r) (sym are) is

  module _ (name : List ℕ) (is_name : name ≡ r.name) where
    pub is_requested : (o p n : Option State) → AtPut change k i o p → n ≡ option_map (after_restart name) p → AtPut change k (suc i) o n
    is_requested o p n at e = restarts_more change k m due i r low_there is_there o p n at (subst (λ q. n ≡ option_map (after_restart q) p) is_name e)

  pub isnt_requested : (o p n : Option State) → AtPut change k i o p → n ≡ p → Stops change (Service k r.service) o n
  isnt_requested o p n at e = restart_stops change k m due i r low_there is_there o p n at e

  pub while_requested : {H : Type 0} (moment : H → ℕ) (left_since : H → ℕ → Left → Type 0) (told : H → Option State) (o : Option State) (old mid new : H) (j : ℕ)
      → AtPut change k j o (told new) → LeavesOf moment left_since change o old mid → Elapses moment left_since mid new (MayLeaveNow (told new)) → LeavesOf moment left_since change o old new
  while_requested moment left_since told o old mid new j at so_far time =
      goes_on moment left_since change o old mid new (MayLeaveNow (told new)) so_far time (λ left may. left_at_put change k m due j o (told new) at left may)
