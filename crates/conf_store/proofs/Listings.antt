-- A change of the folder's names that is then settled.
use Rattle.std.proofs.Common.{◌≡◌, ℕ, List, Option, Some, None, inl, inr, ⊎_elim, refl, sym, ap, ◌∙◌, subst, option_map}
use Rattle.std.specs.Prelude.{IfSome}
use Rattle.host_core.specs.State.{CanMove, Files, ListsOrNot, State, after_listing, listing, settled, with_pending}
use Rattle.conf_store.specs.Changes.{Changes, IsSettled, Leads, Settles}
use Rattle.conf_store.specs.Clearing.{IsDone, IsDoneOrNot}

pub is_clean : (name : List ℕ) (o : Option State) → IfSome o (CanMove name) → IfSome o IsSettled
is_clean name None can = tt
is_clean name (Some s) can = can.0

module _ (change : Files → Files) where
  pub not_yet : (files : Files) → IsDoneOrNot change files files
  not_yet files = inl refl

  leads : (s : State) (files : Files) → IsDoneOrNot change s.files files
      → Leads (IsDoneOrNot change) s (record s { files = files; pending = listing s.files })
  leads s files has = record {
    inputs = refl;
    output = refl;
    restarts = refl;
    reads = has;
    images = λ left image. ⊎_elim (λ (e : left ≡ s.files). inl e) (λ (e : left ≡ files). subst (IsDoneOrNot change s.files) (sym e) has) image;
  }

  pub lists : (o n : Option State) → ListsOrNot change o n → Changes (IsDoneOrNot change) o n
  lists None n either = ⊎_elim (λ e. e) (λ e. e) either
  lists (Some s) n either =
      ⊎_elim (λ e. (_, e, leads s (change s.files) (inr refl))) (λ e. (_, e, leads s s.files (inl refl))) either

  pub settles : (o n k : Option State) → n ≡ option_map (after_listing change) o → k ≡ option_map (with_pending settled) n
      → Settles (IsDone change) o k
  settles None n k e f = f ∙ ap (option_map (with_pending settled)) e
  settles (Some s) n k e f = (change s.files, f ∙ ap (option_map (with_pending settled)) e, refl)
