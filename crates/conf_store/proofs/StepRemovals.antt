-- The step files taken away one by one, of a host that may not tell its state.
use Rattle.std.proofs.Common.{◌≡◌, ◌<◌, ◌+◌, ℕ, drop, get_or, length, true, false, List, ◌∷◌, Option, Some, None, ⊎_elim, refl, sym, ap, ◌∙◌, subst}
use Rattle.std.specs.Prelude.{IfSome}
use Rattle.std.proofs.lemmas.List.{drop_more}
use Rattle.std.specs.FinMap.{get}
use Rattle.host_core.specs.State.{CanMove, Files, State, with_file}
use Rattle.conf_store.specs.Changes.{IsSettled, Settles}
use Rattle.conf_store.specs.Clearing.{IsClearing, IsDone, IsDoneOrNot, KeepsRest}
use Rattle.conf_store.specs.Files.{is_step_name, step_names}
use Rattle.conf_store.proofs.Entries.{is_step, is_there, steps_left}
use Rattle.conf_store.proofs.FileMaps.{get_other}

pub rest_itself : (files : Files) → KeepsRest files files
rest_itself files name isnt = refl

-- a step file gone
rest_without : (name : List ℕ) (files : Files) → is_step_name name ≡ true → KeepsRest files (with_file name None files)
rest_without name files a_step q isnt = get_other name None files q (λ same. absurd (apart (sym isnt ∙ ap is_step_name same ∙ a_step)))
  where
    apart : false ≡ true → ⊥
    apart e = cc

-- before the first
pub at_first : (steps : List (List ℕ)) (o : Option State) → IfSome o IsSettled → IfSome o (λ s. step_names s.files ≡ steps)
    → Settles (IsClearing steps) o o
at_first steps None clean are = refl
at_first steps (Some s) clean are =
    (s.files, ap (λ p. Some (record s { pending = p })) clean, record { left = are; rest = rest_itself s.files })

module _ (name : List ℕ) (steps : List (List ℕ)) where
  -- the next is there
  pub may_remove : (o n : Option State) → Settles (IsClearing (name ∷ steps)) o n → IfSome n (CanMove name)
  may_remove None n ends = subst (λ m. IfSome m (CanMove name)) (sym ends) tt
  may_remove (Some s) n ends =
      subst (λ m. IfSome m (CanMove name)) (sym ends.1) (refl, is_there ends.0 name steps ends.2.left)

  -- once it is gone
  pub one_less : (o : Option State) → IfSome o (λ s. (f g : Files)
      → IsClearing (name ∷ steps) s.files f → IsDone (with_file name None) f g → IsClearing steps s.files g)
  one_less None = tt
  one_less (Some s) = λ f g clearing done. record {
    left = ap step_names done ∙ steps_left f name steps clearing.left;
    rest = λ q isnt. ap (λ (x : Files). get x q) done ∙ rest_without name f (is_step f name steps clearing.left) q isnt ∙ clearing.rest q isnt;
  }

  -- gone or not
  pub rest_meanwhile : (o : Option State) → IfSome o (λ s. (f g : Files)
      → IsClearing (name ∷ steps) s.files f → IsDoneOrNot (with_file name None) f g → KeepsRest s.files g)
  rest_meanwhile None = tt
  rest_meanwhile (Some s) = λ f g clearing either q isnt.
      ⊎_elim
      (λ (e : g ≡ f). ap (λ (x : Files). get x q) e ∙ clearing.rest q isnt)
      (λ (e : g ≡ with_file name None f). ap (λ (x : Files). get x q) e ∙ rest_without name f (is_step f name steps clearing.left) q isnt ∙ clearing.rest q isnt)
      either

-- the steps from here on begin with the one at hand
pub next_first : (steps : List (List ℕ)) (i : ℕ) (item name : List ℕ) → i < length steps → item ≡ get_or steps i item → name ≡ item
    → drop i steps ≡ name ∷ drop (i + 1) steps
next_first steps i item name within is text =
    drop_more steps i item within ∙ ap (λ (x : List ℕ). x ∷ drop (i + 1) steps) (sym is ∙ sym text)
