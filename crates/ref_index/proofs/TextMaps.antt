-- The places of a want, after a change of the groups of one text.
use Rattle.std.proofs.Common.{◌≡◌, ℕ, Bool, true, false, cond, List, [], Option, Some, None, refl, sym, ap, ◌∙◌, ◌&&◌}
use Rattle.std.specs.Bool.{Decides}
use Rattle.std.specs.Option.{option_map_or}
use Rattle.std.specs.Str.{bytes_eq}
use Rattle.std.proofs.lemmas.Bool.Decides.{Decides-and, Decides-like}
use Rattle.std.proofs.lemmas.Slice.Eq.{bytes_eq-Decides}
use Rattle.conf_check.specs.Wants.{Want}
use Rattle.yang_types.specs.declared.types.Target.{Target}
use Rattle.ref_index.specs.PlaceMaps.{ChangesAt, places_in}
use Rattle.ref_index.specs.declared.leaf_group.Group.{Group}
use Rattle.ref_index.specs.declared.places.Place.{Place}
use Rattle.ref_index.proofs.LeafGroups.{is_target, targets_decide}

abbrev made_of : Target → List ℕ → Want
made_of target text = record { target = target; text = text }

same_want : (v w : Want) → v.target ≡ w.target → v.text ≡ w.text → v ≡ w
same_want v w target text = ap (λ x. made_of x v.text) target ∙ ap (λ x. made_of w.target x) text

-- wants are told apart
pub wants_decide : (v w : Want) → (b : Bool) × Decides b (v ≡ w)
wants_decide v w = (
  is_target v.target w.target && bytes_eq v.text w.text,
  Decides-like (is_target v.target w.target && bytes_eq v.text w.text) (λ h. same_want v w h.0 h.1) (λ e. (ap (λ x. x.target) e, ap (λ x. x.text) e))
      (Decides-and (is_target v.target w.target) (bytes_eq v.text w.text) (targets_decide v.target w.target) (bytes_eq-Decides v.text w.text)),
)

module _ {V : Type 0} (items : V → List Group) where
  -- the places of a leaf in the groups, if there are any
  abbrev pub places_of : Target → Option V → List Place
  places_of t o = option_map_or (λ gs. places_in (items gs) t) o []

  -- the places of a want where look-ups by the text give groups
  abbrev pub places_by : (List ℕ → Option V) → Want → List Place
  places_by look w = places_of w.target (look w.text)

  module _ (w : Want) (before after : List ℕ → Option V) (hs : V)
      (is : (s : List ℕ) → after s ≡ cond (bytes_eq w.text s) (Some hs) (before s)) where
    here_after : after w.text ≡ Some hs
    here_after = is w.text ∙ ap (λ b. cond b (Some hs) (before w.text)) ((bytes_eq-Decides w.text w.text).1 refl)

    -- the groups of a want's text are set, in which the places of its leaf are changed
    pub change_text : (f : List Place → List Place) (old : List Group) → ((t : Target) → places_of t (before w.text) ≡ places_in old t)
        → ChangesAt f w.target (places_in old) (places_in (items hs)) → ChangesAt f w (places_by before) (places_by after)
    change_text f old was change = record {
      here = ap (places_of w.target) here_after ∙ change.here ∙ ap f (sym (was w.target));
      others = λ v other.
          is_as v
          (λ e. let text : w.text ≡ v.text = (bytes_eq-Decides w.text v.text).0 e in
          change.others v.target (λ same. other (same_want v w same (sym text))) ∙ sym (was v.target) ∙ ap (λ s. places_of v.target (before s)) text);
    }
      where
        is_as : (v : Want) → (bytes_eq w.text v.text ≡ true → places_in (items hs) v.target ≡ places_of v.target (before v.text))
            → places_by after v ≡ places_by before v
        is_as v same =
            ap (places_of v.target) (is v.text)
            ∙ elim (bytes_eq w.text v.text) as (λ b. bytes_eq w.text v.text ≡ b → places_of v.target (cond b (Some hs) (before v.text)) ≡ places_of v.target (before v.text)) [
              | true ↦ λ e. same e
              | false ↦ λ _. refl
            ] refl

    -- groups with the same places are set
    pub same_text : (old : List Group) → ((t : Target) → places_of t (before w.text) ≡ places_in old t) → ((t : Target) → places_in (items hs) t ≡ places_in old t)
        → (v : Want) → places_by after v ≡ places_by before v
    same_text old was same v =
        ap (places_of v.target) (is v.text)
        ∙ elim (bytes_eq w.text v.text) as (λ b. bytes_eq w.text v.text ≡ b → places_of v.target (cond b (Some hs) (before v.text)) ≡ places_of v.target (before v.text)) [
          | true ↦ λ e. same v.target ∙ sym (was v.target) ∙ ap (λ s. places_of v.target (before s)) ((bytes_eq-Decides w.text v.text).0 e)
          | false ↦ λ _. refl
        ] refl

  -- a text that has no groups
  pub no_text : (w : Want) (look : List ℕ → Option V) (f : List Place → List Place) → look w.text ≡ None → f [] ≡ []
      → ChangesAt f w (places_by look) (places_by look)
  no_text w look f none empty =
      let nothing : places_by look w ≡ [] = ap (places_of w.target) none in
      record { here = nothing ∙ sym empty ∙ ap f (sym nothing); others = λ v other. refl }
