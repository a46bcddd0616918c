-- Where the lists of two configurations differ.
use Rattle.std.proofs.Common.{◌≡◌, ◌↔◌, IsTrue, Bool, ℕ, List, Some, None, sym, subst, ◌∙◌}
use Rattle.conf_doc.specs.declared.configuration.Config.{Config}
use Rattle.move_core.specs.Generated.{IsFirstDifference, IsItemAdded, IsItemMove, IsItemRemoved, ListsDiffer}
use Rattle.move_core.specs.Moves.{Place, list_at}
use Rattle.move_core.specs.declared.moves.Move.{Move}
use Rattle.move_core.specs.declared.moves.Move.TheVariants.{AddItem, RemoveItem}
use Rattle.plan_check.specs.Beginnings.{DifferThere}

apart : (x : List (List ℕ)) → None ≡ Some x → ⊥
apart x e = cc

same_Some : (x y : List (List ℕ)) → Some x ≡ Some y → x ≡ y
same_Some x y e = cc

module _ (cur goal : Config) (p : Place) (i : ℕ) where
  pub none_here : list_at cur p ≡ None → ¬ ListsDiffer cur goal p i
  none_here none lists = apart lists.old (sym none ∙ lists.here)

  pub none_there : list_at goal p ≡ None → ¬ ListsDiffer cur goal p i
  none_there none lists = apart lists.new (sym none ∙ lists.there)

  module _ (old new : List (List ℕ)) (here : list_at cur p ≡ Some old) (there : list_at goal p ≡ Some new) where
    -- the lists are those
    pub first_of : ListsDiffer cur goal p i → IsFirstDifference old new i
    first_of lists =
        subst (λ l. IsFirstDifference l new i) (same_Some lists.old old (sym lists.here ∙ here))
        (subst (λ l. IsFirstDifference lists.old l i) (same_Some lists.new new (sym lists.there ∙ there)) lists.first)

  -- what is decided of those lists
  pub lists_test : (P : List (List ℕ) → List (List ℕ) → Type 0) (old new : List (List ℕ)) → DifferThere cur goal p i old new → (b : Bool) → (IsTrue b ↔ P old new)
      → IsTrue b ↔ ((lists : ListsDiffer cur goal p i) × P lists.old lists.new)
  lists_test P old new are b says = (
    λ t. (record { old = old; new = new; here = are.here; there = are.there; first = are.first }, says.0 t),
    λ has.
        let lists = has.0 in
        says.1 (subst (λ l. P l new) (same_Some lists.old old (sym lists.here ∙ are.here)) (subst (P lists.old) (same_Some lists.new new (sym lists.there ∙ are.there)) has.1)),
  )

-- ---- moves of items

pub item_added : (cur goal : Config) (m : Move) (p : Place) (i : ℕ) (text s : List ℕ) (b : Bool) → m ≡ AddItem p i text → s ≡ text
    → (IsTrue b ↔ ((lists : ListsDiffer cur goal p i) × IsItemAdded lists.old lists.new i s)) → IsTrue b ↔ IsItemMove cur goal m
item_added cur goal m p i text s b is same says =
    subst (λ x. IsTrue b ↔ IsItemMove cur goal x) (sym is)
    (subst (λ y. IsTrue b ↔ ((lists : ListsDiffer cur goal p i) × IsItemAdded lists.old lists.new i y)) same says)

pub item_removed : (cur goal : Config) (m : Move) (p : Place) (i : ℕ) (b : Bool) → m ≡ RemoveItem p i
    → (IsTrue b ↔ ((lists : ListsDiffer cur goal p i) × IsItemRemoved lists.old lists.new i)) → IsTrue b ↔ IsItemMove cur goal m
item_removed cur goal m p i b is says = subst (λ x. IsTrue b ↔ IsItemMove cur goal x) (sym is) says
