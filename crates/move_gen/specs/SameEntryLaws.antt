-- Nothing is given for an entry that the other configuration has the same.
use Rattle.std.proofs.Common.{inl, inr, refl, subst}
use Rattle.std.specs.Prelude.{◌≡◌, ℕ, List, [], ◌∷◌, Option, Some, None}
use Rattle.conf_doc.specs.Changes.{part_at}
use Rattle.conf_doc.specs.Pairs.{find}
use Rattle.conf_doc.specs.declared.configuration.Config.{Config}
use Rattle.conf_doc.specs.declared.configuration.Entry.{Entry}
use Rattle.conf_doc.specs.declared.configuration.Value.{Value}
use Rattle.conf_doc.specs.declared.configuration.Value.TheVariants.{Text, List as Listed}
use Rattle.conf_doc.specs.declared.parts.Part.{Part}
use Rattle.conf_doc.specs.declared.parts.Part.TheVariants as part
use Rattle.move_core.specs.Generated.{SaysOfEntry}
use Rattle.move_core.specs.Moves.{Place}
use Rattle.move_core.specs.declared.moves.Generated.{Generated}
use Rattle.move_gen.specs.Given.{AreForDiffering, IsAddedEntry, IsChangedEntry}
use Rattle.move_gen.specs.Given.{IsOfFields, IsRemovedEntry, IsSetField}
use Rattle.move_gen.specs.ItemsGiven.{IsItemOfField, IsOfItemsOfEntry, IsOfLists}

none_some : {A : Type 0} (o : Option A) (a : A) → o ≡ None → o ≡ Some a → ⊥
none_some o a none some = cc

same_some : {A : Type 0} (o : Option A) (a b : A) → o ≡ Some a → o ≡ Some b → a ≡ b
same_some o a b one two = cc

same_entry : (o : Option Part) (a b : Entry)
    → o ≡ Some (part.Entry a) → o ≡ Some (part.Entry b) → a ≡ b
same_entry o a b one two = cc

-- the remove of an entry
pub removed_differ : (goal : Config) → AreForDiffering (IsRemovedEntry goal) goal
removed_differ goal t k e g is there = none_some (part_at goal (t ∷ k ∷ [])) _ is.0 there

-- the add of an entry
pub added_differ : (IsAs : SaysOfEntry) (class : ℕ) (cur : Config)
    → AreForDiffering (IsAddedEntry IsAs class cur) cur
added_differ IsAs class cur t k e g h there =
    none_some (part_at cur (t ∷ k ∷ [])) _ h.lacks there

-- an entry that stays the same has no moves of fields
pub no_fields : (t k : List ℕ) (e : Entry) (g : Generated) → ¬ IsOfFields t k e e g
no_fields t k e g (inl h) = none_some (find h.name e) h.part h.is.0 h.there
no_fields t k e g (inr h) = none_set h.is
  where
    none_set : ¬ IsSetField t k e h.name h.part g
    none_set (inl is) = none_some (find h.name e) h.part is.0 h.there
    none_set (inr is) = is.2.0 (same_some (find h.name e) is.0 h.part is.1 h.there)

-- the moves of its fields
pub changed_differ : (cur : Config) → AreForDiffering (IsChangedEntry cur) cur
changed_differ cur t k e g h there =
    no_fields t k e g (subst (λ old. IsOfFields t k old e g) (same_entry _ _ e h.there there) h.is)

-- a value that stays the same has no moves of items
no_items : (p : Place) (v : Value) (g : Generated) → ¬ IsOfLists p v v g
no_items p (Text s) g is = absurd is
no_items p (Listed ss) g is = is.first.differs refl

-- nor has an entry
no_lists : (t k : List ℕ) (e : Entry) (f : List ℕ) (v : Value) (g : Generated)
    → find f e ≡ Some v → ¬ IsItemOfField t k e f v g
no_lists t k e f v g there h =
    no_items (t ∷ k ∷ f ∷ []) v g
    (subst (λ u. IsOfLists (t ∷ k ∷ f ∷ []) u v g) (same_some (find f e) _ v h.there there) h.is)

-- those of the items of its lists
pub lists_differ : (cur : Config) → AreForDiffering (IsOfItemsOfEntry cur) cur
lists_differ cur t k e g h there =
    no_lists t k e h.is.name h.is.part g h.is.there
    (subst (λ old. IsItemOfField t k old h.is.name h.is.part g) (same_entry _ _ e h.there there)
    h.is.is)
