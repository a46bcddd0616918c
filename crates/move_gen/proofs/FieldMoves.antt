-- What is given for the fields of the entries that both have is what the third generator gives.
use Rattle.std.proofs.Common.{◌≡◌, ◌≢◌, ◌↔◌, ℕ, List, [], ◌∷◌, inl, inr, refl, sym, ap, ◌∙◌, subst, arith}
use Rattle.std.specs.Prelude.{Option, Some, IsSome, slice_get}
use Rattle.conf_doc.specs.Changes.{part_at, HasPlace}
use Rattle.conf_doc.specs.Pairs.{find}
use Rattle.conf_doc.specs.declared.configuration.Config.{Config}
use Rattle.conf_doc.specs.declared.configuration.Entry.{Entry}
use Rattle.conf_doc.specs.declared.configuration.Value.{Value}
use Rattle.conf_doc.specs.declared.parts.Part.{Part}
use Rattle.conf_doc.specs.declared.parts.Part.TheVariants as part
use Rattle.move_core.specs.Generated.{IsFieldMove, IsFromFields, field_class}
use Rattle.move_core.specs.declared.moves.Generated.{Generated}
use Rattle.move_core.specs.declared.moves.Move.{Move}
use Rattle.move_core.specs.declared.moves.Move.TheVariants.{Add, Remove, Replace, AddItem, RemoveItem}
use Rattle.move_gen.specs.EntryLaws.{changed_for}
use Rattle.move_gen.specs.FieldsOfEntry.{IsFieldOf, IsForEntry}
use Rattle.move_gen.specs.Given.{IsChangedEntry, IsOfFields, IsOfTable, IsRemovedField, IsSetField, own_move}
use Rattle.move_gen.specs.Giving.{IsOfSome}
use Rattle.move_gen.specs.SameEntryLaws.{no_fields}
use Rattle.move_gen.proofs.OwnPlaces.{apart_add, apart_replace, of_its_place, owned}
use Rattle.move_gen.proofs.PlaceParts.{IsEntryAt, entry_there, lacks_value, no_value, some_there, some_value, there_entry, there_value, value_there}

-- ---- one entry

pub fields_apart : (t k : List ℕ) (old new : Entry) (g : Generated) → IsOfSome (IsRemovedField t k new) old g → IsOfSome (IsSetField t k old) new g → ⊥
fields_apart t k old new g h s = by s.is
  where
    gone : g.mv ≡ Remove (t ∷ k ∷ h.name ∷ [])
    gone = ap (λ (x : Generated). x.mv) h.is.1

    by : IsSetField t k old s.name s.part g → ⊥
    by (inl is) = apart_add _ _ _ (sym gone ∙ ap (λ (x : Generated). x.mv) is.1)
    by (inr is) = apart_replace _ _ _ (sym gone ∙ ap (λ (x : Generated). x.mv) is.2.1)

-- an entry that stays the same has none
pub unchanged : (t k : List ℕ) (old new : Entry) (g : Generated) → old ≡ new → ¬ IsOfFields t k old new g
unchanged t k old new g same is = no_fields t k old g (subst (λ e. IsOfFields t k old e g) (sym same) is)

-- cur's entry is the one at goal's place
pub of_entry : (cur : Config) (t k : List ℕ) (old new : Entry) (g : Generated) → Some (part.Entry old) ≡ part_at cur (t ∷ k ∷ []) → IsOfFields t k old new g ↔ IsChangedEntry cur t k new g
of_entry cur t k old new g there = (λ is. record { old = old; there = sym there; is = is }, λ h. subst (λ e. IsOfFields t k e new g) (sym (same_entry old h.old (there ∙ h.there))) h.is)
  where
    same_entry : (a b : Entry) → Some (part.Entry a) ≡ Some (part.Entry b) → a ≡ b
    same_entry a b e = cc

-- ---- all entries

module _ (cur goal : Config) where
  -- what is said of the fields of the entries of both is said of goal's
  for_both : (t k : List ℕ) (old new : Entry) (g : Generated) → IsEntryAt cur t k old → IsEntryAt goal t k new → IsOfFields t k old new g → IsOfSome (IsOfTable (IsChangedEntry cur)) goal g
  for_both t k old new g before after is = record {
    name = t;
    part = after.table;
    there = after.there;
    is = record { name = k; part = new; there = after.is; is = record { old = old; there = there_entry cur t k old before; is = is } };
  }

  forth : (m : Move) (g : Generated) → g ≡ own_move m field_class → IsFieldMove cur goal m → IsOfSome (IsOfTable (IsChangedEntry cur)) goal g
  forth (Remove []) g e is = let long = is.0 in absurd (omega (arith, long))
  forth (Remove (t ∷ [])) g e is = let long = is.0 in absurd (omega (arith, long))
  forth (Remove (t ∷ k ∷ [])) g e is = let long = is.0 in absurd (omega (arith, long))
  forth (Remove (t ∷ k ∷ f ∷ [])) g e is =
      let new = some_there goal t k is.1 in
      let old = some_value cur t k f is.2 in
      for_both t k old.1.entry new.0 g old.1.at new.1 (inl (record { name = f; part = old.0; there = old.1.is; is = (no_value goal t k f new.0 new.1 is.3, e) }))
  forth (Remove (t ∷ k ∷ f ∷ n ∷ ns)) g e is = let long = is.0 in absurd (omega (arith, long))
  forth (Add [] x) g e is = let long = is.0 in absurd (omega (arith, long))
  forth (Add (t ∷ []) x) g e is = let long = is.0 in absurd (omega (arith, long))
  forth (Add (t ∷ k ∷ []) x) g e is = let long = is.0 in absurd (omega (arith, long))
  forth (Add (t ∷ k ∷ f ∷ []) x) g e is =
      let old = some_there cur t k is.1 in
      let new = value_there goal t k f x is.3 in
      for_both t k old.0 new.2.entry g old.1 new.2.at
      (inr (record {
        name = f;
        part = new.0;
        there = new.2.is;
        is = inl (no_value cur t k f old.0 old.1 is.2, e ∙ ap (λ y. own_move (Add (t ∷ k ∷ f ∷ []) y) field_class) new.1);
      }))
  forth (Add (t ∷ k ∷ f ∷ n ∷ ns) x) g e is = let long = is.0 in absurd (omega (arith, long))
  forth (Replace [] x) g e is = let long = is.0 in absurd (omega (arith, long))
  forth (Replace (t ∷ []) x) g e is = let long = is.0 in absurd (omega (arith, long))
  forth (Replace (t ∷ k ∷ []) x) g e is = let long = is.0 in absurd (omega (arith, long))
  forth (Replace (t ∷ k ∷ f ∷ []) x) g e is =
      let old = some_value cur t k f is.1 in
      let new = value_there goal t k f x is.2 in
      let other : old.0 ≢ new.0 = λ same. is.3 (there_value cur t k f old.1.entry old.0 old.1.at old.1.is ∙ ap (λ v. Some (part.Value v)) same ∙ ap Some (sym new.1)) in
      for_both t k old.1.entry new.2.entry g old.1.at new.2.at
      (inr (record {
        name = f;
        part = new.0;
        there = new.2.is;
        is = inr (old.0, old.1.is, (other, e ∙ ap (λ y. own_move (Replace (t ∷ k ∷ f ∷ []) y) field_class) new.1));
      }))
  forth (Replace (t ∷ k ∷ f ∷ n ∷ ns) x) g e is = let long = is.0 in absurd (omega (arith, long))
  forth (AddItem p i x) g e is = absurd is
  forth (RemoveItem p i) g e is = absurd is

  some_part : (c : Config) (t k : List ℕ) (e : Entry) → IsEntryAt c t k e → HasPlace c (t ∷ k ∷ [])
  some_part c t k e at = subst IsSome (sym (there_entry c t k e at)) refl

  some_field : (c : Config) (t k f : List ℕ) (e : Entry) (v : Value) → IsEntryAt c t k e → find f e ≡ Some v → HasPlace c (t ∷ k ∷ f ∷ [])
  some_field c t k f e v at is = subst IsSome (sym (there_value c t k f e v at is)) refl

  same_value : (u v : Value) → Some (part.Value u) ≡ Some (part.Value v) → u ≡ v
  same_value u v e = cc

  set_back : (t k : List ℕ) (old new : Entry) (f : List ℕ) (v : Value) (g : Generated) → IsEntryAt cur t k old → IsEntryAt goal t k new → find f new ≡ Some v → IsSetField t k old f v g → IsFromFields cur goal g
  set_back t k old new f v g before after there (inl is) =
      owned (IsFieldMove cur goal) (Add (t ∷ k ∷ f ∷ []) (part.Value v)) field_class g is.1
      (refl, some_part cur t k old before, lacks_value cur t k f old before is.0, there_value goal t k f new v after there)
  set_back t k old new f v g before after there (inr is) =
      owned (IsFieldMove cur goal) (Replace (t ∷ k ∷ f ∷ []) (part.Value v)) field_class g is.2.1 (
        refl,
        some_field cur t k f old is.0 before is.1,
        there_value goal t k f new v after there,
        λ same. is.2.0 (same_value is.0 v (sym (there_value cur t k f old is.0 before is.1) ∙ same)),
      )

  fields_back : (t k : List ℕ) (old new : Entry) (g : Generated) → IsEntryAt cur t k old → IsEntryAt goal t k new → IsOfFields t k old new g → IsFromFields cur goal g
  fields_back t k old new g before after (inl h) =
      owned (IsFieldMove cur goal) (Remove (t ∷ k ∷ h.name ∷ [])) field_class g h.is.1
      (refl, some_part goal t k new after, some_field cur t k h.name old h.part before h.there, lacks_value goal t k h.name new after h.is.0)
  fields_back t k old new g before after (inr h) = set_back t k old new h.name h.part g before after h.there h.is

  back : (g : Generated) → IsOfSome (IsOfTable (IsChangedEntry cur)) goal g → IsFromFields cur goal g
  back g h =
      fields_back h.name h.is.name h.is.is.old h.is.part g (entry_there cur h.name h.is.name h.is.is.old h.is.is.there)
      (record { table = h.part; there = h.there; is = h.is.there }) h.is.is.is

  pub of_fields : (g : Generated) → IsOfSome (IsOfTable (IsChangedEntry cur)) goal g ↔ IsFromFields cur goal g
  of_fields g = (back g, λ is. forth g.mv g (of_its_place g field_class is.1 is.2) is.0)

  -- ---- one entry of both

  same_name : (a b : List ℕ) (o : Option (List ℕ)) → o ≡ Some a → o ≡ Some b → a ≡ b
  same_name a b o one two = cc

  same_part : (a b : Entry) (o : Option Part) → o ≡ Some (part.Entry a) → o ≡ Some (part.Entry b) → a ≡ b
  same_part a b o one two = cc

  -- what stands at the place of other names stands at that of the same ones
  renamed : (c : Config) (t k u l : List ℕ) (e : Entry) → u ≡ t → l ≡ k → part_at c (u ∷ l ∷ []) ≡ Some (part.Entry e) → part_at c (t ∷ k ∷ []) ≡ Some (part.Entry e)
  renamed c t k u l e one two is =
      subst (λ n. part_at c (t ∷ n ∷ []) ≡ Some (part.Entry e)) two (subst (λ n. part_at c (n ∷ l ∷ []) ≡ Some (part.Entry e)) one is)

  only_there : (t k : List ℕ) (old new : Entry) (g : Generated) → part_at cur (t ∷ k ∷ []) ≡ Some (part.Entry old) → part_at goal (t ∷ k ∷ []) ≡ Some (part.Entry new)
      → IsOfSome (IsOfTable (IsChangedEntry cur)) goal g → IsForEntry t k g → IsOfFields t k old new g
  only_there t k old new g before after h for =
      subst (λ e. IsOfFields t k old e g) (same_part h.is.part new (part_at goal (t ∷ k ∷ [])) there after)
      (subst (λ e. IsOfFields t k e h.is.part g) (same_part h.is.is.old old (part_at cur (t ∷ k ∷ [])) here before)
      (subst (λ n. IsOfFields t n h.is.is.old h.is.part g) two (subst (λ n. IsOfFields n h.is.name h.is.is.old h.is.part g) one h.is.is.is)))
    where
      own : IsForEntry h.name h.is.name g
      own = changed_for cur h.name h.is.name h.is.part g h.is.is

      one : h.name ≡ t
      one = same_name h.name t (slice_get g.place 0) own.0 for.0

      two : h.is.name ≡ k
      two = same_name h.is.name k (slice_get g.place 1) own.1 for.1

      here : part_at cur (t ∷ k ∷ []) ≡ Some (part.Entry h.is.is.old)
      here = renamed cur t k h.name h.is.name h.is.is.old one two h.is.is.there

      there : part_at goal (t ∷ k ∷ []) ≡ Some (part.Entry h.is.part)
      there = renamed goal t k h.name h.is.name h.is.part one two (there_entry goal h.name h.is.name h.is.part (record { table = h.part; there = h.there; is = h.is.there }))

  -- what is given for the fields of an entry of both is what the generator gives for it
  pub of_one_entry : (t k : List ℕ) (old new : Entry) (g : Generated) → part_at cur (t ∷ k ∷ []) ≡ Some (part.Entry old) → part_at goal (t ∷ k ∷ []) ≡ Some (part.Entry new)
      → IsOfFields t k old new g ↔ IsFieldOf cur goal t k g
  of_one_entry t k old new g before after = (
    λ is. (
      fields_back t k old new g (entry_there cur t k old before) (entry_there goal t k new after) is,
      changed_for cur t k new g (record { old = old; there = before; is = is }),
    ),
    λ h. only_there t k old new g before after ((of_fields g).1 h.0) h.1,
  )
