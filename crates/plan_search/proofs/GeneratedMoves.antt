-- Which moves are generated can be told, and they are finitely many.
use Rattle.std.proofs.Common.{◌≡◌, ◌⊎◌, ◌↔◌, inl, inr, ℕ, ◌<◌, Bool, true, false, if◌then◌else◌, List, [], ◌∷◌, ◌++◌, length, take, slice_get, Option, Some, None, IsSomeAnd, is_some, refl, sym, ap, subst, ◌∙◌, arith}
use Rattle.std.specs.FinMap as map
use Rattle.std.specs.List.{Contains}
use Rattle.std.proofs.lemmas.List.Elements.{Contains-append_left, Contains-append_right}
use Rattle.host_core.specs.Names.{name_cmp}
use Rattle.conf_doc.specs.Changes.{part_at, HasParent}
use Rattle.conf_doc.specs.Pairs.{IsRising, find}
use Rattle.conf_doc.specs.declared.configuration.Config.{Config}
use Rattle.conf_doc.specs.declared.configuration.Entry.{Entry}
use Rattle.conf_doc.specs.declared.configuration.Value.{Value}
use Rattle.conf_doc.specs.declared.parts.Part.{Part}
use Rattle.conf_doc.specs.declared.parts.Part.TheVariants as part
use Rattle.conf_doc.proofs.Edits.{same_Some}
use Rattle.yang_pattern.proofs.Decisions.{Told, among, both, either, like, same_number, same_text, told_true}
use Rattle.move_core.specs.Contexts.{rulebook}
use Rattle.move_core.specs.Generated.{AddsEntry, HasNoWant, IsFieldMove, IsFirstDifference, IsForItsPlace, IsFromFields, IsFromItems, IsFromKeys, IsFromSeeds, IsFromTables, IsGenerated, IsItemAdded, IsItemMove, IsItemRemoved, IsKeyRemove, IsSeed, IsTableMove, IsWhole, ListsDiffer, SaysOfEntry, added_entry, field_class, item_class, key_class, seed_class, table_class}
use Rattle.move_core.specs.Listed.{IsGeneratedMove, IsListed}
use Rattle.move_core.specs.Moves.{Lacks, Place, list_at, place}
use Rattle.move_core.specs.declared.contexts.Ctx.{Ctx}
use Rattle.move_core.specs.declared.moves.Generated.{Generated}
use Rattle.move_core.specs.declared.moves.Move.{Move}
use Rattle.move_core.specs.declared.moves.Move.TheVariants.{Add, Remove, Replace, AddItem, RemoveItem}
use Rattle.move_lists.specs.Finite.{IsFinite}
use Rattle.move_lists.proofs.FinitePlaces.{IsStanding, finite_standing, part_standing}
use Rattle.move_lists.proofs.FiniteSets.{finite_each, finite_either, finite_image, finite_one, finite_within}
use Rattle.move_lists.proofs.MoveForms.{listed_finite}
use Rattle.move_lists.proofs.RisingLists.{found_member}
use Rattle.plan_search.specs.Kits.{moves_told}
use Rattle.plan_search.proofs.Telling.{and_told, finite_below, four, member_told, not_told, same_option, same_part, same_place, some_told, three}
use Rattle.plan_search.proofs.PlaceWants.{no_want_told}
use Rattle.plan_search.proofs.RequiredMoves.{has_told}

-- nothing stands there
lacks_told : (c : Config) (p : Place) → Told (Lacks c p)
lacks_told c p = same_option same_part (part_at c p) None

-- that stands there
there_told : (c : Config) (p : Place) (x : Part) → Told (part_at c p ≡ Some x)
there_told c p x = some_told same_part (part_at c p) x

parent_told : (c : Config) (p : Place) → Told (HasParent c p)
parent_told c [] = inr (λ h. h)
parent_told c (t ∷ []) = inl tt
parent_told c (t ∷ k ∷ []) = has_told c (t ∷ [])
parent_told c (t ∷ k ∷ f ∷ ns) = has_told c (t ∷ k ∷ [])

same_value : (v w : Value) → Told (v ≡ w)
same_value v w = like (λ e. same e) (λ e. ap part.Value e) (same_part (part.Value v) (part.Value w))
  where
    same : part.Value v ≡ part.Value w → v ≡ w
    same e = cc

same_entry : (d e : Entry) → part.Entry d ≡ part.Entry e → d ≡ e
same_entry d e is = cc

whole_told : (t k : List ℕ) (e new : Entry) → Told (IsWhole t k e new)
whole_told t k e new = like (same_entry new e) (λ is. ap part.Entry is) (same_part (part.Entry new) (part.Entry e))

-- ---- seeds

module _ (ctx : Ctx) (goal : Config) (t k : List ℕ) (e new : Entry) where
  -- the field is as in a seed
  abbrev IsSeedField : List ℕ → Type 0
  IsSeedField f =
      (v : Value) → (find f new ≡ Some v) ↔ ((find f e ≡ Some v) × HasNoWant (rulebook ctx) goal (t ∷ k ∷ f ∷ []))

  module _ (f : List ℕ) where
    -- with no want it is goal's
    with_none : HasNoWant (rulebook ctx) goal (t ∷ k ∷ f ∷ []) → Told (IsSeedField f)
    with_none none =
        like (λ same v. (λ a. (sym same ∙ a, none), λ h. same ∙ h.0)) (λ is. by is (find f new) refl (find f e) refl)
        (same_option same_value (find f new) (find f e))
      where
        by : IsSeedField f → (o : Option Value) → find f new ≡ o → (p : Option Value) → find f e ≡ p
            → find f new ≡ find f e
        by is (Some v) a p b = a ∙ sym ((is v).0 a).0
        by is None a None b = a ∙ sym b
        by is None a (Some v) b = (is v).1 (b, none) ∙ sym b

    -- with one it isn't there
    with_want : ¬ HasNoWant (rulebook ctx) goal (t ∷ k ∷ f ∷ []) → Told (IsSeedField f)
    with_want wanted = by (find f new) refl
      where
        by : (o : Option Value) → find f new ≡ o → Told (IsSeedField f)
        by (Some v) a = inr (λ is. wanted ((is v).0 a).1)
        by None a = inl (λ v. (λ b. let c = sym a ∙ b in absurd cc, λ h. absurd (wanted h.1)))

    field_told : Told (IsSeedField f)
    field_told = by (no_want_told ctx goal (t ∷ k ∷ f ∷ []))
      where
        by : Told (HasNoWant (rulebook ctx) goal (t ∷ k ∷ f ∷ [])) → Told (IsSeedField f)
        by (inl none) = with_none none
        by (inr wanted) = with_want wanted

  -- so of each name, if of those of either entry
  all_fields : ¬ ((p : List ℕ × Value) × Contains (e ++ new) p × (¬ IsSeedField p.0)) → (f : List ℕ) → IsSeedField f
  all_fields none f = by (find f e) refl (find f new) refl
    where
      of_pair : (v : Value) → Contains (e ++ new) (f, v) → Told (IsSeedField f) → IsSeedField f
      of_pair v there (inl is) = is
      of_pair v there (inr not) = absurd (none ((f, v), there, not))

      by : (o : Option Value) → find f e ≡ o → (p : Option Value) → find f new ≡ p → IsSeedField f
      by (Some v) a p b = of_pair v (Contains-append_left e new (f, v) (found_member e f v a)) (field_told f)
      by None a (Some v) b = of_pair v (Contains-append_right e new (f, v) (found_member new f v b)) (field_told f)
      by None a None b =
          λ v. (λ c. let d = sym b ∙ c in absurd cc, λ h. let d = sym a ∙ h.0 in absurd cc)

  seed_told : Told (IsSeed (rulebook ctx) goal t k e new)
  seed_told =
      by (told_true (map.is_sorted name_cmp new))
      (member_told (λ (p : List ℕ × Value). ¬ IsSeedField p.0) (λ p. not_told (field_told p.0)) (e ++ new))
    where
      by : Told (IsRising new) → Told ((p : List ℕ × Value) × Contains (e ++ new) p × (¬ IsSeedField p.0))
          → Told (IsSeed (rulebook ctx) goal t k e new)
      by (inr n) some = inr (λ is. n is.rising)
      by (inl rising) (inr none) = inl (record { rising = rising; fields = all_fields none })
      by (inl rising) (inl (p, there, not)) = inr (λ is. not (is.fields p.0))

module _ (cur goal : Config) where
  -- ---- moves at their own place

  table_told : (m : Move) → Told (IsTableMove cur goal m)
  table_told (Remove p) = three (same_number (length p) 1) (has_told cur p) (lacks_told goal p)
  table_told (Add p x) = three (same_number (length p) 1) (lacks_told cur p) (there_told goal p x)
  table_told (Replace p x) = inr (λ h. h)
  table_told (AddItem p i s) = inr (λ h. h)
  table_told (RemoveItem p i) = inr (λ h. h)

  key_told : (m : Move) → Told (IsKeyRemove cur goal m)
  key_told (Remove p) = three (same_number (length p) 2) (has_told cur p) (lacks_told goal p)
  key_told (Add p x) = inr (λ h. h)
  key_told (Replace p x) = inr (λ h. h)
  key_told (AddItem p i s) = inr (λ h. h)
  key_told (RemoveItem p i) = inr (λ h. h)

  field_move_told : (m : Move) → Told (IsFieldMove cur goal m)
  field_move_told (Remove p) = four (same_number (length p) 3) (parent_told goal p) (has_told cur p) (lacks_told goal p)
  field_move_told (Add p x) =
      four (same_number (length p) 3) (parent_told cur p) (lacks_told cur p) (there_told goal p x)
  field_move_told (Replace p x) =
      four (same_number (length p) 3) (has_told cur p) (there_told goal p x) (not_told (there_told cur p x))
  field_move_told (AddItem p i s) = inr (λ h. h)
  field_move_told (RemoveItem p i) = inr (λ h. h)

  -- ---- items

  module _ (old new : List (List ℕ)) (i : ℕ) where
    first_told : Told (IsFirstDifference old new i)
    first_told =
        like (λ h. record { before = h.0; differs = h.1 }) (λ is. (is.before, is.differs))
        (both (same_place (take i old) (take i new))
        (not_told (same_option same_text (slice_get old i) (slice_get new i))))

    added_told : (s : List ℕ) → Told (IsItemAdded old new i s)
    added_told s = both (some_told same_text (slice_get new i) s) (not_told (among same_text old s))

    removed_told : Told (IsItemRemoved old new i)
    removed_told =
        and_told (λ item. (¬ Contains new item) ⊎ IsSomeAnd (slice_get new i) (Contains old))
        (λ item. either (not_told (among same_text new item))
        (and_told (Contains old) (among same_text old) (slice_get new i)))
        (slice_get old i)

  module _ (p : Place) (i : ℕ) (P : List (List ℕ) → List (List ℕ) → Type 0)
      (told : (old new : List (List ℕ)) → Told (P old new)) where
    -- two lists there differ first at the index, and are as P says
    lists_told : Told ((lists : ListsDiffer cur goal p i) × P lists.old lists.new)
    lists_told = by (list_at cur p) refl (list_at goal p) refl
      where
        by : (o : Option (List (List ℕ))) → list_at cur p ≡ o → (q : Option (List (List ℕ))) → list_at goal p ≡ q
            → Told ((lists : ListsDiffer cur goal p i) × P lists.old lists.new)
        by None a q b = inr (λ h. let e = sym a ∙ h.0.here in absurd cc)
        by (Some old) a None b = inr (λ h. let e = sym b ∙ h.0.there in absurd cc)
        by (Some old) a (Some new) b =
            like (λ h. (record { old = old; new = new; here = a; there = b; first = h.0 }, h.1)) (λ h. back h.0 h.1)
            (both (first_told old new i) (told old new))
          where
            back : (lists : ListsDiffer cur goal p i) → P lists.old lists.new → IsFirstDifference old new i × P old new
            back lists is =
                subst (λ ys. IsFirstDifference old ys i × P old ys) (same_Some lists.new new (sym lists.there ∙ b))
                (subst (λ xs. IsFirstDifference xs lists.new i × P xs lists.new)
                (same_Some lists.old old (sym lists.here ∙ a)) (lists.first, is))

  item_told : (m : Move) → Told (IsItemMove cur goal m)
  item_told (Add p x) = inr (λ h. h)
  item_told (Remove p) = inr (λ h. h)
  item_told (Replace p x) = inr (λ h. h)
  item_told (AddItem p i s) = lists_told p i (λ old new. IsItemAdded old new i s) (λ old new. added_told old new i s)
  item_told (RemoveItem p i) = lists_told p i (λ old new. IsItemRemoved old new i) (λ old new. removed_told old new i)

  -- ---- entries

  -- the entry that a move adds
  abbrev new_entry : Move → Option Entry
  new_entry (Add p (part.Entry e)) = Some e
  new_entry (Add p (part.Table [])) = None
  new_entry (Add p (part.Table (q ∷ qs))) = Some q.1
  new_entry (Add p (part.Value v)) = None
  new_entry (Remove p) = None
  new_entry (Replace p x) = None
  new_entry (AddItem p i s) = None
  new_entry (RemoveItem p i) = None

  new_added : (t k : List ℕ) (e : Entry) → new_entry (added_entry cur t k e) ≡ Some e
  new_added t k e = by (is_some (find t cur))
    where
      by : (b : Bool)
          → new_entry (if b then Add (t ∷ k ∷ []) (part.Entry e) else Add (t ∷ []) (part.Table ((k, e) ∷ []))) ≡ Some e
      by true = refl
      by false = refl

  module _ (IsAs : SaysOfEntry) (told : (t k : List ℕ) (e new : Entry) → Told (IsAs t k e new)) (g : Generated) where
    abbrev Adds : Type 0
    Adds = AddsEntry IsAs cur goal g

    module _ (t k : List ℕ) (for : g.place ≡ t ∷ k ∷ []) where
      there : (is : Adds) → part_at goal (t ∷ k ∷ []) ≡ Some (part.Entry is.entry)
      there is = ap (part_at goal) (sym for ∙ is.for) ∙ is.there

      -- a table, a key, goal's entry there and the new one
      abbrev Them : Type 0
      Them = List ℕ × List ℕ × Entry × Entry

      -- the new one is added
      abbrev AddsThem : Them → Type 0
      AddsThem q = Lacks cur (q.0 ∷ q.1 ∷ []) × (IsAs q.0 q.1 q.2 q.3 × (g.mv ≡ added_entry cur q.0 q.1 q.3))

      them_told : (e new : Entry) → part_at goal (t ∷ k ∷ []) ≡ Some (part.Entry e) → new_entry g.mv ≡ Some new
          → Told Adds
      them_told e new at from =
          like to back
          (both (lacks_told cur (t ∷ k ∷ [])) (both (told t k e new) (moves_told g.mv (added_entry cur t k new))))
        where
          to : AddsThem (t, k, e, new) → Adds
          to h = record {
            table = t;
            key = k;
            entry = e;
            new = new;
            lacks = h.0;
            there = at;
            alike = h.1.0;
            move = h.1.1;
            for = for;
          }

          back : Adds → AddsThem (t, k, e, new)
          back is = subst AddsThem whole (is.lacks, (is.alike, is.move))
            where
              names : is.table ∷ is.key ∷ [] ≡ t ∷ k ∷ []
              names = sym is.for ∙ for

              table : is.table ≡ t
              table = let n = names in cc

              key : is.key ≡ k
              key = let n = names in cc

              entry : is.entry ≡ e
              entry = same_entry is.entry e (same_Some (part.Entry is.entry) (part.Entry e) (sym (there is) ∙ at))

              other : is.new ≡ new
              other = same_Some is.new new (sym (new_added is.table is.key is.new) ∙ sym (ap new_entry is.move) ∙ from)

              whole : ◌≡◌ {A = Them} (is.table, is.key, is.entry, is.new) (t, k, e, new)
              whole = λ i. (table i, key i, entry i, other i)

      at_told : Told Adds
      at_told = by (part_at goal (t ∷ k ∷ [])) refl (new_entry g.mv) refl
        where
          by : (o : Option Part) → part_at goal (t ∷ k ∷ []) ≡ o → (n : Option Entry) → new_entry g.mv ≡ n → Told Adds
          by (Some (part.Entry e)) at (Some new) from = them_told e new at from
          by (Some (part.Entry e)) at None from =
              inr (λ is. let n = sym from ∙ ap new_entry is.move ∙ new_added is.table is.key is.new in absurd cc)
          by None at n from = inr (λ is. let e = sym at ∙ there is in absurd cc)
          by (Some (part.Table u)) at n from = inr (λ is. let e = sym at ∙ there is in absurd cc)
          by (Some (part.Value v)) at n from = inr (λ is. let e = sym at ∙ there is in absurd cc)

    adds_told : Told Adds
    adds_told = by g.place refl
      where
        by : (p : Place) → g.place ≡ p → Told Adds
        by (t ∷ k ∷ []) for = at_told t k for
        by [] for = inr (λ is. let e = sym for ∙ is.for in absurd cc)
        by (t ∷ []) for = inr (λ is. let e = sym for ∙ is.for in absurd cc)
        by (t ∷ k ∷ f ∷ ns) for = inr (λ is. let e = sym for ∙ is.for in absurd cc)

  -- ---- the five generators

  -- the place of the move, or one of goal's
  abbrev IsPlaceFor : Move → Place → Type 0
  IsPlaceFor m p = (p ≡ place m) ⊎ IsStanding goal p

  module _ (ctx : Ctx) (g : Generated) where
    class_is : (n : ℕ) → Told (g.class ≡ n)
    class_is n = same_number g.class n

    for_its_place : Told (IsForItsPlace g)
    for_its_place = same_place g.place (place g.mv)

    tables : Told (IsFromTables cur goal g)
    tables = three (table_told g.mv) for_its_place (class_is table_class)

    keys : Told (IsFromKeys cur goal g)
    keys = both (either (both (key_told g.mv) for_its_place) (adds_told IsWhole whole_told g)) (class_is key_class)

    fields : Told (IsFromFields cur goal g)
    fields = three (field_move_told g.mv) for_its_place (class_is field_class)

    seeds : Told (IsFromSeeds (rulebook ctx) cur goal g)
    seeds = both (adds_told (IsSeed (rulebook ctx) goal) (seed_told ctx goal) g) (class_is seed_class)

    items : Told (IsFromItems cur goal g)
    items = three (item_told g.mv) for_its_place (class_is item_class)

    -- one of the five gives it
    abbrev IsFromSome : Type 0
    IsFromSome =
        IsFromTables cur goal g
        ⊎ (IsFromKeys cur goal g
        ⊎ (IsFromFields cur goal g ⊎ (IsFromSeeds (rulebook ctx) cur goal g ⊎ IsFromItems cur goal g)))

    to_kind : IsFromSome → IsGeneratedMove (rulebook ctx) cur goal g
    to_kind (inl h) = (1, inl (refl, h))
    to_kind (inr (inl h)) = (2, inr (inl (refl, h)))
    to_kind (inr (inr (inl h))) = (3, inr (inr (inl (refl, h))))
    to_kind (inr (inr (inr (inl h)))) = (4, inr (inr (inr (inl (refl, h)))))
    to_kind (inr (inr (inr (inr h)))) = (5, inr (inr (inr (inr (refl, h)))))

    of_kind : (kind : ℕ) → IsGenerated (rulebook ctx) cur goal kind g → IsFromSome
    of_kind kind (inl h) = inl h.1
    of_kind kind (inr (inl h)) = inr (inl h.1)
    of_kind kind (inr (inr (inl h))) = inr (inr (inl h.1))
    of_kind kind (inr (inr (inr (inl h)))) = inr (inr (inr (inl h.1)))
    of_kind kind (inr (inr (inr (inr h)))) = inr (inr (inr (inr h.1)))

    -- some generator gives it
    pub generated_told : Told (IsGeneratedMove (rulebook ctx) cur goal g)
    generated_told =
        like to_kind (λ h. of_kind h.0 h.1) (either tables (either keys (either fields (either seeds items))))

    -- ---- they are finitely many

    entry_place : (IsAs : SaysOfEntry) → AddsEntry IsAs cur goal g → IsPlaceFor g.mv g.place
    entry_place IsAs adds =
        inr (subst (IsStanding goal) (sym adds.for)
        (part_standing goal (adds.table ∷ adds.key ∷ []) (part.Entry adds.entry) adds.there))

    place_for : IsFromSome → IsPlaceFor g.mv g.place
    place_for (inl h) = inl h.1
    place_for (inr (inl (inl h, class))) = inl h.1
    place_for (inr (inl (inr h, class))) = entry_place IsWhole h
    place_for (inr (inr (inl h))) = inl h.1
    place_for (inr (inr (inr (inl h)))) = entry_place (IsSeed (rulebook ctx) goal) h.0
    place_for (inr (inr (inr (inr h)))) = inl h.1

    few_classes : IsFromSome → g.class < 5
    few_classes (inl h) = let class = h.2 in omega (arith, class)
    few_classes (inr (inl h)) = let class = h.1 in omega (arith, class)
    few_classes (inr (inr (inl h))) = let class = h.2 in omega (arith, class)
    few_classes (inr (inr (inr (inl h)))) = let class = h.1 in omega (arith, class)
    few_classes (inr (inr (inr (inr h)))) = let class = h.2 in omega (arith, class)

  abbrev of_move : Move → Place → ℕ → Generated
  of_move m p class = record { mv = m; place = p; class = class }

  module _ (ctx : Ctx) where
    abbrev IsAt : Move → Generated → Type 0
    IsAt m g = (p : Place) × IsPlaceFor m p × ((class : ℕ) × (class < 5) × (g ≡ of_move m p class))

    -- a listed move, at its place or at one of goal's, and with one of five classes
    abbrev IsOfListed : Generated → Type 0
    IsOfListed g = (m : Move) × IsListed (rulebook ctx) cur goal m × IsAt m g

    pub finite_generated : IsFinite (IsGeneratedMove (rulebook ctx) cur goal)
    finite_generated =
        finite_within (IsGeneratedMove (rulebook ctx) cur goal) IsOfListed of_listed
        (finite_each (IsListed (rulebook ctx) cur goal) IsAt (listed_finite ctx cur goal) at)
      where
        of_listed : (g : Generated) → IsGeneratedMove (rulebook ctx) cur goal g → IsOfListed g
        of_listed g is =
            let some = of_kind ctx g is.0 is.1 in (
              g.mv,
              record { first = g; depth = 0; generated = is; leads = refl },
              (g.place, place_for ctx g some, (g.class, few_classes ctx g some, refl)),
            )

        at : (m : Move) → IsFinite (IsAt m)
        at m =
            finite_each (IsPlaceFor m) (λ p g. (class : ℕ) × (class < 5) × (g ≡ of_move m p class))
            (finite_either (λ p. p ≡ place m) (IsStanding goal) (finite_one (place m)) (finite_standing goal))
            (λ p. finite_image (λ class. class < 5) (of_move m p) (finite_below 5))
