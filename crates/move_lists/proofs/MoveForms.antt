-- Each listed move is of a form of which a configuration, its goal and its rules give finitely many.
use Rattle.std.proofs.Common.{◌≡◌, ◌⊎◌, inl, inr, ℕ, zero, suc, Bool, true, false, if◌then◌else◌, List, [], ◌∷◌, ◌++◌, Option, Some, None, IsSomeAnd, is_some, slice_get, unwrap_or, refl, sym, ap, subst, ◌∙◌}
use Rattle.std.proofs.lemmas.Option.{slice_get_within}
use Rattle.std.specs.List.{Contains}
use Rattle.std.specs.Option.{option_map_or}
use Rattle.conf_doc.specs.Changes.{part_at}
use Rattle.conf_doc.specs.Pairs.{find}
use Rattle.conf_doc.specs.declared.configuration.Config.{Config}
use Rattle.conf_doc.specs.declared.configuration.Entry.{Entry}
use Rattle.conf_doc.specs.declared.configuration.Table.{Table}
use Rattle.conf_doc.specs.declared.parts.Part.{Part}
use Rattle.conf_doc.specs.declared.parts.Part.TheVariants as part
use Rattle.conf_doc.proofs.Edits.{same_Some}
use Rattle.move_core.specs.Contexts.{HasWant, rulebook}
use Rattle.move_core.specs.Extensions.{IsDelete, IsExtension, IsReferrer, IsRequired, IsUpper, as_in_goal, required_part, rule_entry, rule_field, removal, upper, upper_place}
use Rattle.move_core.specs.Generated.{AddsEntry, IsFieldMove, IsGenerated, IsItemMove, IsKeyRemove, IsSeed, IsTableMove, IsWhole, SaysOfEntry}
use Rattle.move_core.specs.Listed.{IsListed, LeadsTo}
use Rattle.move_core.specs.Moves.{Place, items_at, list_at, place}
use Rattle.move_core.specs.declared.contexts.Ctx.{Ctx}
use Rattle.move_core.specs.declared.moves.Generated.{Generated}
use Rattle.move_core.specs.declared.moves.Move.{Move}
use Rattle.move_core.specs.declared.moves.Move.TheVariants.{Add, Remove, Replace, AddItem, RemoveItem}
use Rattle.move_core.specs.declared.settings.Required.{Required}
use Rattle.move_lists.specs.Finite.{IsFinite}
use Rattle.move_lists.proofs.FiniteSets.{finite_each, finite_either, finite_found, finite_image, finite_one, finite_some, finite_within}
use Rattle.move_core.proofs.DefinedMoves.{list_place, some_and}
use Rattle.move_lists.proofs.ItemIndexes.{IsIndexOf, finite_indexes, index_at, text_index}
use Rattle.move_core.proofs.WantedItems.{wanted_item}
use Rattle.move_lists.proofs.RisingLists.{IsSelected, finite_selected, found_member}
use Rattle.move_lists.proofs.FinitePlaces.{IsStanding, entry_found, finite_standing, has_standing, named_standing, part_standing, upper_standing}

-- a part is added at a place or replaces what is there
abbrev Puts : Place → Part → Move → Type 0
Puts p v m = (m ≡ Add p v) ⊎ (m ≡ Replace p v)

finite_puts : (p : Place) (v : Part) → IsFinite (Puts p v)
finite_puts p v = finite_either (λ m. m ≡ Add p v) (λ m. m ≡ Replace p v) (finite_one (Add p v)) (finite_one (Replace p v))

-- an entry is added, or a table with it alone
abbrev AddsAt : List ℕ → List ℕ → Entry → Move → Type 0
AddsAt t k new m = (m ≡ Add (t ∷ k ∷ []) (part.Entry new)) ⊎ (m ≡ Add (t ∷ []) (part.Table ((k, new) ∷ [])))

-- it is that entry, or is made of some of its fields
abbrev IsOfEntry : Entry → Entry → Type 0
IsOfEntry e new = (new ≡ e) ⊎ IsSelected e new

-- an entry made of one of the table is added
abbrev AddsOfTable : List ℕ → Table → Move → Type 0
AddsOfTable t table m =
    (e : List ℕ × Entry) × Contains table e × ((new : Entry) × IsOfEntry e.1 new × AddsAt t e.0 new m)

finite_adds : (t : List ℕ) (table : Table) → IsFinite (AddsOfTable t table)
finite_adds t table = finite_some (λ (e : List ℕ × Entry) m. (new : Entry) × IsOfEntry e.1 new × AddsAt t e.0 new m) table entries
  where
    at : (k : List ℕ) (new : Entry) → IsFinite (AddsAt t k new)
    at k new =
        finite_either (λ m. m ≡ Add (t ∷ k ∷ []) (part.Entry new)) (λ m. m ≡ Add (t ∷ []) (part.Table ((k, new) ∷ [])))
        (finite_one (Add (t ∷ k ∷ []) (part.Entry new))) (finite_one (Add (t ∷ []) (part.Table ((k, new) ∷ []))))

    of_entry : (e : Entry) → IsFinite (IsOfEntry e)
    of_entry e = finite_either (λ new. new ≡ e) (IsSelected e) (finite_one e) (finite_selected e)

    entries : (e : List ℕ × Entry) → IsFinite (λ m. (new : Entry) × IsOfEntry e.1 new × AddsAt t e.0 new m)
    entries e = finite_each (IsOfEntry e.1) (AddsAt t e.0) (of_entry e.1) (at e.0)

module _ (ctx : Ctx) (cur goal : Config) where
  -- ---- the places of known moves

  -- the place of a rule's field
  abbrev IsRuled : Required → Place → Type 0
  IsRuled r p = (k : List ℕ) × IsStanding cur (rule_entry r k) × (p ≡ rule_field r k)

  -- such a place for one of the rules
  abbrev IsRulePlace : Place → Type 0
  IsRulePlace p = (r : Required) × Contains ctx.settings.required r × IsRuled r p

  -- a place of one of the configurations or of a rule
  abbrev IsKnownPlace : Place → Type 0
  IsKnownPlace p = IsStanding cur p ⊎ (IsStanding goal p ⊎ IsRulePlace p)

  finite_ruled : (r : Required) → IsFinite (IsRuled r)
  finite_ruled r =
      finite_within (IsRuled r) (λ p. (q : Place) × IsStanding cur q × (p ≡ q ++ r.field ∷ []))
      (λ p h. (rule_entry r h.0, h.1, h.2)) (finite_image (IsStanding cur) (λ q. q ++ r.field ∷ []) (finite_standing cur))

  finite_places : IsFinite IsKnownPlace
  finite_places =
      finite_either (IsStanding cur) (λ p. IsStanding goal p ⊎ IsRulePlace p) (finite_standing cur)
      (finite_either (IsStanding goal) IsRulePlace (finite_standing goal) (finite_some IsRuled ctx.settings.required finite_ruled))

  -- the place above a known one is known
  upper_known : (p q : Place) → IsKnownPlace p → upper p ≡ Some q → IsKnownPlace q
  upper_known p q (inl s) up = inl (upper_standing cur p q s up)
  upper_known p q (inr (inl s)) up = inr (inl (upper_standing goal p q s up))
  upper_known p q (inr (inr (r, there, (k, s, is)))) up =
      inl (subst (IsStanding cur) (same_Some (rule_entry r k) q (sym (ap upper is) ∙ up)) s)

  -- ---- known moves

  -- a known place is removed
  abbrev Removes : Move → Type 0
  Removes m = (p : Place) × IsKnownPlace p × (m ≡ Remove p)

  -- what goal has is put at its place
  abbrev PutsOfGoal : Move → Type 0
  PutsOfGoal m = (p : Place) × IsStanding goal p × ((v : Part) × (part_at goal p ≡ Some v) × Puts p v m)

  -- a rule's value is put at a field
  abbrev PutsOfRule : Move → Type 0
  PutsOfRule m =
      (r : Required) × Contains ctx.settings.required r × ((p : Place) × IsRuled r p × Puts p (required_part r) m)

  -- an entry made of one of goal's is added
  abbrev AddsOfGoal : Move → Type 0
  AddsOfGoal m = (t : List ℕ × Table) × Contains goal t × AddsOfTable t.0 t.1 m

  -- an item of a list is removed
  abbrev RemovesItem : Move → Type 0
  RemovesItem m = (p : Place) × IsStanding cur p × ((i : ℕ) × IsIndexOf cur i × (m ≡ RemoveItem p i))

  -- an item of a list of goal's is added
  abbrev AddsItem : Move → Type 0
  AddsItem m =
      (p : Place) × IsStanding goal p
      × ((i : ℕ) × IsIndexOf goal i × ((x : List ℕ) × (slice_get (items_at goal p) i ≡ Some x) × (m ≡ AddItem p i x)))

  abbrev IsOfItem : Move → Type 0
  IsOfItem m = RemovesItem m ⊎ AddsItem m

  abbrev IsKnown : Move → Type 0
  IsKnown m = Removes m ⊎ (PutsOfGoal m ⊎ (PutsOfRule m ⊎ (AddsOfGoal m ⊎ IsOfItem m)))

  -- there are finitely many
  finite_known : IsFinite IsKnown
  finite_known =
      finite_either Removes (λ m. PutsOfGoal m ⊎ (PutsOfRule m ⊎ (AddsOfGoal m ⊎ IsOfItem m))) (finite_image IsKnownPlace Remove finite_places)
      (finite_either PutsOfGoal (λ m. PutsOfRule m ⊎ (AddsOfGoal m ⊎ IsOfItem m)) of_goal
      (finite_either PutsOfRule (λ m. AddsOfGoal m ⊎ IsOfItem m) of_rule
      (finite_either AddsOfGoal IsOfItem adds (finite_either RemovesItem AddsItem removes_item adds_item))))
    where
      removes_item : IsFinite RemovesItem
      removes_item =
          finite_each (IsStanding cur) (λ p m. (i : ℕ) × IsIndexOf cur i × (m ≡ RemoveItem p i)) (finite_standing cur)
          (λ p. finite_image (IsIndexOf cur) (RemoveItem p) (finite_indexes cur))

      adds_item : IsFinite AddsItem
      adds_item =
          finite_each (IsStanding goal) (λ p m. (i : ℕ) × IsIndexOf goal i × ((x : List ℕ) × (slice_get (items_at goal p) i ≡ Some x) × (m ≡ AddItem p i x)))
          (finite_standing goal)
          (λ p.
          finite_each (IsIndexOf goal) (λ i m. (x : List ℕ) × (slice_get (items_at goal p) i ≡ Some x) × (m ≡ AddItem p i x)) (finite_indexes goal)
          (λ i. finite_image (λ x. slice_get (items_at goal p) i ≡ Some x) (AddItem p i) (finite_found (slice_get (items_at goal p) i))))

      of_goal : IsFinite PutsOfGoal
      of_goal =
          finite_each (IsStanding goal) (λ p m. (v : Part) × (part_at goal p ≡ Some v) × Puts p v m) (finite_standing goal)
          (λ p. finite_each (λ v. part_at goal p ≡ Some v) (Puts p) (finite_found (part_at goal p)) (finite_puts p))

      of_rule : IsFinite PutsOfRule
      of_rule =
          finite_some (λ r m. (p : Place) × IsRuled r p × Puts p (required_part r) m) ctx.settings.required
          (λ r. finite_each (IsRuled r) (λ p. Puts p (required_part r)) (finite_ruled r) (λ p. finite_puts p (required_part r)))

      adds : IsFinite AddsOfGoal
      adds = finite_some (λ (t : List ℕ × Table) m. AddsOfTable t.0 t.1 m) goal (λ t. finite_adds t.0 t.1)

  place_known : (m : Move) → IsKnown m → IsKnownPlace (place m)
  place_known m (inl (p, known, is)) = subst IsKnownPlace (sym (ap place is)) known
  place_known m (inr (inl (p, stands, (v, at, inl is)))) = inr (inl (subst (IsStanding goal) (sym (ap place is)) stands))
  place_known m (inr (inl (p, stands, (v, at, inr is)))) = inr (inl (subst (IsStanding goal) (sym (ap place is)) stands))
  place_known m (inr (inr (inl (r, there, (p, ruled, inl is))))) = inr (inr (r, there, subst (IsRuled r) (sym (ap place is)) ruled))
  place_known m (inr (inr (inl (r, there, (p, ruled, inr is))))) = inr (inr (r, there, subst (IsRuled r) (sym (ap place is)) ruled))
  place_known m (inr (inr (inr (inl (t, there, (e, in_table, (new, of, inl is))))))) =
      inr (inl (t, there, inr (e, in_table, inl (ap place is))))
  place_known m (inr (inr (inr (inl (t, there, (e, in_table, (new, of, inr is))))))) = inr (inl (t, there, inl (ap place is)))
  place_known m (inr (inr (inr (inr (inl (p, stands, (i, at, is))))))) = inl (subst (IsStanding cur) (sym (ap place is)) stands)
  place_known m (inr (inr (inr (inr (inr (p, stands, (i, at, (x, there, is)))))))) = inr (inl (subst (IsStanding goal) (sym (ap place is)) stands))

  -- ---- generated moves are known

  removed : (p : Place) → IsStanding cur p → IsKnown (Remove p)
  removed p stands = inl (p, inl stands, refl)

  added : (p : Place) (v : Part) → part_at goal p ≡ Some v → IsKnown (Add p v)
  added p v at = inr (inl (p, part_standing goal p v at, (v, at, inl refl)))

  replaced : (p : Place) (v : Part) → part_at goal p ≡ Some v → IsKnown (Replace p v)
  replaced p v at = inr (inl (p, part_standing goal p v at, (v, at, inr refl)))

  table_known : (m : Move) → IsTableMove cur goal m → IsKnown m
  table_known (Add p v) h = added p v h.2
  table_known (Remove p) h = removed p (has_standing cur p h.1)
  table_known (Replace p v) h = absurd h
  table_known (AddItem p i v) h = absurd h
  table_known (RemoveItem p i) h = absurd h

  key_known : (m : Move) → IsKeyRemove cur goal m → IsKnown m
  key_known (Add p v) h = absurd h
  key_known (Remove p) h = removed p (has_standing cur p h.1)
  key_known (Replace p v) h = absurd h
  key_known (AddItem p i v) h = absurd h
  key_known (RemoveItem p i) h = absurd h

  field_known : (m : Move) → IsFieldMove cur goal m → IsKnown m
  field_known (Add p v) h = added p v h.3
  field_known (Remove p) h = removed p (has_standing cur p h.2)
  field_known (Replace p v) h = replaced p v h.2
  field_known (AddItem p i v) h = absurd h
  field_known (RemoveItem p i) h = absurd h

  listed_place : (c : Config) (p : Place) (items : List (List ℕ)) → list_at c p ≡ Some items → IsStanding c p
  listed_place c p items is = has_standing c p (list_place c p is)

  items_are : (c : Config) (p : Place) (items : List (List ℕ)) → list_at c p ≡ Some items → items_at c p ≡ items
  items_are c p items is = ap (λ o. unwrap_or o []) is

  item_known : (m : Move) → IsItemMove cur goal m → IsKnown m
  item_known (Add p v) h = absurd h
  item_known (Remove p) h = absurd h
  item_known (Replace p v) h = absurd h
  item_known (AddItem p i x) h =
      let lists = h.0 in
      inr (inr (inr (inr (inr (
        p,
        listed_place goal p lists.new lists.there,
        (i, index_at goal p lists.new i lists.there (slice_get_within lists.new i x h.1.0), (x, ap (λ items. slice_get items i) (items_are goal p lists.new lists.there) ∙ h.1.0, refl)),
      )))))
  item_known (RemoveItem p i) h =
      let lists = h.0 in
      let at = some_and (slice_get lists.old i) h.1 in
      inr (inr (inr (inr (inl (p, listed_place cur p lists.old lists.here, (i, index_at cur p lists.old i lists.here (slice_get_within lists.old i at.0 at.1), refl))))))

  -- an entry made of goal's
  entry_known : (IsAs : SaysOfEntry) (g : Generated) → ((t k : List ℕ) (e new : Entry) → IsAs t k e new → IsOfEntry e new)
      → AddsEntry IsAs cur goal g → IsKnown g.mv
  entry_known IsAs g of adds =
      inr (inr (inr (inl (
        (adds.table, found.0),
        found_member goal adds.table found.0 found.1,
        (
          (adds.key, adds.entry),
          found_member found.0 adds.key adds.entry found.2,
          (adds.new, of adds.table adds.key adds.entry adds.new adds.alike, by (is_some (find adds.table cur)) refl),
        ),
      ))))
    where
      found : (table : Table) × (find adds.table goal ≡ Some table) × (find adds.key table ≡ Some adds.entry)
      found = entry_found goal adds.table adds.key adds.entry adds.there

      by : (b : Bool) → is_some (find adds.table cur) ≡ b → AddsAt adds.table adds.key adds.new g.mv
      by true e = inl (adds.move ∙ ap (λ b. if b then Add (adds.table ∷ adds.key ∷ []) (part.Entry adds.new) else Add (adds.table ∷ []) (part.Table ((adds.key, adds.new) ∷ []))) e)
      by false e = inr (adds.move ∙ ap (λ b. if b then Add (adds.table ∷ adds.key ∷ []) (part.Entry adds.new) else Add (adds.table ∷ []) (part.Table ((adds.key, adds.new) ∷ []))) e)

  seed_of : (t k : List ℕ) (e new : Entry) → IsSeed (rulebook ctx) goal t k e new → IsOfEntry e new
  seed_of t k e new is = inr (record { rising = is.rising; there = λ f v at. found_member e f v ((is.fields f v).0 at).0 })

  generated_known : (kind : ℕ) (g : Generated) → IsGenerated (rulebook ctx) cur goal kind g → IsKnown g.mv
  generated_known kind g (inl h) = table_known g.mv h.1.0
  generated_known kind g (inr (inl (is, (inl h, class)))) = key_known g.mv h.0
  generated_known kind g (inr (inl (is, (inr h, class)))) = entry_known IsWhole g (λ t k e new same. inl same) h
  generated_known kind g (inr (inr (inl h))) = field_known g.mv h.1.0
  generated_known kind g (inr (inr (inr (inl h)))) = entry_known (IsSeed (rulebook ctx) goal) g seed_of h.1.0
  generated_known kind g (inr (inr (inr (inr h)))) = item_known g.mv h.1.0

  -- ---- extensions of known moves are known

  from_upper : (m x : Move) → IsKnown m → IsUpper goal m x → IsKnown x
  from_upper m x known is = by (upper_place m) refl is
    where
      as_goal : (p : Place) → IsKnownPlace p → (o : Option Part) → part_at goal p ≡ o → IsKnown (option_map_or (Replace p) o (Remove p))
      as_goal p at None e = inl (p, at, refl)
      as_goal p at (Some v) e = replaced p v e

      above : (n : Move) → IsKnown n → (p : Place) → upper_place n ≡ Some p → IsKnownPlace p
      above (Add q v) known p e = upper_known q p (place_known (Add q v) known) e
      above (Remove q) known p e = upper_known q p (place_known (Remove q) known) e
      above (Replace q v) known p e = upper_known q p (place_known (Replace q v) known) e
      above (AddItem q i v) known p e = subst IsKnownPlace (same_Some q p e) (place_known (AddItem q i v) known)
      above (RemoveItem q i) known p e = subst IsKnownPlace (same_Some q p e) (place_known (RemoveItem q i) known)

      by : (o : Option Place) → upper_place m ≡ o → IsSomeAnd o (λ p. x ≡ as_in_goal goal p) → IsKnown x
      by None e h = absurd h
      by (Some p) e h = subst IsKnown (sym h) (as_goal p (above m known p e) (part_at goal p) refl)

  from_delete : (m x : Move) → IsKnown m → IsDelete m x → IsKnown x
  from_delete (Add p v) x known is = absurd is
  from_delete (Remove p) x known is = absurd is
  from_delete (Replace p v) x known is = inl (p, place_known (Replace p v) known, is)
  from_delete (AddItem p i v) x known is = absurd is
  from_delete (RemoveItem p i) x known is = absurd is

  from_wants : (m x : Move) → IsReferrer (rulebook ctx) cur m x → IsKnown x
  from_wants m x is = subst IsKnown (sym is.move) (by is.item is.there)
    where
      stands : IsStanding cur is.at
      stands = named_standing cur is.there.at.table is.there.at.key is.there.at.field is.at is.there.names

      by : (item : Option ℕ) → HasWant ctx.models cur is.at item is.want → IsKnown (removal is.at item)
      by None has = inl (is.at, inl stands, refl)
      by (Some i) has = inr (inr (inr (inr (inl (is.at, stands, (i, text_index cur i (wanted_item ctx.models cur is.at i is.want has), refl))))))

  from_rules : (m x : Move) → IsRequired (rulebook ctx) cur m x → IsKnown x
  from_rules m x is =
      inr (inr (inl (is.rule, is.listed, (rule_field is.rule is.key, (is.key, has_standing cur (rule_entry is.rule is.key) is.before, refl), by (is_some (part_at cur (rule_field is.rule is.key))) refl))))
    where
      v : Part
      v = required_part is.rule

      p : Place
      p = rule_field is.rule is.key

      by : (b : Bool) → is_some (part_at cur p) ≡ b → Puts p v x
      by true e = inr (is.move ∙ ap (λ b. if b then Replace p v else Add p v) e)
      by false e = inl (is.move ∙ ap (λ b. if b then Replace p v else Add p v) e)

  extended_known : (kind : ℕ) (m x : Move) → IsKnown m → IsExtension (rulebook ctx) cur goal kind m x → IsKnown x
  extended_known kind m x known (inl h) = from_upper m x known h.1
  extended_known kind m x known (inr (inl h)) = from_delete m x known h.1
  extended_known kind m x known (inr (inr (inl h))) = from_wants m x h.1
  extended_known kind m x known (inr (inr (inr h))) = from_rules m x h.1

  led_known : (m : Move) (n : ℕ) (x : Move) → IsKnown m → LeadsTo (rulebook ctx) cur goal m n x → IsKnown x
  led_known m zero x known is = subst IsKnown (sym is) known
  led_known m (suc n) x known (y, leads, (kind, extends)) = extended_known kind y x (led_known m n y known leads) extends

  listed_known : (m : Move) → IsListed (rulebook ctx) cur goal m → IsKnown m
  listed_known m is = led_known is.first.mv is.depth m (generated_known is.generated.0 is.first is.generated.1) is.leads

  pub listed_finite : IsFinite (IsListed (rulebook ctx) cur goal)
  listed_finite = finite_within (IsListed (rulebook ctx) cur goal) IsKnown listed_known finite_known
