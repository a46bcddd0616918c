-- The wants of an entry, gone through for those at a place.
use Rattle.std.proofs.Common.{◌≡◌, ◌≢◌, ◌⊎◌, ◌↔◌, ◌<◌, ℕ, length, List, [], ◌∷◌, ◌++◌, slice_get, All, Contains, Option, Some, None, option_map, option_and_then, inl, inr, refl, sym, ap, ◌∙◌, subst, arith}
use Rattle.std.specs.Option.{option_to_list}
use Rattle.std.proofs.lemmas.List.Elements.{All-append, All-cons, All-contains, All-nil, Contains-append_left, Contains-append_right}
use Rattle.conf_doc.specs.declared.configuration.Config.{Config}
use Rattle.conf_doc.specs.declared.configuration.Entry.{Entry}
use Rattle.conf_doc.specs.declared.configuration.Table.{Table}
use Rattle.conf_doc.specs.declared.configuration.Value.{Value}
use Rattle.conf_check.specs.Rows.{IsEntryAt}
use Rattle.conf_check.specs.WantRuns.{GivesFirst, IsDone, IsWantAhead}
use Rattle.conf_check.specs.Wants.{Want, IsNamed, IsWantAt, field_name, want_of}
use Rattle.conf_check.specs.declared.want_iter.WantAt.{WantAt}
use Rattle.conf_check.specs.declared.want_iter.WantIter.{WantIter}
use Rattle.conf_check.specs.declared.want_iter.WantPlace.{WantPlace}
use Rattle.move_core.specs.Contexts.{HasWant, field_names, item_at, names_of}
use Rattle.move_core.specs.Moves.{Place}
use Rattle.yang_model.specs.ModelSets.{ModelSet}
use Rattle.plan_check.specs.Touching.{names_at}
use Rattle.plan_check.specs.WantsAt.{AreWantsAt, IsAmong}

same_Some : {A : Type 0} (x y : A) → Some x ≡ Some y → x ≡ y
same_Some x y e = cc

-- ---- the names of a place

-- a field's name, and the rest of the names
rest_is : (fields : Entry) (o : Option ℕ) (n : Option (List ℕ)) → field_name fields o ≡ Some n → field_names fields o ≡ Some (option_to_list n)
rest_is fields None n is = ap (λ m. Some (option_to_list m)) (same_Some None n is)
rest_is fields (Some i) n is = by (slice_get fields i) is
  where
    by : (x : Option (List ℕ × Value)) → option_map (λ f. Some f.0) x ≡ Some n → option_map (λ f. f.0 ∷ []) x ≡ Some (option_to_list n)
    by None e = cc
    by (Some f) e = ap (λ m. Some (option_to_list m)) (same_Some (Some f.0) n e)

-- a want that is handed out stands at its names
pub named_place : (c : Config) (p : WantPlace) (at : WantAt) → IsNamed c p at → names_of c p ≡ Some (names_at at)
named_place c p at named =
    let t = at.table.now in
    let k = at.key.now in
    ap (option_and_then (λ (u : List ℕ × Table). option_and_then (λ (e : List ℕ × Entry). option_map (λ g. u.0 ∷ e.0 ∷ g) (field_names e.1 p.field)) (slice_get u.1 p.key))) named.entry.at
    ∙ ap (option_and_then (λ (e : List ℕ × Entry). option_map (λ g. t ∷ e.0 ∷ g) (field_names e.1 p.field))) named.entry.at_key
    ∙ ap (option_map (λ g. t ∷ k ∷ g)) (rest_is named.entry.fields p.field (option_map (λ s. s.now) at.field) named.field)

-- a place of those names lies in that entry
module _ (c : Config) (t k : List ℕ) (rest : Place) (p : WantPlace) where
  first_two : (u j : List ℕ) (table : Table) (e : Entry) (o : Option Place) → slice_get c p.table ≡ Some (u, table) → slice_get table p.key ≡ Some (j, e)
      → option_map (λ g. u ∷ j ∷ g) o ≡ Some (t ∷ k ∷ rest) → IsEntryAt c t k p.table p.key
  first_two u j table e None at at_key is = cc
  first_two u j table e (Some g) at at_key is =
      let first : u ≡ t = cc in
      let second : j ≡ k = cc in
      record { entries = table; at = at ∙ (λ i. Some (first i, table)); fields = e; at_key = at_key ∙ (λ i. Some (second i, e)) }

  in_table : (u : List ℕ) (table : Table) (o : Option (List ℕ × Entry)) → slice_get c p.table ≡ Some (u, table) → slice_get table p.key ≡ o
      → option_and_then (λ e. option_map (λ g. u ∷ e.0 ∷ g) (field_names e.1 p.field)) o ≡ Some (t ∷ k ∷ rest) → IsEntryAt c t k p.table p.key
  in_table u table None at at_key is = cc
  in_table u table (Some e) at at_key is = first_two u e.0 table e.1 (field_names e.1 p.field) at at_key is

  in_config : (o : Option (List ℕ × Table)) → slice_get c p.table ≡ o
      → option_and_then (λ u. option_and_then (λ e. option_map (λ g. u.0 ∷ e.0 ∷ g) (field_names e.1 p.field)) (slice_get u.1 p.key)) o ≡ Some (t ∷ k ∷ rest)
      → IsEntryAt c t k p.table p.key
  in_config None at is = cc
  in_config (Some u) at is = in_table u.0 u.1 (slice_get u.1 p.key) at refl is

  pub entry_of : names_of c p ≡ Some (t ∷ k ∷ rest) → IsEntryAt c t k p.table p.key
  entry_of is = in_config (slice_get c p.table) refl is

-- no want stands at a place of one name
pub long_names : (c : Config) (p : WantPlace) (q : Place) → names_of c p ≡ Some q → (t : List ℕ) × (k : List ℕ) × (rest : Place) × (q ≡ t ∷ k ∷ rest)
long_names c p q is = in_config_2 (slice_get c p.table) is
  where
    two : (u j : List ℕ) (o : Option Place) → option_map (λ g. u ∷ j ∷ g) o ≡ Some q → (t : List ℕ) × (k : List ℕ) × (rest : Place) × (q ≡ t ∷ k ∷ rest)
    two u j None e = cc
    two u j (Some g) e = (u, j, g, sym (same_Some _ _ e))

    in_table_2 : (u : List ℕ) (o : Option (List ℕ × Entry)) → option_and_then (λ e. option_map (λ g. u ∷ e.0 ∷ g) (field_names e.1 p.field)) o ≡ Some q
        → (t : List ℕ) × (k : List ℕ) × (rest : Place) × (q ≡ t ∷ k ∷ rest)
    in_table_2 u None e = cc
    in_table_2 u (Some x) e = two u x.0 (field_names x.1 p.field) e

    in_config_2 : (o : Option (List ℕ × Table)) → option_and_then (λ u. option_and_then (λ e. option_map (λ g. u.0 ∷ e.0 ∷ g) (field_names e.1 p.field)) (slice_get u.1 p.key)) o ≡ Some q
        → (t : List ℕ) × (k : List ℕ) × (rest : Place) × (q ≡ t ∷ k ∷ rest)
    in_config_2 None e = cc
    in_config_2 (Some u) e = in_table_2 u.0 (slice_get u.1 p.key) e

-- ---- the walk

-- a want at a position is one of those found
pub record IsFound (ats : List WantAt) (q : WantPlace) (w : Want) : Type 0 where
  pub at : WantAt
  pub there : Contains ats at
  pub item : at.item ≡ q.item
  pub want : want_of at.want ≡ w

-- those found are at the place, and the others that are there are ahead
pub record Gathers (models : ModelSet) (c : Config) (p : Place) (s : WantIter) (ats : List WantAt) : Type 0 where
  pub models_are : s.models.now ≡ models
  pub config_is : s.config.now ≡ c
  pub each : All (λ a. HasWant models c p (item_at c p a.item) (want_of a.want)) ats
  pub rest : (q : WantPlace) (w : Want) → names_of c q ≡ Some p → IsWantAt models c q w → IsFound ats q w ⊎ IsWantAhead s q w

module _ (models : ModelSet) (c : Config) (p : Place) (s : WantIter) (ats : List WantAt) (inv : Gathers models c p s ats) (at : WantAt) (t : WantIter) (gives : GivesFirst s at t)
    (models_stay : t.models.now ≡ s.models.now) (config_stays : t.config.now ≡ s.config.now) where
  abbrev Has : WantAt → Type 0
  Has a = HasWant models c p (item_at c p a.item) (want_of a.want)

  named : names_of c gives.place ≡ Some (names_at at)
  named = named_place c gives.place at (subst (λ x. IsNamed x gives.place at) inv.config_is gives.named)

  wanted : IsWantAt models c gives.place (want_of at.want)
  wanted =
      subst (λ m. IsWantAt m c gives.place (want_of at.want)) inv.models_are
      (subst (λ x. IsWantAt s.models.now x gives.place (want_of at.want)) inv.config_is gives.wanted.1)

  item_is : at.item ≡ gives.place.item
  item_is = gives.named.item

  -- it stands at the place
  pub gathered : (names_at at ≡ p) → (new : List WantAt) → new ≡ ats ++ at ∷ [] → Gathers models c p t new
  gathered here new is = record {
    models_are = models_stay ∙ inv.models_are;
    config_is = config_stays ∙ inv.config_is;
    each = subst (All Has) (sym is) (All-append Has ats (at ∷ []) inv.each (All-cons Has at [] one (All-nil Has)));
    rest = λ q w names want. by q w (inv.rest q w names want);
  }
    where
      one : HasWant models c p (item_at c p at.item) (want_of at.want)
      one = record { at = gives.place; wanted = wanted; names = named ∙ ap Some here; index = ap (item_at c p) (sym item_is) }

      last : (q : WantPlace) (w : Want) → ((q ≡ gives.place) × (w ≡ want_of at.want)) ⊎ IsWantAhead t q w → IsFound new q w ⊎ IsWantAhead t q w
      last q w (inl same) = inl (record {
        at = at;
        there = subst (λ l. Contains l at) (sym is) (Contains-append_right ats (at ∷ []) at (0, omega arith, refl));
        item = item_is ∙ ap (λ (r : WantPlace). r.item) (sym same.0);
        want = sym same.1;
      })
      last q w (inr ahead) = inr ahead

      by : (q : WantPlace) (w : Want) → IsFound ats q w ⊎ IsWantAhead s q w → IsFound new q w ⊎ IsWantAhead t q w
      by q w (inl found) = inl (record { at = found.at; there = subst (λ l. Contains l found.at) (sym is) (Contains-append_left ats (at ∷ []) found.at found.there); item = found.item; want = found.want })
      by q w (inr ahead) = last q w (gives.others q w ahead)

  -- it stands elsewhere
  pub passed : (names_at at ≢ p) → Gathers models c p t ats
  passed other = record {
    models_are = models_stay ∙ inv.models_are;
    config_is = config_stays ∙ inv.config_is;
    each = inv.each;
    rest = λ q w names want. by q w names (inv.rest q w names want);
  }
    where
      last : (q : WantPlace) (w : Want) → names_of c q ≡ Some p → ((q ≡ gives.place) × (w ≡ want_of at.want)) ⊎ IsWantAhead t q w → IsFound ats q w ⊎ IsWantAhead t q w
      last q w names (inl same) = absurd (other (same_Some _ _ (sym named ∙ ap (names_of c) (sym same.0) ∙ names)))
      last q w names (inr ahead) = inr ahead

      by : (q : WantPlace) (w : Want) → names_of c q ≡ Some p → IsFound ats q w ⊎ IsWantAhead s q w → IsFound ats q w ⊎ IsWantAhead t q w
      by q w names (inl found) = inl found
      by q w names (inr ahead) = last q w names (gives.others q w ahead)

-- at the end they are all
pub all_gathered : (models : ModelSet) (c : Config) (p : Place) (s : WantIter) (ats : List WantAt) → Gathers models c p s ats → IsDone s → AreWantsAt models c p ats
all_gathered models c p s ats inv done = record { each = inv.each; all = λ i w has. by i w has (inv.rest has.at w has.names has.wanted) }
  where
    by : (i : Option ℕ) (w : Want) (has : HasWant models c p i w) → IsFound ats has.at w ⊎ IsWantAhead s has.at w → IsAmong c p ats i w
    by i w has (inl found) = record { at = found.at; there = found.there; is = record { index = ap (item_at c p) found.item ∙ has.index; want = found.want } }
    by i w has (inr ahead) = absurd (done has.at w ahead)

-- a place of one name has none
pub none_short : (models : ModelSet) (c : Config) (p : Place) → ((t k : List ℕ) (rest : Place) → p ≢ t ∷ k ∷ rest) → AreWantsAt models c p []
none_short models c p short = record {
  each = All-nil _;
  all = λ i w has. let names = long_names c has.at p has.names in absurd (short names.0 names.1 names.2 names.3);
}

-- at first all wants of the entry are ahead
pub ahead_first : (models : ModelSet) (c : Config) (t k : List ℕ) (rest : Place) (s : WantIter) → s.models.now ≡ models → s.config.now ≡ c
    → ((q : WantPlace) (w : Want) → IsEntryAt c t k q.table q.key → IsWantAt models c q w → IsWantAhead s q w) → Gathers models c (t ∷ k ∷ rest) s []
ahead_first models c t k rest s models_are config_is ahead = record {
  models_are = models_are;
  config_is = config_is;
  each = All-nil _;
  rest = λ q w names want. inr (ahead q w (entry_of c t k rest q names) want);
}

-- ---- none, or some

none_in : {A : Type 0} (a : A) → ¬ Contains [] a
none_in a has = absurd (omega (arith, has.1))

pub none_there : (models : ModelSet) (c : Config) (p : Place) (ats : List WantAt) → AreWantsAt models c p ats → ats ≡ [] → (i : Option ℕ) (w : Want) → ¬ HasWant models c p i w
none_there models c p ats are none i w has = let one = are.all i w has in none_in one.at (subst (λ l. Contains l one.at) none one.there)

pub nothing : (models : ModelSet) (c : Config) (p : Place) (ats : List WantAt) → AreWantsAt models c p ats → ((i : Option ℕ) (w : Want) → ¬ HasWant models c p i w) → ats ≡ []
nothing models c p [] are none = refl
nothing models c p (a ∷ ats) are none = absurd (none (item_at c p a.item) (want_of a.want) (All-contains (λ x. HasWant models c p (item_at c p x.item) (want_of x.want)) (a ∷ ats) a are.each (0, omega arith, refl)))

-- ---- the first wants

second : (p : Place) (t k : List ℕ) → slice_get p 0 ≡ Some t → slice_get p 1 ≡ Some k → (rest : Place) × (p ≡ t ∷ k ∷ rest)
second [] t k first next = absurd cc
second (u ∷ []) t k first next = absurd cc
second (u ∷ j ∷ rest) t k first next =
    let one : u ≡ t = cc in
    let two : j ≡ k = cc in
    (rest, λ i. one i ∷ two i ∷ rest)

pub walk_begins : (models : ModelSet) (c : Config) (p : Place) (t k : List ℕ) (s : WantIter) → slice_get p 0 ≡ Some t → slice_get p 1 ≡ Some k → s.models.now ≡ models → s.config.now ≡ c
    → ((q : WantPlace) (w : Want) → IsWantAhead s q w ↔ (IsEntryAt c t k q.table q.key × IsWantAt models c q w)) → (ats : List WantAt) → ats ≡ [] → Gathers models c p s ats
walk_begins models c p t k s first next models_are config_is ahead ats none =
    let names = second p t k first next in
    subst (Gathers models c p s) (sym none)
    (subst (λ q. Gathers models c q s []) (sym names.1)
    (ahead_first models c t k names.0 s models_are config_is (λ q w entry want. (ahead q w).1 (entry, want))))

pub short_none : (models : ModelSet) (c : Config) (p : Place) → length p < 2 → (ats : List WantAt) → ats ≡ [] → AreWantsAt models c p ats
short_none models c p short ats none =
    subst (AreWantsAt models c p) (sym none)
    (none_short models c p (λ t k rest is. absurd (two t k rest (subst (λ q. length q < 2) is short))))
  where
    two : (t k : List ℕ) (rest : Place) → length (t ∷ k ∷ rest) < 2 → ⊥
    two t k rest lt = omega arith
