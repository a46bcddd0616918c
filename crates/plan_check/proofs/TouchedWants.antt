-- The wants that a move touches, one after another.
use Rattle.std.proofs.Common.{◌≡◌, ◌<◌, ◌⊎◌, inl, inr, ℕ, zero, suc, List, [], ◌∷◌, ◌++◌, Bool, true, false, Option, Some, None, option_map, option_and_then, length, slice_get, IsSome, ◌↔◌, refl, sym, ap, ◌∙◌, subst, arith}
use Rattle.std.specs.Option.{option_to_list}
use Rattle.std.proofs.lemmas.List.{append-nil}
use Rattle.std.proofs.lemmas.Option.{option_and_then_some}
use Rattle.conf_check.specs.Acceptance.{IsSatisfied}
use Rattle.conf_check.specs.Rows.{IsEntryAt}
use Rattle.conf_check.specs.WantRuns.{GivesFirst, GivesNextWant, IsWantAhead}
use Rattle.conf_check.specs.Wants.{Want, IsNamed, IsWantAt, field_name, want_of}
use Rattle.conf_check.specs.declared.want_iter.WantAt.{WantAt}
use Rattle.conf_check.specs.declared.want_iter.WantIter.{WantIter}
use Rattle.conf_check.specs.declared.want_iter.WantPlace.{WantPlace}
use Rattle.conf_doc.specs.declared.configuration.Config.{Config}
use Rattle.conf_doc.specs.declared.configuration.Entry.{Entry}
use Rattle.conf_doc.specs.declared.configuration.Table.{Table}
use Rattle.conf_doc.specs.Pairs.{find}
use Rattle.conf_doc.specs.declared.parts.Part.TheVariants as part
use Rattle.conf_doc.proofs.Edits.{same_Some}
use Rattle.move_core.specs.Contexts.{HasWant, field_names, item_at, names_of, rulebook}
use Rattle.move_core.specs.Moves.{Place, list_at, list_in, place}
use Rattle.move_core.specs.Rules.{HasNoDependency, IsAtOrBelow}
use Rattle.move_core.specs.declared.contexts.Ctx.{Ctx}
use Rattle.move_core.specs.declared.moves.Move.{Move}
use Rattle.move_core.specs.declared.moves.Move.TheVariants.{Add, Remove, Replace, AddItem, RemoveItem}
use Rattle.yang_model.specs.ModelSets.{ModelSet}
use Rattle.plan_check.specs.Touching.{IsInItem, IsTouched, WantsHold, index_at, names_at}

-- ---- a place and those below it

-- a list that has the items of another at its indices goes on from it
pub goes_on : (p q : Place) → ((i : ℕ) → i < length p → slice_get q i ≡ slice_get p i) → IsAtOrBelow p q
goes_on [] q same = (q, refl)
goes_on (x ∷ p) [] same = let none = same 0 (omega arith) in absurd cc
goes_on (x ∷ p) (y ∷ q) same =
    let rest = goes_on p q (λ i below. same (suc i) (omega arith)) in
    let first : y ≡ x = same_Some y x (same 0 (omega arith)) in
    (rest.0, λ i. first i ∷ rest.1 i)

-- and the other way round
pub has_front : (p q : Place) → IsAtOrBelow p q → (i : ℕ) → i < length p → slice_get q i ≡ slice_get p i
has_front p q below i within = ap (λ r. slice_get r i) below.1 ∙ front p below.0 i within
  where
    front : (xs ys : Place) (k : ℕ) → k < length xs → slice_get (xs ++ ys) k ≡ slice_get xs k
    front [] ys k within = absurd (omega arith)
    front (x ∷ xs) ys zero within = refl
    front (x ∷ xs) ys (suc k) within = front xs ys k (omega arith)

-- ---- in the item of a list

module _ (c : Config) where
  no_table : (o : Option Table) → IsSome (option_and_then list_in (option_map part.Table o)) → ⊥
  no_table None is = cc
  no_table (Some table) is = cc

  no_entry : (k : List ℕ) (o : Option Table) → IsSome (option_and_then list_in (option_and_then (λ table. option_map part.Entry (find k table)) o)) → ⊥
  no_entry k None is = cc
  no_entry k (Some table) is = by (find k table) is
    where
      by : (o : Option Entry) → IsSome (option_and_then list_in (option_map part.Entry o)) → ⊥
      by None is = cc
      by (Some entry) is = cc

  -- a want has no name behind a field
  no_more : (o : Option (List ℕ)) (f : List ℕ) (rest : Place) → option_to_list o ≡ f ∷ rest → option_to_list o ≡ f ∷ []
  no_more None f rest e = cc
  no_more (Some g) f rest e = let same : g ≡ f = cc in ap (λ n. n ∷ []) same

  behind : {x y : List ℕ} {xs ys : Place} → x ∷ xs ≡ y ∷ ys → xs ≡ ys
  behind e = cc

  -- a list stands at a place of three names, so a want at it or below it stands at it
  at_list : (a : WantAt) (at : Place) → IsSome (list_at c at) → IsAtOrBelow at (names_at a) → names_at a ≡ at
  at_list a [] is below = absurd cc
  at_list a (t ∷ []) is below = absurd (no_table (find t c) is)
  at_list a (t ∷ k ∷ []) is below = absurd (no_entry k (find t c) is)
  at_list a (t ∷ k ∷ f ∷ []) is below =
      let field = no_more (option_map (λ n. n.now) a.field) f below.0 (behind (behind below.1)) in
      let first : a.table.now ≡ t = cc in
      let second : a.key.now ≡ k = cc in
      λ i. first i ∷ second i ∷ field i
  at_list a (t ∷ k ∷ f ∷ n ∷ ns) is below = absurd cc

  indexed : (o : Option (List (List ℕ))) (i index : ℕ) → option_map (λ _. i) o ≡ Some index → IsSome o × (i ≡ index)
  indexed None i index e = cc
  indexed (Some items) i index e = (refl, cc)

  index_of_list : (o : Option (List (List ℕ))) (i : ℕ) → IsSome o → option_map (λ _. i) o ≡ Some i
  index_of_list None i is = cc
  index_of_list (Some items) i is = refl

  pub in_item : (a : WantAt) (at : Place) (index : ℕ) → a.item ≡ index → IsAtOrBelow at (names_at a) → IsSome (list_at c at) → IsInItem c a at index
  in_item a at index same below is =
      let here = at_list a at is below in
      (here, ap (λ p. item_at c p a.item) here ∙ index_of_list (list_at c at) a.item is ∙ ap Some same)

  pub item_in : (a : WantAt) (at : Place) (index : ℕ) → IsInItem c a at index → (a.item ≡ index) × IsAtOrBelow at (names_at a) × IsSome (list_at c at)
  item_in a at index is =
      let found = indexed (list_at c at) a.item index (ap (λ p. item_at c p a.item) (sym is.0) ∙ is.1) in
      (found.1, ([], is.0 ∙ sym (append-nil at)), found.0)

-- ---- what a move touches

pub touched_below : (m : Move) (after : Bool) (p : Place) (item : Option ℕ) → IsTouched m after p item → IsAtOrBelow (place m) p
touched_below (Add path part) true p item is = is
touched_below (Add path part) false p item is = is
touched_below (Remove path) true p item is = is
touched_below (Remove path) false p item is = is
touched_below (Replace path part) true p item is = is
touched_below (Replace path part) false p item is = is
touched_below (AddItem path i text) true p item is = ([], is.0 ∙ sym (append-nil path))
touched_below (AddItem path i text) false p item is = absurd is
touched_below (RemoveItem path i) true p item is = absurd is
touched_below (RemoveItem path i) false p item is = ([], is.0 ∙ sym (append-nil path))

-- the wants at the new places and at the old ones are those of the rule
pub both_hold : (ctx : Ctx) (cur next : Config) (m : Move) → WantsHold ctx.models (IsTouched m true) next cur × WantsHold ctx.models (IsTouched m false) cur next
    ↔ HasNoDependency (rulebook ctx) cur next m
both_hold ctx cur next m = (
  λ hold. record { new = λ p item w touched has. hold.0 p item w touched has; old = λ p item w touched has. hold.1 p item w touched has },
  λ rule. (λ p item w touched has. rule.new p item w touched has, λ p item w touched has. rule.old p item w touched has),
)

-- ---- places by positions and by names

fields_by : (fields : Entry) (f : Option ℕ) → field_names fields f ≡ option_map option_to_list (field_name fields f)
fields_by fields None = refl
fields_by fields (Some i) = by (slice_get fields i)
  where
    by : {A : Type 0} (o : Option (List ℕ × A)) → option_map (λ p. p.0 ∷ []) o ≡ option_map option_to_list (option_map (λ p. Some p.0) o)
    by None = refl
    by (Some p) = refl

module _ (c : Config) (p : WantPlace) where
  abbrev of_entry : List ℕ → List ℕ × Entry → Option Place
  of_entry t e = option_map (λ f. t ∷ e.0 ∷ f) (field_names e.1 p.field)

  abbrev of_table : List ℕ × Table → Option Place
  of_table t = option_and_then (of_entry t.0) (slice_get t.1 p.key)

  named : (a : WantAt) → IsNamed c p a → names_of c p ≡ Some (names_at a)
  named a is =
      ap (option_and_then of_table) is.entry.at
      ∙ ap (option_and_then (of_entry a.table.now)) is.entry.at_key
      ∙ ap (option_map (λ f. a.table.now ∷ a.key.now ∷ f)) (fields_by is.entry.fields p.field ∙ ap (option_map option_to_list) is.field)

  -- a place with names lies in an entry
  in_entry : (n : Place) → names_of c p ≡ Some n → (t k : List ℕ) (rest : Place) → n ≡ t ∷ k ∷ rest → IsEntryAt c t k p.table p.key
  in_entry n is t k rest names =
      option_and_then_some of_table (slice_get c p.table) n is
      (λ table at is.
      option_and_then_some (of_entry table.0) (slice_get table.1 p.key) n is
      (λ entry at_key is. by table entry at at_key (field_names entry.1 p.field) is))
    where
      by : (table : List ℕ × Table) (entry : List ℕ × Entry) → slice_get c p.table ≡ Some table → slice_get table.1 p.key ≡ Some entry
          → (o : Option Place) → option_map (λ f. table.0 ∷ entry.0 ∷ f) o ≡ Some n → IsEntryAt c t k p.table p.key
      by table entry at at_key None is = absurd cc
      by table entry at at_key (Some f) is =
          let first : table.0 ≡ t = cc in
          let second : entry.0 ≡ k = cc in
          record { entries = table.1; at = at ∙ ap (λ u. Some (u, table.1)) first; fields = entry.1; at_key = at_key ∙ ap (λ u. Some (u, entry.1)) second }

two_names : (at n : Place) (t k : List ℕ) → slice_get at 0 ≡ Some t → slice_get at 1 ≡ Some k → IsAtOrBelow at n → (rest : Place) × (n ≡ t ∷ k ∷ rest)
two_names [] n t k first second below = absurd cc
two_names (x ∷ []) n t k first second below = absurd cc
two_names (x ∷ y ∷ at) n t k first second below =
    let one : x ≡ t = cc in
    let two : y ≡ k = cc in
    (at ++ below.0, below.1 ∙ (λ i. one i ∷ two i ∷ (at ++ below.0)))

-- a want at a place that names an entry, or below it, stands in that entry
pub stands_in : (c : Config) (at : Place) (t k : List ℕ) → slice_get at 0 ≡ Some t → slice_get at 1 ≡ Some k → (n : Place) (p : WantPlace) → names_of c p ≡ Some n → IsAtOrBelow at n
    → IsEntryAt c t k p.table p.key
stands_in c at t k first second n p is below = let names = two_names at n t k first second below in in_entry c p n is t k names.0 names.1

-- ---- one want after another

-- a touched want is satisfied in the other configuration, or it is still to come
pub record IsLeft (models : ModelSet) (Touched : Place → Option ℕ → Type 0) (c other : Config) (s : WantIter) : Type 0 where
  pub by : s.models.now ≡ models
  pub of : s.config.now ≡ c
  pub rest :
      (n : Place) (item : Option ℕ) (w : Want) → Touched n item → (has : HasWant models c n item w)
      → IsSatisfied models other w.target w.text ⊎ IsWantAhead s has.at w

module _ (models : ModelSet) (Touched : Place → Option ℕ → Type 0) (c other : Config) where
  pub left_first : (at : Place) → ((n : Place) (item : Option ℕ) → Touched n item → IsAtOrBelow at n) → (s : WantIter) → s.models.now ≡ models → s.config.now ≡ c
      → ((n : Place) (p : WantPlace) (w : Want) → names_of c p ≡ Some n → IsAtOrBelow at n → IsWantAt models c p w → IsWantAhead s p w) → IsLeft models Touched c other s
  left_first at below s by of ahead = record {
    by = by;
    of = of;
    rest = λ n item w touched has. inr (ahead n has.at w has.names (below n item touched) has.wanted);
  }

  pub left_none : (s u : WantIter) → IsLeft models Touched c other s → GivesNextWant s None u → WantsHold models Touched c other
  left_none s u left gives n item w touched has = elim (left.rest n item w touched has) [
    | inl satisfied ↦ satisfied
    | inr ahead ↦ absurd (gives.gives.0 has.at w ahead)
  ]

  module _ (s u : WantIter) (a : WantAt) (left : IsLeft models Touched c other s) (gives : GivesNextWant s (Some a) u) where
    abbrev given : GivesFirst s a u
    given = gives.gives

    is_named : IsNamed c given.place a
    is_named = subst (λ d. IsNamed d given.place a) left.of given.named

    given_want : HasWant models c (names_at a) (index_at c a) (want_of a.want)
    given_want = record {
      at = given.place;
      wanted = subst (λ d. IsWantAt models d given.place (want_of a.want)) left.of (subst (λ ms. IsWantAt ms s.config.now given.place (want_of a.want)) left.by given.wanted.1);
      names = named c given.place a is_named;
      index = ap (item_at c (names_at a)) (sym is_named.item);
    }

    -- where the given want is touched and not satisfied, they don't hold
    pub left_broken : Touched (names_at a) (index_at c a) → ¬ IsSatisfied models other (want_of a.want).target (want_of a.want).text → ¬ WantsHold models Touched c other
    left_broken touched lacks hold = lacks (hold (names_at a) (index_at c a) (want_of a.want) touched given_want)

    -- one place has one list of names, and one index
    same_place : (n : Place) (item : Option ℕ) (w : Want) (has : HasWant models c n item w) → has.at ≡ given.place → (n ≡ names_at a) × (item ≡ index_at c a)
    unfolding given_want
    same_place n item w has at =
        let names : n ≡ names_at a = same_Some n (names_at a) (sym has.names ∙ ap (names_of c) at ∙ given_want.names) in
        (names, sym has.index ∙ ap (item_at c n) (ap (λ p. p.item) at) ∙ ap (λ p. item_at c p given.place.item) names ∙ given_want.index)

    pub left_next : (Touched (names_at a) (index_at c a) → IsSatisfied models other (want_of a.want).target (want_of a.want).text) → IsLeft models Touched c other u
    left_next holds = record {
      by = gives.models ∙ left.by;
      of = gives.config ∙ left.of;
      rest = λ n item w touched has. elim (left.rest n item w touched has) [
        | inl satisfied ↦ inl satisfied
        | inr ahead ↦ elim (given.others has.at w ahead) [
          | inl same ↦
              let place = same_place n item w has same.0 in
              inl
              (subst (λ v. IsSatisfied models other v.target v.text) (sym same.1)
              (holds (subst (λ i. Touched (names_at a) i) place.1 (subst (λ p. Touched p item) place.0 touched))))
          | inr later ↦ inr later
        ]
      ];
    }
