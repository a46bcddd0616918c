-- The wants of one configuration that another hasn't, one entry after another.
use Rattle.std.proofs.Common.{◌≡◌, ◌⊎◌, ◌↔◌, ◌+◌, ◌<◌, ◌≤◌, inl, inr, ℕ, List, [], ◌∷◌, ◌++◌, None, Some, get_or, length, slice_get, take, sym, ap, ◌∙◌, subst, arith}
use Rattle.std.proofs.lemmas.Bool.{cases_lt}
use Rattle.std.proofs.lemmas.List.{take_more}
use Rattle.std.proofs.lemmas.List.Elements.{Contains-push}
use Rattle.conf_doc.specs.declared.configuration.Config.{Config}
use Rattle.conf_doc.proofs.Edits.{same_Some}
use Rattle.yang_model.specs.ModelSets.{ModelSet}
use Rattle.conf_check.specs.Rows.{IsEntryAt}
use Rattle.conf_check.specs.WantRuns.{GivesFirst, GivesNextWant, IsWantAhead}
use Rattle.conf_check.specs.Wants.{Want, IsNamed, IsWantAt, want_of}
use Rattle.conf_check.specs.declared.want_iter.WantAt.{WantAt}
use Rattle.conf_check.specs.declared.want_iter.WantIter.{WantIter}
use Rattle.conf_check.specs.declared.want_iter.WantPlace.{WantPlace}
use Rattle.ref_index.specs.EntryNames.{Adds, AddsLacking, AreWantsOf, HasOthers, IsNamed as IsEntryNamed, IsOneOf, IsSameListed}
use Rattle.ref_index.specs.PlaceMaps.{AreMissing, IsListed}
use Rattle.ref_index.specs.Referrers.{HasWant, IsPlaceAt, place_of}
use Rattle.ref_index.specs.declared.entry_names.EntryName.{EntryName}
use Rattle.ref_index.specs.declared.places.Place.{Place}
use Rattle.ref_index.proofs.NamedEntries.{there_at}
use Rattle.ref_index.proofs.Walks.{listed_before, listed_cases, name_is, named_at, none_listed, same_names}

-- the wants of an entry that were looked at are listed, the others are ahead
pub record IsGathering (models : ModelSet) (config : Config) (t k : List ℕ) (s : WantIter) (found : List WantAt) : Type 0 where
  pub by : s.models.now ≡ models
  pub of : s.config.now ≡ config
  pub within : (at : WantPlace) (w : Want) → IsWantAhead s at w → IsEntryAt config t k at.table at.key
  pub each : (w : Want) (p : Place) → IsListed found w p → HasWant models config w p × (p.table ≡ t) × (p.key ≡ k)
  pub rest :
      (at : WantPlace) (w : Want) → IsEntryAt config t k at.table at.key → IsWantAt models config at w
      → IsWantAhead s at w ⊎ ((p : Place) → IsPlaceAt config at p → IsListed found w p)

module _ (models : ModelSet) (config : Config) (t k : List ℕ) where
  pub gathering_begins : (s : WantIter) → s.models.now ≡ models → s.config.now ≡ config
      → ((p : WantPlace) (w : Want) → IsWantAhead s p w ↔ (IsEntryAt config t k p.table p.key × IsWantAt models config p w)) → IsGathering models config t k s []
  gathering_begins s by of ahead = record {
    by = by;
    of = of;
    within = λ at w is. ((ahead at w).0 is).0;
    each = λ w p l. absurd (none_listed w p l);
    rest = λ at w is wanted. inl ((ahead at w).1 (is, wanted));
  }

  -- one more is listed
  pub gathering_pushes : (s u : WantIter) (a : WantAt) (found new : List WantAt) → IsGathering models config t k s found → GivesNextWant s (Some a) u
      → new ≡ found ++ a ∷ [] → IsGathering models config t k u new
  gathering_pushes s u a found new walk gives is = subst (IsGathering models config t k u) (sym is) (record {
    by = gives.models ∙ walk.by;
    of = gives.config ∙ walk.of;
    within = λ at w ahead. walk.within at w (given.behind at w ahead).1;
    each = λ w p l. elim (listed_cases found a w p l) [
      | inl before ↦ walk.each w p before
      | inr this ↦ (
        subst (λ v. HasWant models config v p) (sym this.0) (subst (HasWant models config (want_of a.want)) (sym this.1) here),
        ap (λ q. q.table) this.1 ∙ names.0,
        ap (λ q. q.key) this.1 ∙ names.1,
      )
    ];
    rest = λ at w entry wants. elim (walk.rest at w entry wants) [
      | inl ahead ↦ elim (given.others at w ahead) [
        | inl same ↦ inr (λ p stands.
            let place : p ≡ place_of a = name_is config given.place a p named (subst (λ q. IsPlaceAt config q p) same.0 stands) in
            record { at = a; there = Contains-push found a; wants = same.1; stands = place })
        | inr later ↦ inl later
      ]
      | inr done ↦ inr (λ p stands. listed_before found a w p (done p stands))
    ];
  })
    where
      given : GivesFirst s a u
      given = gives.gives

      named : IsNamed config given.place a
      named = subst (λ d. IsNamed d given.place a) walk.of given.named

      wanted : IsWantAt models config given.place (want_of a.want)
      wanted =
          subst (λ d. IsWantAt models d given.place (want_of a.want)) walk.of
          (subst (λ ms. IsWantAt ms s.config.now given.place (want_of a.want)) walk.by given.wanted.1)

      here : HasWant models config (want_of a.want) (place_of a)
      here = record { position = given.place; at = named_at config given.place a named; wanted = wanted }

      names : (a.table.now ≡ t) × (a.key.now ≡ k)
      names =
          same_names config a.table.now a.key.now t k given.place.table given.place.key named.entry
          (walk.within given.place (want_of a.want) given.wanted)

  -- all are
  pub gathering_ends : (s u : WantIter) (found : List WantAt) → IsGathering models config t k s found → GivesNextWant s None u → AreWantsOf models config t k found
  gathering_ends s u found walk gives = record {
    each = walk.each;
    all = λ w p has table key. elim (walk.rest has.position w
        (subst (λ x. IsEntryAt config t x has.position.table has.position.key) key
        (subst (λ x. IsEntryAt config x p.key has.position.table has.position.key) table has.at.entry)) has.wanted) [
          | inl ahead ↦ absurd (gives.gives.0 has.position w ahead)
          | inr done ↦ done p has.at
        ];
  }

-- ---- what one list has and another lacks

pub lacking_none : (others old : List WantAt) → AddsLacking [] others old old
lacking_none others old = record { has = λ w p l. inl l; stay = λ w p l. l; all = λ w p l. absurd (none_listed w p l) }

module _ (listed others old found : List WantAt) (a : WantAt) (adds : AddsLacking listed others old found) where
  more : (w : Want) (p : Place) → IsListed found w p → IsListed old w p ⊎ (IsListed (listed ++ a ∷ []) w p × (¬ IsListed others w p))
  more w p l = elim (adds.has w p l) [ inl was ↦ inl was | inr both ↦ inr (listed_before listed a w p both.0, both.1) ]

  -- the other list has one more
  lacking_skips : IsSameListed others a → AddsLacking (listed ++ a ∷ []) others old found
  lacking_skips there = record {
    has = more;
    stay = adds.stay;
    all = λ w p l. elim (listed_cases listed a w p l) [
      | inl before ↦ adds.all w p before
      | inr this ↦ inl (subst (λ v. IsListed others v p) (sym this.0) (subst (IsListed others (want_of a.want)) (sym this.1) there))
    ];
  }

  -- it lacks one more
  lacking_pushes : ¬ IsSameListed others a → (new : List WantAt) → new ≡ found ++ a ∷ [] → AddsLacking (listed ++ a ∷ []) others old new
  lacking_pushes none new is = subst (AddsLacking (listed ++ a ∷ []) others old) (sym is) (record {
    has = λ w p l. elim (listed_cases found a w p l) [
      | inl before ↦ more w p before
      | inr this ↦ inr (
        record { at = a; there = Contains-push listed a; wants = this.0; stands = this.1 },
        λ h. none (subst (λ v. IsListed others v (place_of a)) this.0 (subst (IsListed others w) this.1 h)),
      )
    ];
    stay = λ w p l. listed_before found a w p (adds.stay w p l);
    all = λ w p l. elim (listed_cases listed a w p l) [
      | inl before ↦ elim (adds.all w p before) [ inl there ↦ inl there | inr l ↦ inr (listed_before found a w p l) ]
      | inr this ↦ inr (record { at = a; there = Contains-push found a; wants = this.0; stands = this.1 })
    ];
  })

-- one step of a loop
module _ (listed others old found : List WantAt) (i : ℕ) (d : WantAt) (lt : i < length listed) (adds : AddsLacking (take i listed) others old found) where
  pub lacking_kept : IsSameListed others (get_or listed i d) → AddsLacking (take (i + 1) listed) others old found
  lacking_kept there =
      subst (λ ls. AddsLacking ls others old found) (sym (take_more listed i d lt)) (lacking_skips (take i listed) others old found (get_or listed i d) adds there)

  pub lacking_added : ¬ IsSameListed others (get_or listed i d) → (new : List WantAt) → new ≡ found ++ get_or listed i d ∷ []
      → AddsLacking (take (i + 1) listed) others old new
  lacking_added none new made =
      subst (λ ls. AddsLacking ls others old new) (sym (take_more listed i d lt))
      (lacking_pushes (take i listed) others old found (get_or listed i d) adds none new made)

-- the wants of an entry that another configuration hasn't
pub lacking_adds : (models : ModelSet) (one two : Config) (t k : List ℕ) (ones others old new : List WantAt) → AreWantsOf models one t k ones
    → AreWantsOf models two t k others → AddsLacking ones others old new → Adds models one two (IsEntryAt one t k) old new
lacking_adds models one two t k ones others old new a b adds = record {
  has = λ w p l. elim (adds.has w p l) [
    | inl was ↦ inl was
    | inr both ↦ let here = a.each w p both.0 in inr (here.0, λ h. both.1 (b.all w p h here.1 here.2))
  ];
  stay = adds.stay;
  all = λ at w p entry wanted stands.
      let names = same_names one p.table p.key t k at.table at.key stands.entry entry in
      elim (adds.all w p (a.all w p (record { position = at; at = stands; wanted = wanted }) names.0 names.1)) [
        | inl there ↦ inl (b.each w p there).0
        | inr l ↦ inr l
      ];
}

-- ---- one entry or table after another

module _ (models : ModelSet) (one two : Config) where
  -- no entry was looked at
  pub adds_none : (names : List EntryName) (old : List WantAt) → Adds models one two (IsOneOf one names 0) old old
  adds_none names old = record { has = λ w p l. inl l; stay = λ w p l. l; all = λ at w p is _ _. let lt = is.before in absurd (omega arith) }

  -- one more was
  pub adds_next : (names : List EntryName) (n : ℕ) (name : EntryName) (old mid new : List WantAt) → slice_get names n ≡ Some name
      → Adds models one two (IsOneOf one names n) old mid → Adds models one two (IsEntryAt one name.table.now name.key.now) mid new
      → Adds models one two (IsOneOf one names (n + 1)) old new
  adds_next names n name old mid new at a b = record {
    has = λ w p l. elim (b.has w p l) [ inl l ↦ a.has w p l | inr both ↦ inr both ];
    stay = λ w p l. b.stay w p (a.stay w p l);
    all = λ place w p is wanted stands. elim (cases_lt is.index n) [
      | inl lt ↦ elim (a.all place w p (record { index = is.index; before = lt; name = is.name; at = is.at; entry = is.entry }) wanted stands) [
        | inl has ↦ inl has
        | inr l ↦ inr (b.stay w p l)
      ]
      | inr ge ↦
          let lt = is.before in
          let index : is.index ≡ n = omega arith in
          let same : is.name ≡ name = same_Some is.name name (sym is.at ∙ ap (slice_get names) index ∙ at) in
          b.all place w p (subst (λ e. IsEntryAt one e.table.now e.key.now place.table place.key) same is.entry) wanted stands
    ];
  }

  -- all that are named were, and the second configuration has the wants of the others
  pub adds_all : (names : List EntryName) (n : ℕ) (found : List WantAt) → length names ≤ n → HasOthers models one two names
      → Adds models one two (IsOneOf one names n) [] found → AreMissing models one two found
  adds_all names n found long others adds = record {
    has = λ w p l. elim (adds.has w p l) [ inl none ↦ absurd (none_listed w p none) | inr both ↦ both.0 ];
    lacks = λ w p l. elim (adds.has w p l) [ inl none ↦ absurd (none_listed w p none) | inr both ↦ both.1 ];
    all = λ w p has. elim (others w p has) [
      | inl there ↦ inl there
      | inr named ↦ adds.all has.position w p (is_one w p has named) has.wanted has.at
    ];
  }
    where
      is_one : (w : Want) (p : Place) (has : HasWant models one w p) (named : IsEntryNamed names p.table p.key) → IsOneOf one names n has.position.table has.position.key
      is_one w p has named =
          let lt = named.there.1 in
          record {
            index = named.there.0;
            before = omega arith;
            name = named.name;
            at = there_at names named.there.0 named.name named.there.1 (sym named.there.2);
            entry = subst (λ k. IsEntryAt one named.name.table.now k has.position.table has.position.key) (sym named.key)
                (subst (λ t. IsEntryAt one t p.key has.position.table has.position.key) (sym named.table) has.at.entry);
          }
