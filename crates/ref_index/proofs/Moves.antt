-- A map of places that moves from one configuration to another.
use Rattle.std.proofs.Common.{◌≡◌, ◌≢◌, ◌⊎◌, ◌<◌, ◌+◌, inl, inr, ℕ, true, false, Result, Ok, Err, OnErr, List, [], ◌∷◌, ◌++◌, length, take, get_or, refl, sym, subst}
use Rattle.std.specs.List.{All, AllPairs, Contains}
use Rattle.std.proofs.lemmas.Bool.Decides.{not_from_Decides}
use Rattle.std.proofs.lemmas.List.{take_more}
use Rattle.std.proofs.lemmas.List.Elements.{All-contains, All-contains_itself, All-take, All-weaker, Contains-push}
use Rattle.conf_doc.specs.declared.configuration.Config.{Config}
use Rattle.yang_model.specs.ModelSets.{ModelSet}
use Rattle.conf_check.specs.Wants.{Want, want_of}
use Rattle.conf_check.specs.declared.want_iter.WantAt.{WantAt}
use Rattle.ref_index.specs.PlaceMaps.{AreMissing, AreOnce, HasSame, IsListed, IsMapOf, Puts, PutsAll, PutsSome, Takes, TakesAll, places_at}
use Rattle.ref_index.specs.Referrers.{HasWant, place_of}
use Rattle.ref_index.specs.declared.place_maps.PlaceMap.{PlaceMap}
use Rattle.ref_index.specs.declared.places.Place.{Place}
use Rattle.ref_index.proofs.Lists.{put_more, put_once, put_stays, put_there, take_less, take_once, take_stays}
use Rattle.ref_index.proofs.TextMaps.{wants_decide}
use Rattle.ref_index.proofs.Walks.{listed_before, listed_cases, none_listed}

-- ---- from one change to all

module _ (old : PlaceMap) where
  pub puts_none : PutsAll [] old old
  puts_none = record {
    some = record { more = λ w p h. inl h; stay = λ w p h. h; once = λ h. h };
    all = λ w p l. absurd (none_listed w p l);
  }

  pub takes_none : TakesAll [] old old
  takes_none = record { rest = λ w p h. (h, none_listed w p); stay = λ w p h _. h; once = λ h. h }

-- of one want, or of another
by_want : (w v : Want) (P : Type 0) → (v ≡ w → P) → (v ≢ w → P) → P
by_want w v P same other =
    let decides = wants_decide v w in
    elim decides.0 as (λ b. decides.0 ≡ b → P) [ true ↦ λ e. same (decides.1.0 e) | false ↦ λ e. other (not_from_Decides decides.0 decides.1 e) ] refl

module _ (listed : List WantAt) (a : WantAt) (old mid new : PlaceMap) where
  abbrev w : Want
  w = want_of a.want

  abbrev more : List WantAt
  more = listed ++ a ∷ []

  listed_now : IsListed more w (place_of a)
  listed_now = record { at = a; there = Contains-push listed a; wants = refl; stands = refl }

  pub puts_more : PutsAll listed old mid → Puts a mid new → PutsAll more old new
  puts_more puts put = record {
    some = record {
      more = λ v p h. by_want w v (Contains (places_at old v) p ⊎ IsListed more v p)
          (λ is. elim (put_more (place_of a) (places_at mid w) p (subst (λ ps. Contains ps p) put.here (subst (λ x. Contains (places_at new x) p) is h))) [
            | inl was ↦ before v p (subst (λ x. Contains (places_at mid x) p) (sym is) was)
            | inr this ↦ inr (subst (λ x. IsListed more x p) (sym is) (subst (IsListed more w) (sym this) listed_now))
          ])
          (λ other. before v p (subst (λ ps. Contains ps p) (put.others v other) h));
      stay = λ v p h. stays v p (puts.some.stay v p h);
      once = λ h v. by_want w v (AllPairs (λ x y. x ≢ y) (places_at new v))
          (λ is. subst (λ x. AllPairs (λ x y. x ≢ y) (places_at new x)) (sym is)
          (subst (AllPairs (λ x y. x ≢ y)) (sym put.here) (put_once (place_of a) (places_at mid w) (puts.some.once h w))))
          (λ other. subst (AllPairs (λ x y. x ≢ y)) (sym (put.others v other)) (puts.some.once h v));
    };
    all = λ v p l. elim (listed_cases listed a v p l) [
      | inl was ↦ stays v p (puts.all v p was)
      | inr this ↦ subst (λ x. Contains (places_at new x) p) (sym this.0)
          (subst (Contains (places_at new w)) (sym this.1) (subst (λ ps. Contains ps (place_of a)) (sym put.here) (put_there (place_of a) (places_at mid w))))
    ];
  }
    where
      before : (v : Want) (p : Place) → Contains (places_at mid v) p → Contains (places_at old v) p ⊎ IsListed more v p
      before v p h = elim (puts.some.more v p h) [ inl was ↦ inl was | inr l ↦ inr (listed_before listed a v p l) ]

      stays : (v : Want) (p : Place) → Contains (places_at mid v) p → Contains (places_at new v) p
      stays v p h = by_want w v (Contains (places_at new v) p)
          (λ is. subst (λ x. Contains (places_at new x) p) (sym is)
          (subst (λ ps. Contains ps p) (sym put.here) (put_stays (place_of a) (places_at mid w) p (subst (λ x. Contains (places_at mid x) p) is h))))
          (λ other. subst (λ ps. Contains ps p) (sym (put.others v other)) h)

  pub takes_more : TakesAll listed old mid → Takes a mid new → TakesAll more old new
  takes_more takes take = record {
    rest = λ v p h. by_want w v (Contains (places_at old v) p × (¬ IsListed more v p))
        (λ is.
        let less = take_less (place_of a) (places_at mid w) p (subst (λ ps. Contains ps p) take.here (subst (λ x. Contains (places_at new x) p) is h)) in
        let was = takes.rest v p (subst (λ x. Contains (places_at mid x) p) (sym is) less.0) in
        (was.0, λ l. elim (listed_cases listed a v p l) [ inl before ↦ was.1 before | inr this ↦ less.1 this.1 ]))
        (λ other.
        let was = takes.rest v p (subst (λ ps. Contains ps p) (take.others v other) h) in
        (was.0, λ l. elim (listed_cases listed a v p l) [ inl before ↦ was.1 before | inr this ↦ other this.0 ]));
    stay = λ v p h no.
        let was : Contains (places_at mid v) p = takes.stay v p h (λ l. no (listed_before listed a v p l)) in
        by_want w v (Contains (places_at new v) p)
        (λ is. subst (λ x. Contains (places_at new x) p) (sym is)
        (subst (λ ps. Contains ps p) (sym take.here)
        (take_stays (place_of a) (places_at mid w) p (subst (λ x. Contains (places_at mid x) p) is was)
        (λ this. no (subst (λ x. IsListed more x p) (sym is) (subst (IsListed more w) (sym this) listed_now))))))
        (λ other. subst (λ ps. Contains ps p) (sym (take.others v other)) was);
    once = λ h v. by_want w v (AllPairs (λ x y. x ≢ y) (places_at new v))
        (λ is. subst (λ x. AllPairs (λ x y. x ≢ y) (places_at new x)) (sym is)
        (subst (AllPairs (λ x y. x ≢ y)) (sym take.here) (take_once (place_of a) (places_at mid w) (takes.once h w))))
        (λ other. subst (AllPairs (λ x y. x ≢ y)) (sym (take.others v other)) (takes.once h v));
  }

-- one step of a loop
pub puts_step : (listed : List WantAt) (i : ℕ) (d : WantAt) (old mid new : PlaceMap) → i < length listed → PutsAll (take i listed) old mid
    → Puts (get_or listed i d) mid new → PutsAll (take (i + 1) listed) old new
puts_step listed i d old mid new lt puts put =
    subst (λ ls. PutsAll ls old new) (sym (take_more listed i d lt)) (puts_more (take i listed) (get_or listed i d) old mid new puts put)

pub takes_step : (listed : List WantAt) (i : ℕ) (d : WantAt) (old mid new : PlaceMap) → i < length listed → TakesAll (take i listed) old mid
    → Takes (get_or listed i d) mid new → TakesAll (take (i + 1) listed) old new
takes_step listed i d old mid new lt takes one =
    subst (λ ls. TakesAll ls old new) (sym (take_more listed i d lt)) (takes_more (take i listed) (get_or listed i d) old mid new takes one)

-- what holds holds at an error too
pub on_err_holds : {T E X : Type 0} (r : Result T E) → X → OnErr r X
on_err_holds (Ok t) x = tt
on_err_holds (Err e) x = x

-- those that were put are some of all
contains_whole : {X : Type 0} (n : ℕ) (xs : List X) (x : X) → Contains (take n xs) x → Contains xs x
contains_whole n xs x h = All-contains (Contains xs) (take n xs) x (All-take (Contains xs) n xs (All-contains_itself xs)) h

pub puts_stop : (n : ℕ) (listed : List WantAt) (old mid new : PlaceMap) → PutsAll (take n listed) old mid → HasSame mid new → PutsSome listed old new
puts_stop n listed old mid new puts same = record {
  more = λ w p h. elim (puts.some.more w p (subst (λ ps. Contains ps p) (same w) h)) [
    | inl was ↦ inl was
    | inr l ↦ inr (record { at = l.at; there = contains_whole n listed l.at l.there; wants = l.wants; stands = l.stands })
  ];
  stay = λ w p h. subst (λ ps. Contains ps p) (sym (same w)) (puts.some.stay w p h);
  once = λ h w. subst (AllPairs (λ x y. x ≢ y)) (sym (same w)) (puts.some.once h w);
}

-- ---- the whole move

module _ (models : ModelSet) (config : Config) (m : PlaceMap) where
  all_of : (P : Place → Type 0) (ps : List Place) → ((p : Place) → Contains ps p → P p) → All P ps
  all_of P ps each = All-weaker (Contains ps) P each ps (All-contains_itself ps)

  has_of : IsMapOf models config m → (w : Want) (p : Place) → Contains (places_at m w) p → HasWant models config w p
  has_of is w p h = All-contains (HasWant models config w) (places_at m w) p (is w).each h

  once_of : IsMapOf models config m → AreOnce m
  once_of is w = (is w).once

module _ (models : ModelSet) (config next : Config) (old mid new : PlaceMap) (come : List WantAt) (is : IsMapOf models config old) (comes : AreMissing models next config come) where
  -- the new wants are put, and the gone ones taken out
  pub map_moves : (gone : List WantAt) → AreMissing models config next gone → PutsAll come old mid → TakesAll gone mid new → IsMapOf models next new
  map_moves gone goes puts takes w = record {
    each = all_of models next new (HasWant models next w) (places_at new w) (λ p h. has p (takes.rest w p h));
    all = λ p h. takes.stay w p (there p h) (λ l. goes.lacks w p l h);
    once = takes.once (puts.some.once (once_of models config old is)) w;
  }
    where
      has : (p : Place) → Contains (places_at mid w) p × (¬ IsListed gone w p) → HasWant models next w p
      has p h = elim (puts.some.more w p h.0) [
        | inl was ↦ elim (goes.all w p (has_of models config old is w p was)) [ inl still ↦ still | inr l ↦ absurd (h.1 l) ]
        | inr l ↦ comes.has w p l
      ]

      there : (p : Place) → HasWant models next w p → Contains (places_at mid w) p
      there p h = elim (comes.all w p h) [ inl was ↦ puts.some.stay w p ((is w).all p was) | inr l ↦ puts.all w p l ]

  -- what was put is taken out again
  pub map_stays : PutsSome come old mid → TakesAll come mid new → IsMapOf models config new
  map_stays puts takes w = record {
    each = all_of models config new (HasWant models config w) (places_at new w) (λ p h. has p (takes.rest w p h));
    all = λ p h. takes.stay w p (puts.stay w p ((is w).all p h)) (λ l. comes.lacks w p l h);
    once = takes.once (puts.once (once_of models config old is)) w;
  }
    where
      has : (p : Place) → Contains (places_at mid w) p × (¬ IsListed come w p) → HasWant models config w p
      has p h = elim (puts.more w p h.0) [ inl was ↦ has_of models config old is w p was | inr l ↦ absurd (h.1 l) ]
