-- Lists of what is found, one after another, each once.
use borrow.Author.Count.{below_more}
use Rattle.std.proofs.Common.{◌≡◌, ◌≢◌, ◌⊎◌, inl, inr, ℕ, zero, suc, ◌+◌, ◌<◌, ◌≤◌, List, [], ◌∷◌, ◌++◌, length, get_or, slice_get, Option, Some, None, ◌↔◌, refl, sym, ap, ◌∙◌, subst, arith}
use Rattle.std.specs.List.{All, AllPairs, Contains}
use Rattle.std.specs.Option.{option_to_list}
use Rattle.std.proofs.lemmas.List.Elements.{All-append, All-contains, Contains-append_cases, Contains-append_left, Contains-append_right, Contains-push, Contains-push_cases, Contains-get_or}
use Rattle.std.proofs.lemmas.List.Kept.{AllPairs-cons}
use Rattle.std.proofs.lemmas.List.Quantifiers.{all_pairs_push}
use Rattle.conf_doc.proofs.Edits.{same_Some}
use Rattle.move_core.specs.Appends.{Appends}
use Rattle.move_extend.specs.Found.{Finds, GivenByOne, HasNone}

-- ---- one more

module _ {A : Type 0} where
  pub finds_none : (P : A → Type 0) (xs ys : List A) → ys ≡ xs → ((a : A) → ¬ P a) → Finds P xs ys
  finds_none P xs ys is none = subst (Finds P xs) (sym is) (record {
    each = λ a h. inl h;
    kept = λ a h. h;
    all = λ a p. absurd (none a p);
    once = λ apart. apart;
  })

  push_cases : (x a : A) (xs : List A) → Contains xs a ⊎ (x ≡ a) → Contains xs a ⊎ (a ≡ x)
  push_cases x a xs (inl h) = inl h
  push_cases x a xs (inr e) = inr (sym e)

  -- it is put at the end
  pub finds_pushed : (x : A) (xs ys : List A) → ys ≡ xs ++ x ∷ [] → ¬ Contains xs x → Finds (λ a. a ≡ x) xs ys
  finds_pushed x xs ys is absent = subst (Finds (λ a. a ≡ x) xs) (sym is) (record {
    each = λ a h. push_cases x a xs (Contains-push_cases xs x a h);
    kept = λ a h. Contains-append_left xs (x ∷ []) a h;
    all = λ a e. subst (Contains (xs ++ x ∷ [])) (sym e) (Contains-push xs x);
    once = λ apart. all_pairs_push (λ a b. a ≢ b) xs x apart
        (λ k d below e. absent (subst (Contains xs) e (Contains-get_or xs k d below)));
  })

  -- two lists put together, with nothing that is in both
  pairs_append : (R : A → A → Type 0) (xs ys : List A) → AllPairs R xs → AllPairs R ys → ((x y : A) → Contains xs x → Contains ys y → R x y) → AllPairs R (xs ++ ys)
  pairs_append R [] ys one two across = two
  pairs_append R (x ∷ xs) ys one two across =
      AllPairs-cons R x (xs ++ ys)
      (All-append (R x) xs ys (λ k d below. one 0 (suc k) d (omega arith) (omega arith)) (λ k d below. across x _ (0, omega arith, refl) (Contains-get_or ys k d below)))
      (pairs_append R xs ys (λ i j d less below. one (suc i) (suc j) d (omega arith) (omega arith)) two (λ y z has there. across y z (suc has.0, omega (arith, has.1), has.2) there))

  -- what was found alone is put behind others, of which none is such
  pub finds_behind : (P : A → Type 0) (xs ms ys : List A) → HasNone P xs → Finds P [] ms → ys ≡ xs ++ ms → Finds P xs ys
  finds_behind P xs ms ys none finds is = subst (Finds P xs) (sym is) (record {
    each = λ a h. either a (Contains-append_cases xs ms a h);
    kept = λ a h. Contains-append_left xs ms a h;
    all = λ a p. Contains-append_right xs ms a (finds.all a p);
    once = λ apart. pairs_append (λ a b. a ≢ b) xs ms apart (finds.once (λ i j d less below. absurd (omega arith)))
        (λ a b has there same. All-contains (λ c. ¬ P c) xs a none has (subst P (sym same) (given b (finds.each b there))));
  })
    where
      given : (a : A) → Contains [] a ⊎ P a → P a
      given a (inl h) = let none = h.1 in absurd (omega arith)
      given a (inr p) = p

      either : (a : A) → Contains xs a ⊎ Contains ms a → Contains xs a ⊎ P a
      either a (inl h) = inl h
      either a (inr h) = inr (given a (finds.each a h))

  -- the same is found
  pub finds_as : (P Q : A → Type 0) (xs ys : List A) → ((a : A) → P a ↔ Q a) → Finds P xs ys → Finds Q xs ys
  finds_as P Q xs ys same finds = record {
    each = λ a h. turn (same a) (finds.each a h);
    kept = finds.kept;
    all = λ a q. finds.all a ((same a).1 q);
    once = finds.once;
  }
    where
      turn : {a : A} {p q : Type 0} → p ↔ q → Contains xs a ⊎ p → Contains xs a ⊎ q
      turn e (inl h) = inl h
      turn e (inr p) = inr (e.0 p)

  -- one after the other
  pub finds_both : (P Q R : A → Type 0) (xs ys zs : List A) → ((a : A) → R a ↔ (P a ⊎ Q a)) → Finds P xs ys → Finds Q ys zs → Finds R xs zs
  finds_both P Q R xs ys zs either first second = record {
    each = λ a h. of a (second.each a h);
    kept = λ a h. second.kept a (first.kept a h);
    all = λ a r. from a ((either a).0 r);
    once = λ apart. second.once (first.once apart);
  }
    where
      before : (a : A) → Contains xs a ⊎ P a → Contains xs a ⊎ R a
      before a (inl h) = inl h
      before a (inr p) = inr ((either a).1 (inl p))

      of : (a : A) → Contains ys a ⊎ Q a → Contains xs a ⊎ R a
      of a (inl h) = before a (first.each a h)
      of a (inr q) = inr ((either a).1 (inr q))

      from : (a : A) → P a ⊎ Q a → Contains zs a
      from a (inl p) = second.kept a (first.all a p)
      from a (inr q) = second.all a q

-- ---- loops

-- one of the items before an index gives it
pub record GivenBefore {A B : Type 0} (P : A → B → Type 0) (xs : List A) (n : ℕ) (b : B) : Type 0 where
  pub index : ℕ
  pub item : A
  pub below : index < n
  pub at : slice_get xs index ≡ Some item
  pub gives : P item b

module _ {A B : Type 0} (P : A → B → Type 0) (xs : List A) where
  pub loop_begins : (bs : List B) → Finds (GivenBefore P xs 0) bs bs
  loop_begins bs = finds_none (GivenBefore P xs 0) bs bs refl (λ b given. let none = given.below in absurd (omega arith))

  module _ (i : ℕ) (x : A) (at : slice_get xs i ≡ Some x) where
    here : (b : B) → (j : ℕ) (y : A) → slice_get xs j ≡ Some y → P y b → j ≡ i → P x b
    here b j y is p same = subst (λ z. P z b) (same_Some y x (sym is ∙ ap (slice_get xs) same ∙ at)) p

    split : (b : B) → GivenBefore P xs (i + 1) b → GivenBefore P xs i b ⊎ P x b
    split b given =
        below_more (λ j. (y : A) → slice_get xs j ≡ Some y → P y b → GivenBefore P xs i b ⊎ P x b) i
        (λ j less y is p. inl (record { index = j; item = y; below = less; at = is; gives = p }))
        (λ y is p. inr (here b i y is p refl)) given.index given.below given.item given.at given.gives

    join : (b : B) → GivenBefore P xs i b ⊎ P x b → GivenBefore P xs (i + 1) b
    join b (inl given) = let less = given.below in record { index = given.index; item = given.item; below = omega arith; at = given.at; gives = given.gives }
    join b (inr p) = record { index = i; item = x; below = omega arith; at = at; gives = p }

    pub loop_more : (bs cs ds : List B) → Finds (GivenBefore P xs i) bs cs → Finds (P x) cs ds → Finds (GivenBefore P xs (i + 1)) bs ds
    loop_more bs cs ds = finds_both (GivenBefore P xs i) (P x) (GivenBefore P xs (i + 1)) bs cs ds (λ b. (split b, join b))

pub item_at : {A : Type 0} (xs : List A) (i : ℕ) (a : A) → slice_get xs i ≡ Some a → Contains xs a
item_at [] i a e = absurd cc
item_at (x ∷ xs) zero a e = (zero, omega arith, same_Some x a e)
item_at (x ∷ xs) (suc i) a e = let rest = item_at xs i a e in (suc rest.0, omega arith, rest.2)

pub there_at : {A : Type 0} (xs : List A) (i : ℕ) (x : A) → i < length xs → x ≡ get_or xs i x → slice_get xs i ≡ Some x
there_at [] i x within is = absurd (omega arith)
there_at (y ∷ xs) zero x within is = ap Some (sym is)
there_at (y ∷ xs) (suc i) x within is = there_at xs i x (omega arith) is

module _ {A B : Type 0} (P : A → B → Type 0) (xs : List A) where
  pub loop_ends : (i : ℕ) (bs cs : List B) → length xs ≤ i → Finds (GivenBefore P xs i) bs cs → Finds (GivenByOne P xs) bs cs
  loop_ends i bs cs past = finds_as (GivenBefore P xs i) (GivenByOne P xs) bs cs (λ b. (
    λ given. record { item = given.item; there = item_at xs given.index given.item given.at; gives = given.gives },
    λ given.
        let within = given.there.1 in
        record {
          index = given.there.0;
          item = given.item;
          below = omega arith;
          at = there_at xs given.there.0 given.item given.there.1 (sym given.there.2);
          gives = given.gives;
        },
  ))

-- ---- what is put at the end of a list

module _ {A : Type 0} (P : A → Type 0) where
  -- all that is found
  pub appends_found : (xs : List A) → Finds P [] xs → Appends P [] xs
  appends_found xs finds = record {
    more = xs;
    follows = refl;
    each = λ i d below. new (finds.each (get_or xs i d) (Contains-get_or xs i d below));
    all = finds.all;
    once = finds.once (λ i j d less below. absurd (omega arith));
  }
    where
      new : {a : A} → Contains [] a ⊎ P a → P a
      new (inl h) = let none = h.1 in absurd (omega arith)
      new (inr p) = p

  -- it is what another word says
  pub appends_as : (Q : A → Type 0) (xs ys : List A) → ((a : A) → P a ↔ Q a) → Appends P xs ys → Appends Q xs ys
  appends_as Q xs ys same appends = record {
    more = appends.more;
    follows = appends.follows;
    each = λ i d below. (same (get_or appends.more i d)).0 (appends.each i d below);
    all = λ a q. appends.all a ((same a).1 q);
    once = appends.once;
  }

  -- behind another list
  pub appends_behind : (xs ms ys : List A) → Appends P [] ms → ys ≡ xs ++ ms → Appends P xs ys
  appends_behind xs ms ys appends is = record {
    more = appends.more;
    follows = is ∙ ap (λ m. xs ++ m) appends.follows;
    each = appends.each;
    all = appends.all;
    once = appends.once;
  }

  -- one or none
  pub appends_option : (o : Option A) (xs ys : List A) → ((a : A) → P a ↔ (o ≡ Some a)) → ys ≡ xs ++ option_to_list o → Appends P xs ys
  appends_option None xs ys same is = record {
    more = [];
    follows = is;
    each = λ i d below. absurd (omega arith);
    all = λ a p. let no : None ≡ Some a = (same a).0 p in absurd cc;
    once = λ i j d less below. absurd (omega arith);
  }
  appends_option (Some x) xs ys same is = record {
    more = x ∷ [];
    follows = is;
    each = only;
    all = λ a p. Contains-push_as a ((same a).0 p);
    once = λ i j d less below. absurd (omega arith);
  }
    where
      only : All P (x ∷ [])
      only zero d below = (same x).1 refl
      only (suc i) d below = absurd (omega arith)

      Contains-push_as : (a : A) → Some x ≡ Some a → Contains (x ∷ []) a
      Contains-push_as a e = (zero, omega arith, same_Some x a e)
