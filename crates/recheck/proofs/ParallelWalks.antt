-- Lists gone through beside longer ones.
use Rattle.std.proofs.Common.{◌≡◌, ◌⊎◌, suc, Bool, true, false, IsTrue, List, [], ◌∷◌, ◌++◌, length, filter, Contains, refl, sym, ◌∙◌, subst, inl, inr, arith}
use Rattle.std.specs.Prelude.{if◌then◌else◌}
use Rattle.std.specs.List.{items_where_true}
use Rattle.std.specs.List.Retain.{IsFiltered, ReturnsInTurn}
use Rattle.recheck.specs.Within.{is_within, IsLeft}

-- ---- what is left

module _ {V : Type 0} where
  pub left_itself : (D : V → Type 0) (xs : List V) → IsLeft D xs xs
  left_itself D [] = refl
  left_itself D (x ∷ xs) = inr (xs, refl, left_itself D xs)

  pub left_none : (D : V → Type 0) → ((v : V) → D v) → (xs new : List V) → new ≡ [] → IsLeft D xs new
  left_none D all [] new is = is
  left_none D all (x ∷ xs) new is = inl (all x, left_none D all xs new is)

  still : (F G : V → Type 0) (v : V) (old rest new : List V) → ((v : V) → F v → G v) → IsLeft F (v ∷ rest) new
      → ((new : List V) → IsLeft F rest new → IsLeft G old new) → IsLeft G (v ∷ old) new
  still F G v old rest new f (inl gone) more = inl (f v gone.0, more new gone.1)
  still F G v old rest new f (inr is) more = inr (is.0, is.1, more is.0 is.2)

  -- some of what is left are dropped
  pub left_then : (D F G : V → Type 0) → ((v : V) → D v → G v) → ((v : V) → F v → G v) → (old mid new : List V)
      → IsLeft D old mid → IsLeft F mid new → IsLeft G old new
  left_then D F G d f [] mid new first second = subst (λ l. IsLeft F l new) first second
  left_then D F G d f (v ∷ old) mid new (inl gone) second = inl (d v gone.0, left_then D F G d f old mid new gone.1 second)
  left_then D F G d f (v ∷ old) mid new (inr stays) second =
      still F G v old stays.0 new f (subst (λ l. IsLeft F l new) stays.1 second) (λ n. left_then D F G d f old stays.0 n stays.2)

  -- they are dropped for a weaker reason
  pub left_for : (D G : V → Type 0) → ((v : V) → D v → G v) → (old new : List V) → IsLeft D old new → IsLeft G old new
  left_for D G d [] new is = is
  left_for D G d (v ∷ old) new (inl gone) = inl (d v gone.0, left_for D G d old new gone.1)
  left_for D G d (v ∷ old) new (inr stays) = inr (stays.0, stays.1, left_for D G d old stays.0 stays.2)

  -- what is filtered is left
  filtered_by : (D : V → Type 0) (x : V) (b : Bool) (xs : List V) (more : List V) → (b ≡ false → D x) → IsLeft D xs more
      → IsLeft D (x ∷ xs) (if b then x ∷ more else more)
  filtered_by D x true xs more d is = inr (more, refl, is)
  filtered_by D x false xs more d is = inl (d refl, is)

  pub left_filter : (p : V → Bool) (D : V → Type 0) → ((v : V) → p v ≡ false → D v) → (xs new : List V) → new ≡ filter p xs → IsLeft D xs new
  left_filter p D d xs new is = subst (λ l. IsLeft D xs l) (sym is) (filtered xs)
    where
      filtered : (xs : List V) → IsLeft D xs (filter p xs)
      filtered [] = refl
      filtered (x ∷ xs) = filtered_by D x (p x) xs (filter p xs) (d x) (filtered xs)

  told_left : {F : Type 0} (R : F → V → Bool → F → Type 0) (D : V → Type 0) (f : F)
      → ((x : V) (b : Bool) (g : F) → R f x b g → (b ≡ false → D x) × (g ≡ f)) → (bs : List Bool) (xs : List V) (q : F) → length bs ≡ length xs
      → ReturnsInTurn R f bs xs q → IsLeft D xs (items_where_true bs xs)
  told_left R D f h [] [] q same told = refl
  told_left R D f h [] (x ∷ xs) q same told = absurd (omega (arith, same))
  told_left R D f h (b ∷ bs) [] q same told = absurd told
  told_left {F = F} R D f h (true ∷ bs) (x ∷ xs) q same told =
      (inr (items_where_true bs xs, refl, told_left R D f h bs xs q (omega (arith, same)) (subst (λ (y : F). ReturnsInTurn R y bs xs q) (h x true told.0 told.1).1 told.2)))
  told_left {F = F} R D f h (false ∷ bs) (x ∷ xs) q same told =
      let one = h x false told.0 told.1 in
      (inl (one.0 refl, told_left R D f h bs xs q (omega (arith, same)) (subst (λ (y : F). ReturnsInTurn R y bs xs q) one.1 told.2)))

  -- so is what is retained
  pub left_retained : {F : Type 0} (R : F → V → Bool → F → Type 0) (D : V → Type 0) (f : F)
      → ((x : V) (b : Bool) (g : F) → R f x b g → (b ≡ false → D x) × (g ≡ f)) → (xs ys : List V) → IsFiltered R f xs ys → IsLeft D xs ys
  left_retained R D f h xs ys k = subst (λ l. IsLeft D xs l) (sym k.4) (told_left R D f h k.0 xs k.1 k.2 k.3)

  -- P holds of each
  abbrev pub Each : (V → Type 0) → List V → Type 0
  Each P [] = Unit {0}
  Each P (x ∷ xs) = P x × Each P xs

  -- where P holds of each that is dropped
  pub left_where : (P D G : V → Type 0) → ((v : V) → P v → D v → G v) → (old new : List V) → Each P old → IsLeft D old new → IsLeft G old new
  left_where P D G f [] new all is = is
  left_where P D G f (v ∷ old) new all (inl gone) = inl (f v all.0 gone.0, left_where P D G f old new all.1 gone.1)
  left_where P D G f (v ∷ old) new all (inr stays) = inr (stays.0, stays.1, left_where P D G f old stays.0 all.1 stays.2)

  pub each_left : (D P : V → Type 0) (old new : List V) → IsLeft D old new → Each P old → Each P new
  each_left D P [] new is all = subst (λ l. Each P l) (sym is) all
  each_left D P (v ∷ old) new (inl gone) all = each_left D P old new gone.1 all.1
  each_left D P (v ∷ old) new (inr stays) all = subst (λ l. Each P l) (sym stays.1) (all.0, each_left D P old stays.0 stays.2 all.1)

  -- each is before those behind it
  abbrev pub Rises : (V → V → Type 0) → List V → Type 0
  Rises R [] = Unit {0}
  Rises R (x ∷ xs) = Each (R x) xs × Rises R xs

  pub rises_left : (D : V → Type 0) (R : V → V → Type 0) (old new : List V) → IsLeft D old new → Rises R old → Rises R new
  rises_left D R [] new is all = subst (λ l. Rises R l) (sym is) all
  rises_left D R (v ∷ old) new (inl gone) all = rises_left D R old new gone.1 all.1
  rises_left D R (v ∷ old) new (inr stays) all =
      subst (λ l. Rises R l) (sym stays.1) (each_left D (R v) old stays.0 stays.2 all.0, rises_left D R old stays.0 stays.2 all.1)

  pub each_append : (P : V → Type 0) (xs ys : List V) → Each P xs → Each P ys → Each P (xs ++ ys)
  each_append P [] ys all others = others
  each_append P (x ∷ xs) ys all others = (all.0, each_append P xs ys all.1 others)

  pub each_also : (P Q : V → Type 0) → ((v : V) → P v → Q v) → (xs : List V) → Each P xs → Each Q xs
  each_also P Q f [] all = tt
  each_also P Q f (x ∷ xs) all = (f x all.0, each_also P Q f xs all.1)

  pub each_two : (P Q S : V → Type 0) → ((v : V) → P v → Q v → S v) → (xs : List V) → Each P xs → Each Q xs → Each S xs
  each_two P Q S f [] all also = tt
  each_two P Q S f (x ∷ xs) all also = (f x all.0 also.0, each_two P Q S f xs all.1 also.1)

  pub each_all : (P : V → Type 0) (xs : List V) → ((v : V) → Contains xs v → P v) → Each P xs
  each_all P [] all = tt
  each_all P (x ∷ xs) all = (all x (0, omega arith, refl), each_all P xs (λ v has. all v (suc has.0, omega (arith, has.1), has.2)))

  -- the first list rises, the second too, and each of the first is before each of the second
  pub rises_append : (R : V → V → Type 0) (xs ys : List V) → Rises R xs → Rises R ys → Each (λ x. Each (R x) ys) xs → Rises R (xs ++ ys)
  rises_append R [] ys first second before = second
  rises_append R (x ∷ xs) ys first second before =
      (each_append (R x) xs ys first.0 before.0, rises_append R xs ys first.1 second before.1)

  -- one of them
  abbrev pub Has : List V → V → Type 0
  Has [] x = ⊥
  Has (y ∷ ys) x = (x ≡ y) ⊎ Has ys x

  pub has_each : (P : V → Type 0) (xs : List V) (x : V) → Each P xs → Has xs x → P x
  has_each P [] x all has = absurd has
  has_each P (y ∷ ys) x all (inl is) = subst P (sym is) all.0
  has_each P (y ∷ ys) x all (inr more) = has_each P ys x all.1 more

  pub has_first : (xs ys : List V) (x : V) → Has xs x → Has (xs ++ ys) x
  has_first [] ys x has = absurd has
  has_first (y ∷ xs) ys x (inl is) = inl is
  has_first (y ∷ xs) ys x (inr more) = inr (has_first xs ys x more)

  pub has_second : (xs ys : List V) (x : V) → Has ys x → Has (xs ++ ys) x
  has_second [] ys x has = has
  has_second (y ∷ xs) ys x has = inr (has_second xs ys x has)

-- ---- lists within others

chosen : (b : Bool) (x y : Bool) → b ≡ true → (if b then x else y) ≡ x
chosen true x y e = refl
chosen false x y e = cc

other : (b : Bool) (x y : Bool) → b ≡ false → (if b then x else y) ≡ y
other true x y e = cc
other false x y e = refl

either : (b : Bool) (x y u v : Bool) → (IsTrue x → IsTrue u) → (IsTrue y → IsTrue v) → IsTrue (if b then x else y) → IsTrue (if b then u else v)
either true x y u v f g is = f is
either false x y u v f g is = g is

both : (b : Bool) (x y : Bool) → IsTrue x → IsTrue y → IsTrue (if b then x else y)
both true x y is also = is
both false x y is also = also

module _ {V E : Type 0} (on : E → V → Bool) where
  abbrev Within : List V → List E → Type 0
  Within vs es = IsTrue (is_within on vs es)

  -- the next one is on the next item
  pub passed : (v : V) (vs : List V) (e : E) (es : List E) → on e v ≡ true → Within (v ∷ vs) (e ∷ es) → Within vs es
  passed v vs e es is within = subst (λ b. IsTrue b) (chosen (on e v) (is_within on vs es) (is_within on (v ∷ vs) es) is) within

  pub missed : (v : V) (vs : List V) (e : E) (es : List E) → on e v ≡ false → Within (v ∷ vs) (e ∷ es) → Within (v ∷ vs) es
  missed v vs e es is within = subst (λ b. IsTrue b) (other (on e v) (is_within on vs es) (is_within on (v ∷ vs) es) is) within

  pub all_passed : (vs : List V) → Within vs [] → vs ≡ []
  all_passed [] is = refl
  all_passed (v ∷ vs) is = cc

  -- one more item
  pub one_more : (vs : List V) (es : List E) (e : E) → Within vs es → Within vs (es ++ e ∷ [])
  one_more [] es e is = refl
  one_more (v ∷ vs) [] e is = cc
  one_more (v ∷ vs) (x ∷ es) e is = either (on x v) _ _ _ _ (one_more vs es e) (one_more (v ∷ vs) es e) is

  -- one more on both sides
  pub both_more : (vs : List V) (es : List E) (v : V) (e : E) → on e v ≡ true → Within vs es → Within (vs ++ v ∷ []) (es ++ e ∷ [])
  both_more [] [] v e is within = subst (λ b. IsTrue b) (sym (chosen (on e v) true false is)) refl
  both_more [] (x ∷ es) v e is within = both (on x v) _ _ refl (both_more [] es v e is refl)
  both_more (w ∷ vs) [] v e is within = cc
  both_more (w ∷ vs) (x ∷ es) v e is within = either (on x w) _ _ _ _ (both_more vs es v e is) (both_more (w ∷ vs) es v e is) within

  module _ (at : V → E) (found : (e : E) (v : V) → on e v ≡ true → at v ≡ e) (finds : (e : E) (v : V) → on e v ≡ false → at v ≡ e → ⊥) where
    each_by : (P : E → Type 0) (v : V) (vs : List V) (x : E) (es : List E) (b : Bool) → on x v ≡ b → P x
        → IsTrue (if b then is_within on vs es else is_within on (v ∷ vs) es) → (Within vs es → Each (λ v. P (at v)) vs)
        → (Within (v ∷ vs) es → Each (λ v. P (at v)) (v ∷ vs)) → Each (λ v. P (at v)) (v ∷ vs)
    each_by P v vs x es true is here within now later = (subst P (sym (found x v is)) here, now within)
    each_by P v vs x es false is here within now later = later within

    -- what holds of each item holds of those that they are on
    pub each_within : (P : E → Type 0) (vs : List V) (es : List E) → Within vs es → Each P es → Each (λ v. P (at v)) vs
    each_within P [] es is all = tt
    each_within P (v ∷ vs) [] is all = cc
    each_within P (v ∷ vs) (x ∷ es) is all =
        each_by P v vs x es (on x v) refl all.0 is (λ w. each_within P vs es w all.1) (λ w. each_within P (v ∷ vs) es w all.1)

    module _ (R : E → E → Type 0) where
      rises_by : (v : V) (vs : List V) (x : E) (es : List E) (b : Bool) → on x v ≡ b → Each (R x) es
          → IsTrue (if b then is_within on vs es else is_within on (v ∷ vs) es) → (Within vs es → Rises (λ v w. R (at v) (at w)) vs)
          → (Within (v ∷ vs) es → Rises (λ v w. R (at v) (at w)) (v ∷ vs)) → Rises (λ v w. R (at v) (at w)) (v ∷ vs)
      rises_by v vs x es true is before within now later =
          (each_within (R (at v)) vs es within (subst (λ y. Each (R y) es) (sym (found x v is)) before), now within)
      rises_by v vs x es false is before within now later = later within

      -- where the items rise, they do
      pub rises_within : (vs : List V) (es : List E) → Within vs es → Rises R es → Rises (λ v w. R (at v) (at w)) vs
      rises_within [] es is all = tt
      rises_within (v ∷ vs) [] is all = cc
      rises_within (v ∷ vs) (x ∷ es) is all =
          rises_by v vs x es (on x v) refl all.0 is (λ w. rises_within vs es w all.1) (λ w. rises_within (v ∷ vs) es w all.1)

      module _ (not_both : (a b : E) → R a b → R b a → ⊥) where
        not_first : (y : E) (es : List E) (w : V) → (at w ≡ y → ⊥) → Has (y ∷ es) (at w) → Has es (at w)
        not_first y es w not (inl is) = absurd (not is)
        not_first y es w not (inr more) = more

        within_by : (v : V) (vs : List V) (y : E) (es : List E) (b : Bool) → on y v ≡ b → Rises (λ v w. R (at v) (at w)) (v ∷ vs) → Each (R y) es
            → Each (λ v. Has (y ∷ es) (at v)) (v ∷ vs)
            → (Each (λ v. Has es (at v)) vs → Within vs es) → (Each (λ v. Has es (at v)) (v ∷ vs) → Within (v ∷ vs) es)
            → IsTrue (if b then is_within on vs es else is_within on (v ∷ vs) es)
        within_by v vs y es true is rise before has now later =
            now (each_two (λ w. R (at v) (at w)) (λ w. Has (y ∷ es) (at w)) (λ w. Has es (at w))
            (λ w after here. not_first y es w (λ same. not_both (at v) (at w) after (let e : at w ≡ at v = same ∙ sym (found y v is) in subst (λ z. R (at w) z) e (subst (λ z. R z (at w)) (sym e) after))) here)
            vs rise.0 has.1)
        within_by v vs y es false is rise before has now later =
            let mine : Has es (at v) = not_first y es v (finds y v is) has.0 in
            later (
              mine,
              each_two (λ w. R (at v) (at w)) (λ w. Has (y ∷ es) (at w)) (λ w. Has es (at w))
                  (λ w after here. not_first y es w (λ same. not_both (at v) y (subst (λ z. R (at v) z) same after) (has_each (R y) es (at v) before mine)) here)
                  vs rise.0 has.1,
            )

        -- items that rise stand in their order in a list that rises and has them
        pub within_rising : (vs : List V) (es : List E) → Rises (λ v w. R (at v) (at w)) vs → Rises R es → Each (λ v. Has es (at v)) vs → Within vs es
        within_rising [] es rise all has = refl
        within_rising (v ∷ vs) [] rise all has = absurd has.0
        within_rising (v ∷ vs) (y ∷ es) rise all has =
            within_by v vs y es (on y v) refl rise all.0 has (within_rising vs es rise.1 all.1) (within_rising (v ∷ vs) es rise all.1)
