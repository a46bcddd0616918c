-- The names of the first step files: they rise, and the next one stands behind them.
use Rattle.std.proofs.Common.{◌≡◌, ◌<◌, ◌≤◌, ⊎_elim, ℕ, zero, suc, ◌+◌, ◌*◌, ◌/◌, ◌%◌, Bool, true, false, cond, ◌&&◌, T, List, [], ◌∷◌, ◌++◌, map, length, Some, Ordering, Less, Equal, Greater, is_lt, refl, sym, ap, ◌∙◌, subst, arith}
use Rattle.std.specs.Prelude.{filter}
use Rattle.std.specs.Char.{is_ascii_digit}
use Rattle.std.specs.List.{AllByRecursion, list_all}
use Rattle.std.proofs.lemmas.Bool.{cases_lt, le-leb, lt-ltb}
use Rattle.std.proofs.lemmas.List.Folds.{list_all-append}
use Rattle.std.specs.Cmp.{nat_cmp_total, tied_itself}
use Rattle.std.specs.Cmp.Lexicographic.{nat_list_cmp_total, slice_cmp}
use Rattle.std.specs.Ordering.{nat_cmp, ordering_reverse, ordering_then}
use Rattle.std.specs.FinMap as finmap
use Rattle.std.specs.FinMap.{entries}
use Rattle.std.specs.FinMap.Entries.{below_all, by_order, is_sorted, put as put_entry}
use Rattle.host_core.specs.Characters.{decimal_base}
use Rattle.host_core.specs.Names.{name_cmp}
use Rattle.host_core.specs.State.{Files, with_file}
use Rattle.conf_store.specs.Files.{is_step_name, last_digits, last_step, step_name, step_names}
use Rattle.conf_store.proofs.Digits.{length-digits}

-- ---- a step's name is one

digit : (d : ℕ) → d < 10 → is_ascii_digit (48 + d) ≡ true
digit d small = ap (λ b. b) (rw (le-leb 48 (48 + d) (omega arith), le-leb (48 + d) 57 (omega (arith, small))) refl)

are_digits : (k n : ℕ) → list_all is_ascii_digit (last_digits k n) ≡ true
are_digits zero n = refl
are_digits (suc k) n =
    list_all-append is_ascii_digit (last_digits k (n / decimal_base)) ((48 + n % decimal_base) ∷ [])
    ∙ rw (are_digits k (n / decimal_base), digit (n % decimal_base) (omega arith)) refl

pub named : (n : ℕ) → is_step_name (step_name n) ≡ true
named n = are_digits 6 n

-- ---- names rise

-- how many numbers so many digits write
abbrev numbers : ℕ → ℕ
numbers zero = 1
numbers (suc k) = decimal_base * numbers k

lower : (a b : ℕ) → a < b → nat_cmp a b ≡ Less
lower a b less = rw (lt-ltb a b less) refl

front_less : (xs ys : List ℕ) (a b : ℕ) → length xs ≡ length ys → slice_cmp nat_cmp xs ys ≡ Less
    → slice_cmp nat_cmp (xs ++ a ∷ []) (ys ++ b ∷ []) ≡ Less
front_less [] [] a b long e = absurd cc
front_less [] (y ∷ ys) a b long e = absurd (omega (arith, long))
front_less (x ∷ xs) [] a b long e = absurd (omega (arith, long))
front_less (x ∷ xs) (y ∷ ys) a b long e = by (λ is. front_less xs ys a b (omega (arith, long)) is) (nat_cmp x y) e
  where
    by : (slice_cmp nat_cmp xs ys ≡ Less → slice_cmp nat_cmp (xs ++ a ∷ []) (ys ++ b ∷ []) ≡ Less)
        → (r : Ordering) → ordering_then r (slice_cmp nat_cmp xs ys) ≡ Less → ordering_then r (slice_cmp nat_cmp (xs ++ a ∷ []) (ys ++ b ∷ [])) ≡ Less
    by later Less is = refl
    by later Equal is = later is
    by later Greater is = absurd cc

last_less : (xs : List ℕ) (a b : ℕ) → a < b → slice_cmp nat_cmp (xs ++ a ∷ []) (xs ++ b ∷ []) ≡ Less
last_less [] a b less = ap (λ r. ordering_then r Equal) (lower a b less)
last_less (x ∷ xs) a b less =
    ap (λ r. ordering_then r (slice_cmp nat_cmp (xs ++ a ∷ []) (xs ++ b ∷ []))) (tied_itself nat_cmp_total x) ∙ last_less xs a b less

digits_less : (k n m : ℕ) → n < m → m < numbers k → slice_cmp nat_cmp (last_digits k n) (last_digits k m) ≡ Less
digits_less zero n m less small = absurd (omega (arith, less, small))
digits_less (suc k) n m less small = ⊎_elim (λ fewer. front (digits_less k (n / decimal_base) (m / decimal_base) fewer (omega (arith, small)))) last (cases_lt (n / decimal_base) (m / decimal_base))
  where
    front : slice_cmp nat_cmp (last_digits k (n / decimal_base)) (last_digits k (m / decimal_base)) ≡ Less → slice_cmp nat_cmp (last_digits (suc k) n) (last_digits (suc k) m) ≡ Less
    front fewer =
        front_less (last_digits k (n / decimal_base)) (last_digits k (m / decimal_base)) (48 + n % decimal_base) (48 + m % decimal_base)
        (length-digits k (n / decimal_base) ∙ sym (length-digits k (m / decimal_base))) fewer

    last : m / decimal_base ≤ n / decimal_base → slice_cmp nat_cmp (last_digits (suc k) n) (last_digits (suc k) m) ≡ Less
    last high =
        let same : m / decimal_base ≡ n / decimal_base = omega (arith, high, less) in
        ap (λ q. slice_cmp nat_cmp (last_digits (suc k) n) (last_digits k q ++ (48 + m % decimal_base) ∷ [])) same
        ∙ last_less (last_digits k (n / decimal_base)) (48 + n % decimal_base) (48 + m % decimal_base) (omega (arith, same, less))

names_rise : (n m : ℕ) → n < m → m ≤ last_step → name_cmp (step_name n) (step_name m) ≡ Less
unfolding last_step
names_rise n m less small = digits_less 6 n m less (omega (arith, small))

pub behind : (n m : ℕ) → n < m → m ≤ last_step → name_cmp (step_name m) (step_name n) ≡ Greater
behind n m less small = nat_list_cmp_total.antisymm (step_name m) (step_name n) ∙ ap ordering_reverse (names_rise n m less small)

-- ---- a name behind all step files

-- the name is behind each of these
abbrev pub IsBehind : List ℕ → List (List ℕ) → Type 0
IsBehind name names = AllByRecursion (λ q. name_cmp name q ≡ Greater) names

pub behind_more : (name q : List ℕ) (names : List (List ℕ)) → IsBehind name names → name_cmp name q ≡ Greater → IsBehind name (names ++ q ∷ [])
behind_more name q [] all last = (last, tt)
behind_more name q (x ∷ names) all last = (all.0, behind_more name q names all.1 last)

abbrev Entry : Type 0
Entry = List ℕ × List ℕ

abbrev steps_in : List Entry → List (List ℕ)
steps_in es = filter is_step_name (map (λ e. e.0) es)

first : (a b : Bool) → T (a && b) → T a
first true b p = tt
first false b p = p

second : (a b : Bool) → T (a && b) → T b
second true b p = p
second false b p = absurd p

less : (r : Ordering) → T (is_lt r) → r ≡ Less
less Less p = refl
less Equal p = absurd p
less Greater p = absurd p

not_both : (r : Ordering) → r ≡ Less → r ≡ Greater → ⊥
not_both Less low high = cc
not_both Equal low high = cc
not_both Greater low high = cc

not_tied : (r : Ordering) → r ≡ Equal → r ≡ Greater → ⊥
not_tied Less tied high = cc
not_tied Equal tied high = cc
not_tied Greater tied high = cc

module _ (name bytes : List ℕ) (a_step : is_step_name name ≡ true) where
  -- no step file stands behind a greater name
  none_below : (x : List ℕ) (es : List Entry) → name_cmp name x ≡ Less → T (below_all name_cmp x es) → IsBehind name (steps_in es) → steps_in es ≡ []
  none_below x [] low below all = refl
  none_below x (e ∷ es) low below all = by (λ rest. none_below x es low (second (is_lt (name_cmp x e.0)) (below_all name_cmp x es) below) rest) (is_step_name e.0) refl
    where
      under : name_cmp name e.0 ≡ Less
      under = nat_list_cmp_total.trans name x e.0 low (less (name_cmp x e.0) (first (is_lt (name_cmp x e.0)) (below_all name_cmp x es) below))

      by : (IsBehind name (steps_in es) → steps_in es ≡ []) → (b : Bool) → is_step_name e.0 ≡ b → steps_in (e ∷ es) ≡ []
      by later true is =
          let split : steps_in (e ∷ es) ≡ e.0 ∷ steps_in es = ap (λ b. cond b (e.0 ∷ steps_in es) (steps_in es)) is in
          absurd (not_both (name_cmp name e.0) under (subst (IsBehind name) split all).0)
      by later false isnt =
          let split : steps_in (e ∷ es) ≡ steps_in es = ap (λ b. cond b (e.0 ∷ steps_in es) (steps_in es)) isnt in
          split ∙ later (subst (IsBehind name) split all)

  -- the step files where the name compares so with the first
  abbrev put_in : Entry → List Entry → Ordering → List (List ℕ)
  put_in e es r = steps_in (by_order r ((name, bytes) ∷ e ∷ es) ((e.0, bytes) ∷ es) (e ∷ put_entry name_cmp name bytes es))

  goes_last : (es : List Entry) → T (is_sorted name_cmp es) → IsBehind name (steps_in es) → steps_in (put_entry name_cmp name bytes es) ≡ steps_in es ++ name ∷ []
  goes_last [] sorted all = ap (λ b. cond b (name ∷ []) []) a_step
  goes_last (e ∷ es) sorted all =
      by (λ rest. goes_last es (second (below_all name_cmp e.0 es) (is_sorted name_cmp es) sorted) rest) (name_cmp name e.0) refl (is_step_name e.0) refl
    where
      over : is_step_name e.0 ≡ true → name_cmp name e.0 ≡ Greater
      over is = (subst (IsBehind name) (ap (λ b. cond b (e.0 ∷ steps_in es) (steps_in es)) is) all).0

      rest_behind : (b : Bool) → is_step_name e.0 ≡ b → IsBehind name (steps_in es)
      rest_behind true is = (subst (IsBehind name) (ap (λ b. cond b (e.0 ∷ steps_in es) (steps_in es)) is) all).1
      rest_behind false isnt = subst (IsBehind name) (ap (λ b. cond b (e.0 ∷ steps_in es) (steps_in es)) isnt) all

      by : (IsBehind name (steps_in es) → steps_in (put_entry name_cmp name bytes es) ≡ steps_in es ++ name ∷ [])
          → (r : Ordering) → name_cmp name e.0 ≡ r → (b : Bool) → is_step_name e.0 ≡ b → put_in e es (name_cmp name e.0) ≡ steps_in (e ∷ es) ++ name ∷ []
      by later Less low true is = absurd (not_both (name_cmp name e.0) low (over is))
      by later Less low false isnt =
          let split : steps_in (e ∷ es) ≡ steps_in es = ap (λ b. cond b (e.0 ∷ steps_in es) (steps_in es)) isnt in
          let none : steps_in (e ∷ es) ≡ [] = split ∙ none_below e.0 es low (first (below_all name_cmp e.0 es) (is_sorted name_cmp es) sorted) (rest_behind false isnt) in
          ap (put_in e es) low
          ∙ ap (λ b. cond b (name ∷ steps_in (e ∷ es)) (steps_in (e ∷ es))) a_step
          ∙ ap (λ (names : List (List ℕ)). name ∷ names) none ∙ sym (ap (λ (names : List (List ℕ)). names ++ name ∷ []) none)
      by later Equal tied b is =
          let same : name ≡ e.0 = finmap.slice_cmp-IsAntisymmetric finmap.nat_cmp-IsAntisymmetric name e.0 tied in
          absurd (not_tied (name_cmp name e.0) tied (over (ap is_step_name (sym same) ∙ a_step)))
      by later Greater high true is =
          ap (put_in e es) high
          ∙ ap (λ b. cond b (e.0 ∷ steps_in (put_entry name_cmp name bytes es)) (steps_in (put_entry name_cmp name bytes es))) is
          ∙ ap (λ (names : List (List ℕ)). e.0 ∷ names) (later (rest_behind true is))
          ∙ sym (ap (λ b. cond b (e.0 ∷ steps_in es) (steps_in es) ++ name ∷ []) is)
      by later Greater high false isnt =
          ap (put_in e es) high
          ∙ ap (λ b. cond b (e.0 ∷ steps_in (put_entry name_cmp name bytes es)) (steps_in (put_entry name_cmp name bytes es))) isnt
          ∙ later (rest_behind false isnt)
          ∙ sym (ap (λ b. cond b (e.0 ∷ steps_in es) (steps_in es) ++ name ∷ []) isnt)

  -- it is the last of the step files
  pub last_put : (files : Files) → IsBehind name (step_names files) → step_names (with_file name (Some bytes) files) ≡ step_names files ++ name ∷ []
  last_put files all =
      ap (λ es. filter is_step_name (map (λ x. x.0) es)) (finmap.entries-insert nat_list_cmp_total files name bytes)
      ∙ goes_last (entries files) (finmap.entries_sorted files) all
