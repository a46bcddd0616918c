-- What leads on within a finite set leads everywhere in so many steps: each round adds something or is the last.
use Rattle.std.proofs.Common.{◌≡◌, ◌⊎◌, inl, inr, ℕ, zero, suc, ◌<◌, ◌≤◌, List, length, refl, subst, arith}
use Rattle.std.specs.List.{Contains}
use Rattle.yang_pattern.proofs.Decisions.{Told, both, up_to}
use Rattle.plan_search.proofs.Telling.{member_told, not_told, without_one}

split : (a b : ℕ) → (a < b) ⊎ (b ≤ a)
split a b = grind arith

-- At n holds of what so many steps lead to: at most that many lead to all, and no more than are known to
abbrev pub IsBound : {A : Type 0} → (ℕ → A → Type 0) → ℕ → Type 0
IsBound {A} At n = (d : ℕ) (x : A) → At d x → (k : ℕ) × (k ≤ n) × (k ≤ d) × At k x

module _ {A : Type 0} (At : ℕ → A → Type 0) (E : A → A → Type 0) (told : (n : ℕ) (x : A) → Told (At n x))
    (later : (n : ℕ) (x y : A) → At n y → E y x → At (suc n) x)
    (before : (n : ℕ) (x : A) → At (suc n) x → (y : A) × At n y × E y x) where
  -- no more lead to it
  abbrev Within : ℕ → A → Type 0
  Within n x = (k : ℕ) × (k ≤ n) × At k x

  -- they lead to all
  abbrev AreEnough : ℕ → Type 0
  AreEnough n = (d : ℕ) (x : A) → At d x → Within n x

  within_told : (n : ℕ) (x : A) → Told (Within n x)
  within_told n x = up_to (λ k. At k x) (λ k. told k x) n

  -- one step further, where a round adds nothing
  one_further : (n : ℕ) → ((x : A) → At (suc n) x → Within n x) → (x y : A) → Within n y → E y x → Within n x
  one_further n none x y (k, le, at) to_x = by (split k n)
    where
      by : (k < n) ⊎ (n ≤ k) → Within n x
      by (inl less) = (suc k, omega (arith, less), later k x y at to_x)
      by (inr past) =
          let same : k ≡ n = omega (arith, le, past) in
          none x (subst (λ j. At (suc j) x) same (later k x y at to_x))

  enough : (n : ℕ) → ((x : A) → At (suc n) x → Within n x) → AreEnough n
  enough n none zero x at = (0, omega arith, at)
  enough n none (suc d) x at = by (before d x at) (enough n none d)
    where
      by : (y : A) × At d y × E y x → ((y : A) → At d y → Within n y) → Within n x
      by (y, at_y, to_x) rest = one_further n none x y (rest y at_y) to_x

  -- what no more lead to, and what is in the list, is all
  abbrev Leaves : List A → ℕ → Type 0
  Leaves todo n = (d : ℕ) (x : A) → At d x → Within n x ⊎ Contains todo x

  -- it is new in the next round
  abbrev IsNew : ℕ → A → Type 0
  IsNew n x = At (suc n) x × (¬ Within n x)

  new_told : (n : ℕ) (x : A) → Told (IsNew n x)
  new_told n x = both (told (suc n) x) (not_told (within_told n x))

  -- nothing is new
  last : (todo : List A) (n : ℕ) → Leaves todo n → ¬ ((x : A) × Contains todo x × IsNew n x) → AreEnough n
  last todo n leaves none = enough n (λ x at. by x at (leaves (suc n) x at) (within_told n x))
    where
      by : (x : A) → At (suc n) x → Within n x ⊎ Contains todo x → Told (Within n x) → Within n x
      by x at (inl w) t = w
      by x at (inr c) (inl w) = w
      by x at (inr c) (inr not) = absurd (none (x, c, (at, not)))

  -- something is new, and is put aside
  next : (todo : List A) (n : ℕ) → Leaves todo n → (x : A) → At (suc n) x → (rest : List A)
      → ((y : A) → Contains todo y → (x ≡ y) ⊎ Contains rest y) → Leaves rest (suc n)
  next todo n leaves x at rest all d y at_y = by (leaves d y at_y)
    where
      of : (x ≡ y) ⊎ Contains rest y → Within (suc n) y ⊎ Contains rest y
      of (inl e) = inl (suc n, omega arith, subst (At (suc n)) e at)
      of (inr k) = inr k

      by : Within n y ⊎ Contains todo y → Within (suc n) y ⊎ Contains rest y
      by (inl (k, le, at_k)) = inl (k, omega (arith, le), at_k)
      by (inr c) = of (all y c)

  go : (fuel : ℕ) (todo : List A) (n : ℕ) → length todo ≡ fuel → Leaves todo n → (m : ℕ) × AreEnough m
  go zero todo n len leaves = (n, last todo n leaves none)
    where
      none : ¬ ((x : A) × Contains todo x × IsNew n x)
      none (x, c, new) = let within = c.1 in omega (arith, len, within)
  go (suc fuel) todo n len leaves = by (go fuel) (member_told (IsNew n) (new_told n) todo)
    where
      by : ((rest : List A) (m : ℕ) → length rest ≡ fuel → Leaves rest m → (k : ℕ) × AreEnough k)
          → Told ((x : A) × Contains todo x × IsNew n x) → (m : ℕ) × AreEnough m
      by rest (inr none) = (n, last todo n leaves none)
      by rest (inl (x, c, (at, not))) =
          let less = without_one todo x c in
          let shorter = less.1.0 in
          rest less.0 (suc n) (omega (arith, len, shorter)) (next todo n leaves x at less.0 less.1.1)

  -- the rounds end
  pub rounds_end : (xs : List A) → ((d : ℕ) (x : A) → At d x → Contains xs x) → (m : ℕ) × IsBound At m
  rounds_end xs all = bound (go (length xs) xs 0 refl (λ d x at. inr (all d x at)))
    where
      bound : (m : ℕ) × AreEnough m → (m : ℕ) × IsBound At m
      bound (m, are) = (m, λ d x at. by d x at (split m d))
        where
          by : (d : ℕ) (x : A) → At d x → (m < d) ⊎ (d ≤ m) → (k : ℕ) × (k ≤ m) × (k ≤ d) × At k x
          by d x at (inr few) = (d, few, omega arith, at)
          by d x at (inl many) = let h = are d x at in let le = h.1 in (h.0, le, omega (arith, le, many), h.2)
