-- The scope of an operation, by the first token of its path.
use Rattle.std.proofs.Common.{◌≡◌, ◌≢◌, ℕ, zero, suc, ◌+◌, ◌<◌, ◌≤◌, Bool, true, false, ◌||◌, ◌&&◌, List, [], ◌∷◌, map, refl, sym, ap, ◌∙◌, arith}
use Rattle.std.specs.Cmp.Lexicographic.{same_text}
use Rattle.std.specs.List.{list_all, list_any, range_with_len}
use Rattle.std.specs.Str.{bytes_eq}
use Rattle.patch_core.specs.Operation.{Operation, Tokens}
use Rattle.scopes.specs.Scopes.{IsScope, all_scopes, most_asics, scope_name}
use Rattle.scopes.specs.Splitting.{begins_with, has_scope, is_in, from_in, is_under, path_in}
use Rattle.scopes.specs.declared.scope.Scope.{Scope}
use Rattle.scopes.specs.declared.scope.Scope.TheVariants.{Localhost, Asic}

-- ---- all scopes

module _ (p : Scope → Bool) where
  one_asic : (a n k : ℕ) → a ≤ k → k < a + n → p (Asic k) ≡ true → list_any p (map Asic (range_with_len a n)) ≡ true
  one_asic a zero k low high is = absurd (omega arith)
  one_asic a (suc n) k low high is =
      by (p (Asic a)) refl (λ other. one_asic (a + 1) n k (omega (arith, low, other)) (omega (arith, high)) is)
    where
      by : (b : Bool) → p (Asic a) ≡ b → ((a ≡ k → ⊥) → list_any p (map Asic (range_with_len (a + 1) n)) ≡ true)
          → (b || list_any p (map Asic (range_with_len (a + 1) n))) ≡ true
      by true here later = refl
      by false isnt later = later (λ e. let same : p (Asic a) ≡ true = ap (λ m. p (Asic m)) e ∙ is in absurd cc)

  no_asic : (a n : ℕ) → ((k : ℕ) → k < a + n → p (Asic k) ≡ false) → list_any p (map Asic (range_with_len a n)) ≡ false
  no_asic a zero none = refl
  no_asic a (suc n) none =
      ap (λ b. b || list_any p (map Asic (range_with_len (a + 1) n))) (none a (omega arith))
      ∙ no_asic (a + 1) n (λ k less. none k (omega (arith, less)))

  -- a scope passes a test
  pub one_scope : (s : Scope) → IsScope s → p s ≡ true → list_any p all_scopes ≡ true
  unfolding all_scopes
  one_scope Localhost there is = ap (λ b. b || list_any p (map Asic (range_with_len 0 most_asics))) is
  one_scope (Asic k) there is = by (p Localhost)
    where
      by : (b : Bool) → (b || list_any p (map Asic (range_with_len 0 most_asics))) ≡ true
      by true = refl
      by false = one_asic 0 most_asics k (omega arith) (omega (arith, there)) is

  -- no scope passes it
  pub no_scope : ((s : Scope) → IsScope s → p s ≡ false) → list_any p all_scopes ≡ false
  unfolding all_scopes
  no_scope none =
      ap (λ b. b || list_any p (map Asic (range_with_len 0 most_asics))) (none Localhost tt)
      ∙ no_asic 0 most_asics (λ k less. none (Asic k) (omega (arith, less)))

-- ---- an operation whose path is known

module _ (op : Operation) where
  elsewhere : (name : List ℕ) → begins_with name (path_in op) ≡ false → is_under name op ≡ false
  elsewhere name isnt = ap (λ b. b && list_all (begins_with name) (from_in op)) isnt

  -- without tokens it has no scope
  pub rootless : path_in op ≡ [] → has_scope op ≡ false
  rootless none = no_scope (λ s. is_in s op) (λ s there. elsewhere (scope_name s) (ap (begins_with (scope_name s)) none))

  module _ (first : List ℕ) (is : begins_with first (path_in op) ≡ true) where
    -- a name that the path begins with is the first token
    begins : (path : Tokens) → begins_with first path ≡ true → (name : List ℕ) → begins_with name path ≡ bytes_eq first name
    begins [] is name = absurd cc
    begins (token ∷ path) is name = ap (λ t. bytes_eq t name) (same_text token first (sym is))

    apart : (name : List ℕ) → first ≢ name → is_under name op ≡ false
    apart name other = by (bytes_eq first name) refl
      where
        by : (b : Bool) → bytes_eq first name ≡ b → is_under name op ≡ false
        by true same = absurd (other (same_text first name (sym same)))
        by false isnt = elsewhere name (begins (path_in op) is name ∙ isnt)

    -- where it is no scope's name the operation has none
    pub nameless : ((s : Scope) → IsScope s → first ≢ scope_name s) → has_scope op ≡ false
    nameless none = no_scope (λ s. is_in s op) (λ s there. apart (scope_name s) (none s there))

    -- else it has one where all its pointers begin with that name
    pub as_named : (s : Scope) → IsScope s → first ≡ scope_name s → has_scope op ≡ is_in s op
    as_named s there named = by (is_in s op) refl
      where
        same : (t : Scope) → is_in s op ≡ false → is_in t op ≡ false
        same t isnt = by (bytes_eq first (scope_name t)) refl
          where
            by : (b : Bool) → bytes_eq first (scope_name t) ≡ b → is_in t op ≡ false
            by true e = ap (λ n. is_under n op) (sym (same_text first (scope_name t) (sym e)) ∙ named) ∙ isnt
            by false e = elsewhere (scope_name t) (begins (path_in op) is (scope_name t) ∙ e)

        by : (b : Bool) → is_in s op ≡ b → has_scope op ≡ is_in s op
        by true is_there = one_scope (λ t. is_in t op) s there is_there ∙ sym is_there
        by false isnt = no_scope (λ t. is_in t op) (λ t there. same t isnt) ∙ sym isnt
