-- The scope that a name is of, by the number read from it.
use Rattle.std.proofs.Common.{◌≡◌, ◌≢◌, ℕ, ◌<◌, false, List, ◌++◌, Option, Some, None, Result, Ok, Err, sym, ap, ◌∙◌, subst, arith, codes, decimal}
use Rattle.std.proofs.lemmas.Fmt.{parse-decimal}
use Rattle.std.specs.Cmp.Lexicographic.{bytes_decides}
use Rattle.std.specs.Prelude.{MatchOption}
use Rattle.std.specs.Str.{bytes_eq}
use Rattle.std.specs.Str.Parse.{ParsesUnsigned}
use Rattle.scopes.specs.Scopes.{IsScope, scope_name}
use Rattle.scopes.specs.declared.scope.Scope.{Scope}
use Rattle.scopes.specs.declared.scope.Scope.TheVariants.{Localhost, Asic}

module _ {E : Type 0} (name number : List ℕ) (r : Result ℕ E) (is : name ≡ codes "asic" ++ number) (parsed : ParsesUnsigned 8 10 number r) where
  -- the digits of an ASIC are read as its number
  number_read : (n : ℕ) → n < 256 → name ≡ scope_name (Asic n) → r ≡ Ok n
  number_read n less e =
      let begin : codes "asic" ++ number ≡ codes "asic" ++ decimal n = sym is ∙ e in
      let digits : number ≡ decimal n = cc in
      parse-decimal 8 n number r less (omega arith) digits parsed

  small : (m : ℕ) → r ≡ Ok m → m < 256
  small m ok =
      let read = subst (λ (q : Result ℕ E). ParsesUnsigned 8 10 number q) ok parsed in
      omega (arith, read.0.1, read.1)

  module _ (other : false ≡ bytes_eq name (codes "localhost")) where
    not_localhost : name ≡ codes "localhost" → ⊥
    not_localhost e = let same = (bytes_decides name (codes "localhost")).1 e in absurd cc

    -- no number, no scope
    pub no_scope : (e : E) → r ≡ Err e → (s : Scope) → IsScope s → name ≢ scope_name s
    no_scope e err Localhost there same = not_localhost same
    no_scope e err (Asic n) there same = let ok = number_read n there same in absurd cc

    -- a number, at most the scope of that number
    only : (m : ℕ) → r ≡ Ok m → (s : Scope) → IsScope s → name ≡ scope_name s → s ≡ Asic m
    only m ok Localhost there same = absurd (not_localhost same)
    only m ok (Asic n) there same =
        let other = number_read n there same in
        let numbers : n ≡ m = cc in
        ap Asic numbers

    pub one_scope : (m : ℕ) → r ≡ Ok m → (o : Option Scope)
        → MatchOption o (name ≢ scope_name (Asic m)) (λ s. (s ≡ Asic m) × (name ≡ scope_name (Asic m)))
        → MatchOption o ((s : Scope) → IsScope s → name ≢ scope_name s) (λ s. IsScope s × (name ≡ scope_name s))
    one_scope m ok None isnt = λ s there same. isnt (same ∙ ap scope_name (only m ok s there same))
    one_scope m ok (Some s) is_it = (subst IsScope (sym is_it.0) (small m ok), is_it.1 ∙ ap scope_name (sym is_it.0))
