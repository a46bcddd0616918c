-- The files of different scopes are different.
use Rattle.std.proofs.Common.{◌≡◌, ◌≢◌, ℕ, ◌<◌, Bool, true, false, ◌&&◌, ◌||◌, cond, List, [], ◌∷◌, ◌++◌, Option, Some, None, length, get_or, refl, sym, ap, ◌∙◌, subst, arith, append_assoc, codes, decimal, nat_eq}
use Rattle.std.proofs.lemmas.Fmt.{decimal_injective, decimal_is_IsNumeral}
use Rattle.std.proofs.lemmas.Bool.{eqb-true}
use Rattle.std.proofs.lemmas.List.{append_cancel_right}
use Rattle.std.specs.Char.{digit_value}
use Rattle.std.specs.Str.{bytes_eq}
use Rattle.std.specs.Str.Parse.{AllDigits}
use Rattle.scopes.specs.Files.{asic_begin, asic_config, config_name, file_name, is_of_host, plain_name}
use Rattle.scopes.specs.Renaming.{named}
use Rattle.scopes.specs.Scopes.{most_asics}
use Rattle.scopes.specs.declared.scope.Scope.TheVariants.{Asic}

-- the character behind the digits of a name
abbrev dot : ℕ
dot = 46

no_digit : (c : ℕ) → digit_value c < 10 → c ≡ dot → ⊥
no_digit c less e = let dots : digit_value dot < 10 = subst (λ b. digit_value b < 10) e less in omega (arith, dots)

-- digits up to a dot
to_dot : (xs ys p q : List ℕ) → AllDigits 10 xs → AllDigits 10 ys → xs ++ dot ∷ p ≡ ys ++ dot ∷ q → xs ≡ ys
to_dot [] [] p q ds es e = refl
to_dot [] (y ∷ ys) p q ds es e = let is : y ≡ dot = cc in absurd (no_digit y es.0 is)
to_dot (x ∷ xs) [] p q ds es e = let is : x ≡ dot = cc in absurd (no_digit x ds.0 is)
to_dot (x ∷ xs) (y ∷ ys) p q ds es e =
    let head : x ≡ y = cc in
    let tail : xs ++ dot ∷ p ≡ ys ++ dot ∷ q = cc in
    λ i. head i ∷ to_dot xs ys p q ds.1 es.1 tail i

digits : (n : ℕ) → n < most_asics → AllDigits 10 (decimal n)
digits n less = (decimal_is_IsNumeral n (omega (arith, less))).0.1

-- ---- two ASICs

module _ (m n : ℕ) (small : m < most_asics) (less : n < most_asics) where
  one_number : decimal m ≡ decimal n → m ≡ n
  one_number e = decimal_injective m n (omega (arith, small)) (omega (arith, less)) e

  one_config : asic_config m ≡ asic_config n → m ≡ n
  one_config e =
      let same : decimal m ++ codes ".json" ≡ decimal n ++ codes ".json" = cc in
      one_number (append_cancel_right (decimal m) (decimal n) (codes ".json") same)

  one_begin : (p q : List ℕ) → asic_begin m ++ p ≡ asic_begin n ++ q → m ≡ n
  one_begin p q e =
      let same : (decimal m ++ dot ∷ []) ++ p ≡ (decimal n ++ dot ∷ []) ++ q = cc in
      one_number (to_dot (decimal m) (decimal n) p q (digits m small) (digits n less)
      (sym (append_assoc (decimal m) (dot ∷ []) p) ∙ same ∙ append_assoc (decimal n) (dot ∷ []) q))

  one_file : (p q : List ℕ) → file_name (Asic m) p ≡ file_name (Asic n) q → m ≡ n
  one_file p q = by (bytes_eq p config_name) (bytes_eq q config_name)
    where
      by : (a b : Bool) → cond a (asic_config m) (asic_begin m ++ p) ≡ cond b (asic_config n) (asic_begin n ++ q) → m ≡ n
      by true true e = one_config e
      by true false e = let first : 99 ≡ 97 = ap (λ (name : List ℕ). get_or name 0 0) e in absurd (omega (arith, first))
      by false true e = let first : 97 ≡ 99 = ap (λ (name : List ℕ). get_or name 0 0) e in absurd (omega (arith, first))
      by false false e = one_begin p q e

  pub other_asic : m ≢ n → (plain : List ℕ) → plain_name (Asic m) (file_name (Asic n) plain) ≡ None
  other_asic apart plain = by (plain_name (Asic m) (file_name (Asic n) plain)) refl
    where
      by : (o : Option (List ℕ)) → plain_name (Asic m) (file_name (Asic n) plain) ≡ o → plain_name (Asic m) (file_name (Asic n) plain) ≡ None
      by None none = none
      by (Some p) some = absurd (apart (one_file p plain (sym (named (Asic m) (file_name (Asic n) plain) p some))))

-- ---- the host and an ASIC

-- a digit behind `config_db` is none of the host's names
no_config : (ds : List ℕ) → 0 < length ds → AllDigits 10 ds → is_of_host (codes "config_db" ++ ds ++ codes ".json") ≡ false
no_config [] some all = absurd (omega arith)
no_config (d ∷ ds) some all = by (nat_eq dot d) refl
  where
    by : (b : Bool) → nat_eq dot d ≡ b → is_of_host (codes "config_db" ++ (d ∷ ds) ++ codes ".json") ≡ false
    by true is = absurd (no_digit d all.0 (sym (eqb-true dot d is)))
    by false isnt = ap (λ b. (b && true) || false) isnt

pub no_asic : (n : ℕ) → n < most_asics → (name : List ℕ) → is_of_host name ≡ true → plain_name (Asic n) name ≡ None
no_asic n less name of = by (plain_name (Asic n) name) refl
  where
    at : (plain : List ℕ) (b : Bool) → name ≡ cond b (asic_config n) (asic_begin n ++ plain) → ⊥
    at plain true is =
        let isnt : is_of_host name ≡ false = ap is_of_host is ∙ no_config (decimal n) (decimal_is_IsNumeral n (omega (arith, less))).0.0 (digits n less) in absurd cc
    at plain false is = let isnt : is_of_host name ≡ false = ap is_of_host is in absurd cc

    by : (o : Option (List ℕ)) → plain_name (Asic n) name ≡ o → plain_name (Asic n) name ≡ None
    by None none = none
    by (Some p) some = absurd (at p (bytes_eq p config_name) (named (Asic n) name p some))
