-- Configurations as keys of a set: keys are equal where the configurations are the same, and are hashed alike then.
use Rattle.std.proofs.Common.{◌≡◌, ℕ, Bool, true, false, List, refl, sym, ap, true≢false}
use Rattle.std.specs.Bool.{Decides}
use Rattle.std.specs.Cmp.{IsEquivalence, IsPartialEquivalence, partial_equiv_from_equiv}
use Rattle.std.specs.Cmp.Lexicographic.{pointwise, pointwise_decides, bytes_decides}
use Rattle.std.specs.Hash as fed
use Rattle.std.specs.Hash.{same_Alike}
use Rattle.std.specs.Str.{bytes_eq}
use Rattle.std.proofs.lemmas.Bool.Decides.{Decides-and}
use Rattle.conf_doc.specs.Order.{pair_eq, pairs_eq}
use Rattle.conf_doc.specs.declared.configuration.Config.{Config}
use Rattle.conf_doc.specs.declared.configuration.Value.{Value}
use Rattle.conf_doc.specs.declared.configuration.Value.TheVariants.{Text, List as Texts}
use Rattle.plan_search.specs.Hashes.{Fed, config_hash}

-- the same text, or the same items
abbrev pub value_eq : Value → Value → Bool
value_eq (Text s) (Text t) = bytes_eq s t
value_eq (Texts s) (Texts t) = pointwise bytes_eq s t
value_eq (Text s) (Texts t) = false
value_eq (Texts s) (Text t) = false

-- the same tables of the same entries of the same fields
abbrev pub config_eq : Config → Config → Bool
config_eq = pairs_eq (pairs_eq (pairs_eq value_eq))

-- where the parts' test decides sameness, so does that of lists of pairs
pairs_decide : {A : Type 0} (E : A → A → Bool) → ((x y : A) → Decides (E x y) (x ≡ y))
    → (xs ys : List (List ℕ × A)) → Decides (pairs_eq E xs ys) (xs ≡ ys)
pairs_decide {A = A} E decides = pointwise_decides pair
  where
    pair : (p q : List ℕ × A) → Decides (pair_eq E p q) (p ≡ q)
    pair p q =
        let names = bytes_decides p.0 q.0 in
        let both = Decides-and (bytes_eq p.0 q.0) (E p.1 q.1) names (decides p.1 q.1) in (
          λ h. let e = both.0 h in (λ i. (e.0 i, e.1 i)),
          λ e. both.1 (ap (λ r. r.0) e, ap (λ r. r.1) e),
        )

same_text : (s t : List ℕ) → Text s ≡ Text t → s ≡ t
same_text s t e = cc

same_list : (s t : List (List ℕ)) → Texts s ≡ Texts t → s ≡ t
same_list s t e = cc

value_decides : (v w : Value) → Decides (value_eq v w) (v ≡ w)
value_decides (Text s) (Text t) =
    let d = bytes_decides s t in (λ h. ap Text (d.0 h), λ e. d.1 (same_text s t e))
value_decides (Text s) (Texts t) = (λ h. absurd (true≢false (sym h)), λ e. absurd cc)
value_decides (Texts s) (Text t) = (λ h. absurd (true≢false (sym h)), λ e. absurd cc)
value_decides (Texts s) (Texts t) =
    let d = pointwise_decides bytes_decides s t in
    (λ h. ap Texts (d.0 h), λ e. d.1 (same_list s t e))

-- so configurations are told apart
pub configs_decide : (c d : Config) → Decides (config_eq c d) (c ≡ d)
configs_decide =
    pairs_decide (pairs_eq (pairs_eq value_eq))
    (pairs_decide (pairs_eq value_eq) (pairs_decide value_eq value_decides))

-- two tests that hold together have one answer
one_answer : (a b : Bool) → (a ≡ true → b ≡ true) → (b ≡ true → a ≡ true) → a ≡ b
one_answer true true p q = refl
one_answer true false p q = sym (p refl)
one_answer false true p q = q refl
one_answer false false p q = refl

-- a test of sameness is an equivalence
module _ {A : Type 0} (E : A → A → Bool) (decides : (x y : A) → Decides (E x y) (x ≡ y)) where
  equiv_by : IsEquivalence E
  equiv_by = record {
    refl = λ x. (decides x x).1 refl;
    symm = λ x y.
        one_answer (E x y) (E y x) (λ h. (decides y x).1 (sym ((decides x y).0 h)))
        (λ h. (decides x y).1 (sym ((decides y x).0 h)));
    congr = λ x y z same. ap (λ w. E w z) ((decides x y).0 same);
  }

-- equal keys are the same
pub configs_equiv : IsEquivalence config_eq
configs_equiv = equiv_by config_eq configs_decide

-- where they are compared, that is an equivalence
pub configs_per : IsPartialEquivalence config_eq
configs_per = partial_equiv_from_equiv configs_equiv

-- the same configurations are hashed alike
pub configs_alike : (F : Fed) → (c d : Config) → config_eq c d ≡ true
    → fed.u64 (config_hash F c) ≡ fed.u64 (config_hash F d)
configs_alike F = (same_Alike (λ c. fed.u64 (config_hash F c)) configs_decide).fed
