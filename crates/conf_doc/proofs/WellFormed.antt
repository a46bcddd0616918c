-- What keeps the rules of a configuration.
use Rattle.std.proofs.Common.{◌≡◌, ℕ, zero, ◌<◌, true, false, not, ◌==◌, cond, List, [], ◌∷◌, ◌++◌, map, length, IfSome, Option, Some, None, IsUtf8, Less, Equal, Greater, suc, ne_eqb, suc-ne-zero, refl, ap, subst, slice_get, arith}
use Rattle.std.specs.FinMap.Entries.{by_order}
use Rattle.std.specs.Ordering.{eq_by_cmp}
use Rattle.std.proofs.lemmas.Bool.{and_parts, and_from}
use Rattle.host_core.specs.Names.{name_cmp}
use Rattle.conf_doc.specs.Pairs.{AreNamed, put, set_part, without}
use Rattle.conf_doc.specs.WellFormed.{AreTexts, Each, IsConfig, IsEntry, IsShaped, IsTable, IsValue}
use Rattle.conf_doc.specs.declared.configuration.Entry.{Entry}
use Rattle.conf_doc.specs.declared.configuration.Table.{Table}
use Rattle.conf_doc.specs.declared.configuration.Value.{Value}
use Rattle.conf_doc.proofs.Edits.{rising_put, rising_without, same_Some}

pub some_name : (name : List ℕ) → 0 < length name → not (length name == 0) ≡ true
some_name [] some = absurd (omega arith)
some_name (b ∷ bs) some = ap not (ne_eqb (suc (length bs)) 0 (suc-ne-zero (length bs)))

named_some : (name : List ℕ) → not (length name == 0) ≡ true → 0 < length name
named_some [] named = absurd cc
named_some (b ∷ bs) named = omega arith

module _ {A : Type 0} where
  -- no name that stands in a list is empty
  pub named_at : (ps : List (List ℕ × A)) (i : ℕ) (p : List ℕ × A) → AreNamed ps → slice_get ps i ≡ Some p → 0 < length p.0
  named_at [] i p named at = cc
  named_at (q ∷ ps) zero p named at = subst (λ r. 0 < length r.0) (same_Some q p at) (named_some q.0 (and_parts _ _ named).0)
  named_at (q ∷ ps) (suc i) p named at = named_at ps i p (and_parts _ _ named).1 at

  named_put : (name : List ℕ) (a : A) (ps : List (List ℕ × A)) → not (length name == 0) ≡ true → AreNamed ps → AreNamed (put name a ps)
  named_put name a [] some named = and_from _ _ some refl
  named_put name a (p ∷ ps) some named =
      let first : not (length p.0 == 0) ≡ true = (and_parts _ _ named).0 in
      let rest : AreNamed ps = (and_parts _ _ named).1 in
      elim (name_cmp name p.0) as (λ c. AreNamed (by_order c ((name, a) ∷ p ∷ ps) ((p.0, a) ∷ ps) (p ∷ put name a ps))) [
        | Less ↦ and_from _ _ some named
        | Equal ↦ and_from _ _ first rest
        | Greater ↦ and_from _ _ first (named_put name a ps some rest)
      ]

  texts_put : (name : List ℕ) (a : A) (ps : List (List ℕ × A)) → IsUtf8 name → AreTexts (map (λ p. p.0) ps) → AreTexts (map (λ p. p.0) (put name a ps))
  texts_put name a [] text texts = (text, tt)
  texts_put name a (p ∷ ps) text texts =
      elim (name_cmp name p.0) as (λ c. AreTexts (map (λ p. p.0) (by_order c ((name, a) ∷ p ∷ ps) ((p.0, a) ∷ ps) (p ∷ put name a ps)))) [
        | Less ↦ (text, texts)
        | Equal ↦ texts
        | Greater ↦ (texts.0, texts_put name a ps text texts.1)
      ]

  pub shaped_put : (name : List ℕ) (a : A) (ps : List (List ℕ × A)) → 0 < length name → IsUtf8 name → IsShaped ps → IsShaped (put name a ps)
  shaped_put name a ps some text shaped = record {
    rising = rising_put ps name a shaped.rising;
    named = named_put name a ps (some_name name some) shaped.named;
    texts = texts_put name a ps text shaped.texts;
  }

  named_without : (name : List ℕ) (ps : List (List ℕ × A)) → AreNamed ps → AreNamed (without name ps)
  named_without name [] named = refl
  named_without name (p ∷ ps) named =
      let first : not (length p.0 == 0) ≡ true = (and_parts _ _ named).0 in
      let rest : AreNamed ps = (and_parts _ _ named).1 in
      elim (not (eq_by_cmp name_cmp name p.0)) as (λ b. AreNamed (cond b (p ∷ without name ps) (without name ps))) [
        | true ↦ and_from _ _ first (named_without name ps rest)
        | false ↦ named_without name ps rest
      ]

  texts_without : (name : List ℕ) (ps : List (List ℕ × A)) → AreTexts (map (λ p. p.0) ps) → AreTexts (map (λ p. p.0) (without name ps))
  texts_without name [] texts = tt
  texts_without name (p ∷ ps) texts =
      elim (not (eq_by_cmp name_cmp name p.0)) as (λ b. AreTexts (map (λ p. p.0) (cond b (p ∷ without name ps) (without name ps)))) [
        | true ↦ (texts.0, texts_without name ps texts.1)
        | false ↦ texts_without name ps texts.1
      ]

  pub shaped_without : (name : List ℕ) (ps : List (List ℕ × A)) → IsShaped ps → IsShaped (without name ps)
  shaped_without name ps shaped = record {
    rising = rising_without ps name shaped.rising;
    named = named_without name ps shaped.named;
    texts = texts_without name ps shaped.texts;
  }

  module _ (P : A → Type 0) where
    pub each_put : (name : List ℕ) (a : A) (ps : List (List ℕ × A)) → P a → Each P ps → Each P (put name a ps)
    each_put name a [] is each = (is, tt)
    each_put name a (p ∷ ps) is each =
        elim (name_cmp name p.0) as (λ c. Each P (by_order c ((name, a) ∷ p ∷ ps) ((p.0, a) ∷ ps) (p ∷ put name a ps))) [
          | Less ↦ (is, each)
          | Equal ↦ (is, each.1)
          | Greater ↦ (each.0, each_put name a ps is each.1)
        ]

    pub each_without : (name : List ℕ) (ps : List (List ℕ × A)) → Each P ps → Each P (without name ps)
    each_without name [] each = tt
    each_without name (p ∷ ps) each =
        elim (not (eq_by_cmp name_cmp name p.0)) as (λ b. Each P (cond b (p ∷ without name ps) (without name ps))) [
          | true ↦ (each.0, each_without name ps each.1)
          | false ↦ each_without name ps each.1
        ]

  pub shaped_set : (name : List ℕ) (o : Option A) (ps : List (List ℕ × A)) → 0 < length name → IsUtf8 name → IsShaped ps → IsShaped (set_part name o ps)
  shaped_set name None ps some text shaped = shaped_without name ps shaped
  shaped_set name (Some a) ps some text shaped = shaped_put name a ps some text shaped

  pub each_set : (P : A → Type 0) (name : List ℕ) (o : Option A) (ps : List (List ℕ × A)) → IfSome o P → Each P ps → Each P (set_part name o ps)
  each_set P name None ps is each = each_without P name ps each
  each_set P name (Some a) ps is each = each_put P name a ps is each

pub entry_set : (name : List ℕ) (o : Option Value) (e : List (List ℕ × Value)) → 0 < length name → IsUtf8 name → IfSome o IsValue → IsEntry e → IsEntry (set_part name o e)
entry_set name o e some text is formed = record { shaped = shaped_set name o e some text formed.shaped; parts = each_set IsValue name o e is formed.parts }

pub table_set : (name : List ℕ) (o : Option Entry) (t : List (List ℕ × Entry)) → 0 < length name → IsUtf8 name → IfSome o IsEntry → IsTable t → IsTable (set_part name o t)
table_set name o t some text is formed = record { shaped = shaped_set name o t some text formed.shaped; parts = each_set IsEntry name o t is formed.parts }

pub config_set : (name : List ℕ) (o : Option Table) (c : List (List ℕ × Table)) → 0 < length name → IsUtf8 name → IfSome o IsTable → IsConfig c → IsConfig (set_part name o c)
config_set name o c some text is formed = record { shaped = shaped_set name o c some text formed.shaped; parts = each_set IsTable name o c is formed.parts }

pub texts_more : (ts : List (List ℕ)) (t : List ℕ) → AreTexts ts → IsUtf8 t → AreTexts (ts ++ t ∷ [])
texts_more [] t texts text = (text, tt)
texts_more (u ∷ ts) t texts text = (texts.0, texts_more ts t texts.1 text)

pub each_more : {A : Type 0} (P : A → Type 0) (ps : List (List ℕ × A)) (p : List ℕ × A) → Each P ps → P p.1 → Each P (ps ++ p ∷ [])
each_more P [] p each is = (is, tt)
each_more P (q ∷ ps) p each is = (each.0, each_more P ps p each.1 is)
