-- That a configuration has one first violation, with one place.
use Rattle.std.proofs.Common.{◌≡◌, ◌<◌, ◌⊎◌, inl, inr, ℕ, List, ◌∷◌, Some, refl, sym, ap, ◌∙◌, subst}
use Rattle.std.proofs.lemmas.Bool.{cases_order}
use Rattle.conf_doc.specs.Pointer.{pointer}
use Rattle.conf_doc.specs.declared.configuration.Config.{Config}
use Rattle.conf_check.specs.Rows.{HasShape, Row}
use Rattle.conf_check.specs.Validity.{Breach, Breaks, IsBreach, IsBreachBefore, IsRuleBefore, no_shape, of_shape, rule_number, stage}
use Rattle.conf_check.specs.declared.violations.RuleName.{RuleName}
use Rattle.conf_check.specs.declared.violations.RuleName.TheVariants.{KeyShape, KeyReference, UnknownField, WrongKind, BadValue, DuplicateItem, MissingField, Must}
use Rattle.gcu_requests.specs.Places.{IsFieldOf, IsPlaceOf, rule_from}
use Rattle.yang_model.specs.ModelSets.{ModelSet}
use Rattle.yang_model.specs.declared.shapes.Shape.{Shape}
use Rattle.gcu_output.specs.declared.outcomes.Outcome.{Outcome}
use Rattle.gcu_requests.specs.Checking.{IsFirstBreach, IsInvalidAs}

-- ---- the order of violations is total

-- the rule of a rule's number is that rule
numbered : (r : RuleName) → rule_from (rule_number r) ≡ Some r
numbered KeyShape = refl
numbered KeyReference = refl
numbered UnknownField = refl
numbered WrongKind = refl
numbered BadValue = refl
numbered DuplicateItem = refl
numbered MissingField = refl
numbered Must = refl

same_rule : (r s : RuleName) → rule_number r ≡ rule_number s → r ≡ s
same_rule r s e =
    let both : Some r ≡ Some s = sym (numbered r) ∙ ap rule_from e ∙ numbered s in
    cc

-- within an entry
rules_ordered : (r s : RuleName) (m n : ℕ) → ((r ≡ s) × (m ≡ n)) ⊎ (IsRuleBefore r m s n ⊎ IsRuleBefore s n r m)
rules_ordered r s m n = by_stage (cases_order (stage r) (stage s))
  where
    by_number : stage r ≡ stage s → m ≡ n
        → (rule_number r ≡ rule_number s) ⊎ ((rule_number r < rule_number s) ⊎ (rule_number s < rule_number r))
        → ((r ≡ s) × (m ≡ n)) ⊎ (IsRuleBefore r m s n ⊎ IsRuleBefore s n r m)
    by_number one same (inl e) = inl (same_rule r s e, same)
    by_number one same (inr (inl lt)) = inr (inl (inr (one, inr (same, lt))))
    by_number one same (inr (inr gt)) = inr (inr (inr (sym one, inr (sym same, gt))))

    by_field : stage r ≡ stage s → (m ≡ n) ⊎ ((m < n) ⊎ (n < m))
        → ((r ≡ s) × (m ≡ n)) ⊎ (IsRuleBefore r m s n ⊎ IsRuleBefore s n r m)
    by_field one (inl e) = by_number one e (cases_order (rule_number r) (rule_number s))
    by_field one (inr (inl lt)) = inr (inl (inr (one, inl lt)))
    by_field one (inr (inr gt)) = inr (inr (inr (sym one, inl gt)))

    by_stage : (stage r ≡ stage s) ⊎ ((stage r < stage s) ⊎ (stage s < stage r))
        → ((r ≡ s) × (m ≡ n)) ⊎ (IsRuleBefore r m s n ⊎ IsRuleBefore s n r m)
    by_stage (inl e) = by_field e (cases_order m n)
    by_stage (inr (inl lt)) = inr (inl (inl lt))
    by_stage (inr (inr gt)) = inr (inr (inl gt))

-- tables, then keys, then the rules
breaches_ordered : (a b : Breach) → (a ≡ b) ⊎ (IsBreachBefore a b ⊎ IsBreachBefore b a)
breaches_ordered a b = by_table (cases_order a.table b.table)
  where
    by_rule : a.table ≡ b.table → a.key ≡ b.key
        → ((a.rule ≡ b.rule) × (a.field ≡ b.field))
        ⊎ (IsRuleBefore a.rule a.field b.rule b.field ⊎ IsRuleBefore b.rule b.field a.rule a.field)
        → (a ≡ b) ⊎ (IsBreachBefore a b ⊎ IsBreachBefore b a)
    by_rule t k (inl (r, f)) = inl (λ i. record { table = t i; key = k i; rule = r i; field = f i })
    by_rule t k (inr (inl lt)) = inr (inl (inr (t, inr (k, lt))))
    by_rule t k (inr (inr gt)) = inr (inr (inr (sym t, inr (sym k, gt))))

    by_key : a.table ≡ b.table → (a.key ≡ b.key) ⊎ ((a.key < b.key) ⊎ (b.key < a.key))
        → (a ≡ b) ⊎ (IsBreachBefore a b ⊎ IsBreachBefore b a)
    by_key t (inl e) = by_rule t e (rules_ordered a.rule b.rule a.field b.field)
    by_key t (inr (inl lt)) = inr (inl (inr (t, inl lt)))
    by_key t (inr (inr gt)) = inr (inr (inr (sym t, inl gt)))

    by_table : (a.table ≡ b.table) ⊎ ((a.table < b.table) ⊎ (b.table < a.table))
        → (a ≡ b) ⊎ (IsBreachBefore a b ⊎ IsBreachBefore b a)
    by_table (inl e) = by_key e (cases_order a.key b.key)
    by_table (inr (inl lt)) = inr (inl (inl lt))
    by_table (inr (inr gt)) = inr (inr (inl gt))

-- the first one is one
first_one : (models : ModelSet) (config : Config) (a b : Breach) → IsFirstBreach models config a
    → IsFirstBreach models config b → a ≡ b
first_one models config a b p q = by (breaches_ordered a b)
  where
    by : (a ≡ b) ⊎ (IsBreachBefore a b ⊎ IsBreachBefore b a) → a ≡ b
    by (inl e) = e
    by (inr (inl lt)) = absurd (q.first a lt p.broken)
    by (inr (inr gt)) = absurd (p.first b gt q.broken)

-- ---- its place is one

-- an entry that breaks a rule but the one on the shape of its key has a shape
the_shape : (models : ModelSet) (config : Config) (t k : ℕ) (row : Row) (rule : RuleName) (n : ℕ) → rule ≡ MissingField
    → Breaks models config t k row rule n
    → (shape : Shape) × HasShape models row shape
the_shape models config t k row rule n missing (no_shape none is zero) = absurd cc
the_shape models config t k row rule n missing (of_shape shape has breaks) = (shape, has)

-- one field is named
fields_one : (models : ModelSet) (row : Row) (rule : RuleName) (n : ℕ) (f g : List (List ℕ))
    → (rule ≡ MissingField → (shape : Shape) × HasShape models row shape)
    → IsFieldOf models row rule n f → IsFieldOf models row rule n g → f ≡ g
fields_one models row KeyShape n f g has p q = p ∙ sym q
fields_one models row KeyReference n f g has p q = p ∙ sym q
fields_one models row UnknownField n f g has p q = p ∙ sym q
fields_one models row WrongKind n f g has p q = p ∙ sym q
fields_one models row BadValue n f g has p q = p ∙ sym q
fields_one models row DuplicateItem n f g has p q = p ∙ sym q
fields_one models row MissingField n f g has p q =
    let there = has refl in
    p there.0 there.1 ∙ sym (q there.0 there.1)
fields_one models row Must n f g has p q = p ∙ sym q

same_some : {A : Type 0} (x y : A) → Some x ≡ Some y → x ≡ y
same_some x y e = cc

-- one place
places_one : (models : ModelSet) (config : Config) (b : Breach) (x y : List ℕ) → IsBreach models config b
    → IsPlaceOf models config b x → IsPlaceOf models config b y → x ≡ y
places_one models config b x y broken p q =
    let rows : p.row ≡ q.row = same_some p.row q.row (sym p.at ∙ q.at) in
    let own : broken.row ≡ q.row = same_some broken.row q.row (sym broken.at ∙ q.at) in
    let breaks : Breaks models config b.table b.key q.row b.rule b.field = subst
    (λ (r : Row). Breaks models config b.table b.key r b.rule b.field) own broken.breaks in
    let named : IsFieldOf models q.row b.rule b.field p.field = subst
    (λ (r : Row). IsFieldOf models r b.rule b.field p.field) rows p.named in
    let fields : p.field ≡ q.field =
    fields_one models q.row b.rule b.field p.field q.field
    (λ missing. the_shape models config b.table b.key q.row b.rule b.field missing breaks) named q.named in
    p.pointer ∙ (λ i. pointer ((rows i).table ∷ (rows i).key ∷ fields i)) ∙ sym q.pointer

-- the first violation is told by one answer
pub invalid_one : (answer : List ℕ → RuleName → Outcome) (models : ModelSet) (config : Config) (e f : Outcome)
    → IsInvalidAs answer models config e → IsInvalidAs answer models config f → e ≡ f
invalid_one answer models config e f p q =
    let breaches : p.breach ≡ q.breach = first_one models config p.breach q.breach p.first q.first in
    let at : IsPlaceOf models config q.breach p.place = subst (λ (b : Breach). IsPlaceOf models config b p.place)
    breaches p.at in
    let places : p.place ≡ q.place = places_one models config q.breach p.place q.place q.first.broken at q.at in
    p.told ∙ (λ i. answer (places i) (breaches i).rule) ∙ sym q.told
