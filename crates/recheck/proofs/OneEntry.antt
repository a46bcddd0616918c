-- Two configurations that agree but for one entry.
use Rattle.std.proofs.Common.{◌≡◌, ◌≢◌, ◌⊎◌, ◌<◌, ◌≤◌, ◌+◌, ◌-◌, ℕ, List, Option, Some, None, is_some, IsTrue, option_and_then, map, length, slice_get, refl, sym, ap, ◌∙◌, subst, inl, inr, arith}
use Rattle.std.proofs.lemmas.Bool.{cases_lt}
use Rattle.std.proofs.lemmas.Option.{none-some, slice_get_within}
use Rattle.conf_doc.specs.Pairs.{IsRising, find}
use Rattle.conf_doc.specs.Runs.{IsRun}
use Rattle.conf_doc.specs.WellFormed.{IsConfig}
use Rattle.conf_doc.specs.declared.configuration.Config.{Config}
use Rattle.conf_doc.specs.declared.configuration.Table.{Table}
use Rattle.yang_model.specs.ModelSets.{ModelSet}
use Rattle.conf_check.specs.MustReads.{HasOneTruth}
use Rattle.conf_check.specs.Rows.{IsEntryAt}
use Rattle.ref_index.specs.Agreements.{AgreeBut, entry_of}
use Rattle.ref_index.proofs.Agreements.{by_name, same_or_one}
use Rattle.recheck.specs.Agreements.{AgreeAt, AreSameBut, AreSameFrom}
use Rattle.recheck.specs.Changes.{AreAmong, IsHandled, IsTableHandled}
use Rattle.recheck.specs.Verdicts.{AreSound, IsSound}
use Rattle.recheck.specs.declared.verdicts.Verdict.{Verdict}
use Rattle.recheck.proofs.VerdictChanges.{all_sound}
use Rattle.recheck.proofs.Lists.{among_all, entry_found}
use Rattle.recheck.proofs.Pairs.{found_at, found_there, left_at, some_same}

-- ---- lists of pairs

module _ {A : Type 0} where
  -- pairs of one name before a place and from another on, which are those of another list
  moved : (ps qs : List (List ℕ × A)) (key : List ℕ) (s p q n : ℕ) → AreSameFrom ps 0 qs 0 s → AreSameFrom ps p qs q n → length ps ≤ p + n
      → ((i : ℕ) → s ≤ i → i < p → slice_get (map (λ e. e.0) ps) i ≡ Some key)
      → (k : List ℕ) (a : A) (i : ℕ) → k ≢ key → slice_get ps i ≡ Some (k, a) → (j : ℕ) × (slice_get qs j ≡ Some (k, a))
  moved ps qs key s p q n heads tails all mid k a i other at = elim (cases_lt i s) [
    | inl before ↦ (i, sym (heads i i (omega arith) (omega arith) (omega arith)) ∙ at)
    | inr from ↦ elim (cases_lt i p) [
      | inl between ↦ absurd (other (some_same k key (sym (left_at ps i (k, a) at) ∙ mid i from between)))
      | inr behind ↦
          let within : i < length ps = slice_get_within ps i (k, a) at in
          ((i - p) + q, sym (tails i ((i - p) + q) behind (omega arith) (omega arith)) ∙ at)
    ]
  ]

  turned : (ps qs : List (List ℕ × A)) (i j n : ℕ) → AreSameFrom ps i qs j n → AreSameFrom qs j ps i n
  turned ps qs i j n same k l low high e = sym (same l k (omega arith) (omega arith) (omega arith))

  -- where each pair of another name is in the other list, such a name finds the same in both
  found_same : (ps qs : List (List ℕ × A)) (key : List ℕ) → IsRising ps → IsRising qs
      → ((k : List ℕ) (a : A) (i : ℕ) → k ≢ key → slice_get ps i ≡ Some (k, a) → (j : ℕ) × (slice_get qs j ≡ Some (k, a)))
      → ((k : List ℕ) (a : A) (i : ℕ) → k ≢ key → slice_get qs i ≡ Some (k, a) → (j : ℕ) × (slice_get ps j ≡ Some (k, a)))
      → (k : List ℕ) → k ≢ key → find k ps ≡ find k qs
  found_same ps qs key rises rising to back k other = by (find k ps) refl (find k qs) refl
    where
      by : (o : Option A) → find k ps ≡ o → (u : Option A) → find k qs ≡ u → find k ps ≡ find k qs
      by None is None also = is ∙ sym also
      by (Some a) is u also =
          let there = found_there ps k a is in
          let moved_to = to k a there.0 other there.1 in
          is ∙ sym (found_at qs k moved_to.0 a rising moved_to.1)
      by None is (Some a) also =
          let there = found_there qs k a also in
          let moved_to = back k a there.0 other there.1 in
          found_at ps k moved_to.0 a rises moved_to.1 ∙ sym also

-- tables whose entries before and behind that of a key are the same
pub same_but : (ps qs : Table) (key : List ℕ) (s p q n : ℕ) → IsRising ps → IsRising qs → AreSameFrom ps 0 qs 0 s → AreSameFrom ps p qs q n
    → length ps ≤ p + n → length qs ≤ q + n → ((i : ℕ) → s ≤ i → i < p → slice_get (map (λ e. e.0) ps) i ≡ Some key)
    → ((i : ℕ) → s ≤ i → i < q → slice_get (map (λ e. e.0) qs) i ≡ Some key) → AreSameBut key ps qs
same_but ps qs key s p q n rises rising heads tails all_ps all_qs mid_ps mid_qs =
    found_same ps qs key rises rising (moved ps qs key s p q n heads tails all_ps mid_ps)
    (moved qs ps key s q p n (turned ps qs 0 0 s heads) (turned ps qs p q n tails) all_qs mid_qs)

-- ---- one more

pub at_more : (first second : Config) (table key : List ℕ) (n : ℕ) → ((i : ℕ) → i < n → AgreeAt first second table key i) → AgreeAt first second table key n
    → (i : ℕ) → i < n + 1 → AgreeAt first second table key i
at_more first second table key n before here i lt = elim (cases_lt i n) [
  | inl less ↦ before i less
  | inr last ↦ let same : n ≡ i = omega arith in subst (AgreeAt first second table key) same here
]

-- ---- runs

-- the first items of a run are the same
pub same_in_run : {A : Type 0} (ps qs : List A) (i j n count : ℕ) → count ≤ n → IsRun ps i qs j n → AreSameFrom ps i qs j count
same_in_run ps qs i j n count long run k l low high e =
    let first : i + (k - i) ≡ k = omega (arith, low) in
    let second : j + (k - i) ≡ l = omega (arith, low, e) in
    sym (ap (slice_get ps) first) ∙ run.same (k - i) (omega (arith, long, low, high)) ∙ ap (slice_get qs) second

-- ---- configurations

module _ (first second : Config) (table key : List ℕ) (formed : IsConfig first) (well : IsConfig second) (long : length first ≡ length second)
    (at : (i : ℕ) → i < length first → AgreeAt first second table key i) where
  -- what a name finds in the first
  found : (t : List ℕ) (a : Table) → find t first ≡ Some a → (b : Table) × (find t second ≡ Some b) × ((a ≡ b) ⊎ ((t ≡ table) × AreSameBut key a b))
  found t a is =
      let there = found_there first t a is in
      let here = at there.0 (slice_get_within first there.0 (t, a) there.1) in
      let pair : (here.name, here.one) ≡ (t, a) = some_same (here.name, here.one) (t, a) (sym here.at_first ∙ there.1) in
      let stands : slice_get second there.0 ≡ Some (t, here.other) =
      subst (λ (q : List ℕ × Table). slice_get second there.0 ≡ Some (q.0, here.other)) pair here.at_second in (
        here.other,
        found_at second t there.0 here.other well.shaped.rising stands,
        subst (λ (q : List ℕ × Table). (q.1 ≡ here.other) ⊎ ((q.0 ≡ table) × AreSameBut key q.1 here.other)) pair here.agree,
      )

  none : (t : List ℕ) → find t first ≡ None → find t second ≡ None
  none t is = by (find t second) refl
    where
      by : (o : Option Table) → find t second ≡ o → find t second ≡ None
      by None also = also
      by (Some b) also =
          let there = found_there second t b also in
          let within = slice_get_within second there.0 (t, b) there.1 in
          let here = at there.0 (omega (arith, long, within)) in
          let pair : (here.name, here.other) ≡ (t, b) = some_same (here.name, here.other) (t, b) (sym here.at_second ∙ there.1) in
          let stands : slice_get first there.0 ≡ Some (t, here.one) =
          subst (λ (q : List ℕ × Table). slice_get first there.0 ≡ Some (q.0, here.one)) pair here.at_first in
          absurd (none-some here.one (sym is ∙ found_at first t there.0 here.one formed.shaped.rising stands))

  tables : (t : List ℕ) → t ≢ table → find t first ≡ find t second
  tables t other = by (find t first) refl
    where
      by : (o : Option Table) → find t first ≡ o → find t first ≡ find t second
      by None is = is ∙ sym (none t is)
      by (Some a) is =
          let b = found t a is in
          elim b.2 [ inl same ↦ is ∙ ap Some same ∙ sym b.1 | inr one ↦ absurd (other one.0) ]

  entries : (k : List ℕ) → k ≢ key → entry_of table k first ≡ entry_of table k second
  entries k other = by (find table first) refl
    where
      by : (o : Option Table) → find table first ≡ o → entry_of table k first ≡ entry_of table k second
      by None is = ap (λ (o : Option Table). option_and_then (find k) o) (is ∙ sym (none table is))
      by (Some a) is =
          let b = found table a is in
          elim b.2 [
            | inl same ↦ ap (λ (o : Option Table). option_and_then (find k) o) (is ∙ ap Some same ∙ sym b.1)
            | inr one ↦
                ap (λ (o : Option Table). option_and_then (find k) o) is ∙ one.1 k other ∙ sym (ap (λ (o : Option Table). option_and_then (find k) o) b.1)
          ]

  -- configurations that agree at each place agree
  pub agree_all : AgreeBut first second table key
  agree_all = record { tables = tables; entries = entries }

-- ---- verdicts

-- the verdicts that are left stay true where the others are dropped that a change of the one entry may turn
pub one_sound : (models : ModelSet) (config next : Config) (old new : List Verdict) (table key : List ℕ) → IsConfig config → IsConfig next → HasOneTruth models
    → AgreeBut config next table key → AreAmong old new → (IsTrue (is_some (entry_of table key config)) → IsHandled models config next new table key)
    → IsTableHandled models config next new table → AreSound models config old → AreSound models next new
one_sound models config next old new table key formed well truth agree among here_handled table_handled sound =
    all_sound models config next formed well new handled names truth (among_all (IsSound models config) old new among.each sound)
  where
    handled : (t k : List ℕ) (i j : ℕ) → IsEntryAt config t k i j → IsHandled models config next new t k
    handled t k i j is = elim (same_or_one config next table key agree t k) [
      | inl same ↦ inl (sym same)
      | inr one ↦
          let there : IsTrue (is_some (entry_of t k config)) = ap is_some (entry_found config t k i j formed is) in
          let here : IsTrue (is_some (entry_of table key config)) =
          subst (λ u. IsTrue (is_some (entry_of u key config))) one.0 (subst (λ l. IsTrue (is_some (entry_of t l config))) one.1 there) in
          subst (λ u. IsHandled models config next new u k) (sym one.0) (subst (λ l. IsHandled models config next new table l) (sym one.1) (here_handled here))
    ]

    names : (name : List ℕ) → IsTableHandled models config next new name
    names name = by_name name table (IsTableHandled models config next new name)
        (λ same. subst (λ n. IsTableHandled models config next new n) (sym same) table_handled)
        (λ other. inl (agree.tables name other))
