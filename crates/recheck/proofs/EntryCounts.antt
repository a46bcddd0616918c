-- Entries that are gone through, and how many of them are counted.
use Rattle.std.proofs.Common.{◌≡◌, ◌<◌, ◌≤◌, ◌+◌, ℕ, zero, suc, Bool, true, false, cond, ◌&&◌, IsTrue, List, [], ◌∷◌, ◌++◌, map, take, drop, length, insert, Option, Some, None, Result, IfOk, is_some, slice_get, min, refl, sym, ap, ◌∙◌, subst, inl, inr, add-one, length-append, arith}
use Rattle.std.proofs.lemmas.List.{take-append-drop}
use Rattle.std.proofs.lemmas.Result.{IfOk-weaker}
use Rattle.std.specs.Prelude.{if◌then◌else◌}
use Rattle.std.specs.Bool.{OnFalse, OnTrue}
use Rattle.std.specs.Str.{bytes_eq}
use Rattle.std.proofs.lemmas.Slice.Eq.{bytes_eq-Decides}
use Rattle.conf_doc.specs.declared.configuration.Config.{Config}
use Rattle.conf_doc.specs.declared.configuration.Table.{Table}
use Rattle.move_core.specs.declared.moves.Move.{Move}
use Rattle.yang_model.specs.ModelSets.{ModelSet, table_named}
use Rattle.ref_index.specs.Agreements.{entry_of}
use Rattle.recheck.specs.Counts.{AreChecked, AreCounted, AreLeft, IsCount, IsOneCounted, IsRaised, IsTold, number_of}
use Rattle.recheck.specs.Entries.{AreWithin, IsLooked, entries_in, entries_of, entries_with_model, greatest, is_of, raised}
use Rattle.recheck.specs.SoleEntries.{IsSoleEntry}
use Rattle.recheck.specs.Rechecks.{AreLooked, AreWalked, IsNext, IsNotedAt}
use Rattle.recheck.specs.Verdicts.{is_on}
use Rattle.recheck.specs.declared.kept.Kept.{Kept}
use Rattle.recheck.specs.declared.verdicts.Verdict.{Verdict}
use Rattle.recheck.proofs.Pairs.{some_same}
use Rattle.recheck.proofs.ParallelWalks.{all_passed, both_more, missed, one_more, passed}
use Rattle.recheck.proofs.VerdictOrder.{some_breaks, some_entry}

-- ---- lists cut at a place

module _ {A : Type 0} where
  drop_suc : (xs : List A) (i : ℕ) (x : A) → slice_get xs i ≡ Some x → drop i xs ≡ x ∷ drop (suc i) xs
  drop_suc [] i x at = cc
  drop_suc (y ∷ xs) zero x at = ap (λ z. z ∷ xs) (some_same y x at)
  drop_suc (y ∷ xs) (suc i) x at = drop_suc xs i x at

  take_suc : (xs : List A) (i : ℕ) (x : A) → slice_get xs i ≡ Some x → take (suc i) xs ≡ take i xs ++ x ∷ []
  take_suc [] i x at = cc
  take_suc (y ∷ xs) zero x at = ap (λ z. z ∷ []) (some_same y x at)
  take_suc (y ∷ xs) (suc i) x at = ap (λ zs. y ∷ zs) (take_suc xs i x at)

  pub drop_more : (xs : List A) (i : ℕ) (x : A) → slice_get xs i ≡ Some x → drop i xs ≡ x ∷ drop (i + 1) xs
  drop_more xs i x at = drop_suc xs i x at ∙ ap (λ n. x ∷ drop n xs) (sym (add-one i))

  pub take_more : (xs : List A) (i : ℕ) (x : A) → slice_get xs i ≡ Some x → take (i + 1) xs ≡ take i xs ++ x ∷ []
  take_more xs i x at = ap (λ n. take n xs) (add-one i) ∙ take_suc xs i x at

  pub drop_past : (xs : List A) (i : ℕ) → slice_get xs i ≡ None → drop i xs ≡ []
  drop_past [] zero at = refl
  drop_past [] (suc i) at = refl
  drop_past (y ∷ xs) zero at = cc
  drop_past (y ∷ xs) (suc i) at = drop_past xs i at

  pub take_all : (xs : List A) (i : ℕ) → length xs ≤ i → take i xs ≡ xs
  take_all [] zero past = refl
  take_all [] (suc i) past = refl
  take_all (y ∷ xs) zero past = absurd (omega (arith, past))
  take_all (y ∷ xs) (suc i) past = ap (λ zs. y ∷ zs) (take_all xs i (omega (arith, past)))

  drop_insert : (xs : List A) (i : ℕ) (x : A) → i ≤ length xs → drop (suc i) (insert xs i x) ≡ drop i xs
  drop_insert xs zero x le = refl
  drop_insert [] (suc i) x le = absurd (omega (arith, le))
  drop_insert (y ∷ xs) (suc i) x le = drop_insert xs i x (omega (arith, le))

  take_insert : (xs : List A) (i : ℕ) (x : A) → i ≤ length xs → take (suc i) (insert xs i x) ≡ take i xs ++ x ∷ []
  take_insert xs zero x le = refl
  take_insert [] (suc i) x le = absurd (omega (arith, le))
  take_insert (y ∷ xs) (suc i) x le = ap (λ zs. y ∷ zs) (take_insert xs i x (omega (arith, le)))

  long_insert : (xs : List A) (i : ℕ) (x : A) → i ≤ length xs → length (insert xs i x) ≡ suc (length xs)
  long_insert xs zero x le = refl
  long_insert [] (suc i) x le = absurd (omega (arith, le))
  long_insert (y ∷ xs) (suc i) x le = ap suc (long_insert xs i x (omega (arith, le)))

  append_nil : (xs : List A) → xs ++ [] ≡ xs
  append_nil [] = refl
  append_nil (y ∷ xs) = ap (λ zs. y ∷ zs) (append_nil xs)

  assoc : (xs ys zs : List A) → (xs ++ ys) ++ zs ≡ xs ++ (ys ++ zs)
  assoc [] ys zs = refl
  assoc (x ∷ xs) ys zs = ap (λ ws. x ∷ ws) (assoc xs ys zs)

  long : (xs ys : List A) → length (xs ++ ys) ≡ length xs + length ys
  long xs ys = length-append xs ys

  pub there : (xs : List A) (i : ℕ) → i < length xs → (x : A) × (slice_get xs i ≡ Some x)
  there [] i lt = absurd (omega (arith, lt))
  there (x ∷ xs) zero lt = (x, refl)
  there (x ∷ xs) (suc i) lt = there xs i (omega (arith, lt))

-- a verdict is on its own entry
pub on_itself : (table key : List ℕ) → is_on table key (record { table = table; key = key }) ≡ true
on_itself table key =
    let k : bytes_eq key key ≡ true = (bytes_eq-Decides key key).1 refl in
    let t : bytes_eq table table ≡ true = (bytes_eq-Decides table table).1 refl in
    ap (λ b. b && bytes_eq table table) k ∙ t

-- ---- one entry

abbrev Entries : Type 0
Entries = List (List ℕ × List ℕ)

-- nothing is gone through
pub walked_none : (vs : List Verdict) (b c : ℕ) → AreWalked [] vs b vs b c c true
walked_none vs b c = record {
  ahead = λ rest is. is;
  past = λ seen is. subst (λ l. AreWithin (take b vs) l) (sym (append_nil seen)) is;
  count = 0;
  counts = refl;
  raises = omega arith;
  longer = omega arith;
  noted = λ _. inl (omega arith);
}

-- one list after the other
pub walked_then : (es fs : Entries) (u v w : List Verdict) (a b c i j k : ℕ) (first second both : Bool) → AreWalked es u a v b i j first
    → AreWalked fs v b w c j k second → (IsTrue both → IsTrue first × IsTrue second) → AreWalked (es ++ fs) u a w c i k both
walked_then es fs u v w a b c i j k first second both one two parts = record {
  ahead = λ rest is. two.ahead rest (one.ahead (fs ++ rest) (subst (λ l. AreWithin (drop a u) l) (assoc es fs rest) is));
  past = λ seen is. subst (λ l. AreWithin (take c w) l) (assoc seen es fs) (two.past (seen ++ es) (one.past seen is));
  count = one.count + two.count;
  counts = let l = long es fs in omega (arith, l, one.counts, two.counts);
  raises = omega (arith, one.raises, two.raises);
  longer = omega (arith, one.longer, two.longer);
  noted = λ yes.
      elim (two.noted (parts yes).1) [
        | inr full ↦ inr full
        | inl more ↦ elim (one.noted (parts yes).0) [
          | inr full ↦ inr (omega (arith, full, two.longer))
          | inl less ↦ let l = long es fs in inl (omega (arith, l, more, less))
        ]
      ];
}

module _ (table key : List ℕ) (vs : List Verdict) (b c : ℕ) where
  abbrev e : List ℕ × List ℕ
  e = (table, key)

  -- the next verdict is on the entry
  pub walked_passed : IsNext vs b table key → AreWalked (e ∷ []) vs b vs (b + 1) c c true
  walked_passed (v, at, is) =
      let ahead = drop_more vs b v at in
      let past = take_more vs b v at in
      record {
        ahead = λ rest within. passed is_of v (drop (b + 1) vs) e rest is (subst (λ l. AreWithin l (e ∷ rest)) ahead within);
        past = λ seen within. subst (λ l. AreWithin l (seen ++ e ∷ [])) (sym past) (both_more is_of (take b vs) seen v e is within);
        count = 0;
        counts = let l = ap length ahead in omega (arith, l);
        raises = omega arith;
        longer = omega arith;
        noted = λ _. let l = ap length past in let m = long (take b vs) (v ∷ []) in inl (omega (arith, l, m));
      }

  module _ (not : ¬ IsNext vs b table key) where
    by_verdict : (v : Verdict) → slice_get vs b ≡ Some v → (o : Bool) → is_on table key v ≡ o → (rest : Entries) → AreWithin (drop b vs) (e ∷ rest) → AreWithin (drop b vs) rest
    by_verdict v at true is rest within = absurd (not (v, at, is))
    by_verdict v at false is rest within =
        let ahead = drop_more vs b v at in
        subst (λ l. AreWithin l rest) (sym ahead) (missed is_of v (drop (b + 1) vs) e rest is (subst (λ l. AreWithin l (e ∷ rest)) ahead within))

    by_next : (o : Option Verdict) → slice_get vs b ≡ o → (rest : Entries) → AreWithin (drop b vs) (e ∷ rest) → AreWithin (drop b vs) rest
    by_next (Some v) at rest within = by_verdict v at (is_on table key v) refl rest within
    by_next None at rest within = subst (λ l. AreWithin l rest) (sym (drop_past vs b at)) (empty rest)
      where
        empty : (rest : Entries) → AreWithin [] rest
        empty rest = refl

    -- it isn't, and the entry is counted and has a violation
    pub walked_invalid : (c' : ℕ) → c' ≡ raised c 1 → AreWalked (e ∷ []) vs b vs b c c' false
    walked_invalid c' raises = record {
      ahead = λ rest within. by_next (slice_get vs b) refl rest within;
      past = λ seen within. one_more is_of (take b vs) seen e within;
      count = 1;
      counts = omega arith;
      raises = raises;
      longer = omega arith;
      noted = λ yes. absurd cc;
    }

    -- or it has none
    pub walked_noted : (c' : ℕ) (new : List Verdict) (b' : ℕ) → c' ≡ raised c 1 → b ≤ length vs → IsNotedAt table key vs b new b'
        → AreWalked (e ∷ []) vs b new b' c c' true
    walked_noted c' new b' raises within (inr full) =
        subst (λ l. AreWalked (e ∷ []) vs b l b' c c' true) (sym full.0)
        (subst (λ n. AreWalked (e ∷ []) vs b vs n c c' true) (sym full.1) (record {
          ahead = λ rest is. by_next (slice_get vs b) refl rest is;
          past = λ seen is. one_more is_of (take b vs) seen e is;
          count = 1;
          counts = omega arith;
          raises = raises;
          longer = omega arith;
          noted = λ _. inr full.2;
        }))
    walked_noted c' new b' raises within (inl added) =
        let v : Verdict = record { table = table; key = key } in
        let ahead : drop (b + 1) (insert vs b v) ≡ drop b vs = ap (λ n. drop n (insert vs b v)) (add-one b) ∙ drop_insert vs b v within in
        let past : take (b + 1) (insert vs b v) ≡ take b vs ++ v ∷ [] = ap (λ n. take n (insert vs b v)) (add-one b) ∙ take_insert vs b v within in
        let on : is_on table key v ≡ true = on_itself table key in
        subst (λ l. AreWalked (e ∷ []) vs b l b' c c' true) (sym added.0)
        (subst (λ n. AreWalked (e ∷ []) vs b (insert vs b v) n c c' true) (sym added.1) (record {
          ahead = λ rest is. subst (λ l. AreWithin l rest) (sym ahead) (by_next (slice_get vs b) refl rest is);
          past = λ seen is. subst (λ l. AreWithin l (seen ++ e ∷ [])) (sym past) (both_more is_of (take b vs) seen v e on is);
          count = 1;
          counts = let l = ap length ahead in omega (arith, l);
          raises = raises;
          longer = let l = long_insert vs b v within in omega (arith, l);
          noted = λ _. let l = ap length past in let m = long (take b vs) (v ∷ []) in inl (omega (arith, l, m));
        }))

-- ---- tables

pub named_at : (name : List ℕ) (entries : Table) (i : ℕ) (key : List ℕ) → slice_get (map (λ e. e.0) entries) i ≡ Some key
    → slice_get (entries_in (name, entries)) i ≡ Some (name, key)
named_at name [] i key at = cc
named_at name (x ∷ xs) zero key at = ap (λ k. Some (name, k)) (some_same x.0 key at)
named_at name (x ∷ xs) (suc i) key at = named_at name xs i key at

pub long_in : (name : List ℕ) (entries : Table) → length (entries_in (name, entries)) ≡ length entries
long_in name [] = refl
long_in name (x ∷ xs) = ap suc (long_in name xs)

-- one more key of a table
pub keys_walked : (name : List ℕ) (entries : Table) (i : ℕ) (key : List ℕ) (u v w : List Verdict) (a b c j k l : ℕ) (first second both : Bool)
    → slice_get (map (λ e. e.0) entries) i ≡ Some key → AreWalked (take i (entries_in (name, entries))) u a v b j k first
    → AreWalked ((name, key) ∷ []) v b w c k l second → (IsTrue both → IsTrue first × IsTrue second)
    → AreWalked (take (i + 1) (entries_in (name, entries))) u a w c j l both
keys_walked name entries i key u v w a b c j k l first second both at one two parts =
    subst (λ es. AreWalked es u a w c j l both) (sym (take_more (entries_in (name, entries)) i (name, key) (named_at name entries i key at)))
    (walked_then (take i (entries_in (name, entries))) ((name, key) ∷ []) u v w a b c j k l first second both one two parts)

-- all keys of a table
pub keys_all : (p : List ℕ × Table) (name : List ℕ) (entries : Table) (i : ℕ) (u v : List Verdict) (a b j k : ℕ) (valid : Bool) → (name, entries) ≡ p
    → length entries ≤ i → AreWalked (take i (entries_in (name, entries))) u a v b j k valid → AreWalked (entries_in p) u a v b j k valid
keys_all p name entries i u v a b j k valid same past walked =
    subst (λ q. AreWalked (entries_in q) u a v b j k valid) same
    (subst (λ es. AreWalked es u a v b j k valid)
    (take_all (entries_in (name, entries)) i (let l = long_in name entries in omega (arith, l, past))) walked)

-- those of a table with a model, and of one without
pub modelled : (models : ModelSet) (p : List ℕ × Table) (name : List ℕ) (o : Bool) (u v : List Verdict) (a b j k : ℕ) (valid : Bool)
    → name ≡ p.0 → o ≡ is_some (table_named name models) → o ≡ true → AreWalked (entries_in p) u a v b j k valid
    → AreWalked (entries_with_model models p) u a v b j k valid
modelled models p name o u v a b j k valid same is has walked =
    let e : is_some (table_named p.0 models) ≡ true = ap (λ n. is_some (table_named n models)) (sym same) ∙ sym is ∙ has in
    subst (λ x. AreWalked (cond x (entries_in p) []) u a v b j k valid) (sym e) walked

pub unmodelled_none : (models : ModelSet) (p : List ℕ × Table) (name : List ℕ) (o : Bool) (u : List Verdict) (a j : ℕ)
    → name ≡ p.0 → o ≡ is_some (table_named name models) → o ≡ false → AreWalked (entries_with_model models p) u a u a j j true
unmodelled_none models p name o u a j same is lacks =
    let e : is_some (table_named p.0 models) ≡ false = ap (λ n. is_some (table_named n models)) (sym same) ∙ sym is ∙ lacks in
    subst (λ x. AreWalked (cond x (entries_in p) []) u a u a j j true) (sym e) (walked_none u a j)

pub entries_more : (models : ModelSet) (c : Config) (t : ℕ) (p : List ℕ × Table) → slice_get c t ≡ Some p
    → entries_of models (take (suc t) c) ≡ entries_of models (take t c) ++ entries_with_model models p
entries_more models [] t p at = cc
entries_more models (q ∷ c) zero p at =
    append_nil (entries_with_model models q) ∙ ap (λ x. entries_with_model models x) (some_same q p at)
entries_more models (q ∷ c) (suc t) p at =
    ap (λ es. entries_with_model models q ++ es) (entries_more models c t p at)
    ∙ sym (assoc (entries_with_model models q) (entries_of models (take t c)) (entries_with_model models p))

-- one more table
pub tables_walked : (models : ModelSet) (config : Config) (t : ℕ) (u v w : List Verdict) (a b c j k l : ℕ) (first second both : Bool) → t < length config
    → AreWalked (entries_of models (take t config)) u a v b j k first
    → ((p : List ℕ × Table) → slice_get config t ≡ Some p → AreWalked (entries_with_model models p) v b w c k l second)
    → (IsTrue both → IsTrue first × IsTrue second) → AreWalked (entries_of models (take (t + 1) config)) u a w c j l both
tables_walked models config t u v w a b c j k l first second both within one two parts =
    let p = there config t within in
    let e : entries_of models (take (t + 1) config) ≡ entries_of models (take t config) ++ entries_with_model models p.0 =
    ap (λ n. entries_of models (take n config)) (add-one t) ∙ entries_more models config t p.0 p.1 in
    subst (λ es. AreWalked es u a w c j l both) (sym e)
    (walked_then (entries_of models (take t config)) (entries_with_model models p.0) u v w a b c j k l first second both one (two p.0 p.1) parts)

pub tables_all : (models : ModelSet) (config : Config) (t : ℕ) (u v : List Verdict) (a b j k : ℕ) (valid : Bool) → length config ≤ t
    → AreWalked (entries_of models (take t config)) u a v b j k valid → AreWalked (entries_of models config) u a v b j k valid
tables_all models config t u v a b j k valid past walked =
    subst (λ (x : Config). AreWalked (entries_of models x) u a v b j k valid) (take_all config t past) walked

-- they are no more than all entries
few_if : (b : Bool) (p : List ℕ × Table) → length (cond b (entries_in p) []) ≤ length p.1
few_if true p = let l = long_in p.0 p.1 in omega (arith, l)
few_if false p = omega arith

entries_few : (models : ModelSet) (c : Config) → length (entries_of models c) ≤ number_of c
entries_few models [] = omega arith
entries_few models (p ∷ c) =
    let l = long (entries_with_model models p) (entries_of models c) in
    let first = few_if (is_some (table_named p.0 models)) p in
    let rest = entries_few models c in
    omega (arith, l, first, rest)

-- ---- a call, by what is found, noted and read

-- a verdict is passed
pub passed_at : (table key : List ℕ) (vs ws : List Verdict) (b n c : ℕ) (r : Bool) → ws ≡ vs → r ≡ true → n ≡ (if r then b + 1 else b)
    → OnTrue r (IsNext vs b table key) → AreWalked ((table, key) ∷ []) vs b ws n c c true
passed_at table key vs ws b n c true same so is next =
    subst (λ l. AreWalked ((table, key) ∷ []) vs b l n c c true) (sym same)
    (subst (λ m. AreWalked ((table, key) ∷ []) vs b vs m c c true) (sym is) (walked_passed table key vs b c next))
passed_at table key vs ws b n c false same so is next = cc

-- there is none, and the entry has a violation
pub invalid_at : (table key : List ℕ) (vs ws : List Verdict) (b n c c' : ℕ) (r : Bool) → ws ≡ vs → r ≡ false → n ≡ (if r then b + 1 else b)
    → OnFalse r (¬ IsNext vs b table key) → c' ≡ raised c 1 → AreWalked ((table, key) ∷ []) vs b ws n c c' false
invalid_at table key vs ws b n c c' false same so is next raises =
    subst (λ l. AreWalked ((table, key) ∷ []) vs b l n c c' false) (sym same)
    (subst (λ m. AreWalked ((table, key) ∷ []) vs b vs m c c' false) (sym is) (walked_invalid table key vs b c next c' raises))
invalid_at table key vs ws b n c c' true same so is next raises = cc

-- or it has none, and a verdict is noted
pub noted_at : (table key : List ℕ) (vs ws new : List Verdict) (b n b' c c' : ℕ) (r : Bool) → ws ≡ vs → r ≡ false → n ≡ (if r then b + 1 else b)
    → OnFalse r (¬ IsNext vs b table key) → c' ≡ raised c 1 → n ≤ length ws → IsNotedAt table key ws n new b'
    → AreWalked ((table, key) ∷ []) vs b new b' c c' true
noted_at table key vs ws new b n b' c c' false same so is next raises within noted =
    let w : b ≤ length vs = let l = ap length same in omega (arith, within, l, is) in
    walked_noted table key vs b c next c' new b' raises w
    (subst (λ m. IsNotedAt table key vs m new b') is (subst (λ l. IsNotedAt table key l n new b') same noted))
noted_at table key vs ws new b n b' c c' true same so is next raises within noted = cc

module _ (models : ModelSet) (config : Config) (left u v : List Verdict) (a b c c' : ℕ) (valid : Bool)
    (within : AreWithin left (entries_of models config)) (is : u ≡ left) (start : a ≡ 0)
    (walked : AreWalked (entries_of models config) u a v b c c' valid) where
  abbrev es : Entries
  es = entries_of models config

  all_behind : drop b v ≡ []
  all_behind =
      all_passed is_of (drop b v) (walked.ahead [] (subst (λ l. AreWithin l (es ++ [])) (sym (ap (λ n. drop n u) start ∙ is))
      (subst (λ l. AreWithin left l) (sym (append_nil es)) within)))

  all_taken : take b v ≡ v
  all_taken = sym (append_nil (take b v)) ∙ ap (λ l. take b v ++ l) (sym all_behind) ∙ take-append-drop b v

  -- all verdicts are in the order of the entries
  pub ordered_after : AreWithin v es
  ordered_after =
      subst (λ l. AreWithin l es) all_taken
      (walked.past [] (subst (λ l. AreWithin l []) (sym (ap (λ n. take n u) start)) refl))

  -- and as many entries were counted as had none
  checked_after : (old : Option Kept) (kept : Kept) → AreLeft models old config left → kept.verdicts.items ≡ v → kept.valid ≡ valid
      → AreLooked models config es u v → IsRaised c c' (λ count. AreChecked models old config kept count valid)
  checked_after old kept are holds known looked =
      let ahead : drop a u ≡ left = ap (λ n. drop n u) start ∙ is in
      let none : take a u ≡ [] = ap (λ n. take n u) start in
      let l1 = ap length ahead in
      let l2 = ap length all_behind in
      let l3 = ap length all_taken in
      let l4 = ap length none in
      let l5 : length kept.verdicts.items ≡ length v = ap length holds in (
        walked.count,
        record {
          left = left;
          are = are;
          counts = omega (arith, walked.counts, l1, l2);
          looked = λ table key has. subst (λ l. IsLooked models config l table key) (sym holds) (looked.each table key has);
          noted = λ yes.
              elim (walked.noted yes) [
                | inl all ↦ inl (omega (arith, all, l3, l4, l5))
                | inr full ↦ inr (omega (arith, full, l5))
              ];
          known = known;
        },
        walked.raises,
      )

  pub counted_after : (old : Option Kept) (kept : Kept) → AreLeft models old config left → kept.verdicts.items ≡ v → kept.valid ≡ valid
      → AreLooked models config es u v → (mv : Move) → IsRaised c c' (λ count. AreCounted models old config mv kept count valid)
  counted_after old kept are holds known looked mv = let is = checked_after old kept are holds known looked in (is.0, inr is.1, is.2)

-- ---- what is counted, in a call that may be refused

module _ (models : ModelSet) (next : Config) (mv : Move) {E : Type 0} (c d : ℕ) (r : Result (Bool × Kept) E) where
  pub entry_counted : (kept : Kept) (table key : List ℕ) → IsTrue kept.valid → IsSoleEntry models kept.index.config next mv table key
      → IfOk r (λ p. IsRaised c d (λ n. IsOneCounted kept next table key p.1 n p.0)) → IfOk r (λ p. IsRaised c d (λ n. AreCounted models (Some kept) next mv p.1 n p.0))
  entry_counted kept table key valid sole =
      IfOk-weaker r (λ p. IsRaised c d (λ n. IsOneCounted kept next table key p.1 n p.0)) (λ p. IsRaised c d (λ n. AreCounted models (Some kept) next mv p.1 n p.0))
      (λ p is. (is.0, inl (record { before = kept; was = refl; table = table; key = key; whole = valid; entry = sole; counted = is.1 }), is.2))

-- ---- the counts of a call of the rule

module _ (models : ModelSet) (old new : Option Kept) (next : Config) (mv : Move) where
  -- an entry told at once that the next configuration is invalid
  pub told_counts : (c d : ℕ) → new ≡ old → IsTold models old next mv → d ≡ raised c 1 → IsRaised c d (IsCount models old new next mv false)
  told_counts c d same told raises = (1, inl (record { invalid = refl; kept = same; one = refl; told = told }), raises)

  -- the others were counted
  pub rechecked_counts : (kept : Kept) (valid : Bool) (c d : ℕ) → new ≡ Some kept → IsRaised c d (λ count. AreCounted models old next mv kept count valid)
      → IsRaised c d (IsCount models old new next mv valid)
  rechecked_counts kept valid c d same more = (more.0, inr (inl (record { kept = kept; keeps = same; checked = more.1 })), more.2)

  -- all were
  pub refused_counts : (valid : Bool) (c d n : ℕ) → new ≡ None → c ≤ greatest → n ≡ min (number_of next) greatest → d ≡ min (c + n) greatest
      → IsRaised c d (IsCount models old new next mv valid)
  refused_counts valid c d n none bound is raises =
      (number_of next, inr (inr (record { none = none; all = refl })), omega (arith, bound, is, raises))

  -- they are no more than there are
  one_within : (table key : List ℕ) (count : ℕ) → is_some (table_named table models) ≡ true
      → (b : Bool) → is_some (entry_of table key next) ≡ b → count ≡ (if b then 1 else 0) → count ≤ number_of next
  one_within table key count model true there is =
      let some = some_entry models next table key model there in
      let few = entries_few models next in
      omega (arith, some, few, is)
  one_within table key count model false there is = omega (arith, is)

  counted_within : (kept : Kept) (count : ℕ) (valid : Bool) → AreCounted models old next mv kept count valid → count ≤ number_of next
  counted_within kept count valid (inl one) =
      one_within one.table one.key count one.entry.sole.alone.modelled (is_some (entry_of one.table one.key next)) refl one.counted.counts
  counted_within kept count valid (inr all) = let few = entries_few models next in omega (arith, few, all.counts)

  within : (count : ℕ) (valid : Bool) → IsCount models old new next mv valid count → count ≤ number_of next
  within count valid (inl first) =
      let some = some_breaks models next first.told.entry.table first.told.entry.key first.told.breaks in
      let few = entries_few models next in
      omega (arith, some, few, first.one)
  within count valid (inr (inl rest)) = counted_within rest.kept count valid rest.checked
  within count valid (inr (inr all)) = omega (arith, all.all)

  pub at_most : (c d : ℕ) (valid : Bool) → IsRaised c d (IsCount models old new next mv valid) → d ≤ c + number_of next
  at_most c d valid counts =
      let few = within counts.0 valid counts.1 in
      let raises = counts.2 in
      omega (arith, few, raises)

-- ---- all entries

number_suc : (c : Config) (i : ℕ) (p : Table) → slice_get (map (λ t. t.1) c) i ≡ Some p → number_of (take (suc i) c) ≡ number_of (take i c) + length p
number_suc [] i p at = cc
number_suc (t ∷ c) zero p at = let e : length t.1 ≡ length p = ap length (some_same t.1 p at) in omega (arith, e)
number_suc (t ∷ c) (suc i) p at = let e = number_suc c i p at in omega (arith, e)

pub number_more : (c : Config) (i : ℕ) (p : Table) (count n more : ℕ) → slice_get (map (λ t. t.1) c) i ≡ Some p → count ≡ min (number_of (take i c)) greatest
    → n ≡ length p → more ≡ min (count + n) greatest → more ≡ min (number_of (take (i + 1) c)) greatest
number_more c i p count n more at before is raises =
    let e : number_of (take (i + 1) c) ≡ number_of (take i c) + length p = ap (λ n. number_of (take n c)) (add-one i) ∙ number_suc c i p at in
    omega (arith, before, is, raises, e)

pub number_end : (c : Config) (i count : ℕ) → length c ≤ i → count ≡ min (number_of (take i c)) greatest → count ≡ min (number_of c) greatest
number_end c i count past before = before ∙ ap (λ (x : Config). min (number_of x) greatest) (take_all c i past)
