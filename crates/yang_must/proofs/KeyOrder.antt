-- The keys of a set of texts, as names in order.
use Rattle.std.specs.declared.cmp.Ordering.TheVariants.{Less}
use Rattle.std.proofs.Common.{◌≡◌, ◌||◌, ℕ, arith, length, Bool, true, false, cond, List, [], ◌∷◌, map, Some, None, String, string_bytes, refl, sym, ap, ◌∙◌}
use Rattle.std.specs.Global.{Global}
use Rattle.std.specs.BTreeSet.{BTreeSet}
use Rattle.std.specs.List.{list_any, AllByRecursion}
use Rattle.std.specs.List.Sorted.{IsStrictlySortedBy}
use Rattle.std.specs.Str.{bytes_eq}
use Rattle.std.specs.String.{string_cmp}
use Rattle.std.specs.Ordering.{is_eq, eq_by_cmp}
use Rattle.std.specs.Cmp.{tied_itself}
use Rattle.std.specs.Cmp.Lexicographic.{nat_list_cmp_total}
use Rattle.std.specs.FinMap as finmap
use Rattle.std.specs.FinMap.Entries.{put, by_order}
use Rattle.std.proofs.lemmas.Bool.Decides.{same_from_decides}
use Rattle.std.proofs.lemmas.Slice.Eq.{bytes_eq-Decides}
use Rattle.host_core.specs.Names.{name_cmp}
use Rattle.host_core.proofs.EntriesOfFiles.{same_name, tie_of}
use Rattle.yang_must.specs.Findings.{IsSetOf}
use Rattle.yang_must.specs.Musts.{in_order, mark}

abbrev Marked : Type 0
Marked = List ℕ × Unit {0}

-- the map that has the names as its keys
abbrev marks : List (List ℕ) → finmap.FinMap name_cmp (Unit {0})
marks names = finmap.from_entries {R = name_cmp} (map mark names)

-- names tie just where their bytes are equal
tie-bytes : (x y : List ℕ) → eq_by_cmp name_cmp x y ≡ bytes_eq x y
tie-bytes x y = same_from_decides _ _ (tie_of x y, back x y) (bytes_eq-Decides x y)
  where
    back : (x y : List ℕ) → x ≡ y → eq_by_cmp name_cmp x y ≡ true
    back x y e = ap (λ n. eq_by_cmp name_cmp x n) (sym e) ∙ ap is_eq (tied_itself nat_list_cmp_total x)

find-marks : (q : List ℕ) (names : List (List ℕ)) → finmap.find name_cmp q (map mark names) ≡ cond (list_any (bytes_eq q) names) (Some tt) None
find-marks q [] = refl
find-marks q (n ∷ ns) =
    ap (λ b. cond b (Some tt) (finmap.find name_cmp q (map mark ns))) (tie-bytes q n)
    ∙ by (bytes_eq q n) (find-marks q ns)
  where
    by : (b : Bool) → finmap.find name_cmp q (map mark ns) ≡ cond (list_any (bytes_eq q) ns) (Some tt) None
        → cond b (Some tt) (finmap.find name_cmp q (map mark ns)) ≡ cond (b || list_any (bytes_eq q) ns) (Some tt) None
    by true later = refl
    by false later = later

-- lists with the same names give the same map
marks-same : (xs ys : List (List ℕ)) → ((q : List ℕ) → list_any (bytes_eq q) xs ≡ list_any (bytes_eq q) ys) → marks xs ≡ marks ys
marks-same xs ys alike = finmap.same_map nat_list_cmp_total same_name _ _ (λ q.
    finmap.get-from_entries nat_list_cmp_total (map mark xs) q
    ∙ find-marks q xs
    ∙ ap (λ b. cond b (Some tt) None) (alike q)
    ∙ sym (finmap.get-from_entries nat_list_cmp_total (map mark ys) q ∙ find-marks q ys))

abbrev Keys : Type 0
Keys = List (String Global)

none_of : (xs : List Marked) → length xs ≡ 0 → xs ≡ []
none_of [] e = refl
none_of (x ∷ xs) e = absurd (omega arith)

put_first : (k : String Global) (ks : Keys) → AllByRecursion (λ y. string_cmp k y ≡ Less) ks
    → put name_cmp (string_bytes k) tt (map mark (map string_bytes ks)) ≡ mark (string_bytes k) ∷ map mark (map string_bytes ks)
put_first k [] all = refl
put_first k (x ∷ ks) all =
    let rest = map mark (map string_bytes ks) in
    let n = string_bytes k in
    let m = string_bytes x in
    ap (λ r. by_order r (mark n ∷ mark m ∷ rest) (mark m ∷ rest) (mark m ∷ put name_cmp n tt rest)) all.0

entries-marks : (ks : Keys) → IsStrictlySortedBy string_cmp ks → finmap.entries (marks (map string_bytes ks)) ≡ map mark (map string_bytes ks)
unfolding IsStrictlySortedBy
entries-marks [] s = none_of _ (sym (finmap.len-entries finmap.empty) ∙ finmap.len-empty name_cmp (Unit {0}))
entries-marks (k ∷ ks) s =
    finmap.entries-insert nat_list_cmp_total (marks (map string_bytes ks)) (string_bytes k) tt
    ∙ ap (put name_cmp (string_bytes k) tt) (entries-marks ks s.1) ∙ put_first k ks s.0

names-marks : (names : List (List ℕ)) → map (λ (e : Marked). e.0) (map mark names) ≡ names
names-marks [] = refl
names-marks (n ∷ ns) = ap (λ rest. n ∷ rest) (names-marks ns)

any-keys : (q : List ℕ) (ks : Keys) → list_any (λ k. is_eq (name_cmp q (string_bytes k))) ks ≡ list_any (bytes_eq q) (map string_bytes ks)
any-keys q [] = refl
any-keys q (k ∷ ks) = λ i. tie-bytes q (string_bytes k) i || any-keys q ks i

-- the keys of a set in order are the names that it holds in order
pub in_order-keys : (set : BTreeSet (String Global)) (names : List (List ℕ)) → IsStrictlySortedBy string_cmp set.keys → IsSetOf set names
    → map string_bytes set.keys ≡ in_order names
in_order-keys set names sorted holds =
    sym (names-marks (map string_bytes set.keys))
    ∙ ap (map (λ (e : Marked). e.0)) (sym (entries-marks set.keys sorted))
    ∙ ap finmap.keys (marks-same (map string_bytes set.keys) names (λ q. sym (any-keys q set.keys) ∙ holds.holds q))
