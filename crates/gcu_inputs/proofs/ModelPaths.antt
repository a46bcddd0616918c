-- How the paths on more lines go on from those on fewer.
use Rattle.std.proofs.Common.{◌≡◌, ◌<◌, ◌≤◌, ◌+◌, ◌==◌, ℕ, suc, Bool, true, false, if◌then◌else◌, List, [], ◌∷◌, ◌++◌, length, map, take, drop, get_or, slice_get, Some, Ok, Err, refl, sym, ap, ◌∙◌, arith, Bor, subst}
use Rattle.std.proofs.lemmas.List.{append-nil, append_assoc, map-append, take_more, length-take-le, length-map, take-append-drop}
use Rattle.std.proofs.lemmas.List.Splits.{length-slice_split}
use Rattle.std.proofs.lemmas.List.Sums.{count_by-le-length}
use Rattle.std.proofs.lemmas.Option.{slice_get_past}
use Rattle.std.specs.List.{slice_split}
use Rattle.std.specs.Option.{option_map_or}
use Rattle.std.specs.Str.Lines.{lines, lines_of_parts}
use Rattle.yang_text.specs.declared.errors.ModelWhy.TheVariants.{TooMany}
use Rattle.gcu_inputs.specs.ModelList.{Named, named_on, named_from, fault_on, paths_within}

-- the lines of some borrows
abbrev pub texts : List (Bor (List ℕ)) → List (List ℕ)
texts xs = map (λ (t : Bor (List ℕ)). t.now) xs

-- the paths alone
abbrev pub paths : List Named → List (List ℕ)
paths named = map (λ (n : Named). n.1) named

named_from-append : (n : ℕ) (xs ys : List (List ℕ))
    → named_from n (xs ++ ys) ≡ named_from n xs ++ named_from (n + length xs) ys
named_from-append n [] ys = ap (λ k. named_from k ys) (omega arith)
named_from-append n (x ∷ xs) ys =
    ap (λ rest. named_on n x ++ rest) (named_from-append (suc n) xs ys)
    ∙ sym (append_assoc (named_on n x) (named_from (suc n) xs) (named_from (suc n + length xs) ys))
    ∙ ap (λ k. named_on n x ++ named_from (suc n) xs ++ named_from k ys) (omega arith)

-- one line more
pub one_more : (xs : List (Bor (List ℕ))) (i : ℕ) (d : Bor (List ℕ)) → i < length xs
    → named_from 1 (texts (take (i + 1) xs)) ≡ named_from 1 (texts (take i xs)) ++ named_on (i + 1) (get_or xs i d).now
one_more xs i d inside =
    let l = (get_or xs i d).now in
    ap (λ ts. named_from 1 (texts ts)) (take_more xs i d inside)
    ∙ ap (named_from 1) (map-append (λ (t : Bor (List ℕ)). t.now) (take i xs) (get_or xs i d ∷ []))
    ∙ named_from-append 1 (texts (take i xs)) (l ∷ [])
    ∙ ap (λ k. named_from 1 (texts (take i xs)) ++ named_from k (l ∷ []))
    (omega (arith, length-map (take i xs) (λ (t : Bor (List ℕ)). t.now), length-take-le i xs (omega (arith, inside))))
    ∙ ap (λ more. named_from 1 (texts (take i xs)) ++ more) (append-nil (named_on (i + 1) l))

-- all of them go on from those on the first
pub go_on : (xs : List (Bor (List ℕ))) (i : ℕ)
    → named_from 1 (texts xs) ≡ named_from 1 (texts (take i xs)) ++ named_from (1 + length (texts (take i xs))) (texts (drop i xs))
go_on xs i =
    ap (λ ts. named_from 1 (texts ts)) (sym (take-append-drop i xs))
    ∙ ap (named_from 1) (map-append (λ (t : Bor (List ℕ)). t.now) (take i xs) (drop i xs))
    ∙ named_from-append 1 (texts (take i xs)) (texts (drop i xs))

pub named_on-empty : (n : ℕ) (l : List ℕ) → (length l == 0) ≡ true → named_on n l ≡ []
named_on-empty n l empty = ap (λ b. if b then [] else (n, l) ∷ []) empty

pub named_on-path : (n : ℕ) (l : List ℕ) → (length l == 0) ≡ false → named_on n l ≡ (n, l) ∷ []
named_on-path n l full = ap (λ b. if b then [] else (n, l) ∷ []) full

at_seam : (front : List Named) (n : Named) (rest : List Named)
    → slice_get (front ++ n ∷ [] ++ rest) (length front) ≡ Some n
at_seam [] n rest = refl
at_seam (x ∷ front) n rest = at_seam front n rest

-- the path behind 256 is too much
pub too_many : (front : List Named) (n : Named) (rest : List Named) → length front ≡ 256
    → paths_within (front ++ n ∷ [] ++ rest) ≡ Err (fault_on TooMany n.0)
too_many front n rest full =
    ap (λ o. option_map_or (λ n. Err (fault_on TooMany n.0)) o (Ok (paths (front ++ n ∷ [] ++ rest))))
    (subst (λ k. slice_get (front ++ n ∷ [] ++ rest) k ≡ Some n) full (at_seam front n rest))

-- as many paths as a list may name
pub within : (named : List Named) → length named ≤ 256 → paths_within named ≡ Ok (paths named)
within named few =
    ap (λ o. option_map_or (λ n. Err (fault_on TooMany n.0)) o (Ok (paths named))) (slice_get_past named 256 few)

one_at_most : (b : Bool) (x : List ℕ) → length (if b then [] else x ∷ []) ≤ 1
one_at_most true x = omega arith
one_at_most false x = omega arith

-- there are no more lines than parts between line feeds
length-lines_of_parts : (parts : List (List ℕ)) → length (lines_of_parts parts) ≤ length parts
length-lines_of_parts [] = omega arith
length-lines_of_parts (x ∷ []) = one_at_most (length x == 0) x
length-lines_of_parts (x ∷ y ∷ more) = let h = length-lines_of_parts (y ∷ more) in omega (arith, h)

pub length-lines : (bs : List ℕ) → length (lines bs) ≤ length bs + 1
length-lines bs =
    let parts = slice_split (λ b. b == 10) bs in
    omega (arith, length-lines_of_parts parts, length-slice_split (λ b. b == 10) bs, count_by-le-length (λ b. b == 10) bs)
