-- What one more file gives comes last.
use Rattle.std.proofs.Common.{◌≡◌, ◌<◌, ◌+◌, ℕ, List, [], ◌∷◌, ◌++◌, map, take, length, get_or, append_assoc, ap, ◌∙◌, sym, arith}
use Rattle.std.proofs.lemmas.List.{append-nil, length-map, length-take}
use Rattle.yang_text.specs.Declarations.{Declaration}
use Rattle.yang_faults.specs.Files.{in_files}
use Rattle.yang_faults.proofs.Steps.{map-one_more}

in_files-last : {X : Type 0} (give : ℕ → List Declaration → List X) (n : ℕ) (xs : List (List Declaration)) (x : List Declaration)
    → in_files give n (xs ++ x ∷ []) ≡ in_files give n xs ++ give (n + length xs) x
in_files-last give n [] x = let e : n ≡ n + 0 = omega arith in append-nil (give n x) ∙ ap (λ (m : ℕ). give m x) e
in_files-last give n (y ∷ ys) x =
    let e : n + 1 + length ys ≡ n + length (y ∷ ys) = omega arith in
    ap (λ rest. give n y ++ rest) (in_files-last give (n + 1) ys x ∙ ap (λ (m : ℕ). in_files give (n + 1) ys ++ give m x) e)
    ∙ sym (append_assoc (give n y) (in_files give (n + 1) ys) (give (n + length (y ∷ ys)) x))

pub in_files-one_more : {X F : Type 0} (give : ℕ → List Declaration → List X) (v : F → List Declaration) (files : List F) (i : ℕ) (f : F) → i < length files → f ≡ get_or files i f
    → in_files give 0 (map v (take (i + 1) files)) ≡ in_files give 0 (map v (take i files)) ++ give i (v f)
in_files-one_more give v files i f within is =
    let e : 0 + length (map v (take i files)) ≡ i = omega (arith, length-map (take i files) v, length-take i files) in
    ap (in_files give 0) (map-one_more files i f within is v)
    ∙ in_files-last give 0 (map v (take i files)) (v f)
    ∙ ap (λ (m : ℕ). in_files give 0 (map v (take i files)) ++ give m (v f)) e
