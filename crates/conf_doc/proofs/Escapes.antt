-- Escaped text, a character at a time.
use Rattle.std.proofs.Common.{◌≡◌, ◌≢◌, ℕ, ◌+◌, ◌/◌, ◌≤◌, Bool, true, false, cond, ltb, List, [], ◌∷◌, ◌++◌, refl, sym, ap, ◌∙◌, append_assoc, append-nil, arith}
use lib.Utf8.{encode, next}
use Rattle.std.proofs.lemmas.Bool.Decides.{nat_tests}
use Rattle.host_core.specs.Characters.{slash}
use Rattle.conf_doc.specs.Pointer.{escaped, pointer}

keeps : (x : ℕ) (xs : List ℕ) → x ≢ 126 → x ≢ 47 → escaped xs ≡ xs → escaped (x ∷ xs) ≡ x ∷ xs
keeps x xs a b rest = grind (arith, nat_tests)

cond_keeps : (b : Bool) (xs ys : List ℕ) → escaped xs ≡ xs → escaped ys ≡ ys → escaped (cond b xs ys) ≡ cond b xs ys
cond_keeps true xs ys p q = p
cond_keeps false xs ys p q = q

high : (x : ℕ) (xs : List ℕ) → 128 ≤ x → escaped xs ≡ xs → escaped (x ∷ xs) ≡ x ∷ xs
high x xs large rest = keeps x xs (λ e. omega arith) (λ e. omega arith) rest

-- other characters stay
pub escaped-other : (c : ℕ) → c ≢ 126 → c ≢ 47 → escaped (encode c) ≡ encode c
unfolding encode
escaped-other c a b =
    cond_keeps (ltb c 128) _ _ (keeps c [] a b refl)
    (cond_keeps (ltb c 2048) _ _ (high (192 + c / 64) _ (omega arith) (high (next c) [] (omega arith) refl))
    (cond_keeps (ltb c 65536) _ _ (high (224 + c / 4096) _ (omega arith) (high (next (c / 64)) _ (omega arith) (high (next c) [] (omega arith) refl)))
    (high (240 + c / 262144) _ (omega arith) (high (next (c / 4096)) _ (omega arith) (high (next (c / 64)) _ (omega arith) (high (next c) [] (omega arith) refl))))))

-- one more token
pub pointer-more : (ts : List (List ℕ)) (t : List ℕ) → pointer (ts ++ t ∷ []) ≡ pointer ts ++ slash ∷ escaped t
pointer-more [] t = ap (λ bs. slash ∷ bs) (append-nil (escaped t))
pointer-more (u ∷ ts) t = ap (λ bs. slash ∷ (escaped u ++ bs)) (pointer-more ts t) ∙ ap (λ bs. slash ∷ bs) (sym (append_assoc (escaped u) (pointer ts) (slash ∷ escaped t)))
