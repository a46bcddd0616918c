-- A character in double quotes.
use Rattle.std.proofs.Common.{◌≡◌, ◌≢◌, ◌<◌, ◌≤◌, ◌+◌, ◌/◌, ◌%◌, ◌⊎◌, ℕ, Bool, true, false, cond, List, [], ◌∷◌, ◌++◌, refl, sym, ap, ◌∙◌, arith, inl, inr}
use Rattle.std.proofs.lemmas.Str.{encode_ascii}
use lib.Utf8.{encode, next}
use lib.Dec.{ltb}
use Rattle.yang_text.specs.Bytes.{escape_meaning}
use Rattle.yang_text.specs.Texts.{unescape}

-- a byte other than a backslash is itself
plain_byte : (b : ℕ) (bs : List ℕ) → b ≢ 92 → unescape false (b ∷ bs) ≡ b ∷ unescape false bs
plain_byte b bs h = grind (arith, h)

meaning_itself : (b : ℕ) → 128 ≤ b → escape_meaning b ≡ b
meaning_itself b h = grind (arith, h)

meaning_low : (b : ℕ) → b < 128 → escape_meaning b < 128
meaning_low b h = grind (arith, h)

-- bytes of which none is a backslash
AreHigh : List ℕ → Type 0
AreHigh [] = Unit {0}
AreHigh (b ∷ bs) = (b ≢ 92) × AreHigh bs

high_bytes : (xs bs : List ℕ) → AreHigh xs → unescape false (xs ++ bs) ≡ xs ++ unescape false bs
unfolding AreHigh
high_bytes [] bs h = refl
high_bytes (x ∷ xs) bs h = plain_byte x (xs ++ bs) h.0 ∙ ap (λ ys. x ∷ ys) (high_bytes xs bs h.1)

choose : (P : List ℕ → Type 0) (p q r : Bool) (a b c d : List ℕ) → P a → P b → P c → P d → P (cond p a (cond q b (cond r c d)))
choose P true q r a b c d w x y z = w
choose P false true r a b c d w x y z = x
choose P false false true a b c d w x y z = y
choose P false false false a b c d w x y z = z

high_next : (n : ℕ) → 128 + n ≢ 92
high_next n = λ e. omega (arith, e)

high_first : (k n : ℕ) → 92 < k → k + n ≢ 92
high_first k n h = λ e. omega (arith, e)

-- a character other than a backslash is itself
pub plain_character : (c : ℕ) (bs : List ℕ) → c ≢ 92 → unescape false (encode c ++ bs) ≡ encode c ++ unescape false bs
unfolding encode AreHigh
plain_character c bs h =
    let P : List ℕ → Type 0 = λ xs. unescape false (xs ++ bs) ≡ xs ++ unescape false bs in
    choose P (ltb c 128) (ltb c 2048) (ltb c 65536) _ _ _ _
    (high_bytes (c ∷ []) bs (h, tt))
    (high_bytes ((192 + c / 64) ∷ next c ∷ []) bs (high_first 192 (c / 64) (omega arith), (high_next (c % 64), tt)))
    (high_bytes ((224 + c / 4096) ∷ next (c / 64) ∷ next c ∷ []) bs (high_first 224 (c / 4096) (omega arith), (high_next (c / 64 % 64), (high_next (c % 64), tt))))
    (high_bytes ((240 + c / 262144) ∷ next (c / 4096) ∷ next (c / 64) ∷ next c ∷ []) bs (high_first 240 (c / 262144) (omega arith), (high_next (c / 4096 % 64), (high_next (c / 64 % 64), (high_next (c % 64), tt)))))

-- a first byte behind a backslash that isn't ASCII, and others that aren't
behind_high : (b : ℕ) (xs bs : List ℕ) → 128 ≤ b → AreHigh xs → unescape true ((b ∷ xs) ++ bs) ≡ (b ∷ xs) ++ unescape false bs
behind_high b xs bs h hs = ap (λ m. m ∷ unescape false (xs ++ bs)) (meaning_itself b h) ∙ ap (λ ys. b ∷ ys) (high_bytes xs bs hs)

meant_high : (c : ℕ) (bs : List ℕ) → 128 ≤ c → unescape true (encode c ++ bs) ≡ encode c ++ unescape false bs
unfolding encode AreHigh
meant_high c bs h =
    let P : List ℕ → Type 0 = λ xs. unescape true (xs ++ bs) ≡ xs ++ unescape false bs in
    choose P (ltb c 128) (ltb c 2048) (ltb c 65536) _ _ _ _
    (behind_high c [] bs h tt)
    (behind_high (192 + c / 64) (next c ∷ []) bs (omega arith) (high_next (c % 64), tt))
    (behind_high (224 + c / 4096) (next (c / 64) ∷ next c ∷ []) bs (omega arith) (high_next (c / 64 % 64), (high_next (c % 64), tt)))
    (behind_high (240 + c / 262144) (next (c / 4096) ∷ next (c / 64) ∷ next c ∷ []) bs (omega arith) (high_next (c / 4096 % 64), (high_next (c / 64 % 64), (high_next (c % 64), tt))))

meant_low : (c : ℕ) (bs : List ℕ) → c < 128 → unescape true (encode c ++ bs) ≡ encode (escape_meaning c) ++ unescape false bs
meant_low c bs h =
    ap (λ xs. unescape true (xs ++ bs)) (encode_ascii c h)
    ∙ ap (λ xs. xs ++ unescape false bs) (sym (encode_ascii (escape_meaning c) (meaning_low c h)))

either : (c : ℕ) → (c < 128) ⊎ (128 ≤ c)
either c = grind arith

-- behind a backslash a character has its meaning
pub meant_character : (c : ℕ) (bs : List ℕ) → unescape true (encode c ++ bs) ≡ encode (escape_meaning c) ++ unescape false bs
meant_character c bs =
    elim (either c) as (λ _. unescape true (encode c ++ bs) ≡ encode (escape_meaning c) ++ unescape false bs) [
      | inl h ↦ meant_low c bs h
      | inr h ↦ meant_high c bs h ∙ ap (λ d. encode d ++ unescape false bs) (sym (meaning_itself c h))
    ]

pub none_left : (after : Bool) (bs : List ℕ) → bs ≡ [] → unescape after bs ≡ []
none_left after bs e = ap (λ xs. unescape after xs) e
