-- When a word is a text.
use Rattle.std.proofs.Common.{◌≡◌, ℕ, Bool, true, false, cond, List, Some, None, ◌<◌, ◌≤◌, ◌^◌, refl, IsUtf8, lit<, arith}
use Rattle.std.proofs.Math.Nat.{pow-le-pow_right}
use Rattle.std.specs.Str.{is_utf8}
use Rattle.std.proofs.lemmas.Str.{IsUtf8-from_is_utf8, is_utf8-from_IsUtf8}
use Rattle.xpath_part.specs.Words.{text_of}

pub valid : (s : List ℕ) → IsUtf8 s → Some s ≡ text_of s
valid s h = rw (is_utf8-from_IsUtf8 s h) refl

invalid_by : (s : List ℕ) (b : Bool) → (b ≡ true → ⊥) → None ≡ cond b (Some s) None
invalid_by s true h = absurd (h refl)
invalid_by s false h = refl

pub invalid : (s : List ℕ) → (IsUtf8 s → ⊥) → None ≡ text_of s
invalid s h = invalid_by s (is_utf8 s) (λ e. h (IsUtf8-from_is_utf8 s e))

-- what fewer than nine digits write is below 10 ^ 8
pub value_below : (i value : ℕ) → i ≤ 8 → value < 10 ^ i → value < 100000000
value_below i value few below = let most : 10 ^ i ≤ 10 ^ 8 = pow-le-pow_right {n = 10} (lit< tt) {i = i} {j = 8} few in omega (arith, most)
