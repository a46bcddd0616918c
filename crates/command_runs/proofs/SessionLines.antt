-- The line that an operator is told begins no plan: a name has no space, and no reply begins with a digit.
use Rattle.std.proofs.Common.{◌≡◌, ◌≢◌, ◌≤◌, ◌<◌, ◌+◌, ◌/◌, ◌%◌, ℕ, zero, suc, List, [], ◌∷◌, ◌++◌, true, false, cond, length, append_assoc, refl, sym, ap, ◌∙◌, subst, arith}
use Rattle.std.specs.Prelude.{codes, decimal, ◌==◌}
use Rattle.std.specs.Fmt.{digits, digits_onto, digit_glyph}
use Rattle.std.proofs.lemmas.Bool.{le-leb}
use Rattle.checkpoints.specs.Names.{is_good_name}
use Rattle.move_core.specs.Operations.{plan_lines}
use Rattle.operators.specs.Replies.{reply_line, said}
use Rattle.sessions.specs.declared.replies.Reply.{Reply}
use Rattle.sessions.specs.declared.replies.Reply.TheVariants.{Began, Exists, Unknown, Refused, Moved, Idle, Applied, Retargeted, Ended}
use Rattle.command_runs.proofs.CompactTexts.{heads, tails}
use Rattle.command_runs.proofs.GoodNames.{Lacks, characters, name_lacks, no_space}
use Rattle.command_runs.proofs.PlanLines.{counted}
use Rattle.command_runs.proofs.PlanHeads.{HasNone}

-- ---- a number begins with no letter

-- it begins with a byte below all letters
abbrev pub IsLow : List ℕ → Type 0
IsLow [] = ⊥
IsLow (b ∷ bs) = b < 97

pub low_more : (a b : List ℕ) → IsLow a → IsLow (a ++ b)
low_more [] b never = absurd never
low_more (c ∷ a) b low = low

glyph_is_low : (n : ℕ) → digit_glyph false (n % 10) < 97
glyph_is_low n =
    let small : n % 10 < 10 = omega arith in
    subst (λ b. cond b (48 + n % 10) (87 + n % 10) < 97) (sym (le-leb (suc (n % 10)) 10 small)) (omega (arith, small))

onto_is_low : (k n : ℕ) (acc : List ℕ) → IsLow acc → IsLow (digits_onto k 10 false n acc)
onto_is_low zero n acc h = h
onto_is_low (suc k) n acc h =
    elim (n / 10 == 0)
    as (λ b. IsLow (cond b (digit_glyph false (n % 10) ∷ acc)
    (digits_onto k 10 false (n / 10) (digit_glyph false (n % 10) ∷ acc))))
    [ true ↦ glyph_is_low n | false ↦ onto_is_low k (n / 10) (digit_glyph false (n % 10) ∷ acc) (glyph_is_low n) ]

some_is_low : (k n : ℕ) (acc : List ℕ) → IsLow (digits_onto (suc k) 10 false n acc)
some_is_low k n acc =
    elim (n / 10 == 0)
    as (λ b. IsLow (cond b (digit_glyph false (n % 10) ∷ acc)
    (digits_onto k 10 false (n / 10) (digit_glyph false (n % 10) ∷ acc))))
    [ true ↦ glyph_is_low n | false ↦ onto_is_low k (n / 10) (digit_glyph false (n % 10) ∷ acc) (glyph_is_low n) ]

pub decimal_is_low : (n : ℕ) → IsLow (decimal n)
unfolding digits
decimal_is_low n = some_is_low 63 n []

-- ---- a reply does

-- by its first letter
abbrev pub first_letter : Reply → ℕ
first_letter (Began n) = 98
first_letter Exists = 101
first_letter Unknown = 117
first_letter (Refused n) = 114
first_letter (Moved seen now) = 109
first_letter Idle = 105
first_letter (Applied m) = 97
first_letter (Retargeted n) = 114
first_letter (Ended done) = 101

said_begins : (r : Reply) → (more : List ℕ) × (said r ≡ first_letter r ∷ more)
said_begins (Began n) = (_, refl)
said_begins Exists = (_, refl)
said_begins Unknown = (_, refl)
said_begins (Refused n) = (_, refl)
said_begins (Moved seen now) = (_, refl)
said_begins Idle = (_, refl)
said_begins (Applied m) = (_, refl)
said_begins (Retargeted n) = (_, refl)
said_begins (Ended true) = (_, refl)
said_begins (Ended false) = (_, refl)

is_letter : (r : Reply) → 97 ≤ first_letter r
is_letter (Began n) = omega arith
is_letter Exists = omega arith
is_letter Unknown = omega arith
is_letter (Refused n) = omega arith
is_letter (Moved seen now) = omega arith
is_letter Idle = omega arith
is_letter (Applied m) = omega arith
is_letter (Retargeted n) = omega arith
is_letter (Ended done) = omega arith

-- what begins as a reply does
pub letter_is : (r : Reply) (c : ℕ) (x more : List ℕ) → said r ++ x ≡ c ∷ more → first_letter r ≡ c
letter_is r c x more e =
    let begins = said_begins r in heads (first_letter r) c (begins.0 ++ x) more (sym (ap (λ b. b ++ x) begins.1) ∙ e)

pub same_letter : (r q : Reply) → said r ≡ said q → first_letter r ≡ first_letter q
same_letter r q e =
    let a = said_begins r in let b = said_begins q in
    heads (first_letter r) (first_letter q) a.0 b.0 (sym a.1 ∙ e ∙ b.1)

pub no_low_reply : (r : Reply) (x z : List ℕ) → IsLow z → said r ++ x ≡ z → ⊥
no_low_reply r x [] never e = absurd never
no_low_reply r x (c ∷ z) low e =
    let same = letter_is r c x z e in let high = is_letter r in omega (arith, same, high, low)

same_word : (r : Reply) (c : ℕ) (more : List ℕ) → said r ≡ c ∷ more → first_letter r ≡ c
same_word r c more e = let begins = said_begins r in heads (first_letter r) c begins.0 more (sym begins.1 ∙ e)

-- which letters it isn't
other_letters : (r : Reply) → (first_letter r ≢ 110) × (first_letter r ≢ 119)
other_letters (Began n) = (λ e. omega (arith, e), λ e. omega (arith, e))
other_letters Exists = (λ e. omega (arith, e), λ e. omega (arith, e))
other_letters Unknown = (λ e. omega (arith, e), λ e. omega (arith, e))
other_letters (Refused n) = (λ e. omega (arith, e), λ e. omega (arith, e))
other_letters (Moved seen now) = (λ e. omega (arith, e), λ e. omega (arith, e))
other_letters Idle = (λ e. omega (arith, e), λ e. omega (arith, e))
other_letters (Applied m) = (λ e. omega (arith, e), λ e. omega (arith, e))
other_letters (Retargeted n) = (λ e. omega (arith, e), λ e. omega (arith, e))
other_letters (Ended done) = (λ e. omega (arith, e), λ e. omega (arith, e))

-- three words that are no replies
pub no_none : (r : Reply) → said r ≡ codes "none" → ⊥
no_none r e = (other_letters r).0 (same_word r 110 _ e)

pub no_whole : (r : Reply) → said r ≡ codes "whole" → ⊥
no_whole r e = (other_letters r).1 (same_word r 119 _ e)

pub no_broken : (r : Reply) → said r ≡ codes "broken" → ⊥
no_broken (Began n) e = let second : 101 ≡ 114 = heads 101 114 _ _ (tails 98 98 _ _ e) in omega (arith, second)
no_broken Exists e = let same = same_word Exists 98 _ e in omega (arith, same)
no_broken Unknown e = let same = same_word Unknown 98 _ e in omega (arith, same)
no_broken (Refused n) e = let same = same_word (Refused n) 98 _ e in omega (arith, same)
no_broken (Moved seen now) e = let same = same_word (Moved seen now) 98 _ e in omega (arith, same)
no_broken Idle e = let same = same_word Idle 98 _ e in omega (arith, same)
no_broken (Applied m) e = let same = same_word (Applied m) 98 _ e in omega (arith, same)
no_broken (Retargeted n) e = let same = same_word (Retargeted n) 98 _ e in omega (arith, same)
no_broken (Ended done) e = let same = same_word (Ended done) 98 _ e in omega (arith, same)

-- ---- a first line

-- where two texts begin with a word and a space, what follows is the same
pub behind_space : (a b x y : List ℕ) → Lacks 32 a → Lacks 32 b → a ++ 32 ∷ x ≡ b ++ 32 ∷ y → x ≡ y
behind_space [] [] x y ha hb e = tails 32 32 x y e
behind_space [] (d ∷ b) x y ha hb e = let first = heads 32 d x (b ++ 32 ∷ y) e in absurd (hb.0 (sym first))
behind_space (c ∷ a) [] x y ha hb e = let first = heads c 32 (a ++ 32 ∷ x) y e in absurd (ha.0 first)
behind_space (c ∷ a) (d ∷ b) x y ha hb e = behind_space a b x y ha.1 hb.1 (tails c d (a ++ 32 ∷ x) (b ++ 32 ∷ y) e)

-- the line of a reply, with more behind it
pub one_reply : (name : List ℕ) (r : Reply) (more : List ℕ)
    → reply_line name r ++ more ≡ name ++ 32 ∷ (said r ++ 10 ∷ more)
one_reply name r more =
    append_assoc ((name ++ codes " ") ++ said r) (10 ∷ []) more
    ∙ append_assoc (name ++ codes " ") (said r) (10 ∷ more)
    ∙ append_assoc name (codes " ") (said r ++ 10 ∷ more)

pub no_plan_first : (name : List ℕ) (r : Reply) (more : List ℕ) → is_good_name name ≡ true
    → HasNone (reply_line name r ++ more)
no_plan_first name r more good ms (x, e) =
    let plain : Lacks 32 (codes "plan") = (omega arith, (omega arith, (omega arith, (omega arith, tt)))) in
    let behind = behind_space name (codes "plan") (said r ++ 10 ∷ more)
    (decimal (length ms) ++ 10 ∷ (plan_lines 1 ms ++ x))
    (name_lacks 32 no_space name (characters name good)) plain (sym (one_reply name r more) ∙ e ∙ counted ms x) in
    no_low_reply r (10 ∷ more) (decimal (length ms) ++ 10 ∷ (plan_lines 1 ms ++ x))
    (low_more (decimal (length ms)) _ (decimal_is_low (length ms))) behind
