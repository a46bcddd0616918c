-- Tokens begin and end within the text, and between its characters.
use Rattle.std.proofs.Common.{◌≡◌, ◌≢◌, ◌<◌, ◌≤◌, ◌+◌, ℕ, Bool, true, false, cond, List, [], ◌∷◌, ◌++◌, length, drop, get_or, All, Option, Some, None, option_to_list, slice_index_or, refl, sym, subst, ap, ◌∙◌, arith, nat_eq, inl, inr, IsUtf8, not, ◌&&◌}
use Rattle.std.specs.List.{AllByRecursion}
use Rattle.std.specs.Str.{IsCharBoundary}
use Rattle.std.proofs.Math.Nat.{eq-or-lt_of_le}
use Rattle.std.proofs.lemmas.Bool.Decides.{nat_tests}
use Rattle.std.proofs.lemmas.List.{drop_more, drop_all, length-drop, length-append}
use Rattle.std.proofs.lemmas.List.Elements.{All-from_recursion}
use Rattle.std.proofs.lemmas.Str.{IsCharBoundary-start, IsCharBoundary-end, IsCharBoundary-before_ascii, IsCharBoundary-after_ascii}
use Rattle.host_core.specs.Characters.{backslash, close_brace, double_quote, line_feed, open_brace, semicolon, single_quote, slash, star}
use Rattle.yang_text.specs.Bytes.{is_blank, is_escapable, ends_word}
use Rattle.yang_text.specs.Lexing.{lex, tokens, advance, window, next_line, open_fault, brings, blames, word, outside, outside_signs, in_line, in_block, in_single, in_double}
use Rattle.yang_text.specs.Texts.{IsWithin, IsCut}
use Rattle.yang_text.specs.declared.lexing.Kind.{Kind}
use Rattle.yang_text.specs.declared.lexing.Mode.{Mode}
use Rattle.yang_text.specs.declared.lexing.Mode.TheVariants.{Outside, Word, Line, Opens, Block, Skip, Single, Double, Escape}
use Rattle.yang_text.specs.declared.lexing.Step.{Step}
use Rattle.yang_text.specs.declared.lexing.Token.{Token}
use Rattle.yang_text.specs.declared.lexing.Window.{Window}

-- P holds at both ends of the text, and before and behind each ASCII byte
record HasPlaces (text : List ℕ) (P : ℕ → Type 0) : Type 0 where
  start : P 0
  end : P (length text)
  before : (i : ℕ) → i < length text → get_or text i 0 < 128 → P i
  after : (i : ℕ) → i < length text → get_or text i 0 < 128 → P (i + 1)

-- P holds at both ends of the token
record HoldsAround (P : ℕ → Type 0) (t : Token) : Type 0 where
  rising : t.start ≤ t.end
  from : P t.start
  to : P t.end

-- the window shows the text
record Shows (text : List ℕ) (w : Window) : Type 0 where
  within : w.at < length text
  here : get_or text w.at 0 ≡ w.byte
  next : w.at + 1 < length text → get_or text (w.at + 1) 0 ≡ w.next
  last : w.at + 1 ≡ length text → w.next ≡ 10

-- what a mode knows of the places before it
Keeps : List ℕ → (ℕ → Type 0) → Mode → ℕ → Type 0
Keeps text P Outside at = P at
Keeps text P (Word s) at = P s × (s ≤ at)
Keeps text P Line at = Unit {0}
Keeps text P (Opens l) at = Unit {0}
Keeps text P (Block l) at = Unit {0}
Keeps text P Skip at = (at < length text) × (get_or text at 0 < 128)
Keeps text P (Single l s) at = P s × (s ≤ at)
Keeps text P (Double l s) at = P s × (s ≤ at)
Keeps text P (Escape l s) at = P s × (s ≤ at)

record StepHolds (text : List ℕ) (P : ℕ → Type 0) (at : ℕ) (step : Step) : Type 0 where
  token : AllByRecursion (HoldsAround P) (option_to_list step.token)
  mode : Keeps text P step.mode at

split : (Q : Step → Type 0) (b : Bool) (x y : Step) → (b ≡ true → Q x) → (b ≡ false → Q y) → Q (cond b x y)
split Q true x y f g = f refl
split Q false x y f g = g refl

ends_low : (n m : ℕ) → ends_word n m ≡ true → n < 128
ends_low n m h = grind (arith, nat_tests, h)

next_place : (text : List ℕ) (P : ℕ → Type 0) (w : Window) → HasPlaces text P → Shows text w → w.next < 128 → P (w.at + 1)
next_place text P w places shows low =
    elim (eq-or-lt_of_le (let h : w.at + 1 ≤ length text = omega (arith, shows.within) in h)) as (λ _. P (w.at + 1)) [
      | inl e ↦ subst P (sym e) places.end
      | inr l ↦ places.before (w.at + 1) l (omega (arith, shows.next l))
    ]

skip_place : (text : List ℕ) (w : Window) → Shows text w → w.next ≢ 10 → w.next < 128 → (w.at + 1 < length text) × (get_or text (w.at + 1) 0 < 128)
skip_place text w shows other low =
    elim (eq-or-lt_of_le (let h : w.at + 1 ≤ length text = omega (arith, shows.within) in h)) as (λ _. (w.at + 1 < length text) × (get_or text (w.at + 1) 0 < 128)) [
      | inl e ↦ absurd (other (shows.last e))
      | inr l ↦ (l, omega (arith, shows.next l))
    ]

before_low : (text : List ℕ) (P : ℕ → Type 0) (w : Window) → HasPlaces text P → Shows text w → w.byte < 128 → P w.at
before_low text P w places shows low = places.before w.at shows.within (omega (arith, shows.here))

after_low : (text : List ℕ) (P : ℕ → Type 0) (w : Window) → HasPlaces text P → Shows text w → w.byte < 128 → P (w.at + 1)
after_low text P w places shows low = places.after w.at shows.within (omega (arith, shows.here))

low : (b c : ℕ) → nat_eq b c ≡ true → c < 128 → b < 128
low b c e h = grind (arith, nat_tests, e, h)

word_holds : (text : List ℕ) (P : ℕ → Type 0) (w : Window) (s : ℕ) → HasPlaces text P → Shows text w → P s → s ≤ w.at → StepHolds text P (w.at + 1) (word s w)
unfolding Keeps
word_holds text P w s places shows from le =
    split (StepHolds text P (w.at + 1)) (ends_word w.next w.later) _ _
    (λ e. record { token = (record { rising = omega (arith, le); from = from; to = next_place text P w places shows (ends_low w.next w.later e) }, tt); mode = next_place text P w places shows (ends_low w.next w.later e) })
    (λ e. record { token = tt; mode = (from, omega (arith, le)) })

sign_holds : (text : List ℕ) (P : ℕ → Type 0) (w : Window) (k : Kind) → HasPlaces text P → Shows text w → w.byte < 128 → P w.at → StepHolds text P (w.at + 1) (brings k w.line w.at (w.at + 1))
unfolding Keeps
sign_holds text P w k places shows small here =
    record { token = (record { rising = omega arith; from = here; to = after_low text P w places shows small }, tt); mode = after_low text P w places shows small }

blame_holds : (text : List ℕ) (P : ℕ → Type 0) (w : Window) (mode : Mode) → HasPlaces text P → Shows text w → w.byte < 128 → P w.at → Keeps text P mode (w.at + 1) → StepHolds text P (w.at + 1) (blames mode w)
blame_holds text P w mode places shows small here keeps =
    record { token = (record { rising = omega arith; from = here; to = after_low text P w places shows small }, tt); mode = keeps }

both_true : (a b : Bool) → (a && b) ≡ true → (a ≡ true) × (b ≡ true)
both_true true b e = (refl, e)
both_true false b e = absurd (cc)

eq_is : (b c : ℕ) → nat_eq b c ≡ true → b ≡ c
eq_is b c e = grind (arith, nat_tests, e)

signs_hold : (text : List ℕ) (P : ℕ → Type 0) (w : Window) → HasPlaces text P → Shows text w → P w.at → StepHolds text P (w.at + 1) (outside_signs w)
unfolding Keeps
signs_hold text P w places shows here =
    split (StepHolds text P (w.at + 1)) (nat_eq w.byte slash && nat_eq w.next slash) _ _ (λ e. record { token = tt; mode = tt })
    (λ _. split (StepHolds text P (w.at + 1)) (nat_eq w.byte slash && nat_eq w.next star) _ _ (λ e. record { token = tt; mode = tt })
    (λ _. split (StepHolds text P (w.at + 1)) (nat_eq w.byte star && nat_eq w.next slash) _ _
    (λ e. let (e1, e2) = both_true (nat_eq w.byte star) (nat_eq w.next slash) e in let b : w.byte ≡ 42 = eq_is w.byte 42 e1 in let n : w.next ≡ 47 = eq_is w.next 47 e2 in
    blame_holds text P w Skip places shows (omega arith) here (skip_place text w shows (λ t. omega (arith, t)) (omega arith)))
    (λ _. word_holds text P w w.at places shows here (omega arith))))

is_blank_low : (b : ℕ) → is_blank b ≡ true → b < 128
is_blank_low b h = grind (arith, nat_tests, h)

outside_holds : (text : List ℕ) (P : ℕ → Type 0) (w : Window) → HasPlaces text P → Shows text w → P w.at → StepHolds text P (w.at + 1) (outside w)
unfolding Keeps
outside_holds text P w places shows here =
    let Q : Step → Type 0 = StepHolds text P (w.at + 1) in
    split Q (is_blank w.byte) _ _ (λ e. record { token = tt; mode = after_low text P w places shows (is_blank_low w.byte e) })
    (λ _. split Q (nat_eq w.byte semicolon) _ _ (λ e. sign_holds text P w _ places shows (low w.byte 59 e (omega arith)) here)
    (λ _. split Q (nat_eq w.byte open_brace) _ _ (λ e. sign_holds text P w _ places shows (low w.byte 123 e (omega arith)) here)
    (λ _. split Q (nat_eq w.byte close_brace) _ _ (λ e. sign_holds text P w _ places shows (low w.byte 125 e (omega arith)) here)
    (λ _. split Q (nat_eq w.byte double_quote) _ _ (λ e. record { token = tt; mode = (after_low text P w places shows (low w.byte 34 e (omega arith)), omega arith) })
    (λ _. split Q (nat_eq w.byte single_quote) _ _ (λ e. record { token = tt; mode = (after_low text P w places shows (low w.byte 39 e (omega arith)), omega arith) })
    (λ _. signs_hold text P w places shows here))))))

line_holds : (text : List ℕ) (P : ℕ → Type 0) (w : Window) → HasPlaces text P → Shows text w → StepHolds text P (w.at + 1) (in_line w)
unfolding Keeps
line_holds text P w places shows =
    split (StepHolds text P (w.at + 1)) (nat_eq w.byte line_feed) _ _ (λ e. record { token = tt; mode = after_low text P w places shows (low w.byte 10 e (omega arith)) }) (λ e. record { token = tt; mode = tt })

block_holds : (text : List ℕ) (P : ℕ → Type 0) (w : Window) (l : ℕ) → HasPlaces text P → Shows text w → StepHolds text P (w.at + 1) (in_block l w)
unfolding Keeps
block_holds text P w l places shows =
    split (StepHolds text P (w.at + 1)) (nat_eq w.byte star && nat_eq w.next slash) _ _
    (λ e. let (e1, e2) = both_true (nat_eq w.byte star) (nat_eq w.next slash) e in let n : w.next ≡ 47 = eq_is w.next 47 e2 in
    record { token = tt; mode = skip_place text w shows (λ t. omega (arith, t)) (omega arith) })
    (λ e. record { token = tt; mode = tt })

quote_holds : (text : List ℕ) (P : ℕ → Type 0) (w : Window) (k : Kind) (l s : ℕ) → HasPlaces text P → Shows text w → P s → s ≤ w.at → w.byte < 128 → StepHolds text P (w.at + 1) (brings k l s w.at)
unfolding Keeps
quote_holds text P w k l s places shows from le small =
    record { token = (record { rising = le; from = from; to = before_low text P w places shows small }, tt); mode = after_low text P w places shows small }

single_holds : (text : List ℕ) (P : ℕ → Type 0) (w : Window) (l s : ℕ) → HasPlaces text P → Shows text w → P s → s ≤ w.at → StepHolds text P (w.at + 1) (in_single l s w)
unfolding Keeps
single_holds text P w l s places shows from le =
    split (StepHolds text P (w.at + 1)) (nat_eq w.byte single_quote) _ _ (λ e. quote_holds text P w _ l s places shows from le (low w.byte 39 e (omega arith))) (λ e. record { token = tt; mode = (from, omega (arith, le)) })

not_false : (b : Bool) → not b ≡ false → b ≡ true
not_false true e = refl
not_false false e = absurd (cc)

double_holds : (text : List ℕ) (P : ℕ → Type 0) (w : Window) (l s : ℕ) → HasPlaces text P → Shows text w → P s → s ≤ w.at → StepHolds text P (w.at + 1) (in_double l s w)
unfolding Keeps
double_holds text P w l s places shows from le =
    let Q : Step → Type 0 = StepHolds text P (w.at + 1) in
    split Q (nat_eq w.byte double_quote) _ _ (λ e. quote_holds text P w _ l s places shows from le (low w.byte 34 e (omega arith)))
    (λ _. split Q (not (nat_eq w.byte backslash)) _ _ (λ e. record { token = tt; mode = (from, omega (arith, le)) })
    (λ e. split Q (is_escapable w.next) _ _ (λ _. record { token = tt; mode = (from, omega (arith, le)) })
    (λ _. let small : w.byte < 128 = low w.byte 92 (not_false _ e) (omega arith) in
    blame_holds text P w (Double l s) places shows small (before_low text P w places shows small) (from, omega (arith, le)))))

step_holds : (text : List ℕ) (P : ℕ → Type 0) (w : Window) (mode : Mode) → HasPlaces text P → Shows text w → Keeps text P mode w.at → StepHolds text P (w.at + 1) (advance mode w)
unfolding Keeps
step_holds text P w Outside places shows k = outside_holds text P w places shows k
step_holds text P w (Word s) places shows k = word_holds text P w s places shows k.0 k.1
step_holds text P w Line places shows k = line_holds text P w places shows
step_holds text P w (Opens l) places shows k = record { token = tt; mode = tt }
step_holds text P w (Block l) places shows k = block_holds text P w l places shows
step_holds text P w Skip places shows k = record { token = tt; mode = places.after w.at k.0 k.1 }
step_holds text P w (Single l s) places shows k = single_holds text P w l s places shows k.0 k.1
step_holds text P w (Double l s) places shows k = double_holds text P w l s places shows k.0 k.1
step_holds text P w (Escape l s) places shows k = record { token = tt; mode = (k.0, omega (arith, k.1)) }

end_holds : (text : List ℕ) (P : ℕ → Type 0) (mode : Mode) (at : ℕ) → HasPlaces text P → at ≡ length text → AllByRecursion (HoldsAround P) (option_to_list (open_fault mode at))
end_holds text P mode at places e =
    let here : P at = subst P (sym e) places.end in
    let bad : (l : ℕ) → AllByRecursion (HoldsAround P) (option_to_list (open_fault (Block l) at)) = λ l. (record { rising = omega arith; from = here; to = here }, tt) in
    elim mode as (λ m. AllByRecursion (HoldsAround P) (option_to_list (open_fault m at))) [
      | Outside ↦ tt
      | Word s ↦ tt
      | Line ↦ tt
      | Opens l ↦ bad l
      | Block l ↦ bad l
      | Skip ↦ tt
      | Single l s ↦ bad l
      | Double l s ↦ bad l
      | Escape l s ↦ bad l
    ]

join_all : (P : Token → Type 0) (o : Option Token) (ts : List Token) → AllByRecursion P (option_to_list o) → AllByRecursion P ts → AllByRecursion P (option_to_list o ++ ts)
join_all P None ts h k = k
join_all P (Some t) ts h k = (h.0, k)

window_shows : (text : List ℕ) (at line b : ℕ) (bs : List ℕ) → drop at text ≡ b ∷ bs → (at < length text) × (get_or text at 0 ≡ b) × (drop (at + 1) text ≡ bs)
window_shows text at line b bs e =
    let inside : at < length text = omega (arith, length-drop at text, ap length e) in
    let more : drop at text ≡ get_or text at 0 ∷ drop (at + 1) text = drop_more text at 0 inside in
    (inside, cc, cc)

first_of_rest : (text : List ℕ) (at : ℕ) (bs : List ℕ) → drop at text ≡ bs → at < length text → get_or text at 0 ≡ slice_index_or bs 0 line_feed
first_of_rest text at bs e h =
    let more : drop at text ≡ get_or text at 0 ∷ drop (at + 1) text = drop_more text at 0 h in
    ap (λ xs. slice_index_or xs 0 line_feed) (sym more ∙ e)

none_of_rest : (text : List ℕ) (at : ℕ) (bs : List ℕ) → drop at text ≡ bs → at ≡ length text → slice_index_or bs 0 line_feed ≡ 10
none_of_rest text at bs e h = ap (λ xs. slice_index_or xs 0 line_feed) (sym e ∙ drop_all at text (omega arith))

lex_holds : (text : List ℕ) (P : ℕ → Type 0) (bs : List ℕ) (mode : Mode) (at line : ℕ) → HasPlaces text P → drop at text ≡ bs → at ≤ length text → Keeps text P mode at → AllByRecursion (HoldsAround P) (lex mode at line bs)
unfolding lex
lex_holds text P [] mode at line places e h k = end_holds text P mode at places (omega (arith, length-drop at text, ap length e))
lex_holds text P (b ∷ bs) mode at line places e h k =
    let (inside, here, rest) = window_shows text at line b bs e in
    let shows : Shows text (window at line (b ∷ bs)) = record { within = inside; here = here; next = first_of_rest text (at + 1) bs rest; last = none_of_rest text (at + 1) bs rest } in
    let step = step_holds text P (window at line (b ∷ bs)) mode places shows k in
    join_all (HoldsAround P) (advance mode (window at line (b ∷ bs))).token _ step.token
    (lex_holds text P bs (advance mode (window at line (b ∷ bs))).mode (at + 1) (next_line line b) places rest (omega arith) step.mode)

tokens_hold : (text : List ℕ) (P : ℕ → Type 0) → HasPlaces text P → AllByRecursion (HoldsAround P) (tokens text)
unfolding Keeps
tokens_hold text P places = lex_holds text P text Outside 0 1 places refl (omega arith) places.start

weaker : (P Q : Token → Type 0) (ts : List Token) → ((t : Token) → P t → Q t) → AllByRecursion P ts → AllByRecursion Q ts
weaker P Q [] f h = tt
weaker P Q (t ∷ ts) f h = (f t h.0, weaker P Q ts f h.1)

pub tokens_within : (text : List ℕ) → All (IsWithin text) (tokens text)
tokens_within text = All-from_recursion (IsWithin text) (tokens text) (weaker _ (IsWithin text) (tokens text) (λ t h. record { rising = h.rising; within = h.to })
    (tokens_hold text (λ i. i ≤ length text) (record { start = omega arith; end = omega arith; before = λ i h _. omega (arith, h); after = λ i h _. omega (arith, h) })))

pub tokens_cut : (text : List ℕ) → IsUtf8 text → All (IsCut text) (tokens text)
tokens_cut text u = All-from_recursion (IsCut text) (tokens text) (weaker _ (IsCut text) (tokens text) (λ t h. record { rising = h.rising; start = h.from; end = h.to })
    (tokens_hold text (IsCharBoundary text) (record { start = IsCharBoundary-start text u; end = IsCharBoundary-end text; before = λ i h l. IsCharBoundary-before_ascii text i h l; after = λ i h l. IsCharBoundary-after_ascii text i u h l })))

few : (o : Option Token) → length (option_to_list o) ≤ 1
few None = omega arith
few (Some t) = omega arith

lex_few : (mode : Mode) (at line : ℕ) (bs : List ℕ) → length (lex mode at line bs) ≤ length bs + 1
unfolding lex
lex_few mode at line [] = few (open_fault mode at)
lex_few mode at line (b ∷ bs) =
    omega (
      arith,
      length-append (option_to_list (advance mode (window at line (b ∷ bs))).token) (lex (advance mode (window at line (b ∷ bs))).mode (at + 1) (next_line line b) bs),
      few (advance mode (window at line (b ∷ bs))).token,
      lex_few (advance mode (window at line (b ∷ bs))).mode (at + 1) (next_line line b) bs,
    )

-- a byte brings at most one token
pub tokens_few : (text : List ℕ) → length (tokens text) ≤ length text + 1
tokens_few text = lex_few Outside 0 1 text
