-- A document is told by its compact text, whatever stands behind it.
use Rattle.std.proofs.Common.{◌≡◌, ◌≢◌, ℕ, ◌<◌, ◌/◌, ◌%◌, List, [], ◌∷◌, ◌++◌, Bool, true, false, cond, refl, sym, ap, ◌∙◌, subst, arith, append_assoc}
use Rattle.std.specs.Prelude.{nat_lt}
use Rattle.std.specs.Char.{digit_char}
use Rattle.std.proofs.lemmas.Bool.Decides.{nat_tests}
use Rattle.json.specs.Print.{escape, escape_byte, escape_letter, quoted}
use Rattle.serde_json.specs.Written.{items_text, members_text}
use Rattle.conf_doc.specs.Document.{Document, text, list, object, Items, no_items, item, Members, no_members, member}
use Rattle.conf_doc.specs.Texts.{compact, item_values, member_values}

pub heads : (a b : ℕ) (x y : List ℕ) → a ∷ x ≡ b ∷ y → a ≡ b
heads a b x y e = cc

pub tails : (a b : ℕ) (x y : List ℕ) → a ∷ x ≡ b ∷ y → x ≡ y
tails a b x y e = cc

-- ---- one byte

-- a byte with a short escape, one with its number, and one written as it is
data Escaped (x : ℕ) : List ℕ → Type 0 where
  short : 0 < escape_letter x → Escaped x (92 ∷ escape_letter x ∷ [])
  long : x < 32 → Escaped x (92 ∷ 117 ∷ 48 ∷ 48 ∷ digit_char (x / 16) ∷ digit_char (x % 16) ∷ [])
  itself : x ≢ 34 → x ≢ 92 → Escaped x (x ∷ [])

not_escaped : (x : ℕ) → nat_lt 0 (escape_letter x) ≡ false → (x ≢ 34) × (x ≢ 92)
not_escaped x e = (
  (λ is. let h : nat_lt 0 (escape_letter 34) ≡ false = subst (λ n. nat_lt 0 (escape_letter n) ≡ false) is e in cc),
  (λ is. let h : nat_lt 0 (escape_letter 92) ≡ false = subst (λ n. nat_lt 0 (escape_letter n) ≡ false) is e in cc),
)

escaped_by : (x : ℕ) (b c : Bool) → nat_lt 0 (escape_letter x) ≡ b → nat_lt x 32 ≡ c
    → Escaped x (cond b (92 ∷ escape_letter x ∷ [])
    (cond c (92 ∷ 117 ∷ 48 ∷ 48 ∷ digit_char (x / 16) ∷ digit_char (x % 16) ∷ []) (x ∷ [])))
escaped_by x true c some low = short (grind (arith, nat_tests))
escaped_by x false true none low = long (grind (arith, nat_tests))
escaped_by x false false none high = let h = not_escaped x none in itself h.0 h.1

is_escaped : (x : ℕ) → Escaped x (escape_byte x)
unfolding escape_byte
is_escaped x = escaped_by x (nat_lt 0 (escape_letter x)) (nat_lt x 32) refl refl

-- no short escape is by the letter of long ones
not_u : (x : ℕ) → escape_letter x ≢ 117
not_u x e = grind (arith, nat_tests)

letters_are_one : (x y : ℕ) → 0 < escape_letter x → escape_letter x ≡ escape_letter y → x ≡ y
letters_are_one x y some e = grind (arith, nat_tests)

digits_are_one : (a b : ℕ) → a < 16 → b < 16 → digit_char a ≡ digit_char b → a ≡ b
digits_are_one a b ha hb e = grind (arith, nat_tests)

halves_are_one : (x y : ℕ) → x / 16 ≡ y / 16 → x % 16 ≡ y % 16 → x ≡ y
halves_are_one x y e f = omega (arith, e, f)

-- two bytes whose texts begin alike are one
bytes_split : (x y : ℕ) (a b r s : List ℕ) → Escaped x a → Escaped y b → a ++ r ≡ b ++ s → (x ≡ y) × (r ≡ s)
bytes_split x y _ _ r s (short some) (short more) e =
    let l : escape_letter x ≡ escape_letter y = cc in let rest : r ≡ s = cc in (letters_are_one x y some l, rest)
bytes_split x y _ _ r s (short some) (long low) e = let l : escape_letter x ≡ 117 = cc in absurd (not_u x l)
bytes_split x y _ _ r s (short some) (itself unquoted unbroken) e = let l : y ≡ 92 = cc in absurd (unbroken l)
bytes_split x y _ _ r s (long low) (short some) e = let l : escape_letter y ≡ 117 = cc in absurd (not_u y l)
bytes_split x y _ _ r s (long low) (long less) e =
    let high : digit_char (x / 16) ≡ digit_char (y / 16) = cc in
    let lower : digit_char (x % 16) ≡ digit_char (y % 16) = cc in
    let rest : r ≡ s = cc in (
      halves_are_one x y (digits_are_one (x / 16) (y / 16) (omega arith) (omega arith) high)
          (digits_are_one (x % 16) (y % 16) (omega arith) (omega arith) lower),
      rest,
    )
bytes_split x y _ _ r s (long low) (itself unquoted unbroken) e = let l : y ≡ 92 = cc in absurd (unbroken l)
bytes_split x y _ _ r s (itself unquoted unbroken) (short some) e = let l : x ≡ 92 = cc in absurd (unbroken l)
bytes_split x y _ _ r s (itself unquoted unbroken) (long low) e = let l : x ≡ 92 = cc in absurd (unbroken l)
bytes_split x y _ _ r s (itself unquoted unbroken) (itself plain whole) e = let l : x ≡ y = cc in
    let rest : r ≡ s = cc in (l, rest)

-- what is escaped doesn't begin with a quotation mark
no_quote : (x : ℕ) (a r s : List ℕ) → Escaped x a → a ++ r ≡ 34 ∷ s → ⊥
no_quote x _ r s (short some) e = let h : 92 ≡ 34 = heads 92 34 _ s e in omega (arith, h)
no_quote x _ r s (long low) e = let h : 92 ≡ 34 = heads 92 34 _ s e in omega (arith, h)
no_quote x _ r s (itself unquoted unbroken) e = unquoted (heads x 34 r s e)

-- ---- texts

texts_split : (s t : List ℕ) (x y : List ℕ) → escape s ++ 34 ∷ x ≡ escape t ++ 34 ∷ y → (s ≡ t) × (x ≡ y)
texts_split [] [] x y e = let rest : x ≡ y = cc in (refl, rest)
texts_split [] (b ∷ t) x y e =
    absurd (no_quote b (escape_byte b) (escape t ++ 34 ∷ y) x (is_escaped b)
    (sym (append_assoc (escape_byte b) (escape t) (34 ∷ y)) ∙ sym e))
texts_split (a ∷ s) [] x y e =
    absurd (no_quote a (escape_byte a) (escape s ++ 34 ∷ x) y (is_escaped a)
    (sym (append_assoc (escape_byte a) (escape s) (34 ∷ x)) ∙ e))
texts_split (a ∷ s) (b ∷ t) x y e =
    let first = bytes_split a b (escape_byte a) (escape_byte b) (escape s ++ 34 ∷ x) (escape t ++ 34 ∷ y)
    (is_escaped a) (is_escaped b)
    (sym (append_assoc (escape_byte a) (escape s) (34 ∷ x)) ∙ e ∙ append_assoc (escape_byte b) (escape t) (34 ∷ y)) in
    let more = texts_split s t x y first.1 in
    let head : a ≡ b = first.0 in let tail : s ≡ t = more.0 in let same : a ∷ s ≡ b ∷ t = cc in
    (same, more.1)

quoted_split : (s t : List ℕ) (x y : List ℕ) → quoted s ++ x ≡ quoted t ++ y → (s ≡ t) × (x ≡ y)
quoted_split s t x y e =
    let inner : (escape s ++ 34 ∷ []) ++ x ≡ (escape t ++ 34 ∷ []) ++ y = cc in
    texts_split s t x y (sym (append_assoc (escape s) (34 ∷ []) x) ∙ inner ∙ append_assoc (escape t) (34 ∷ []) y)

-- ---- documents

no_bracket : (d : Document) (r x : List ℕ) → compact d ++ r ≡ 93 ∷ x → ⊥
no_bracket (text s) r x e = let h : 34 ≡ 93 = heads 34 93 _ x e in omega (arith, h)
no_bracket (list ds) r x e = let h : 91 ≡ 93 = heads 91 93 _ x e in omega (arith, h)
no_bracket (object ms) r x e = let h : 123 ≡ 93 = heads 123 93 _ x e in omega (arith, h)

-- what stands behind a document tells it
abbrev Splits : Document → Type 0
Splits c = (d : Document) (x y : List ℕ) → compact c ++ x ≡ compact d ++ y → (c ≡ d) × (x ≡ y)

abbrev items_behind : Items → List ℕ
items_behind ds = items_text true (item_values ds)

abbrev LaterSplit : Items → Type 0
LaterSplit cs = (ds : Items) (x y : List ℕ) → items_behind cs ++ x ≡ items_behind ds ++ y → (cs ≡ ds) × (x ≡ y)

one_split : (c d : Document) (cs ds : Items) (x y : List ℕ) → Splits c → LaterSplit cs
    → (compact c ++ items_behind cs) ++ x ≡ (compact d ++ items_behind ds) ++ y
    → (item c cs ≡ item d ds) × (x ≡ y)
one_split c d cs ds x y one later e =
    let first = one d (items_behind cs ++ x) (items_behind ds ++ y)
    (sym (append_assoc (compact c) (items_behind cs) x) ∙ e ∙ append_assoc (compact d) (items_behind ds) y) in
    let more = later ds x y first.1 in
    (ap (λ (w : Document). item w cs) first.0 ∙ ap (λ (ws : Items). item d ws) more.0, more.1)

abbrev members_behind : Members → List ℕ
members_behind ms = members_text true (member_values ms)

abbrev OthersSplit : Members → Type 0
OthersSplit ms = (ns : Members) (x y : List ℕ) → members_behind ms ++ x ≡ members_behind ns ++ y → (ms ≡ ns) × (x ≡ y)

member_split : (k l : List ℕ) (c d : Document) (ms ns : Members) (x y : List ℕ) → Splits c → OthersSplit ms
    → (quoted k ++ 58 ∷ (compact c ++ members_behind ms)) ++ x ≡ (quoted l ++ 58 ∷ (compact d ++ members_behind ns)) ++
    y
    → (member k c ms ≡ member l d ns) × (x ≡ y)
member_split k l c d ms ns x y one later e =
    let name = quoted_split k l (58 ∷ ((compact c ++ members_behind ms) ++ x))
    (58 ∷ ((compact d ++ members_behind ns) ++ y))
    (sym (append_assoc (quoted k) (58 ∷ (compact c ++ members_behind ms)) x) ∙ e
    ∙ append_assoc (quoted l) (58 ∷ (compact d ++ members_behind ns)) y) in
    let inner = tails 58 58 ((compact c ++ members_behind ms) ++ x) ((compact d ++ members_behind ns) ++ y) name.1 in
    let first = one d (members_behind ms ++ x) (members_behind ns ++ y)
    (sym (append_assoc (compact c) (members_behind ms) x) ∙ inner ∙ append_assoc (compact d) (members_behind ns) y) in
    let more = later ns x y first.1 in (
      ap (λ (w : List ℕ). member w c ms) name.0 ∙ ap (λ (w : Document). member l w ms) first.0
          ∙ ap (λ (ws : Members). member l d ws) more.0,
      more.1,
    )

mutual
  -- two documents whose compact texts begin alike are one
  pub compacts_split : (c d : Document) (x y : List ℕ) → compact c ++ x ≡ compact d ++ y → (c ≡ d) × (x ≡ y)
  compacts_split (text s) (text t) x y e = let h = quoted_split s t x y e in (ap text h.0, h.1)
  compacts_split (text s) (list ds) x y e = let h : 34 ≡ 91 = heads 34 91 _ _ e in absurd (omega (arith, h))
  compacts_split (text s) (object ms) x y e = let h : 34 ≡ 123 = heads 34 123 _ _ e in absurd (omega (arith, h))
  compacts_split (list cs) (text t) x y e = let h : 91 ≡ 34 = heads 91 34 _ _ e in absurd (omega (arith, h))
  compacts_split (list cs) (list ds) x y e =
      let h = items_split cs ds x y (tails 91 91 _ _ e) in (ap list h.0, h.1)
  compacts_split (list cs) (object ms) x y e = let h : 91 ≡ 123 = heads 91 123 _ _ e in absurd (omega (arith, h))
  compacts_split (object ms) (text t) x y e = let h : 123 ≡ 34 = heads 123 34 _ _ e in absurd (omega (arith, h))
  compacts_split (object ms) (list ds) x y e = let h : 123 ≡ 91 = heads 123 91 _ _ e in absurd (omega (arith, h))
  compacts_split (object ms) (object ns) x y e =
      let h = members_split ms ns x y (tails 123 123 _ _ e) in (ap object h.0, h.1)

  items_split : (cs ds : Items) (x y : List ℕ)
      → items_text false (item_values cs) ++ x ≡ items_text false (item_values ds) ++ y
      → (cs ≡ ds) × (x ≡ y)
  items_split no_items no_items x y e = (refl, tails 93 93 x y e)
  items_split no_items (item d ds) x y e =
      absurd (no_bracket d (items_behind ds ++ y) x (sym (append_assoc (compact d) (items_behind ds) y) ∙ sym e))
  items_split (item c cs) no_items x y e =
      absurd (no_bracket c (items_behind cs ++ x) y (sym (append_assoc (compact c) (items_behind cs) x) ∙ e))
  items_split (item c cs) (item d ds) x y e =
      one_split c d cs ds x y (λ w r s h. compacts_split c w r s h) (λ ws r s h. later_split cs ws r s h) e

  later_split : (cs ds : Items) (x y : List ℕ) → items_behind cs ++ x ≡ items_behind ds ++ y → (cs ≡ ds) × (x ≡ y)
  later_split no_items no_items x y e = (refl, tails 93 93 x y e)
  later_split no_items (item d ds) x y e = let h : 93 ≡ 44 = heads 93 44 _ _ e in absurd (omega (arith, h))
  later_split (item c cs) no_items x y e = let h : 44 ≡ 93 = heads 44 93 _ _ e in absurd (omega (arith, h))
  later_split (item c cs) (item d ds) x y e =
      one_split c d cs ds x y (λ w r s h. compacts_split c w r s h) (λ ws r s h. later_split cs ws r s h)
      (tails 44 44 _ _ e)

  members_split : (ms ns : Members) (x y : List ℕ)
      → members_text false (member_values ms) ++ x ≡ members_text false (member_values ns) ++ y
      → (ms ≡ ns) × (x ≡ y)
  members_split no_members no_members x y e = (refl, tails 125 125 x y e)
  members_split no_members (member l d ns) x y e = let h : 125 ≡ 34 = heads 125 34 _ _ e in absurd (omega (arith, h))
  members_split (member k c ms) no_members x y e = let h : 34 ≡ 125 = heads 34 125 _ _ e in absurd (omega (arith, h))
  members_split (member k c ms) (member l d ns) x y e =
      member_split k l c d ms ns x y (λ w r s h. compacts_split c w r s h) (λ ws r s h. others_split ms ws r s h) e

  others_split : (ms ns : Members) (x y : List ℕ) → members_behind ms ++ x ≡ members_behind ns ++ y
      → (ms ≡ ns) × (x ≡ y)
  others_split no_members no_members x y e = (refl, tails 125 125 x y e)
  others_split no_members (member l d ns) x y e = let h : 125 ≡ 44 = heads 125 44 _ _ e in absurd (omega (arith, h))
  others_split (member k c ms) no_members x y e = let h : 44 ≡ 125 = heads 44 125 _ _ e in absurd (omega (arith, h))
  others_split (member k c ms) (member l d ns) x y e =
      member_split k l c d ms ns x y (λ w r s h. compacts_split c w r s h) (λ ws r s h. others_split ms ws r s h)
      (tails 44 44 _ _ e)
