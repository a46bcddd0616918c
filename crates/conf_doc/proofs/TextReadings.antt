-- The texts of a document read back as its value.
use Rattle.std.proofs.Common.{◌≡◌, ℕ, zero, suc, ◌*◌, Bool, true, false, cond, ◌&&◌, List, [], ◌∷◌, ◌++◌, replicate, IsUtf8, refl, sym, ap, ◌∙◌, append_assoc}
use Rattle.std.proofs.lemmas.Str.{IsUtf8-append, IsUtf8-nil}
use Rattle.json.specs.Layout.{Last, nothing, bracket, name, value as ended, is_value, line, gap, depth_at, after, step, piece, pretty_from, pretty}
use Rattle.json.specs.Lex.{lex, between, in_string, tokens, token, string_token, comma, colon, punctuate, fresh}
use Rattle.json.specs.Print.{quoted, escape, token_text, separator, begins, ends, print_from, print, ArePrintable}
use Rattle.json.specs.Text.{content, plain}
use Rattle.json.specs.Token.{Token, begin_object, end_object, begin_array, end_array, key, string, number, boolean, null, bad}
use Rattle.json.proofs.Printed.Strings.{content-escape, lex-escape}
use Rattle.json.proofs.Printed.Tokens.{tokens-print}
use Rattle.json.proofs.Printed.Utf8.{IsUtf8-are_ascii, IsUtf8-quoted, IsUtf8-key, IsUtf8-separator}

-- a bracket, a key or a string
abbrev pub IsPlain : Token → Type 0
IsPlain begin_object = Unit {0}
IsPlain end_object = Unit {0}
IsPlain begin_array = Unit {0}
IsPlain end_array = Unit {0}
IsPlain (key s) = IsUtf8 s
IsPlain (string s) = IsUtf8 s
IsPlain (number s) = ⊥
IsPlain (boolean b) = ⊥
IsPlain null = ⊥
IsPlain bad = ⊥

abbrev pub ArePlain : List Token → Type 0
ArePlain [] = Unit {0}
ArePlain (t ∷ ts) = IsPlain t × ArePlain ts

pub ArePrintable-plain : (ts : List Token) → ArePlain ts → ArePrintable ts
unfolding ArePrintable
ArePrintable-plain [] h = tt
ArePrintable-plain (begin_object ∷ ts) h = (tt, ArePrintable-plain ts h.1)
ArePrintable-plain (end_object ∷ ts) h = (tt, ArePrintable-plain ts h.1)
ArePrintable-plain (begin_array ∷ ts) h = (tt, ArePrintable-plain ts h.1)
ArePrintable-plain (end_array ∷ ts) h = (tt, ArePrintable-plain ts h.1)
ArePrintable-plain (key s ∷ ts) h = (tt, ArePrintable-plain ts h.1)
ArePrintable-plain (string s ∷ ts) h = (tt, ArePrintable-plain ts h.1)
ArePrintable-plain (number s ∷ ts) h = absurd h.0
ArePrintable-plain (boolean b ∷ ts) h = absurd h.0
ArePrintable-plain (null ∷ ts) h = absurd h.0
ArePrintable-plain (bad ∷ ts) h = absurd h.0

lex-quoted : (s r : List ℕ) → lex between (quoted s ++ r) ≡ token (string s) ∷ lex between r
unfolding lex
lex-quoted s r =
    let inside : (escape s ++ 34 ∷ []) ++ r ≡ escape s ++ 34 ∷ r = append_assoc (escape s) (34 ∷ []) r in
    ap (λ xs. token (string_token (content plain xs)) ∷ lex in_string xs) inside
    ∙ ap (λ c. token (string_token c) ∷ lex in_string (escape s ++ 34 ∷ r)) (content-escape s r)
    ∙ ap (λ ls. token (string s) ∷ ls) (lex-escape s r)

-- what follows a token's text is read on its own
lex-text : (t : Token) (r u : List ℕ) → IsPlain t → lex between r ≡ lex between u → lex between (token_text t ++ r) ≡ lex between (token_text t ++ u)
unfolding lex
lex-text begin_object r u h same = ap (λ ls. token begin_object ∷ ls) same
lex-text end_object r u h same = ap (λ ls. token end_object ∷ ls) same
lex-text begin_array r u h same = ap (λ ls. token begin_array ∷ ls) same
lex-text end_array r u h same = ap (λ ls. token end_array ∷ ls) same
lex-text (key s) r u h same =
    ap (lex between) (append_assoc (quoted s) (58 ∷ []) r) ∙ lex-quoted s (58 ∷ r)
    ∙ ap (λ ls. token (string s) ∷ colon ∷ ls) same
    ∙ sym (ap (lex between) (append_assoc (quoted s) (58 ∷ []) u) ∙ lex-quoted s (58 ∷ u))
lex-text (string s) r u h same = lex-quoted s r ∙ ap (λ ls. token (string s) ∷ ls) same ∙ sym (lex-quoted s u)
lex-text (number s) r u h same = absurd h
lex-text (boolean b) r u h same = absurd h
lex-text null r u h same = absurd h
lex-text bad r u h same = absurd h

lex-comma : (b : Bool) (r u : List ℕ) → lex between r ≡ lex between u → lex between (cond b (44 ∷ []) [] ++ r) ≡ lex between (cond b (44 ∷ []) [] ++ u)
unfolding lex
lex-comma true r u same = ap (λ ls. comma ∷ ls) same
lex-comma false r u same = same

lex-spaces : (n : ℕ) (r : List ℕ) → lex between (replicate n 32 ++ r) ≡ lex between r
unfolding lex
lex-spaces zero r = refl
lex-spaces (suc n) r = lex-spaces n r

lex-gap : (l : Last) (opens : Bool) (depth : ℕ) (r : List ℕ) → lex between (gap l opens depth ++ r) ≡ lex between r
unfolding lex
lex-gap nothing opens depth r = refl
lex-gap bracket true depth r = lex-spaces (2 * depth) r
lex-gap bracket false depth r = refl
lex-gap name opens depth r = refl
lex-gap ended opens depth r = lex-spaces (2 * depth) r

value_after : (t : Token) (depth : ℕ) → IsPlain t → is_value (after t depth).0 ≡ ends t
value_after begin_object depth h = refl
value_after end_object depth h = refl
value_after begin_array depth h = refl
value_after end_array depth h = refl
value_after (key s) depth h = refl
value_after (string s) depth h = refl
value_after (number s) depth h = absurd h
value_after (boolean b) depth h = absurd h
value_after null depth h = absurd h
value_after bad depth h = absurd h

-- a line feed at the end says nothing
lex-print_line : (c : Bool) (ts : List Token) → ArePlain ts → lex between (print_from c ts ++ 10 ∷ []) ≡ lex between (print_from c ts)
unfolding lex print_from
lex-print_line c [] h = refl
lex-print_line c (t ∷ ts) h =
    let rest = print_from (ends t) ts in
    ap (lex between) (append_assoc (separator c t) (token_text t ++ rest) (10 ∷ []) ∙ ap (λ xs. separator c t ++ xs) (append_assoc (token_text t) rest (10 ∷ [])))
    ∙ lex-comma (c && begins t) _ _ (lex-text t _ _ h.0 (lex-print_line (ends t) ts h.1))

-- nor do the gaps of the pretty text
lex-pretty_line : (s : Last × ℕ) (ts : List Token) → ArePlain ts → lex between (pretty_from s ts ++ 10 ∷ []) ≡ lex between (print_from (is_value s.0) ts)
unfolding lex print_from pretty_from
lex-pretty_line s [] h = refl
lex-pretty_line s (t ∷ ts) h =
    let depth = depth_at s.1 t in
    let between_ = gap s.0 (begins t) depth in
    let rest = pretty_from (step s t) ts ++ 10 ∷ [] in
    let shape : (piece s t ++ pretty_from (step s t) ts) ++ 10 ∷ [] ≡ separator (is_value s.0) t ++ (between_ ++ (token_text t ++ rest)) =
    append_assoc (piece s t) (pretty_from (step s t) ts) (10 ∷ [])
    ∙ append_assoc (separator (is_value s.0) t) (between_ ++ token_text t) rest
    ∙ ap (λ xs. separator (is_value s.0) t ++ xs) (append_assoc between_ (token_text t) rest) in
    let later : lex between rest ≡ lex between (print_from (ends t) ts) =
    lex-pretty_line (step s t) ts h.1 ∙ ap (λ b. lex between (print_from b ts)) (value_after t depth h.0) in
    ap (lex between) shape
    ∙ lex-comma (is_value s.0 && begins t) _ _ (lex-gap s.0 (begins t) depth (token_text t ++ rest) ∙ lex-text t _ _ h.0 later)

pub tokens-print_line : (ts : List Token) → ArePlain ts → tokens (print ts ++ 10 ∷ []) ≡ ts
tokens-print_line ts h = ap (punctuate fresh) (lex-print_line false ts h) ∙ tokens-print ts (ArePrintable-plain ts h)

pub tokens-pretty_line : (ts : List Token) → ArePlain ts → tokens (pretty ts ++ 10 ∷ []) ≡ ts
tokens-pretty_line ts h = ap (punctuate fresh) (lex-pretty_line (nothing, 0) ts h) ∙ tokens-print ts (ArePrintable-plain ts h)

-- the bytes are UTF-8
text_utf8 : (t : Token) → IsPlain t → IsUtf8 (token_text t)
text_utf8 begin_object h = IsUtf8-are_ascii _ refl
text_utf8 end_object h = IsUtf8-are_ascii _ refl
text_utf8 begin_array h = IsUtf8-are_ascii _ refl
text_utf8 end_array h = IsUtf8-are_ascii _ refl
text_utf8 (key s) h = IsUtf8-key s h
text_utf8 (string s) h = IsUtf8-quoted s h
text_utf8 (number s) h = absurd h
text_utf8 (boolean b) h = absurd h
text_utf8 null h = absurd h
text_utf8 bad h = absurd h

spaces_utf8 : (n : ℕ) → IsUtf8 (replicate n 32)
spaces_utf8 zero = IsUtf8-nil
spaces_utf8 (suc n) = IsUtf8-append (32 ∷ []) (replicate n 32) (IsUtf8-are_ascii _ refl) (spaces_utf8 n)

line_utf8 : (depth : ℕ) → IsUtf8 (line depth)
line_utf8 depth = IsUtf8-append (10 ∷ []) (replicate (2 * depth) 32) (IsUtf8-are_ascii _ refl) (spaces_utf8 (2 * depth))

gap_utf8 : (l : Last) (opens : Bool) (depth : ℕ) → IsUtf8 (gap l opens depth)
gap_utf8 nothing opens depth = IsUtf8-nil
gap_utf8 bracket true depth = line_utf8 depth
gap_utf8 bracket false depth = IsUtf8-nil
gap_utf8 name opens depth = IsUtf8-are_ascii _ refl
gap_utf8 ended opens depth = line_utf8 depth

pub print_utf8 : (c : Bool) (ts : List Token) → ArePlain ts → IsUtf8 (print_from c ts)
unfolding print_from
print_utf8 c [] h = IsUtf8-nil
print_utf8 c (t ∷ ts) h = IsUtf8-append _ _ (IsUtf8-separator c t) (IsUtf8-append _ _ (text_utf8 t h.0) (print_utf8 (ends t) ts h.1))

pub pretty_utf8 : (s : Last × ℕ) (ts : List Token) → ArePlain ts → IsUtf8 (pretty_from s ts)
unfolding pretty_from
pretty_utf8 s [] h = IsUtf8-nil
pretty_utf8 s (t ∷ ts) h =
    IsUtf8-append _ _ (IsUtf8-append _ _ (IsUtf8-separator (is_value s.0) t) (IsUtf8-append _ _ (gap_utf8 s.0 (begins t) (depth_at s.1 t)) (text_utf8 t h.0))) (pretty_utf8 (step s t) ts h.1)

pub line_feed_utf8 : IsUtf8 (10 ∷ [])
line_feed_utf8 = IsUtf8-are_ascii _ refl

pub ArePlain-append : (ts us : List Token) → ArePlain ts → ArePlain us → ArePlain (ts ++ us)
ArePlain-append [] us h k = k
ArePlain-append (t ∷ ts) us h k = (h.0, ArePlain-append ts us h.1 k)
