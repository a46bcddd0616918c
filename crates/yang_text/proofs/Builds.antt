-- One token of a statement.
use Rattle.std.proofs.Common.{◌≡◌, ◌≤◌, ◌<◌, ◌+◌, ◌-◌, ℕ, List, [], ◌∷◌, ◌++◌, length, take, drop, slice_range, get_or, refl, sym, ap, ◌∙◌, arith}
use Rattle.std.proofs.lemmas.List.{take_more, get_or-drop, length-drop}
use Rattle.yang_text.specs.Building.{Level, Progress, build, step_by, sign_by, next_start, progress}
use Rattle.yang_text.specs.declared.building.Reader.{Reader}
use Rattle.yang_text.specs.declared.lexing.Kind.{Kind}
use Rattle.yang_text.specs.declared.lexing.Kind.TheVariants.{Word, Single, Double, Semicolon, Open, Close, Bad}
use Rattle.yang_text.specs.declared.lexing.Token.{Token}
use Rattle.yang_text.specs.Declarations.{Declaration}

abbrev with_head : Progress → List Token → Progress
with_head p head = record { current = p.current; outer = p.outer; head = head }

abbrev head_by : Kind → List Token → Token → List Token
head_by Semicolon head t = []
head_by Open head t = []
head_by Close head t = []
head_by Word head t = head ++ t ∷ []
head_by Single head t = head ++ t ∷ []
head_by Double head t = head ++ t ∷ []
head_by Bad head t = head ++ t ∷ []

step_is : (text : List ℕ) (kind : Kind) (t : Token) (current : List Declaration) (outer : List Level) (head : List Token)
    → step_by text kind t (record { current = current; outer = outer; head = head }) ≡ with_head (sign_by text kind head (record { current = current; outer = outer; head = [] })) (head_by kind head t)
step_is text Word t current outer head = refl
step_is text Single t current outer head = refl
step_is text Double t current outer head = refl
step_is text Bad t current outer head = refl
step_is text Semicolon t current outer [] = refl
step_is text Semicolon t current outer (h ∷ hs) = refl
step_is text Open t current outer [] = refl
step_is text Open t current outer (h ∷ hs) = refl
step_is text Close t current [] head = refl
step_is text Close t current (l ∷ ls) head = refl

slice_none : (ts : List Token) (i : ℕ) → slice_range ts i i ≡ []
slice_none ts i = grind arith

slice_more : (ts : List Token) (start i : ℕ) (d : Token) → start ≤ i → i < length ts → slice_range ts start (i + 1) ≡ slice_range ts start i ++ get_or ts i d ∷ []
slice_more ts start i d h l =
    let n : ℕ = i - start in
    let more : i + 1 - start ≡ n + 1 = omega arith in
    let room : n < length (drop start ts) = omega (arith, length-drop start ts) in
    let at : start + n ≡ i = omega arith in
    ap (λ k. take k (drop start ts)) more
    ∙ take_more (drop start ts) n d room
    ∙ ap (λ t. take n (drop start ts) ++ t ∷ []) (get_or-drop start ts n d ∙ ap (λ k. get_or ts k d) at)

head_is : (ts : List Token) (kind : Kind) (start i : ℕ) (d : Token) → start ≤ i → i < length ts → slice_range ts (next_start start i kind) (i + 1) ≡ head_by kind (slice_range ts start i) (get_or ts i d)
head_is ts Word start i d h l = slice_more ts start i d h l
head_is ts Single start i d h l = slice_more ts start i d h l
head_is ts Double start i d h l = slice_more ts start i d h l
head_is ts Bad start i d h l = slice_more ts start i d h l
head_is ts Semicolon start i d h l = slice_none ts (i + 1)
head_is ts Open start i d h l = slice_none ts (i + 1)
head_is ts Close start i d h l = slice_none ts (i + 1)

pub start_le : (kind : Kind) (start i : ℕ) → start ≤ i → next_start start i kind ≤ i + 1
start_le Word start i h = omega arith
start_le Single start i h = omega arith
start_le Double start i h = omega arith
start_le Bad start i h = omega arith
start_le Semicolon start i h = omega arith
start_le Open start i h = omega arith
start_le Close start i h = omega arith

pub build_more : (text : List ℕ) (ts : List Token) (start i : ℕ) (d : Token) (old new : Reader) (whole : Progress) → start ≤ i → i < length ts
    → drop i ts ≡ get_or ts i d ∷ drop (i + 1) ts
    → progress new [] ≡ sign_by text (get_or ts i d).kind (slice_range ts start i) (progress old [])
    → build text (progress old (slice_range ts start i)) (drop i ts) ≡ whole
    → build text (progress new (slice_range ts (next_start start i (get_or ts i d).kind) (i + 1))) (drop (i + 1) ts) ≡ whole
unfolding build
build_more text ts start i d old new whole h l split read so_far =
    let t : Token = get_or ts i d in
    let hs : List Token = slice_range ts start i in
    ap (λ p. build text (with_head p (slice_range ts (next_start start i t.kind) (i + 1))) (drop (i + 1) ts)) read
    ∙ ap (λ hs'. build text (with_head (sign_by text t.kind hs (progress old [])) hs') (drop (i + 1) ts)) (head_is ts t.kind start i d h l)
    ∙ ap (λ p. build text p (drop (i + 1) ts)) (sym (step_is text t.kind t (progress old []).current (progress old []).outer hs))
    ∙ ap (λ us. build text (progress old hs) us) (sym split)
    ∙ so_far

pub build_end : (text : List ℕ) (p : Progress) (ts : List Token) → ts ≡ [] → build text p ts ≡ p
unfolding build
build_end text p ts e = ap (λ us. build text p us) e
