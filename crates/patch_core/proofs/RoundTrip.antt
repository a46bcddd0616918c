-- `tokens` and `pointer` undo each other.
use Rattle.std.proofs.Common.{◌≡◌, ◌∷◌, ◌++◌, ℕ, List, [], Option, Some, None, Bool, true, false, cond, eqb, map, length, refl, sym, ap, ◌∙◌, append_assoc, append-nil}
use Rattle.std.specs.List.{AllByRecursion, flat_map, onto_first}
use Rattle.std.proofs.lemmas.Bool.{eqb-false, eqb-true, ne_eqb}
use Rattle.conf_doc.specs.Pointer.{pointer, escaped}
use Rattle.patch_core.specs.Operation.{Tokens}
use Rattle.patch_core.specs.Tokens.{in_front, token_of, tokens_of_parts, parts_of, tokens, or_malformed, pointer_fault}
use Rattle.patch_core.specs.declared.errors.PointerError.{PointerError}
use Rattle.patch_core.specs.declared.errors.PointerError.TheVariants.{Malformed, Memory}
use Rattle.host_core.specs.Answers.{FailsAs}
use Rattle.patch_core.proofs.Escapes.{plain_byte, head_of, none_of}

-- ---- from tokens to text and back

abbrev code : Bool → Bool → ℕ → List ℕ
code is_tilde is_slash b = cond is_tilde (126 ∷ 48 ∷ []) (cond is_slash (126 ∷ 49 ∷ []) (b ∷ []))

unescaped-code : (x y : Bool) (b : ℕ) (bs ds : List ℕ) → eqb b 126 ≡ x → eqb b 47 ≡ y → token_of bs ≡ Some ds → token_of (code x y b ++ bs) ≡ Some (b ∷ ds)
unescaped-code true y b bs ds is_tilde is_slash rest = rw (rest, eqb-true b 126 is_tilde)
unescaped-code false true b bs ds is_tilde is_slash rest = rw (rest, eqb-true b 47 is_slash)
unescaped-code false false b bs ds is_tilde is_slash rest = plain_byte b bs (eqb-false b 126 is_tilde) ∙ ap (in_front b) rest

unescaped-escaped : (token : List ℕ) → token_of (escaped token) ≡ Some token
unescaped-escaped [] = refl
unescaped-escaped (b ∷ bs) = unescaped-code _ _ b (escaped bs) bs refl refl (unescaped-escaped bs)

all_unescaped-escaped : (ts : Tokens) → tokens_of_parts (map escaped ts) ≡ Some ts
all_unescaped-escaped [] = refl
all_unescaped-escaped (t ∷ ts) = rw (unescaped-escaped t, all_unescaped-escaped ts)

parts_of-byte : (b : ℕ) (bs part : List ℕ) (parts : List (List ℕ)) → eqb b 47 ≡ false → parts_of bs ≡ part ∷ parts → parts_of (b ∷ bs) ≡ (b ∷ part) ∷ parts
parts_of-byte b bs part parts other rest = rw (other, rest)

parts_of-code : (x y : Bool) (b : ℕ) (bs part : List ℕ) (parts : List (List ℕ)) → eqb b 47 ≡ y → parts_of bs ≡ part ∷ parts → parts_of (code x y b ++ bs) ≡ (code x y b ++ part) ∷ parts
parts_of-code true y b bs part parts is_slash rest = rw rest
parts_of-code false true b bs part parts is_slash rest = rw rest
parts_of-code false false b bs part parts is_slash rest = parts_of-byte b bs part parts is_slash rest

parts_of-escaped : (token rest part : List ℕ) (parts : List (List ℕ)) → parts_of rest ≡ part ∷ parts → parts_of (escaped token ++ rest) ≡ (escaped token ++ part) ∷ parts
parts_of-escaped [] rest part parts h = h
parts_of-escaped (b ∷ bs) rest part parts h =
    ap parts_of (append_assoc (code (eqb b 126) (eqb b 47) b) (escaped bs) rest)
    ∙ parts_of-code _ _ b (escaped bs ++ rest) (escaped bs ++ part) parts refl (parts_of-escaped bs rest part parts h)
    ∙ ap (λ p. p ∷ parts) (sym (append_assoc (code (eqb b 126) (eqb b 47) b) (escaped bs) part))

parts_of-pointer : (token : List ℕ) (ts : Tokens) → parts_of (escaped token ++ pointer ts) ≡ escaped token ∷ map escaped ts
parts_of-pointer token [] = parts_of-escaped token [] [] [] refl ∙ ap (λ p. p ∷ []) (append-nil (escaped token))
parts_of-pointer token (t ∷ ts) =
    parts_of-escaped token (47 ∷ (escaped t ++ pointer ts)) [] (escaped t ∷ map escaped ts) (ap (λ ps. [] ∷ ps) (parts_of-pointer t ts))
    ∙ ap (λ p. p ∷ escaped t ∷ map escaped ts) (append-nil (escaped token))

pub tokens-pointer : (ts : Tokens) → tokens (pointer ts) ≡ Some ts
tokens-pointer [] = refl
tokens-pointer (t ∷ ts) = ap tokens_of_parts (parts_of-pointer t ts) ∙ all_unescaped-escaped (t ∷ ts)

-- ---- from text to tokens and back

abbrev HasNoSlash : List ℕ → Type 0
HasNoSlash part = AllByRecursion (λ b. eqb b 47 ≡ false) part

onto_first-plain : (b : ℕ) (parts : List (List ℕ)) → eqb b 47 ≡ false → AllByRecursion HasNoSlash parts → AllByRecursion HasNoSlash (onto_first b parts)
onto_first-plain b [] other h = ((other, tt), tt)
onto_first-plain b (part ∷ parts) other h = ((other, h.0), h.1)

plain_at : (x : Bool) (b : ℕ) (parts : List (List ℕ)) → eqb b 47 ≡ x → AllByRecursion HasNoSlash parts → AllByRecursion HasNoSlash (cond x ([] ∷ parts) (onto_first b parts))
plain_at true b parts is h = (tt, h)
plain_at false b parts is h = onto_first-plain b parts is h

parts_of-plain : (bs : List ℕ) → AllByRecursion HasNoSlash (parts_of bs)
parts_of-plain [] = (tt, tt)
parts_of-plain (b ∷ bs) = plain_at _ b (parts_of bs) refl (parts_of-plain bs)

-- each part in_front a slash
abbrev slashed : List (List ℕ) → List ℕ
slashed parts = flat_map (λ part. 47 ∷ part) parts

onto_first-joined : (b : ℕ) (bs : List ℕ) (parts : List (List ℕ)) → 47 ∷ bs ≡ slashed parts → 47 ∷ b ∷ bs ≡ slashed (onto_first b parts)
onto_first-joined b bs [] h = absurd (cc)
onto_first-joined b bs (part ∷ parts) h = let e : bs ≡ part ++ slashed parts = cc in rw e

joined_at : (x : Bool) (b : ℕ) (bs : List ℕ) (parts : List (List ℕ)) → eqb b 47 ≡ x → 47 ∷ bs ≡ slashed parts → 47 ∷ b ∷ bs ≡ slashed (cond x ([] ∷ parts) (onto_first b parts))
joined_at true b bs parts is h = rw (eqb-true b 47 is) (ap (λ ds. 47 ∷ ds) h)
joined_at false b bs parts is h = onto_first-joined b bs parts h

joined : (bs : List ℕ) → 47 ∷ bs ≡ slashed (parts_of bs)
joined [] = refl
joined (b ∷ bs) = joined_at _ b bs (parts_of bs) refl (joined bs)

behind-some : (b : ℕ) (o : Option (List ℕ)) (t : List ℕ) → in_front b o ≡ Some t → (u : List ℕ) × (o ≡ Some u) × (t ≡ b ∷ u)
behind-some b None t h = absurd (cc)
behind-some b (Some u) t h = (u, refl, cc)

escaped-one : (x : Bool) (b : ℕ) (t : List ℕ) → eqb b 126 ≡ x → eqb b 47 ≡ false → cond x None (Some (b ∷ [])) ≡ Some t → b ∷ [] ≡ escaped t
escaped-one true b t is plain h = absurd (cc)
escaped-one false b t is plain h = let e : t ≡ b ∷ [] = cc in rw (e, is, plain)

escaped-more : (x y z : Bool) (b c : ℕ) (bs t : List ℕ) → eqb b 126 ≡ x → eqb c 48 ≡ y → eqb c 49 ≡ z → eqb b 47 ≡ false
    → ((u : List ℕ) → token_of bs ≡ Some u → bs ≡ escaped u) → ((u : List ℕ) → token_of (c ∷ bs) ≡ Some u → c ∷ bs ≡ escaped u)
    → cond x (cond y (in_front 126 (token_of bs)) (cond z (in_front 47 (token_of bs)) None)) (in_front b (token_of (c ∷ bs))) ≡ Some t → b ∷ c ∷ bs ≡ escaped t
escaped-more true true z b c bs t is_tilde is_0 is_1 plain ih ih' h =
    let u = behind-some 126 (token_of bs) t h in
    rw (u.2, eqb-true b 126 is_tilde, eqb-true c 48 is_0) (ap (λ ds. 126 ∷ 48 ∷ ds) (ih u.0 u.1))
escaped-more true false true b c bs t is_tilde is_0 is_1 plain ih ih' h =
    let u = behind-some 47 (token_of bs) t h in
    rw (u.2, eqb-true b 126 is_tilde, eqb-true c 49 is_1) (ap (λ ds. 126 ∷ 49 ∷ ds) (ih u.0 u.1))
escaped-more true false false b c bs t is_tilde is_0 is_1 plain ih ih' h = absurd (cc)
escaped-more false y z b c bs t is_tilde is_0 is_1 plain ih ih' h =
    let u = behind-some b (token_of (c ∷ bs)) t h in
    rw (u.2, is_tilde, plain) (ap (λ ds. b ∷ ds) (ih' u.0 u.1))

escaped-unescaped : (bs : List ℕ) → HasNoSlash bs → (t : List ℕ) → token_of bs ≡ Some t → bs ≡ escaped t
escaped-unescaped [] plain t h = let e : t ≡ [] = cc in rw e
escaped-unescaped (b ∷ []) plain t h = escaped-one _ b t refl plain.0 h
escaped-unescaped (b ∷ c ∷ bs) plain t h =
    escaped-more _ _ _ b c bs t refl refl refl plain.0 (escaped-unescaped bs plain.1.1) (escaped-unescaped (c ∷ bs) plain.1) h

slashed-escaped : (parts : List (List ℕ)) (ts : Tokens) → AllByRecursion HasNoSlash parts → tokens_of_parts parts ≡ Some ts → slashed parts ≡ pointer ts
slashed-escaped [] ts plain h = let e : ts ≡ [] = cc in rw e
slashed-escaped (part ∷ parts) ts plain h =
    let head = head_of (token_of part) (tokens_of_parts parts) ts h in
    ap (λ p. 47 ∷ (p ++ slashed parts)) (escaped-unescaped part plain.0 head.0 head.2)
    ∙ ap (λ text. 47 ∷ (escaped head.0 ++ text)) (slashed-escaped parts head.1 plain.1 head.3) ∙ ap pointer (sym head.4)

pointer-tokens_at : (x : Bool) (b : ℕ) (bs : List ℕ) (ts : Tokens) → eqb b 47 ≡ x → cond x (tokens_of_parts (parts_of bs)) None ≡ Some ts → b ∷ bs ≡ pointer ts
pointer-tokens_at true b bs ts is h = rw (eqb-true b 47 is) (joined bs ∙ slashed-escaped (parts_of bs) ts (parts_of-plain bs) h)
pointer-tokens_at false b bs ts is h = absurd (cc)

pub pointer-tokens : (text : List ℕ) (ts : Tokens) → tokens text ≡ Some ts → text ≡ pointer ts
pointer-tokens [] ts h = let e : ts ≡ [] = cc in rw e
pointer-tokens (b ∷ bs) ts h = pointer-tokens_at _ b bs ts refl h

-- ---- what a text without a leading slash is

pub tokens-none : (text : List ℕ) → (length text ≡ 0 → ⊥) → ((rest : List ℕ) → text ≡ 47 ∷ rest → ⊥) → tokens text ≡ None
tokens-none [] some no_slash = absurd (some refl)
tokens-none (b ∷ bs) some no_slash = rw (ne_eqb b 47 (λ e. no_slash bs (ap (λ d. d ∷ bs) e)))

pub pointer-none : (text : List ℕ) → tokens text ≡ None → (ts : Tokens) → text ≡ pointer ts → ⊥
pointer-none text none ts is = let some : tokens text ≡ Some ts = ap tokens is ∙ tokens-pointer ts in absurd (cc)

-- ---- a text in_front its first slash

pub tokens-slash : (text rest : List ℕ) → text ≡ 47 ∷ rest → tokens text ≡ tokens_of_parts (parts_of rest)
tokens-slash text rest is = rw is

pub malformed_below : (e : PointerError) (text rest : List ℕ) → text ≡ 47 ∷ rest → FailsAs (pointer_fault e) (or_malformed (tokens_of_parts (parts_of rest))) → e ≡ Malformed → tokens text ≡ None
malformed_below Malformed text rest is h same = tokens-slash text rest is ∙ none_of (tokens_of_parts (parts_of rest)) h
malformed_below Memory text rest is h same = absurd (cc)
