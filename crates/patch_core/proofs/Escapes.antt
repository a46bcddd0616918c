-- A part of a pointer's text, from its front to its end.
use Rattle.std.proofs.Common.{◌≡◌, ◌∷◌, ◌++◌, ℕ, zero, suc, ◌<◌, List, [], length, get_or, Option, Some, None, option_map, option_and_then, Ok, Err, refl, sym, ap, ◌∙◌, arith, append_assoc}
use Rattle.std.proofs.lemmas.Bool.{ne_eqb}
use Rattle.host_core.specs.Answers.{FailsAs}
use Rattle.patch_core.specs.Escapes.{Escapes}
use Rattle.patch_core.specs.Tokens.{token_of, tokens_of_parts, in_front, or_malformed, pointer_fault}
use Rattle.patch_core.specs.declared.errors.PointerError.{PointerError}
use Rattle.patch_core.specs.declared.errors.PointerError.TheVariants.{Malformed, Memory}

-- no byte of these is one
abbrev pub Lacks : ℕ → List ℕ → Type 0
Lacks b xs = (i : ℕ) → i < length xs → get_or xs i 0 ≡ b → ⊥

Lacks-tail : (b x : ℕ) (xs : List ℕ) → Lacks b (x ∷ xs) → Lacks b xs
Lacks-tail b x xs h = λ i below here. h (suc i) (omega arith) here

pub option_map-append : (xs ys : List ℕ) (o : Option (List ℕ)) → option_map (λ ds. xs ++ ds) (option_map (λ ds. ys ++ ds) o) ≡ option_map (λ ds. (xs ++ ys) ++ ds) o
option_map-append xs ys None = refl
option_map-append xs ys (Some ds) = ap Some (sym (append_assoc xs ys ds))

option_map-nil : (o : Option (List ℕ)) → o ≡ option_map (λ ds. [] ++ ds) o
option_map-nil None = refl
option_map-nil (Some ds) = refl

behind-append : (b : ℕ) (xs : List ℕ) (o : Option (List ℕ)) → in_front b (option_map (λ ds. xs ++ ds) o) ≡ option_map (λ ds. (b ∷ xs) ++ ds) o
behind-append b xs None = refl
behind-append b xs (Some ds) = refl

-- ---- one character

pub plain_byte : (b : ℕ) (bs : List ℕ) → (b ≡ 126 → ⊥) → token_of (b ∷ bs) ≡ in_front b (token_of bs)
plain_byte b [] other = rw (ne_eqb b 126 other)
plain_byte b (c ∷ bs) other = rw (ne_eqb b 126 other)

pub plain_front : (xs ys : List ℕ) → Lacks 126 xs → token_of (xs ++ ys) ≡ option_map (λ ds. xs ++ ds) (token_of ys)
plain_front [] ys lacks = option_map-nil (token_of ys)
plain_front (x ∷ xs) ys lacks =
    plain_byte x (xs ++ ys) (lacks 0 (omega arith)) ∙ ap (in_front x) (plain_front xs ys (Lacks-tail 126 x xs lacks)) ∙ behind-append x xs (token_of ys)

pub escaped_none : (bs : List ℕ) → ((after : List ℕ) → bs ≡ 48 ∷ after → ⊥) → ((after : List ℕ) → bs ≡ 49 ∷ after → ⊥) → token_of (126 ∷ bs) ≡ None
escaped_none [] no_0 no_1 = refl
escaped_none (c ∷ cs) no_0 no_1 =
    rw (ne_eqb c 48 (λ e. no_0 cs (ap (λ d. d ∷ cs) e)), ne_eqb c 49 (λ e. no_1 cs (ap (λ d. d ∷ cs) e)))

pub escapes_tilde : (behind after old new : List ℕ) → behind ≡ 48 ∷ after → new ≡ old ++ (126 ∷ []) → Escapes behind after old new
escapes_tilde behind after old new starts gained = (126 ∷ [], gained, rw starts refl)

pub escapes_slash : (behind after old new : List ℕ) → behind ≡ 49 ∷ after → new ≡ old ++ (47 ∷ []) → Escapes behind after old new
escapes_slash behind after old new starts gained = (47 ∷ [], gained, rw starts refl)

pub shorter_behind : (c : ℕ) (behind after : List ℕ) → behind ≡ c ∷ after → length after < length behind
shorter_behind c behind after starts = omega (arith, ap length starts)

-- ---- a part, so far as it is read

-- front is what was made of the part before rest
pub record IsReadUpTo (part front rest : List ℕ) : Type 0 where
  pub reads : token_of part ≡ option_map (λ ds. front ++ ds) (token_of rest)

pub IsReadUpTo-start : (part : List ℕ) → IsReadUpTo part [] part
IsReadUpTo-start part = record { reads = option_map-nil (token_of part) }

-- a `~` with plain bytes before it
pub IsReadUpTo-next : (part front rest plain tail code after : List ℕ) → IsReadUpTo part front rest → rest ≡ plain ++ (126 ∷ tail) → Lacks 126 plain
    → token_of (126 ∷ tail) ≡ option_map (λ ds. code ++ ds) (token_of after) → IsReadUpTo part ((front ++ plain) ++ code) after
IsReadUpTo-next part front rest plain tail code after so_far is lacks next = record {
  reads =
      so_far.reads ∙ ap (λ r. option_map (λ ds. front ++ ds) (token_of r)) is
      ∙ ap (option_map (λ ds. front ++ ds)) (plain_front plain (126 ∷ tail) lacks ∙ ap (option_map (λ ds. plain ++ ds)) next)
      ∙ option_map-append front plain _ ∙ option_map-append (front ++ plain) code _;
}

pub IsReadUpTo-none : (part front rest plain tail : List ℕ) → IsReadUpTo part front rest → rest ≡ plain ++ (126 ∷ tail) → Lacks 126 plain → token_of (126 ∷ tail) ≡ None → token_of part ≡ None
IsReadUpTo-none part front rest plain tail so_far is lacks none =
    so_far.reads ∙ ap (λ r. option_map (λ ds. front ++ ds) (token_of r)) is
    ∙ ap (option_map (λ ds. front ++ ds)) (plain_front plain (126 ∷ tail) lacks ∙ ap (option_map (λ ds. plain ++ ds)) none)

pub fails_at : (e : PointerError) (part front rest plain tail : List ℕ) → IsReadUpTo part front rest → rest ≡ plain ++ (126 ∷ tail) → Lacks 126 plain
    → (e ≡ Malformed → token_of (126 ∷ tail) ≡ None) → FailsAs (pointer_fault e) (or_malformed (token_of part))
fails_at Malformed part front rest plain tail so_far is lacks none = ap or_malformed (IsReadUpTo-none part front rest plain tail so_far is lacks (none refl))
fails_at Memory part front rest plain tail so_far is lacks none = tt

unescaped_plain : (xs : List ℕ) → Lacks 126 xs → token_of xs ≡ Some xs
unescaped_plain [] lacks = refl
unescaped_plain (x ∷ xs) lacks = plain_byte x xs (lacks 0 (omega arith)) ∙ ap (in_front x) (unescaped_plain xs (Lacks-tail 126 x xs lacks))

pub IsReadUpTo-end : (part front rest : List ℕ) → IsReadUpTo part front rest → Lacks 126 rest → token_of part ≡ Some (front ++ rest)
IsReadUpTo-end part front rest so_far lacks = so_far.reads ∙ ap (option_map (λ ds. front ++ ds)) (unescaped_plain rest lacks)

-- ---- all parts

all_unescaped-at : (o : Option (List ℕ)) (parts : List (List ℕ)) (t : List ℕ) (ts : List (List ℕ)) → tokens_of_parts parts ≡ Some ts → o ≡ Some t
    → option_and_then (λ token. option_map (λ more. token ∷ more) (tokens_of_parts parts)) o ≡ Some (t ∷ ts)
all_unescaped-at o parts t ts rest here = rw (rest, here)

pub head_of : (o : Option (List ℕ)) (rest : Option (List (List ℕ))) (ts : List (List ℕ)) → option_and_then (λ token. option_map (λ more. token ∷ more) rest) o ≡ Some ts
    → (t : List ℕ) × (more : List (List ℕ)) × (o ≡ Some t) × (rest ≡ Some more) × (ts ≡ t ∷ more)
head_of None rest ts h = absurd (cc)
head_of (Some t) None ts h = absurd (cc)
head_of (Some t) (Some more) ts h = (t, more, refl, refl, cc)

-- one more part
pub all_unescaped-push : (parts : List (List ℕ)) (part : List ℕ) (ts : List (List ℕ)) (t : List ℕ) → tokens_of_parts parts ≡ Some ts → token_of part ≡ Some t
    → tokens_of_parts (parts ++ part ∷ []) ≡ Some (ts ++ t ∷ [])
all_unescaped-push [] part ts t so_far here =
    let none : ts ≡ [] = cc in
    rw (here, none)
all_unescaped-push (first ∷ parts) part ts t so_far here =
    let head = head_of (token_of first) (tokens_of_parts parts) ts so_far in
    rw (head.4) (all_unescaped-at (token_of first) (parts ++ part ∷ []) head.0 (head.1 ++ t ∷ []) (all_unescaped-push parts part head.1 t head.3 here) head.2)

rest_none : (o : Option (List ℕ)) → option_and_then {T = List ℕ} {U = List (List ℕ)} (λ token. None) o ≡ None
rest_none None = refl
rest_none (Some t) = refl

-- a part that spells no token
pub all_unescaped-none : (parts : List (List ℕ)) (n : ℕ) (part : List ℕ) → n < length parts → part ≡ get_or parts n part → token_of part ≡ None → tokens_of_parts parts ≡ None
all_unescaped-none [] n part below here none = absurd (omega arith)
all_unescaped-none (first ∷ parts) zero part below here none = rw (sym here ∙ refl, none)
all_unescaped-none (first ∷ parts) (suc n) part below here none = rw (all_unescaped-none parts n part (omega arith) here none) (rest_none (token_of first))

pub or_malformed_ok : {A : Type 0} (o : Option A) (a : A) → or_malformed o ≡ Ok a → o ≡ Some a
or_malformed_ok None a h = absurd (cc)
or_malformed_ok (Some b) a h = cc

pub none_of : {A : Type 0} (o : Option A) → or_malformed o ≡ Err Malformed → o ≡ None
none_of None h = refl
none_of (Some b) h = absurd (cc)

-- a part that is read as nothing fails the whole
pub fails_with : (e : PointerError) (parts : List (List ℕ)) (n : ℕ) (part : List ℕ) → n < length parts → part ≡ get_or parts n part
    → FailsAs (pointer_fault e) (or_malformed (token_of part)) → FailsAs (pointer_fault e) (or_malformed (tokens_of_parts parts))
fails_with Malformed parts n part below here h = ap or_malformed (all_unescaped-none parts n part below here (none_of (token_of part) h))
fails_with Memory parts n part below here h = tt
