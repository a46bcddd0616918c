-- Tokens without faults spell what is built of them.
use Rattle.std.proofs.Common.{◌≡◌, ◌<◌, ◌+◌, ◌-◌, ◌⊎◌, ℕ, suc, Bool, true, false, cond, List, [], ◌∷◌, ◌++◌, length, Option, Some, None, Ok, option_to_list, refl, sym, subst, ap, ◌∙◌, append_assoc, arith, nat_eq, nat_lt, inl, inr}
use Rattle.std.proofs.lemmas.Bool.Decides.{nat_tests}
use Rattle.std.proofs.lemmas.List.{append-nil, nil_from_length}
use Rattle.yang_text.specs.Building.{Level, Progress, nothing, build, step_by, joined_by, join, argument_of, statement_of, with_block, finish}
use Rattle.yang_text.specs.Bytes.{is_keyword}
use Rattle.yang_text.specs.Declarations.{Declaration, block_of}
use Rattle.yang_text.specs.Faults.{faults_from, fault_at, refusal, phase_after, depth_after, class_of, class_by, begins_with_plus}
use Rattle.yang_text.specs.Grammar.{IsQuoted, AreParts, AreMoreParts, IsArgument, IsName, IsStatement, AreStatements}
use Rattle.yang_text.specs.Limits.{most_open}
use Rattle.yang_text.specs.Texts.{bytes_of, content, content_by}
use Rattle.yang_text.specs.declared.errors.ModelWhy.{ModelWhy}
use Rattle.yang_text.specs.declared.errors.ModelWhy.TheVariants.{TooDeep}
use Rattle.yang_text.specs.declared.faults.Class.{Class}
use Rattle.yang_text.specs.declared.faults.Class.TheVariants as classes
use Rattle.yang_text.specs.declared.faults.Fault.{Fault}
use Rattle.yang_text.specs.declared.faults.Phase.{Phase}
use Rattle.yang_text.specs.declared.faults.Phase.TheVariants.{Due, Named, Plain, Quoted, Joining}
use Rattle.yang_text.specs.declared.lexing.Kind.{Kind}
use Rattle.yang_text.specs.declared.lexing.Kind.TheVariants.{Word, Single, Double, Semicolon, Open, Close, Bad}
use Rattle.yang_text.specs.declared.lexing.Token.{Token}
use Rattle.std.specs.List.{AllByRecursion}
use Rattle.host_core.specs.Characters.{plus}
use Rattle.yang_text.proofs.Spellings.{with_head}
use Rattle.yang_text.proofs.TextPieces.{IsSound}

-- what a token of that class is
IsSort : List ℕ → Token → Class → Type 0
IsSort text t classes.Name = (t.kind ≡ Word) × (is_keyword (bytes_of text t) ≡ true)
IsSort text t classes.Plus = (t.kind ≡ Word) × (bytes_of text t ≡ plus ∷ [])
IsSort text t classes.Sum = t.kind ≡ Word
IsSort text t classes.Text = t.kind ≡ Word
IsSort text t classes.Quote = (t.kind ≡ Single) ⊎ (t.kind ≡ Double)
IsSort text t classes.Semicolon = t.kind ≡ Semicolon
IsSort text t classes.Open = t.kind ≡ Open
IsSort text t classes.Close = t.kind ≡ Close
IsSort text t classes.Bad = t.kind ≡ Bad

plus_word : (w : List ℕ) → begins_with_plus w ≡ true → nat_eq (length w) 1 ≡ true → w ≡ plus ∷ []
plus_word [] h k = absurd (cc)
plus_word (b ∷ bs) h k =
    let first : b ≡ 43 = grind (arith, nat_tests, h) in
    let alone : length bs ≡ 0 = grind (arith, nat_tests, k) in
    ap (λ x. x ∷ bs) first ∙ ap (λ xs. 43 ∷ xs) (nil_from_length bs alone)

word_sort : (text : List ℕ) (t : Token) (x y z : Bool) → t.kind ≡ Word → is_keyword (bytes_of text t) ≡ x → begins_with_plus (bytes_of text t) ≡ y → nat_eq (length (bytes_of text t)) 1 ≡ z
    → IsSort text t (cond x classes.Name (cond y (cond z classes.Plus classes.Sum) classes.Text))
unfolding IsSort
word_sort text t true y z k a b c = (k, a)
word_sort text t false true true k a b c = (k, plus_word (bytes_of text t) b c)
word_sort text t false true false k a b c = k
word_sort text t false false z k a b c = k

kind_sort : (text : List ℕ) (t : Token) (k : Kind) → t.kind ≡ k → IsSort text t (class_by k (bytes_of text t))
unfolding IsSort
kind_sort text t Word e = word_sort text t _ _ _ e refl refl refl
kind_sort text t Single e = inl e
kind_sort text t Double e = inr e
kind_sort text t Semicolon e = e
kind_sort text t Open e = e
kind_sort text t Close e = e
kind_sort text t Bad e = e

sort_of : (text : List ℕ) (t : Token) → IsSort text t (class_of text t)
sort_of text t = kind_sort text t t.kind refl

quiet_parts : (o : Option ModelWhy) (line : ℕ) (fs : List Fault) → option_to_list (fault_at line o) ++ fs ≡ [] → (o ≡ None) × (fs ≡ [])
quiet_parts None line fs e = (refl, e)
quiet_parts (Some w) line fs e = absurd (cc)

quiet_first : (text : List ℕ) (phase : Phase) (depth : ℕ) (t : Token) (ts : List Token) → faults_from text phase depth (t ∷ ts) ≡ []
    → (refusal phase depth (class_of text t) ≡ None) × (faults_from text (phase_after phase (class_of text t)) (depth_after depth (class_of text t)) ts ≡ [])
unfolding faults_from
quiet_first text phase depth t ts e = quiet_parts (refusal phase depth (class_of text t)) t.line _ e

refused : (w : ModelWhy) → Some w ≡ None → ⊥
refused w e = cc

built_at : (text : List ℕ) (p : Progress) (t : Token) (ts : List Token) (r : List Declaration) (k : Kind) → t.kind ≡ k → finish (build text p (t ∷ ts)) ≡ Ok r → finish (build text (step_by text k t p) ts) ≡ Ok r
unfolding build
built_at text p t ts r k e h = ap (λ x. finish (build text (step_by text x t p) ts)) (sym e) ∙ h

-- the rest of the open blocks, from the inside
Completes : List ℕ → List Level → List Declaration → List Token → List Declaration → Type 0
Completes text [] current ts r = (b : List Declaration) × AreStatements text 0 (block_of b) ts × (r ≡ current ++ b)
Completes text (l ∷ ls) current ts r =
    (b : List Declaration) × (inner rest : List Token) × (closing : Token) × (ts ≡ inner ++ closing ∷ rest) × (closing.kind ≡ Close)
    × AreStatements text (length ls + 1) (block_of b) inner × Completes text ls (l.before ++ with_block l.statement (current ++ b) ∷ []) rest r

-- a semicolon or a block, and the rest
Ends : List ℕ → List Level → List Declaration → Token → List Token → List Token → List Declaration → Type 0
Ends text outer current t args ts r =
    ((end : Token) × (rest : List Token) × (ts ≡ end ∷ rest) × (end.kind ≡ Semicolon) × Completes text outer (current ++ statement_of text t args [] ∷ []) rest r)
    ⊎ ((opening : Token) × (rest : List Token) × (ts ≡ opening ∷ rest) × (opening.kind ≡ Open) × (length outer < most_open)
    × Completes text (record { before = current; statement = statement_of text t args [] } ∷ outer) [] rest r)

-- what may follow of an argument
GoesOn : List ℕ → Phase → List Token → Type 0
GoesOn text Due others = ⊥
GoesOn text Named others = IsArgument text (argument_of text others) others
GoesOn text Plain others = others ≡ []
GoesOn text Quoted others = AreMoreParts text (join text others) others
GoesOn text Joining others = AreParts text (join text others) others

Mid : List ℕ → Phase → List Level → List Declaration → Token → List Token → List Token → List Declaration → Type 0
Mid text phase outer current t args ts r = (others rest : List Token) × (ts ≡ others ++ rest) × GoesOn text phase others × Ends text outer current t (args ++ others) rest r

extend : (text : List ℕ) (phase next : Phase) (outer : List Level) (current : List Declaration) (t u : Token) (args ts : List Token) (r : List Declaration)
    → Mid text next outer current t (args ++ u ∷ []) ts r → ((others : List Token) → GoesOn text next others → GoesOn text phase (u ∷ others)) → Mid text phase outer current t args (u ∷ ts) r
unfolding Mid
extend text phase next outer current t u args ts r (others, rest, e, goes, ends) f =
    (u ∷ others, rest, ap (λ us. u ∷ us) e, f others goes, subst (λ xs. Ends text outer current t xs rest r) (append_assoc args (u ∷ []) others) ends)

stop : (text : List ℕ) (phase : Phase) (outer : List Level) (current : List Declaration) (t : Token) (args ts : List Token) (r : List Declaration)
    → GoesOn text phase [] → Ends text outer current t args ts r → Mid text phase outer current t args ts r
unfolding Mid
stop text phase outer current t args ts r goes ends = ([], ts, refl, goes, subst (λ xs. Ends text outer current t xs ts r) (sym (append-nil args)) ends)

-- the argument of one word, of quoted parts, and of more of them
one_word : (text : List ℕ) (u : Token) (others : List Token) → u.kind ≡ Word → GoesOn text Plain others → GoesOn text Named (u ∷ others)
unfolding GoesOn
one_word text u others k e =
    inl (u, ap (λ us. u ∷ us) e, record { kind = k; word_is = sym (ap (λ us. content text u ++ join text us) e ∙ append-nil (content text u) ∙ ap (λ x. content_by x (bytes_of text u)) k) })

quoted : (text : List ℕ) (u : Token) → (u.kind ≡ Single) ⊎ (u.kind ≡ Double) → IsQuoted text u (content text u)
quoted text u q = record { kind = q; content_is = refl }

first_quote : (text : List ℕ) (u : Token) (others : List Token) → (u.kind ≡ Single) ⊎ (u.kind ≡ Double) → GoesOn text Quoted others → GoesOn text Named (u ∷ others)
unfolding GoesOn
first_quote text u others q m = inr (content text u, join text others, refl, quoted text u q, m)

joined_quote : (text : List ℕ) (u : Token) (rest : List ℕ) → (u.kind ≡ Single) ⊎ (u.kind ≡ Double) → joined_by u.kind (content text u) rest ≡ content text u ++ rest
joined_quote text u rest q =
    elim q as (λ _. joined_by u.kind (content text u) rest ≡ content text u ++ rest) [ inl e ↦ ap (λ k. joined_by k (content text u) rest) e | inr e ↦ ap (λ k. joined_by k (content text u) rest) e ]

next_quote : (text : List ℕ) (u : Token) (others : List Token) → (u.kind ≡ Single) ⊎ (u.kind ≡ Double) → GoesOn text Quoted others → GoesOn text Joining (u ∷ others)
unfolding GoesOn
next_quote text u others q m = (content text u, join text others, joined_quote text u (join text others) q, quoted text u q, m)

next_plus : (text : List ℕ) (u : Token) (others : List Token) → (u.kind ≡ Word) × (bytes_of text u ≡ plus ∷ []) → GoesOn text Joining others → GoesOn text Quoted (u ∷ others)
unfolding GoesOn
next_plus text u others h m =
    (record { kind = h.0; word_is = h.1 }, subst (λ a. AreParts text a others) (sym (ap (λ k. joined_by k (content text u) (join text others)) h.0)) m)

-- what the tokens behind this one are, by the same theorem
record Behind (text : List ℕ) (ts : List Token) (r : List Declaration) (outer : List Level) (current : List Declaration) (t : Token) : Type 0 where
  due : (levels : List Level) (ds : List Declaration) → faults_from text Due (length levels) ts ≡ [] → finish (build text (with_head ds levels []) ts) ≡ Ok r → Completes text levels ds ts r
  mid : (phase : Phase) (args : List Token) → (phase ≡ Due → ⊥) → faults_from text phase (length outer) ts ≡ [] → finish (build text (with_head current outer (t ∷ args)) ts) ≡ Ok r → Mid text phase outer current t args ts r

may_open : (depth : ℕ) (b : Bool) → nat_lt depth 32 ≡ b → cond b None (Some TooDeep) ≡ None → depth < 32
may_open depth true e h = grind (arith, nat_tests, e)
may_open depth false e h = absurd (refused TooDeep h)

ends_here : (text : List ℕ) (phase : Phase) (ts : List Token) (r : List Declaration) (outer : List Level) (current : List Declaration) (t u : Token) (args : List Token)
    → Behind text ts r outer current t → GoesOn text phase [] → u.kind ≡ Semicolon
    → faults_from text Due (length outer) ts ≡ [] → finish (build text (with_head current outer (t ∷ args)) (u ∷ ts)) ≡ Ok r → Mid text phase outer current t args (u ∷ ts) r
unfolding Ends
ends_here text phase ts r outer current t u args behind goes k quiet is =
    stop text phase outer current t args (u ∷ ts) r goes (inl (u, ts, refl, k, behind.due outer (current ++ statement_of text t args [] ∷ []) quiet (built_at text _ u ts r Semicolon k is)))

opens_here : (text : List ℕ) (phase : Phase) (ts : List Token) (r : List Declaration) (outer : List Level) (current : List Declaration) (t u : Token) (args : List Token)
    → Behind text ts r outer current t → GoesOn text phase [] → u.kind ≡ Open → cond (nat_lt (length outer) 32) None (Some TooDeep) ≡ None
    → faults_from text Due (length outer + 1) ts ≡ [] → finish (build text (with_head current outer (t ∷ args)) (u ∷ ts)) ≡ Ok r → Mid text phase outer current t args (u ∷ ts) r
unfolding Ends
opens_here text phase ts r outer current t u args behind goes k low quiet is =
    let deeper : length outer + 1 ≡ suc (length outer) = omega arith in
    stop text phase outer current t args (u ∷ ts) r goes (inr (
      u,
      ts,
      refl,
      k,
      may_open (length outer) (nat_lt (length outer) 32) refl low,
      behind.due (record { before = current; statement = statement_of text t args [] } ∷ outer) [] (ap (λ n. faults_from text Due n ts) (sym deeper) ∙ quiet) (built_at text _ u ts r Open k is),
    ))

not_named : Named ≡ Due → ⊥
not_named e = cc

not_plain : Plain ≡ Due → ⊥
not_plain e = cc

not_quoted : Quoted ≡ Due → ⊥
not_quoted e = cc

not_joining : Joining ≡ Due → ⊥
not_joining e = cc

quote_built : (text : List ℕ) (p : Progress) (t : Token) (ts : List Token) (r : List Declaration) → (t.kind ≡ Single) ⊎ (t.kind ≡ Double) → finish (build text p (t ∷ ts)) ≡ Ok r → finish (build text (step_by text Single t p) ts) ≡ Ok r
quote_built text p t ts r q h = elim q as (λ _. finish (build text (step_by text Single t p) ts) ≡ Ok r) [ inl e ↦ built_at text p t ts r Single e h | inr e ↦ built_at text p t ts r Double e h ]

-- one token of a statement behind its keyword
mid_by : (text : List ℕ) (ts : List Token) (r : List Declaration) (outer : List Level) (current : List Declaration) (t u : Token) (args : List Token) (phase : Phase) (k : Class)
    → Behind text ts r outer current t → (phase ≡ Due → ⊥) → IsSort text u k → refusal phase (length outer) k ≡ None
    → faults_from text (phase_after phase k) (depth_after (length outer) k) ts ≡ [] → finish (build text (with_head current outer (t ∷ args)) (u ∷ ts)) ≡ Ok r → Mid text phase outer current t args (u ∷ ts) r
unfolding IsSort GoesOn
mid_by text ts r outer current t u args Due classes.Name b mid s may quiet is = absurd (mid refl)
mid_by text ts r outer current t u args Due classes.Plus b mid s may quiet is = absurd (mid refl)
mid_by text ts r outer current t u args Due classes.Sum b mid s may quiet is = absurd (mid refl)
mid_by text ts r outer current t u args Due classes.Text b mid s may quiet is = absurd (mid refl)
mid_by text ts r outer current t u args Due classes.Quote b mid s may quiet is = absurd (mid refl)
mid_by text ts r outer current t u args Due classes.Semicolon b mid s may quiet is = absurd (mid refl)
mid_by text ts r outer current t u args Due classes.Open b mid s may quiet is = absurd (mid refl)
mid_by text ts r outer current t u args Due classes.Close b mid s may quiet is = absurd (mid refl)
mid_by text ts r outer current t u args Due classes.Bad b mid s may quiet is = absurd (mid refl)
mid_by text ts r outer current t u args Named classes.Name b mid s may quiet is = extend text Named Plain outer current t u args ts r (b.mid Plain (args ++ u ∷ []) not_plain quiet (built_at text _ u ts r Word s.0 is)) (λ others g. one_word text u others s.0 g)
mid_by text ts r outer current t u args Named classes.Plus b mid s may quiet is = extend text Named Plain outer current t u args ts r (b.mid Plain (args ++ u ∷ []) not_plain quiet (built_at text _ u ts r Word s.0 is)) (λ others g. one_word text u others s.0 g)
mid_by text ts r outer current t u args Named classes.Sum b mid s may quiet is = extend text Named Plain outer current t u args ts r (b.mid Plain (args ++ u ∷ []) not_plain quiet (built_at text _ u ts r Word s is)) (λ others g. one_word text u others s g)
mid_by text ts r outer current t u args Named classes.Text b mid s may quiet is = extend text Named Plain outer current t u args ts r (b.mid Plain (args ++ u ∷ []) not_plain quiet (built_at text _ u ts r Word s is)) (λ others g. one_word text u others s g)
mid_by text ts r outer current t u args Named classes.Quote b mid s may quiet is = extend text Named Quoted outer current t u args ts r (b.mid Quoted (args ++ u ∷ []) not_quoted quiet (quote_built text _ u ts r s is)) (λ others g. first_quote text u others s g)
mid_by text ts r outer current t u args Named classes.Semicolon b mid s may quiet is = ends_here text Named ts r outer current t u args b refl s quiet is
mid_by text ts r outer current t u args Named classes.Open b mid s may quiet is = opens_here text Named ts r outer current t u args b refl s may quiet is
mid_by text ts r outer current t u args Named classes.Close b mid s may quiet is = absurd (refused _ may)
mid_by text ts r outer current t u args Named classes.Bad b mid s may quiet is = absurd (refused _ may)
mid_by text ts r outer current t u args Plain classes.Name b mid s may quiet is = absurd (refused _ may)
mid_by text ts r outer current t u args Plain classes.Plus b mid s may quiet is = absurd (refused _ may)
mid_by text ts r outer current t u args Plain classes.Sum b mid s may quiet is = absurd (refused _ may)
mid_by text ts r outer current t u args Plain classes.Text b mid s may quiet is = absurd (refused _ may)
mid_by text ts r outer current t u args Plain classes.Quote b mid s may quiet is = absurd (refused _ may)
mid_by text ts r outer current t u args Plain classes.Semicolon b mid s may quiet is = ends_here text Plain ts r outer current t u args b refl s quiet is
mid_by text ts r outer current t u args Plain classes.Open b mid s may quiet is = opens_here text Plain ts r outer current t u args b refl s may quiet is
mid_by text ts r outer current t u args Plain classes.Close b mid s may quiet is = absurd (refused _ may)
mid_by text ts r outer current t u args Plain classes.Bad b mid s may quiet is = absurd (refused _ may)
mid_by text ts r outer current t u args Quoted classes.Name b mid s may quiet is = absurd (refused _ may)
mid_by text ts r outer current t u args Quoted classes.Plus b mid s may quiet is = extend text Quoted Joining outer current t u args ts r (b.mid Joining (args ++ u ∷ []) not_joining quiet (built_at text _ u ts r Word s.0 is)) (λ others g. next_plus text u others s g)
mid_by text ts r outer current t u args Quoted classes.Sum b mid s may quiet is = absurd (refused _ may)
mid_by text ts r outer current t u args Quoted classes.Text b mid s may quiet is = absurd (refused _ may)
mid_by text ts r outer current t u args Quoted classes.Quote b mid s may quiet is = absurd (refused _ may)
mid_by text ts r outer current t u args Quoted classes.Semicolon b mid s may quiet is = ends_here text Quoted ts r outer current t u args b refl s quiet is
mid_by text ts r outer current t u args Quoted classes.Open b mid s may quiet is = opens_here text Quoted ts r outer current t u args b refl s may quiet is
mid_by text ts r outer current t u args Quoted classes.Close b mid s may quiet is = absurd (refused _ may)
mid_by text ts r outer current t u args Quoted classes.Bad b mid s may quiet is = absurd (refused _ may)
mid_by text ts r outer current t u args Joining classes.Name b mid s may quiet is = absurd (refused _ may)
mid_by text ts r outer current t u args Joining classes.Plus b mid s may quiet is = absurd (refused _ may)
mid_by text ts r outer current t u args Joining classes.Sum b mid s may quiet is = absurd (refused _ may)
mid_by text ts r outer current t u args Joining classes.Text b mid s may quiet is = absurd (refused _ may)
mid_by text ts r outer current t u args Joining classes.Quote b mid s may quiet is = extend text Joining Quoted outer current t u args ts r (b.mid Quoted (args ++ u ∷ []) not_quoted quiet (quote_built text _ u ts r s is)) (λ others g. next_quote text u others s g)
mid_by text ts r outer current t u args Joining classes.Semicolon b mid s may quiet is = absurd (refused _ may)
mid_by text ts r outer current t u args Joining classes.Open b mid s may quiet is = absurd (refused _ may)
mid_by text ts r outer current t u args Joining classes.Close b mid s may quiet is = absurd (refused _ may)
mid_by text ts r outer current t u args Joining classes.Bad b mid s may quiet is = absurd (refused _ may)

-- a statement before what completes the rest
prepend : (text : List ℕ) (outer : List Level) (current : List Declaration) (d : Declaration) (xs rest : List Token) (r : List Declaration)
    → IsStatement text (length outer) d xs → Completes text outer (current ++ d ∷ []) rest r → Completes text outer current (xs ++ rest) r
unfolding Completes
prepend text [] current d xs rest r one (b, others, e) = (d ∷ b, (xs, rest, refl, one, others), e ∙ append_assoc current (d ∷ []) b)
prepend text (l ∷ ls) current d xs rest r one (b, inner, more_rest, closing, e, k, others, next) =
    let deeper : length (l ∷ ls) ≡ length ls + 1 = omega arith in (
      d ∷ b,
      xs ++ inner,
      more_rest,
      closing,
      ap (λ us. xs ++ us) e ∙ sym (append_assoc xs inner (closing ∷ more_rest)),
      k,
      (xs, inner, refl, subst (λ n. IsStatement text n d xs) deeper one, others),
      subst (λ ds. Completes text ls (l.before ++ with_block l.statement ds ∷ []) more_rest r) (append_assoc current (d ∷ []) b) next,
    )

name_of : (text : List ℕ) (t : Token) → (t.kind ≡ Word) × (is_keyword (bytes_of text t) ≡ true) → IsName text t (bytes_of text t) t.line t.start t.end
name_of text t s = record { word = record { kind = s.0; word_is = refl }; form = s.1; line_is = refl; start_is = refl; end_is = refl }

-- a keyword, its argument, and a semicolon
ended : (text : List ℕ) (depth : ℕ) (t : Token) (args : List Token) (end : Token) → (t.kind ≡ Word) × (is_keyword (bytes_of text t) ≡ true) → IsArgument text (argument_of text args) args → end.kind ≡ Semicolon
    → IsStatement text depth (statement_of text t args []) (t ∷ (args ++ end ∷ []))
ended text depth t args end s a k = (t, args, end ∷ [], refl, name_of text t s, a, inl (refl, (end, refl, k)))

-- a keyword, its argument, and a block
blocked : (text : List ℕ) (depth : ℕ) (t : Token) (args inner : List Token) (opening closing : Token) (b : List Declaration) → (t.kind ≡ Word) × (is_keyword (bytes_of text t) ≡ true) → IsArgument text (argument_of text args) args
    → opening.kind ≡ Open → closing.kind ≡ Close → depth < most_open → AreStatements text (depth + 1) (block_of b) inner
    → IsStatement text depth (with_block (statement_of text t args []) b) (t ∷ (args ++ opening ∷ (inner ++ closing ∷ [])))
blocked text depth t args inner opening closing b s a ko kc low block = (t, args, opening ∷ (inner ++ closing ∷ []), refl, name_of text t s, a, inr (opening, inner, closing, refl, ko, kc, low, block))

whole_statement : (text : List ℕ) (outer : List Level) (current : List Declaration) (t : Token) (ts : List Token) (r : List Declaration) → (t.kind ≡ Word) × (is_keyword (bytes_of text t) ≡ true)
    → Mid text Named outer current t [] ts r → Completes text outer current (t ∷ ts) r
unfolding Mid GoesOn Ends Completes
whole_statement text outer current t ts r s (args, rest, e, a, inl (end, after, e2, k, next)) =
    subst (λ us. Completes text outer current (t ∷ us) r) (append_assoc args (end ∷ []) after ∙ sym (e ∙ ap (λ us. args ++ us) e2))
    (prepend text outer current (statement_of text t args []) (t ∷ (args ++ end ∷ [])) after r (ended text (length outer) t args end s a k) next)
whole_statement text outer current t ts r s (args, rest, e, a, inr (opening, after, e2, k, low, (b, inner, last, closing, e3, kc, block, next))) =
    subst (λ us. Completes text outer current (t ∷ us) r)
    (append_assoc args (opening ∷ (inner ++ closing ∷ [])) last ∙ ap (λ us. args ++ opening ∷ us) (append_assoc inner (closing ∷ []) last ∙ sym e3) ∙ sym (e ∙ ap (λ us. args ++ us) e2))
    (prepend text outer current (with_block (statement_of text t args []) b) (t ∷ (args ++ opening ∷ (inner ++ closing ∷ []))) last r (blocked text (length outer) t args inner opening closing b s a k kc low block) next)

-- a closing brace
closes : (text : List ℕ) (l : Level) (ls : List Level) (current : List Declaration) (t : Token) (ts : List Token) (r : List Declaration) → t.kind ≡ Close
    → Completes text ls (l.before ++ with_block l.statement current ∷ []) ts r → Completes text (l ∷ ls) current (t ∷ ts) r
unfolding Completes
closes text l ls current t ts r k next =
    ([], [], ts, t, refl, k, refl, subst (λ ds. Completes text ls (l.before ++ with_block l.statement ds ∷ []) ts r) (sym (append-nil current)) next)

-- one token where a keyword is due
due_by : (text : List ℕ) (ts : List Token) (r : List Declaration) (outer : List Level) (current : List Declaration) (t : Token) (k : Class)
    → Behind text ts r outer current t → IsSort text t k → refusal Due (length outer) k ≡ None
    → faults_from text (phase_after Due k) (depth_after (length outer) k) ts ≡ [] → finish (build text (with_head current outer []) (t ∷ ts)) ≡ Ok r → Completes text outer current (t ∷ ts) r
unfolding IsSort
due_by text ts r outer current t classes.Name b s may quiet is = whole_statement text outer current t ts r s (b.mid Named [] not_named quiet (built_at text _ t ts r Word s.0 is))
due_by text ts r outer current t classes.Plus b s may quiet is = absurd (refused _ may)
due_by text ts r outer current t classes.Sum b s may quiet is = absurd (refused _ may)
due_by text ts r outer current t classes.Text b s may quiet is = absurd (refused _ may)
due_by text ts r outer current t classes.Quote b s may quiet is = absurd (refused _ may)
due_by text ts r outer current t classes.Semicolon b s may quiet is = absurd (refused _ may)
due_by text ts r outer current t classes.Open b s may quiet is = absurd (refused _ may)
due_by text ts r [] current t classes.Close b s may quiet is = absurd (refused _ may)
due_by text ts r (l ∷ ls) current t classes.Close b s may quiet is =
    let lower : length (l ∷ ls) - 1 ≡ length ls = omega arith in
    closes text l ls current t ts r s (b.due ls (l.before ++ with_block l.statement current ∷ []) (ap (λ n. faults_from text Due n ts) (sym lower) ∙ quiet) (built_at text _ t ts r Close s is))
due_by text ts r outer current t classes.Bad b s may quiet is = absurd (refused _ may)

nothing_left : (text : List ℕ) (outer : List Level) (current r : List Declaration) → finish (build text (with_head current outer []) []) ≡ Ok r → Completes text outer current [] r
unfolding Completes build
nothing_left text [] current r e = ([], refl, let same : r ≡ current = cc in same ∙ sym (append-nil current))
nothing_left text (l ∷ ls) current r e = absurd (cc)

never_ended : (text : List ℕ) (outer : List Level) (current r : List Declaration) (t : Token) (args : List Token) → finish (build text (with_head current outer (t ∷ args)) []) ≡ Ok r → ⊥
unfolding build
never_ended text outer current r t args e = cc

mutual
  sound_due : (text : List ℕ) (ts : List Token) (outer : List Level) (current r : List Declaration) → faults_from text Due (length outer) ts ≡ [] → finish (build text (with_head current outer []) ts) ≡ Ok r
      → Completes text outer current ts r
  sound_due text [] outer current r quiet is = nothing_left text outer current r is
  sound_due text (t ∷ ts) outer current r quiet is =
      let (may, others) = quiet_first text Due (length outer) t ts quiet in
      due_by text ts r outer current t (class_of text t)
      (record { due = λ levels ds q e. sound_due text ts levels ds r q e; mid = λ phase args n q e. sound_mid text ts phase outer current r t args n q e }) (sort_of text t) may others is

  sound_mid : (text : List ℕ) (ts : List Token) (phase : Phase) (outer : List Level) (current r : List Declaration) (t : Token) (args : List Token) → (phase ≡ Due → ⊥)
      → faults_from text phase (length outer) ts ≡ [] → finish (build text (with_head current outer (t ∷ args)) ts) ≡ Ok r → Mid text phase outer current t args ts r
  sound_mid text [] phase outer current r t args n quiet is = absurd (never_ended text outer current r t args is)
  sound_mid text (u ∷ ts) phase outer current r t args n quiet is =
      let (may, others) = quiet_first text phase (length outer) u ts quiet in
      mid_by text ts r outer current t u args phase (class_of text u)
      (record { due = λ levels ds q e. sound_due text ts levels ds r q e; mid = λ next more_args m q e. sound_mid text ts next outer current r t more_args m q e }) n (sort_of text u) may others is

-- tokens without faults whose statements are all ended spell these
pub sound : (text : List ℕ) (ts : List Token) (r : List Declaration) → faults_from text Due 0 ts ≡ [] → finish (build text nothing ts) ≡ Ok r → AreStatements text 0 (block_of r) ts
unfolding Completes
sound text ts r quiet is =
    let (b, statements, e) = sound_due text ts [] [] r quiet is in
    subst (λ ds. AreStatements text 0 (block_of ds) ts) (sym e) statements

never_bad : (phase : Phase) (depth : ℕ) → refusal phase depth classes.Bad ≡ None → ⊥
never_bad Due depth e = refused _ e
never_bad Named depth e = refused _ e
never_bad Plain depth e = refused _ e
never_bad Quoted depth e = refused _ e
never_bad Joining depth e = refused _ e

-- where tokens have no fault none of them is one
pub none_bad : (text : List ℕ) (ts : List Token) (phase : Phase) (depth : ℕ) → faults_from text phase depth ts ≡ [] → AllByRecursion IsSound ts
none_bad text [] phase depth quiet = tt
none_bad text (t ∷ ts) phase depth quiet =
    let (may, others) = quiet_first text phase depth t ts quiet in
    ((λ bad. never_bad phase depth (subst (λ k. refusal phase depth (class_by k (bytes_of text t)) ≡ None) bad may)), none_bad text ts _ _ others)
