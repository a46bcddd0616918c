-- What is spelled has no faults, and is built.
use Rattle.std.proofs.Common.{◌≡◌, ◌<◌, ◌+◌, ◌-◌, ◌⊎◌, ℕ, Bool, true, false, cond, List, [], ◌∷◌, ◌++◌, length, Option, Some, None, option_to_list, refl, sym, ap, ◌∙◌, append_assoc, arith, nat_eq, nat_lt, inl, inr}
use Rattle.std.proofs.lemmas.Bool.Decides.{nat_tests}
use Rattle.std.proofs.lemmas.List.{append-nil}
use Rattle.host_core.specs.Characters.{plus}
use Rattle.yang_text.specs.Building.{Level, Progress, build, step_by, joined_by, join, argument_of, statement_of, with_block}
use Rattle.yang_text.specs.Bytes.{is_keyword}
use Rattle.yang_text.specs.Declarations.{Declaration, declare, Block, no_more, more, block_of, declarations}
use Rattle.yang_text.specs.Faults.{faults_from, fault_at, refusal, phase_after, depth_after, class_of, class_by, word_class, begins_with_plus}
use Rattle.yang_text.specs.Grammar.{IsWord, IsQuoted, AreParts, AreMoreParts, IsArgument, IsName, IsStatement, AreStatements}
use Rattle.yang_text.specs.Limits.{most_open}
use Rattle.yang_text.specs.Texts.{bytes_of, content, content_by}
use Rattle.yang_text.specs.declared.errors.ModelWhy.TheVariants.{TooDeep}
use Rattle.yang_text.specs.declared.faults.Class.{Class}
use Rattle.yang_text.specs.declared.faults.Class.TheVariants as classes
use Rattle.yang_text.specs.declared.faults.Phase.{Phase}
use Rattle.yang_text.specs.declared.faults.Phase.TheVariants.{Due, Named, Plain, Quoted, Joining}
use Rattle.yang_text.specs.declared.lexing.Kind.{Kind}
use Rattle.yang_text.specs.declared.lexing.Kind.TheVariants.{Word, Single, Double, Semicolon, Open, Close}
use Rattle.yang_text.specs.declared.lexing.Token.{Token}

-- a token of that class that may stand there
pub quiet_step : (text : List ℕ) (phase : Phase) (depth : ℕ) (t : Token) (ts : List Token) (k : Class) → class_of text t ≡ k → refusal phase depth k ≡ None
    → faults_from text phase depth (t ∷ ts) ≡ faults_from text (phase_after phase k) (depth_after depth k) ts
unfolding faults_from
quiet_step text phase depth t ts k e r =
    ap (λ c. option_to_list (fault_at t.line (refusal phase depth c)) ++ faults_from text (phase_after phase c) (depth_after depth c) ts) e
    ∙ ap (λ w. option_to_list (fault_at t.line w) ++ faults_from text (phase_after phase k) (depth_after depth k) ts) r

class_at : (text : List ℕ) (t : Token) (k : Kind) → t.kind ≡ k → class_of text t ≡ class_by k (bytes_of text t)
class_at text t k e = ap (λ x. class_by x (bytes_of text t)) e

pub quote_class : (text : List ℕ) (t : Token) (part : List ℕ) → IsQuoted text t part → class_of text t ≡ classes.Quote
quote_class text t part q = elim (q.kind) as (λ _. class_of text t ≡ classes.Quote) [ inl e ↦ class_at text t Single e | inr e ↦ class_at text t Double e ]

pub plus_class : (text : List ℕ) (t : Token) → IsWord text t (plus ∷ []) → class_of text t ≡ classes.Plus
plus_class text t w = class_at text t Word w.kind ∙ ap word_class w.word_is

pub name_class : (text : List ℕ) (t : Token) (k : List ℕ) (l s e : ℕ) → IsName text t k l s e → class_of text t ≡ classes.Name
name_class text t k l s e n =
    class_at text t Word n.word.kind ∙ ap word_class n.word.word_is ∙ ap (λ b. cond b classes.Name (cond (begins_with_plus k) (cond (nat_eq (length k) 1) classes.Plus classes.Sum) classes.Text)) n.form

-- a word, whatever it is
any_word : (P : Class → Type 0) (w : List ℕ) → P classes.Name → P classes.Plus → P classes.Sum → P classes.Text → P (word_class w)
any_word P w a b c d = by_tests (is_keyword w) (begins_with_plus w) (nat_eq (length w) 1)
  where
    by_tests : (x y z : Bool) → P (cond x classes.Name (cond y (cond z classes.Plus classes.Sum) classes.Text))
    by_tests true y z = a
    by_tests false true true = b
    by_tests false true false = c
    by_tests false false z = d

-- phases in which a quoted part may stand
record TakesQuote (phase : Phase) : Type 0 where
  quiet : (depth : ℕ) → refusal phase depth classes.Quote ≡ None
  next : phase_after phase classes.Quote ≡ Quoted

-- phases in which a statement may end
pub record MayEnd (phase : Phase) : Type 0 where
  pub semicolon : (depth : ℕ) → refusal phase depth classes.Semicolon ≡ None
  pub brace : (depth : ℕ) → depth < 32 → refusal phase depth classes.Open ≡ None

below_limit : (depth : ℕ) → depth < 32 → nat_lt depth 32 ≡ true
below_limit depth h = grind (arith, nat_tests, h)

brace_quiet : (depth : ℕ) → depth < 32 → refusal Plain depth classes.Open ≡ None
brace_quiet depth h = ap (λ b. cond b None (Some TooDeep)) (below_limit depth h)

named_ends : MayEnd Named
named_ends = record { semicolon = λ d. refl; brace = λ d h. brace_quiet d h }

plain_ends : MayEnd Plain
plain_ends = record { semicolon = λ d. refl; brace = λ d h. brace_quiet d h }

quoted_ends : MayEnd Quoted
quoted_ends = record { semicolon = λ d. refl; brace = λ d h. brace_quiet d h }

mutual
  parts_quiet : (text : List ℕ) (phase : Phase) (depth : ℕ) (a : List ℕ) (ts rest : List Token) → TakesQuote phase → AreParts text a ts → faults_from text phase depth (ts ++ rest) ≡ faults_from text Quoted depth rest
  parts_quiet text phase depth a [] rest takes h = absurd h
  parts_quiet text phase depth a (t ∷ ts) rest takes (part, others, e, q, m) =
      quiet_step text phase depth t (ts ++ rest) classes.Quote (quote_class text t part q) (takes.quiet depth)
      ∙ ap (λ p. faults_from text p depth (ts ++ rest)) takes.next
      ∙ more_quiet text depth others ts rest m

  more_quiet : (text : List ℕ) (depth : ℕ) (a : List ℕ) (ts rest : List Token) → AreMoreParts text a ts → faults_from text Quoted depth (ts ++ rest) ≡ faults_from text Quoted depth rest
  more_quiet text depth a [] rest h = refl
  more_quiet text depth a (t ∷ ts) rest (w, m) =
      quiet_step text Quoted depth t (ts ++ rest) classes.Plus (plus_class text t w) refl
      ∙ parts_quiet text Joining depth a ts rest (record { quiet = λ d. refl; next = refl }) m

word_quiet : (text : List ℕ) (depth : ℕ) (t : Token) (rest : List Token) (w : List ℕ) → IsWord text t w → faults_from text Named depth (t ∷ rest) ≡ faults_from text Plain depth rest
word_quiet text depth t rest w h =
    let P : Class → Type 0 = λ k. class_of text t ≡ k → faults_from text Named depth (t ∷ rest) ≡ faults_from text Plain depth rest in
    any_word P (bytes_of text t) (λ e. quiet_step text Named depth t rest _ e refl) (λ e. quiet_step text Named depth t rest _ e refl) (λ e. quiet_step text Named depth t rest _ e refl) (λ e. quiet_step text Named depth t rest _ e refl)
    (class_at text t Word h.kind)

-- behind an argument a statement may end
argument_quiet : (text : List ℕ) (depth : ℕ) (a : Option (List ℕ)) (args rest : List Token) → IsArgument text a args → (phase : Phase) × MayEnd phase × (faults_from text Named depth (args ++ rest) ≡ faults_from text phase depth rest)
argument_quiet text depth None args rest e = (Named, named_ends, ap (λ ts. faults_from text Named depth (ts ++ rest)) e)
argument_quiet text depth (Some a) args rest (inl (t, e, w)) = (Plain, plain_ends, ap (λ ts. faults_from text Named depth (ts ++ rest)) e ∙ word_quiet text depth t rest a w)
argument_quiet text depth (Some a) args rest (inr p) = (Quoted, quoted_ends, parts_quiet text Named depth a args rest (record { quiet = λ d. refl; next = refl }) p)

close_quiet : (depth : ℕ) → refusal Due (depth + 1) classes.Close ≡ None
close_quiet depth = grind arith

end_quiet : (text : List ℕ) (depth : ℕ) (b : Block) (ts rest : List Token) (phase : Phase) → MayEnd phase
    → ((inner rest : List Token) → AreStatements text (depth + 1) b inner → faults_from text Due (depth + 1) (inner ++ rest) ≡ faults_from text Due (depth + 1) rest)
    → ((b ≡ no_more) × ((end : Token) × (ts ≡ end ∷ []) × (end.kind ≡ Semicolon)))
    ⊎ ((opening : Token) × (inner : List Token) × (closing : Token) × (ts ≡ opening ∷ (inner ++ closing ∷ []))
    × (opening.kind ≡ Open) × (closing.kind ≡ Close) × (depth < most_open) × AreStatements text (depth + 1) b inner)
    → faults_from text phase depth (ts ++ rest) ≡ faults_from text Due depth rest
end_quiet text depth b ts rest phase ends within (inl (none, (end, e, k))) =
    ap (λ us. faults_from text phase depth (us ++ rest)) e ∙ quiet_step text phase depth end rest classes.Semicolon (class_at text end Semicolon k) (ends.semicolon depth)
end_quiet text depth b ts rest phase ends within (inr (opening, inner, closing, e, ko, kc, low, block)) =
    ap (λ us. faults_from text phase depth (us ++ rest)) e
    ∙ quiet_step text phase depth opening ((inner ++ closing ∷ []) ++ rest) classes.Open (class_at text opening Open ko) (ends.brace depth low)
    ∙ ap (λ us. faults_from text Due (depth + 1) us) (append_assoc inner (closing ∷ []) rest)
    ∙ within inner (closing ∷ rest) block
    ∙ quiet_step text Due (depth + 1) closing rest classes.Close (class_at text closing Close kc) (close_quiet depth)
    ∙ ap (λ n. faults_from text Due n rest) (let back : depth + 1 - 1 ≡ depth = omega arith in back)

mutual
  statement_quiet : (text : List ℕ) (depth : ℕ) (d : Declaration) (ts rest : List Token) → IsStatement text depth d ts → faults_from text Due depth (ts ++ rest) ≡ faults_from text Due depth rest
  statement_quiet text depth (declare k a l s e b) ts rest (t, args, last, whole, name, argument, end) =
      let (phase, ends, quiet) = argument_quiet text depth a args (last ++ rest) argument in
      ap (λ us. faults_from text Due depth (us ++ rest)) whole
      ∙ quiet_step text Due depth t ((args ++ last) ++ rest) classes.Name (name_class text t k l s e name) refl
      ∙ ap (λ us. faults_from text Named depth us) (append_assoc args last rest)
      ∙ quiet
      ∙ end_quiet text depth b last rest phase ends (λ inner others h. statements_quiet text (depth + 1) b inner others h) end

  pub statements_quiet : (text : List ℕ) (depth : ℕ) (b : Block) (ts rest : List Token) → AreStatements text depth b ts → faults_from text Due depth (ts ++ rest) ≡ faults_from text Due depth rest
  statements_quiet text depth no_more ts rest e = ap (λ us. faults_from text Due depth (us ++ rest)) e
  statements_quiet text depth (more d b) ts rest (xs, ys, whole, first, others) =
      ap (λ us. faults_from text Due depth (us ++ rest)) whole
      ∙ ap (λ us. faults_from text Due depth us) (append_assoc xs ys rest)
      ∙ statement_quiet text depth d xs (ys ++ rest) first
      ∙ statements_quiet text depth b ys rest others

abbrev pub with_head : List Declaration → List Level → List Token → Progress
with_head current outer head = record { current = current; outer = outer; head = head }

build_step : (text : List ℕ) (p : Progress) (t : Token) (ts : List Token) (k : Kind) → t.kind ≡ k → build text p (t ∷ ts) ≡ build text (step_by text k t p) ts
unfolding build
build_step text p t ts k e = ap (λ x. build text (step_by text x t p) ts) e

-- a word or a quoted text
IsText : Token → Type 0
IsText t = (t.kind ≡ Word) ⊎ ((t.kind ≡ Single) ⊎ (t.kind ≡ Double))

text_step : (text : List ℕ) (current : List Declaration) (outer : List Level) (head : List Token) (t : Token) (ts : List Token) → IsText t
    → build text (with_head current outer head) (t ∷ ts) ≡ build text (with_head current outer (head ++ t ∷ [])) ts
unfolding IsText
text_step text current outer head t ts (inl e) = build_step text _ t ts Word e
text_step text current outer head t ts (inr (inl e)) = build_step text _ t ts Single e
text_step text current outer head t ts (inr (inr e)) = build_step text _ t ts Double e

regroup : (text : List ℕ) (current : List Declaration) (outer : List Level) (head : List Token) (t : Token) (ts rest : List Token)
    → build text (with_head current outer ((head ++ t ∷ []) ++ ts)) rest ≡ build text (with_head current outer (head ++ t ∷ ts)) rest
regroup text current outer head t ts rest = ap (λ hs. build text (with_head current outer hs) rest) (append_assoc head (t ∷ []) ts)

quoted_text : (text : List ℕ) (t : Token) (part : List ℕ) → IsQuoted text t part → IsText t
unfolding IsText
quoted_text text t part q = inr q.kind

any_word_text : (text : List ℕ) (t : Token) (w : List ℕ) → IsWord text t w → IsText t
unfolding IsText
any_word_text text t w h = inl h.kind

word_text : (text : List ℕ) (t : Token) → IsWord text t (plus ∷ []) → IsText t
word_text text t h = any_word_text text t (plus ∷ []) h

name_text : (text : List ℕ) (t : Token) (k : List ℕ) (l s e : ℕ) → IsName text t k l s e → IsText t
name_text text t k l s e n = any_word_text text t k n.word

mutual
  parts_build : (text : List ℕ) (current : List Declaration) (outer : List Level) (head : List Token) (a : List ℕ) (ts rest : List Token) → AreParts text a ts
      → build text (with_head current outer head) (ts ++ rest) ≡ build text (with_head current outer (head ++ ts)) rest
  parts_build text current outer head a [] rest h = absurd h
  parts_build text current outer head a (t ∷ ts) rest (part, others, e, q, m) =
      text_step text current outer head t (ts ++ rest) (quoted_text text t part q)
      ∙ more_build text current outer (head ++ t ∷ []) others ts rest m
      ∙ regroup text current outer head t ts rest

  more_build : (text : List ℕ) (current : List Declaration) (outer : List Level) (head : List Token) (a : List ℕ) (ts rest : List Token) → AreMoreParts text a ts
      → build text (with_head current outer head) (ts ++ rest) ≡ build text (with_head current outer (head ++ ts)) rest
  more_build text current outer head a [] rest h = ap (λ hs. build text (with_head current outer hs) rest) (sym (append-nil head))
  more_build text current outer head a (t ∷ ts) rest (w, m) =
      text_step text current outer head t (ts ++ rest) (word_text text t w)
      ∙ parts_build text current outer (head ++ t ∷ []) a ts rest m
      ∙ regroup text current outer head t ts rest

argument_build : (text : List ℕ) (current : List Declaration) (outer : List Level) (head : List Token) (a : Option (List ℕ)) (args rest : List Token) → IsArgument text a args
    → build text (with_head current outer head) (args ++ rest) ≡ build text (with_head current outer (head ++ args)) rest
argument_build text current outer head None args rest e =
    ap (λ us. build text (with_head current outer head) (us ++ rest)) e ∙ ap (λ hs. build text (with_head current outer hs) rest) (sym (append-nil head) ∙ ap (λ us. head ++ us) (sym e))
argument_build text current outer head (Some a) args rest (inl (t, e, w)) =
    ap (λ us. build text (with_head current outer head) (us ++ rest)) e ∙ text_step text current outer head t rest (any_word_text text t a w)
    ∙ ap (λ us. build text (with_head current outer (head ++ us)) rest) (sym e)
argument_build text current outer head (Some a) args rest (inr p) = parts_build text current outer head a args rest p

joined_quote : (text : List ℕ) (t : Token) (part rest : List ℕ) → IsQuoted text t part → joined_by t.kind (content text t) rest ≡ part ++ rest
joined_quote text t part rest q =
    elim (q.kind) as (λ _. joined_by t.kind (content text t) rest ≡ part ++ rest) [
      | inl e ↦ ap (λ k. joined_by k (content text t) rest) e ∙ ap (λ xs. xs ++ rest) q.content_is
      | inr e ↦ ap (λ k. joined_by k (content text t) rest) e ∙ ap (λ xs. xs ++ rest) q.content_is
    ]

mutual
  parts_join : (text : List ℕ) (a : List ℕ) (ts : List Token) → AreParts text a ts → join text ts ≡ a
  parts_join text a [] h = absurd h
  parts_join text a (t ∷ ts) (part, others, e, q, m) = joined_quote text t part (join text ts) q ∙ ap (λ xs. part ++ xs) (more_join text others ts m) ∙ sym e

  more_join : (text : List ℕ) (a : List ℕ) (ts : List Token) → AreMoreParts text a ts → join text ts ≡ a
  more_join text a [] h = sym h
  more_join text a (t ∷ ts) (w, m) = ap (λ k. joined_by k (content text t) (join text ts)) w.kind ∙ parts_join text a ts m

parts_argument : (text : List ℕ) (a : List ℕ) (ts : List Token) → AreParts text a ts → argument_of text ts ≡ Some a
parts_argument text a [] h = absurd h
parts_argument text a (t ∷ ts) (part, others, e, q, m) = ap Some (ap (λ xs. xs ++ join text ts) q.content_is ∙ ap (λ xs. part ++ xs) (more_join text others ts m) ∙ sym e)

argument_value : (text : List ℕ) (a : Option (List ℕ)) (args : List Token) → IsArgument text a args → argument_of text args ≡ a
argument_value text None args e = ap (λ us. argument_of text us) e
argument_value text (Some a) args (inl (t, e, w)) =
    ap (λ us. argument_of text us) e ∙ ap Some (append-nil (content text t) ∙ ap (λ k. content_by k (bytes_of text t)) w.kind ∙ w.word_is)
argument_value text (Some a) args (inr p) = parts_argument text a args p

pub block_back : (b : Block) → block_of (declarations b) ≡ b
block_back no_more = refl
block_back (more d b) = ap (λ x. more d x) (block_back b)

statement_value : (text : List ℕ) (t : Token) (args : List Token) (k : List ℕ) (a : Option (List ℕ)) (l s e : ℕ) (b : Block) → IsName text t k l s e → IsArgument text a args
    → with_block (statement_of text t args []) (declarations b) ≡ declare k a l s e b
statement_value text t args k a l s e b name argument =
    λ i. declare (name.word.word_is i) (argument_value text a args argument i) (name.line_is i) (name.start_is i) (name.end_is i) (block_back b i)

end_builds : (text : List ℕ) (depth : ℕ) (current : List Declaration) (outer : List Level) (t : Token) (args : List Token) (b : Block) (ts rest : List Token)
    → ((within : List Level) (inner rest : List Token) → AreStatements text (depth + 1) b inner → build text (with_head [] within []) (inner ++ rest) ≡ build text (with_head (declarations b) within []) rest)
    → ((b ≡ no_more) × ((end : Token) × (ts ≡ end ∷ []) × (end.kind ≡ Semicolon)))
    ⊎ ((opening : Token) × (inner : List Token) × (closing : Token) × (ts ≡ opening ∷ (inner ++ closing ∷ []))
    × (opening.kind ≡ Open) × (closing.kind ≡ Close) × (depth < most_open) × AreStatements text (depth + 1) b inner)
    → build text (with_head current outer (t ∷ args)) (ts ++ rest) ≡ build text (with_head (current ++ with_block (statement_of text t args []) (declarations b) ∷ []) outer []) rest
end_builds text depth current outer t args b ts rest within (inl (none, (end, e, k))) =
    ap (λ us. build text (with_head current outer (t ∷ args)) (us ++ rest)) e
    ∙ build_step text _ end rest Semicolon k
    ∙ ap (λ x. build text (with_head (current ++ with_block (statement_of text t args []) (declarations x) ∷ []) outer []) rest) (sym none)
end_builds text depth current outer t args b ts rest within (inr (opening, inner, closing, e, ko, kc, low, block)) =
    ap (λ us. build text (with_head current outer (t ∷ args)) (us ++ rest)) e
    ∙ build_step text _ opening ((inner ++ closing ∷ []) ++ rest) Open ko
    ∙ ap (λ us. build text (with_head [] (record { before = current; statement = statement_of text t args [] } ∷ outer) []) us) (append_assoc inner (closing ∷ []) rest)
    ∙ within (record { before = current; statement = statement_of text t args [] } ∷ outer) inner (closing ∷ rest) block
    ∙ build_step text _ closing rest Close kc

mutual
  statement_builds : (text : List ℕ) (depth : ℕ) (current : List Declaration) (outer : List Level) (d : Declaration) (ts rest : List Token) → IsStatement text depth d ts
      → build text (with_head current outer []) (ts ++ rest) ≡ build text (with_head (current ++ d ∷ []) outer []) rest
  statement_builds text depth current outer (declare k a l s e b) ts rest (t, args, last, whole, name, argument, end) =
      ap (λ us. build text (with_head current outer []) (us ++ rest)) whole
      ∙ text_step text current outer [] t ((args ++ last) ++ rest) (name_text text t k l s e name)
      ∙ ap (λ us. build text (with_head current outer (t ∷ [])) us) (append_assoc args last rest)
      ∙ argument_build text current outer (t ∷ []) a args (last ++ rest) argument
      ∙ end_builds text depth current outer t args b last rest (λ within inner others h. statements_build text (depth + 1) [] within b inner others h) end
      ∙ ap (λ x. build text (with_head (current ++ x ∷ []) outer []) rest) (statement_value text t args k a l s e b name argument)

  pub statements_build : (text : List ℕ) (depth : ℕ) (current : List Declaration) (outer : List Level) (b : Block) (ts rest : List Token) → AreStatements text depth b ts
      → build text (with_head current outer []) (ts ++ rest) ≡ build text (with_head (current ++ declarations b) outer []) rest
  statements_build text depth current outer no_more ts rest e =
      ap (λ us. build text (with_head current outer []) (us ++ rest)) e ∙ ap (λ ds. build text (with_head ds outer []) rest) (sym (append-nil current))
  statements_build text depth current outer (more d b) ts rest (xs, ys, whole, first, others) =
      ap (λ us. build text (with_head current outer []) (us ++ rest)) whole
      ∙ ap (λ us. build text (with_head current outer []) us) (append_assoc xs ys rest)
      ∙ statement_builds text depth current outer d xs (ys ++ rest) first
      ∙ statements_build text depth (current ++ d ∷ []) outer b ys rest others
      ∙ ap (λ ds. build text (with_head ds outer []) rest) (append_assoc current (d ∷ []) (declarations b))
