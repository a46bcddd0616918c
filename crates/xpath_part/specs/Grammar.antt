-- How tokens spell expressions (XPath 1.0, sections 2, 3.3 and 3.4, in a profile). The number is that of
-- the parentheses and brackets that may be open at once.
use Rattle.std.specs.Prelude.{◌≡◌, ℕ, suc, Bool, true, false, List, [], ◌∷◌, ◌++◌, codes, Option, Some, None}
use Rattle.xpath_part.specs.Expression.{Expression, or_of, and_of, not_of, alone, equal, differ, count, Term, path, literal, Path, along, Strides, no_strides, stride, Stride, up, stay, child, Predicates, no_predicates, predicate}
use Rattle.xpath_part.specs.Lexing.{lex}
use Rattle.xpath_part.specs.Reading.{most_nested}
use Rattle.xpath_part.specs.declared.comparisons.Cmp.{Cmp}
use Rattle.xpath_part.specs.declared.comparisons.Cmp.TheVariants.{Equal, Differ}
use Rattle.xpath_part.specs.declared.origins.Origin.{Origin}
use Rattle.xpath_part.specs.declared.origins.Origin.TheVariants.{Root, Context, Current}
use Rattle.xpath_part.specs.declared.symbols.Sign.TheVariants.{Slash, Open, Close, OpenBracket, CloseBracket, Compare, Up, Stay}
use Rattle.xpath_part.specs.declared.symbols.Token.{Token}
use Rattle.xpath_part.specs.declared.symbols.Token.TheVariants.{Sign as Signed, Name, Literal, Number}

-- a word of the grammar: a name without prefix
abbrev pub plain : List ℕ → Token
plain name = Name None name

-- in the path of `count`, outside its predicates, a `..` stands only before the first name
abbrev pub MayBeCounted : Bool → Strides → Type 0
MayBeCounted past no_strides = Unit {0}
MayBeCounted past (stride up ss) = (past ≡ false) × MayBeCounted past ss
MayBeCounted past (stride stay ss) = MayBeCounted past ss
MayBeCounted past (stride (child p n es) ss) = MayBeCounted true ss

mutual
  -- tests joined by `or` and `and`
  pub data IsOr : ℕ → List Token → Expression → Type 0 where
    one_and : {n : ℕ} {ts : List Token} {e : Expression} → IsAnd n ts e → IsOr n ts e
    more_or : {n : ℕ} {ts us : List Token} {a b : Expression} → IsOr n ts a → IsAnd n us b
        → IsOr n (ts ++ plain (codes "or") ∷ us) (or_of a b)

  -- tests joined by `and`
  pub data IsAnd : ℕ → List Token → Expression → Type 0 where
    one_test : {n : ℕ} {ts : List Token} {e : Expression} → IsTest n ts e → IsAnd n ts e
    more_and : {n : ℕ} {ts us : List Token} {a b : Expression} → IsAnd n ts a → IsTest n us b
        → IsAnd n (ts ++ plain (codes "and") ∷ us) (and_of a b)

  -- a test: a negation, a group, a term alone, two that are compared, or a count
  pub data IsTest : ℕ → List Token → Expression → Type 0 where
    not_test : {n : ℕ} {ts : List Token} {e : Expression} → IsOr n ts e
        → IsTest (suc n) (plain (codes "not") ∷ Signed Open ∷ (ts ++ Signed Close ∷ [])) (not_of e)
    group : {n : ℕ} {ts : List Token} {e : Expression} → IsOr n ts e
        → IsTest (suc n) (Signed Open ∷ (ts ++ Signed Close ∷ [])) e
    alone_test : {n : ℕ} {ts : List Token} {t : Term} → IsTerm n ts t → IsTest n ts (alone t)
    equal_test : {n : ℕ} {ts us : List Token} {l r : Term} → IsTerm n ts l → IsTerm n us r
        → IsTest n (ts ++ Signed (Compare Equal) ∷ us) (equal l r)
    differ_test : {n : ℕ} {ts us : List Token} {l r : Term} → IsTerm n ts l → IsTerm n us r
        → IsTest n (ts ++ Signed (Compare Differ) ∷ us) (differ l r)
    count_test : {n : ℕ} {ts : List Token} {o : Origin} {ss : Strides} (c : Cmp) (k : ℕ)
        → IsPath n ts (along o ss) → MayBeCounted false ss
        → IsTest (suc n)
        (plain (codes "count") ∷ Signed Open
        ∷ (ts ++ Signed Close ∷ Signed (Compare c) ∷ Number k ∷ []))
        (count (along o ss) c k)

  -- a path or a literal
  pub data IsTerm : ℕ → List Token → Term → Type 0 where
    path_term : {n : ℕ} {ts : List Token} {p : Path} → IsPath n ts p → IsTerm n ts (path p)
    literal_term : {n : ℕ} (s : List ℕ) → IsTerm n (Literal s ∷ []) (literal s)

  -- a path from the root, the context node or `current()`
  pub data IsPath : ℕ → List Token → Path → Type 0 where
    from_root : {n : ℕ} {ts : List Token} {ss : Strides} → AreSteps n ts ss
        → IsPath n (Signed Slash ∷ ts) (along Root ss)
    from_context : {n : ℕ} {ts : List Token} {ss : Strides} → AreSteps n ts ss
        → IsPath n ts (along Context ss)
    at_current : {n : ℕ}
        → IsPath (suc n) (plain (codes "current") ∷ Signed Open ∷ Signed Close ∷ [])
        (along Current no_strides)
    from_current : {n : ℕ} {ts : List Token} {ss : Strides} → AreSteps (suc n) ts ss
        → IsPath (suc n) (plain (codes "current") ∷ Signed Open ∷ Signed Close ∷ Signed Slash ∷ ts)
        (along Current ss)

  -- steps, with a slash between two
  pub data AreSteps : ℕ → List Token → Strides → Type 0 where
    one_step : {n : ℕ} {ts : List Token} {s : Stride} → IsStep n ts s
        → AreSteps n ts (stride s no_strides)
    more_steps : {n : ℕ} {ts us : List Token} {s : Stride} {ss : Strides}
        → IsStep n ts s → AreSteps n us ss
        → AreSteps n (ts ++ Signed Slash ∷ us) (stride s ss)

  -- `..`, `.`, or a name with its predicates
  pub data IsStep : ℕ → List Token → Stride → Type 0 where
    up_step : {n : ℕ} → IsStep n (Signed Up ∷ []) up
    stay_step : {n : ℕ} → IsStep n (Signed Stay ∷ []) stay
    child_step : {n : ℕ} {ts : List Token} {es : Predicates}
        (prefix : Option (List ℕ)) (name : List ℕ) → ArePredicates n ts es
        → IsStep n (Name prefix name ∷ ts) (child prefix name es)

  -- predicates, one behind the other
  pub data ArePredicates : ℕ → List Token → Predicates → Type 0 where
    none_more : {n : ℕ} → ArePredicates n [] no_predicates
    one_more : {n : ℕ} {ts us : List Token} {e : Expression} {es : Predicates}
        → IsOr n ts e → ArePredicates (suc n) us es
        → ArePredicates (suc n) (Signed OpenBracket ∷ (ts ++ Signed CloseBracket ∷ us))
        (predicate e es)

-- the tokens of a text spell an expression
abbrev pub IsExpression : List ℕ → Expression → Type 0
IsExpression s e = (ts : List Token) × (lex s ≡ Some ts) × IsOr most_nested ts e

-- the text is outside the grammar
abbrev pub SpellsNothing : List ℕ → Type 0
SpellsNothing s = (e : Expression) → IsExpression s e → ⊥
