-- An expression as a tree of numbers, and back, by which a proof tells expressions apart.
use Rattle.std.specs.Prelude.{◌≡◌, ℕ, ◌==◌, List, [], ◌∷◌, Option, Some, None, if◌then◌else◌, refl}
use Rattle.std.specs.Coded.{Coded}
use Rattle.std.proofs.Common.{sym, ap, ◌∙◌}
use base.Stored.{Gv, gnil, gnum, gcons, num}
use Rattle.xpath_part.specs.Expression.{Expression, or_of, and_of, not_of, alone, equal, differ, count, Term, path, literal, Path, along, Strides, no_strides, stride, Stride, up, stay, child, Predicates, no_predicates, predicate}
use Rattle.xpath_part.specs.declared.comparisons.Cmp.{Cmp}
use Rattle.xpath_part.specs.declared.comparisons.Cmp.TheVariants.{Equal, Differ, Less, AtMost, More, AtLeast}
use Rattle.xpath_part.specs.declared.origins.Origin.{Origin}
use Rattle.xpath_part.specs.declared.origins.Origin.TheVariants.{Root, Context, Current}

-- a text as numbers, and back
abbrev text_code : List ℕ → Gv
text_code [] = gnil
text_code (c ∷ cs) = gcons (gnum c) (text_code cs)

abbrev text_at : Gv → List ℕ
text_at gnil = []
text_at (gnum n) = []
text_at (gcons a b) = num a ∷ text_at b

text_back : (s : List ℕ) → text_at (text_code s) ≡ s
text_back [] = refl
text_back (c ∷ cs) = ap (λ t. c ∷ t) (text_back cs)

-- a prefix that may be missing, and back
abbrev prefix_code : Option (List ℕ) → Gv
prefix_code None = gnil
prefix_code (Some s) = gcons gnil (text_code s)

abbrev prefix_at : Gv → Option (List ℕ)
prefix_at gnil = None
prefix_at (gnum n) = None
prefix_at (gcons a b) = Some (text_at b)

prefix_back : (p : Option (List ℕ)) → prefix_at (prefix_code p) ≡ p
prefix_back None = refl
prefix_back (Some s) = ap Some (text_back s)

-- a comparison, and back
abbrev cmp_code : Cmp → Gv
cmp_code Equal = gnum 0
cmp_code Differ = gnum 1
cmp_code Less = gnum 2
cmp_code AtMost = gnum 3
cmp_code More = gnum 4
cmp_code AtLeast = gnum 5

abbrev cmp_at : ℕ → Cmp
cmp_at n =
    if n == 0 then Equal
    else if n == 1 then Differ
    else if n == 2 then Less
    else if n == 3 then AtMost
    else if n == 4 then More
    else AtLeast

cmp_back : (c : Cmp) → cmp_at (num (cmp_code c)) ≡ c
cmp_back Equal = refl
cmp_back Differ = refl
cmp_back Less = refl
cmp_back AtMost = refl
cmp_back More = refl
cmp_back AtLeast = refl

-- where a path begins, and back
abbrev origin_code : Origin → Gv
origin_code Root = gnum 0
origin_code Context = gnum 1
origin_code Current = gnum 2

abbrev origin_at : ℕ → Origin
origin_at n =
    if n == 0 then Root
    else if n == 1 then Context
    else Current

origin_back : (o : Origin) → origin_at (num (origin_code o)) ≡ o
origin_back Root = refl
origin_back Context = refl
origin_back Current = refl

abbrev mutual
  -- an expression as a tree of numbers
  pub code : Expression → Gv
  code (or_of a b) = gcons (gnum 0) (gcons (code a) (code b))
  code (and_of a b) = gcons (gnum 1) (gcons (code a) (code b))
  code (not_of a) = gcons (gnum 2) (gcons (code a) gnil)
  code (alone t) = gcons (gnum 3) (gcons (term_code t) gnil)
  code (equal l r) = gcons (gnum 4) (gcons (term_code l) (term_code r))
  code (differ l r) = gcons (gnum 5) (gcons (term_code l) (term_code r))
  code (count p c n) = gcons (gnum 6) (gcons (path_code p) (gcons (cmp_code c) (gnum n)))

  -- of what stands alone or on a side
  pub term_code : Term → Gv
  term_code (path p) = gcons (gnum 0) (path_code p)
  term_code (literal s) = gcons (gnum 1) (text_code s)

  -- of a path
  pub path_code : Path → Gv
  path_code (along o ss) = gcons (origin_code o) (strides_code ss)

  -- of steps
  pub strides_code : Strides → Gv
  strides_code no_strides = gnil
  strides_code (stride s ss) = gcons (stride_code s) (strides_code ss)

  -- of a step
  pub stride_code : Stride → Gv
  stride_code up = gnil
  stride_code stay = gnum 0
  stride_code (child p n es) = gcons (gcons (prefix_code p) (text_code n)) (predicates_code es)

  -- of predicates
  pub predicates_code : Predicates → Gv
  predicates_code no_predicates = gnil
  predicates_code (predicate e es) = gcons (code e) (predicates_code es)

-- the two parts of a pair
abbrev left : Gv → Gv
left gnil = gnil
left (gnum n) = gnil
left (gcons a b) = a

abbrev right : Gv → Gv
right gnil = gnil
right (gnum n) = gnil
right (gcons a b) = b

abbrev mutual
  -- and back
  expression_at : Gv → Expression
  expression_at gnil = alone (literal [])
  expression_at (gnum n) = alone (literal [])
  expression_at (gcons t gnil) = alone (literal [])
  expression_at (gcons t (gnum n)) = alone (literal [])
  expression_at (gcons t (gcons a b)) =
      if num t == 0 then or_of (expression_at a) (expression_at b)
      else if num t == 1 then and_of (expression_at a) (expression_at b)
      else if num t == 2 then not_of (expression_at a)
      else if num t == 3 then alone (term_at a)
      else if num t == 4 then equal (term_at a) (term_at b)
      else if num t == 5 then differ (term_at a) (term_at b)
      else count (path_at a) (cmp_at (num (left b))) (num (right b))

  term_at : Gv → Term
  term_at gnil = literal []
  term_at (gnum n) = literal []
  term_at (gcons t a) =
      if num t == 0 then path (path_at a)
      else literal (text_at a)

  path_at : Gv → Path
  path_at gnil = along Root no_strides
  path_at (gnum n) = along Root no_strides
  path_at (gcons o ss) = along (origin_at (num o)) (strides_at ss)

  strides_at : Gv → Strides
  strides_at gnil = no_strides
  strides_at (gnum n) = no_strides
  strides_at (gcons s ss) = stride (stride_at s) (strides_at ss)

  stride_at : Gv → Stride
  stride_at gnil = up
  stride_at (gnum n) = stay
  stride_at (gcons n es) = child (prefix_at (left n)) (text_at (right n)) (predicates_at es)

  predicates_at : Gv → Predicates
  predicates_at gnil = no_predicates
  predicates_at (gnum n) = no_predicates
  predicates_at (gcons e es) = predicate (expression_at e) (predicates_at es)

mutual
  -- a tree of numbers gives back its expression
  pub back : (e : Expression) → expression_at (code e) ≡ e
  back (or_of a b) = λ i. or_of (back a i) (back b i)
  back (and_of a b) = λ i. and_of (back a i) (back b i)
  back (not_of a) = ap not_of (back a)
  back (alone t) = ap alone (term_back t)
  back (equal l r) = λ i. equal (term_back l i) (term_back r i)
  back (differ l r) = λ i. differ (term_back l i) (term_back r i)
  back (count p c n) = λ i. count (path_back p i) (cmp_back c i) n

  -- what stands alone or on a side
  pub term_back : (t : Term) → term_at (term_code t) ≡ t
  term_back (path p) = ap path (path_back p)
  term_back (literal s) = ap literal (text_back s)

  -- a path
  pub path_back : (p : Path) → path_at (path_code p) ≡ p
  path_back (along o ss) = λ i. along (origin_back o i) (strides_back ss i)

  -- steps
  pub strides_back : (ss : Strides) → strides_at (strides_code ss) ≡ ss
  strides_back no_strides = refl
  strides_back (stride s ss) = λ i. stride (stride_back s i) (strides_back ss i)

  -- a step
  pub stride_back : (s : Stride) → stride_at (stride_code s) ≡ s
  stride_back up = refl
  stride_back stay = refl
  stride_back (child p n es) = λ i. child (prefix_back p i) (text_back n i) (predicates_back es i)

  -- predicates
  pub predicates_back : (es : Predicates) → predicates_at (predicates_code es) ≡ es
  predicates_back no_predicates = refl
  predicates_back (predicate e es) = λ i. predicate (back e i) (predicates_back es i)

-- expressions are told apart by their trees of numbers
abbrev pub coded_expression : Coded Expression
coded_expression = record { code = code; inj = λ x y p. sym (back x) ∙ ap expression_at p ∙ back y }

-- and steps by theirs
abbrev pub coded_stride : Coded Stride
coded_stride = record {
  code = stride_code;
  inj = λ x y p. sym (stride_back x) ∙ ap stride_at p ∙ stride_back y;
}
