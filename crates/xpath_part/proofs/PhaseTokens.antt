-- What is read is spelled: what the tokens so far are, in each phase.
use Rattle.std.proofs.Common.{◌≡◌, ℕ, suc, ◌+◌, Bool, true, false, List, [], ◌∷◌, ◌++◌, codes, Option, Some, None, option_map, unwrap_or, refl, sym, ap, subst, ◌∙◌, append_assoc}
use Rattle.std.proofs.lemmas.List.{append-nil}
use Rattle.xpath_part.specs.Expression.{Expression, or_of, and_of, equal, differ, along, Strides, no_strides, stride, strides_of, Stride, up, stay, child, Predicates, no_predicates, predicate, predicates_of}
use Rattle.xpath_part.specs.Expressions.{term_of, path_of}
use Rattle.xpath_part.specs.Following.{level_behind, is_past_name}
use Rattle.xpath_part.specs.Grammar.{plain, MayBeCounted, IsOr, one_and, more_or, IsAnd, one_test, more_and, IsTest, alone_test, equal_test, differ_test, IsTerm, path_term, literal_term, IsPath, from_root, from_context, at_current, from_current, AreSteps, one_step, more_steps, IsStep, child_step, ArePredicates, none_more, one_more}
use Rattle.xpath_part.specs.Phases.{joined_or, joined_and, with_test, ended, tested_of, settled, value_of, start_walk, with_stride, behind_name}
use Rattle.xpath_part.specs.declared.comparisons.Cmp.{Cmp}
use Rattle.xpath_part.specs.declared.comparisons.Cmp.TheVariants.{Equal, Differ}
use Rattle.xpath_part.specs.declared.expressions.Operand.{Operand}
use Rattle.xpath_part.specs.declared.expressions.Operand.TheVariants.{Walk as Walks, Literal as Text}
use Rattle.xpath_part.specs.declared.expressions.Walk.{Walk}
use Rattle.xpath_part.specs.declared.following.Connective.TheVariants.{Or, And}
use Rattle.xpath_part.specs.declared.origins.Origin.{Origin}
use Rattle.xpath_part.specs.declared.origins.Origin.TheVariants.{Root, Context}
use Rattle.xpath_part.specs.declared.phases.Level.{Level}
use Rattle.xpath_part.specs.declared.phases.Tested.{Tested}
use Rattle.xpath_part.specs.declared.phases.Role.{Role}
use Rattle.xpath_part.specs.declared.phases.Role.TheVariants.{Left, Right, Counted}
use Rattle.xpath_part.specs.declared.phases.Place.{Place}
use Rattle.xpath_part.specs.declared.phases.Named.{Named}
use Rattle.xpath_part.specs.declared.phases.Phase.{Phase}
use Rattle.xpath_part.specs.declared.phases.Phase.TheVariants.{Due, Step, Name as Named', Whole as AtWhole, Current as AtCurrent, Tested as AtTested, Comparison, Number as NumberDue}
use Rattle.xpath_part.specs.declared.sought.Relation.{Relation}
use Rattle.xpath_part.specs.declared.sought.Relation.TheVariants.{Same, Different}
use Rattle.xpath_part.specs.declared.symbols.Sign.TheVariants.{Slash, Open, Close, OpenBracket, CloseBracket, Compare}
use Rattle.xpath_part.specs.declared.symbols.Token.{Token}
use Rattle.xpath_part.specs.declared.symbols.Token.TheVariants.{Sign as Signed, Name, Literal}

abbrev cmp_of : Relation → Cmp
cmp_of Same = Equal
cmp_of Different = Differ

pub data IsOrs : ℕ → Option Expression → List Token → Type 0 where
  no_ors : {n : ℕ} → IsOrs n None []
  some_ors : {n : ℕ} {ts : List Token} {a : Expression} → IsOr n ts a → IsOrs n (Some a) (ts ++ plain (codes "or") ∷ [])

pub data IsAnds : ℕ → Option Expression → List Token → Type 0 where
  no_ands : {n : ℕ} → IsAnds n None []
  some_ands : {n : ℕ} {ts : List Token} {a : Expression} → IsAnd n ts a → IsAnds n (Some a) (ts ++ plain (codes "and") ∷ [])

pub data IsLevel : ℕ → Level → List Token → Type 0 where
  is_level : {n : ℕ} (l : Level) {xs ys : List Token} → IsOrs n l.ors xs → IsAnds n l.ands ys → IsLevel n l (xs ++ ys)

pub data IsTested : ℕ → Tested → List Token → Type 0 where
  is_tested : {n : ℕ} (t : Tested) {xs ys : List Token} → IsOrs n t.ors xs → IsAnd n ys t.ands → IsTested n t (xs ++ ys)

and_with : {n : ℕ} {o : Option Expression} {ys ts : List Token} {e : Expression} → IsAnds n o ys → IsTest n ts e → IsAnd n (ys ++ ts) (joined_and o e)
and_with no_ands t = one_test t
and_with {n = n} {ts = ts} {e = e} (some_ands {ts = zs} {a = a} h) t =
    subst (λ l. IsAnd n l (and_of a e)) (sym (append_assoc zs (plain (codes "and") ∷ []) ts)) (more_and h t)

or_with : {n : ℕ} {o : Option Expression} {xs ys : List Token} {e : Expression} → IsOrs n o xs → IsAnd n ys e → IsOr n (xs ++ ys) (joined_or o e)
or_with no_ors a = one_and a
or_with {n = n} {ys = ys} {e = e} (some_ors {ts = zs} {a = b} h) a =
    subst (λ l. IsOr n l (or_of b e)) (sym (append_assoc zs (plain (codes "or") ∷ []) ys)) (more_or h a)

pub level_test : {n : ℕ} {l : Level} {us ts : List Token} {e : Expression} → IsLevel n l us → IsTest n ts e → IsTested n (with_test l e) (us ++ ts)
level_test {n = n} {ts = ts} {e = e} (is_level l {xs = xs} {ys = ys} o a) t =
    subst (λ x. IsTested n (with_test l e) x) (sym (append_assoc xs ys ts)) (is_tested (with_test l e) o (and_with a t))

pub tested_or : {n : ℕ} {t : Tested} {ws : List Token} → IsTested n t ws → IsOr n ws (joined_or t.ors t.ands)
tested_or (is_tested t o a) = or_with o a

pub behind_or : {n : ℕ} {t : Tested} {ws : List Token} → IsTested n t ws → IsLevel n (level_behind Or t) (ws ++ plain (codes "or") ∷ [])
behind_or {n = n} {t = t} {ws = ws} h =
    subst (λ x. IsLevel n (level_behind Or t) x) (append-nil (ws ++ plain (codes "or") ∷ [])) (is_level (level_behind Or t) (some_ors (tested_or h)) no_ands)

pub behind_and : {n : ℕ} {t : Tested} {ws : List Token} → IsTested n t ws → IsLevel n (level_behind And t) (ws ++ plain (codes "and") ∷ [])
behind_and {n = n} (is_tested t {xs = xs} {ys = ys} o a) =
    subst (λ x. IsLevel n (level_behind And t) x) (sym (append_assoc xs ys (plain (codes "and") ∷ []))) (is_level (level_behind And t) o (some_ands a))

-- what stands between a level and its operand: nothing, the left side, or `count (`; with the levels outside,
-- those inside, and how many are open between
pub data IsRole : ℕ → ℕ → ℕ → Role → List Token → Type 0 where
  is_left : {n : ℕ} → IsRole n n 0 Left []
  is_right : {n : ℕ} (r : Relation) (o : Operand) {ts : List Token} → IsTerm n ts (term_of o) → IsRole n n 0 (Right r o) (ts ++ Signed (Compare (cmp_of r)) ∷ [])
  is_counted : {m : ℕ} (past : Bool) → IsRole (suc m) m 1 (Counted past) (plain (codes "count") ∷ Signed Open ∷ [])

abbrev past_behind : Bool → Strides → Bool
past_behind past no_strides = past
past_behind past (stride up ss) = past_behind past ss
past_behind past (stride stay ss) = past_behind past ss
past_behind past (stride (child p n es) ss) = past_behind true ss

-- the steps so far are such as a role allows
abbrev pub Fits : Role → Strides → Type 0
Fits Left ss = Unit {0}
Fits (Right r o) ss = Unit {0}
Fits (Counted past) ss = MayBeCounted false ss × (past_behind false ss ≡ past)

abbrev pub snoc : Strides → Stride → Strides
snoc no_strides s = stride s no_strides
snoc (stride r ss) s = stride r (snoc ss s)

pub strides_of-snoc : (ss : List Stride) (s : Stride) → strides_of (ss ++ s ∷ []) ≡ snoc (strides_of ss) s
strides_of-snoc [] s = refl
strides_of-snoc (r ∷ ss) s = ap (stride r) (strides_of-snoc ss s)

past_up : (b : Bool) (ss : Strides) → past_behind b (snoc ss up) ≡ past_behind b ss
past_up b no_strides = refl
past_up b (stride up ss) = past_up b ss
past_up b (stride stay ss) = past_up b ss
past_up b (stride (child p n es) ss) = past_up true ss

past_stay : (b : Bool) (ss : Strides) → past_behind b (snoc ss stay) ≡ past_behind b ss
past_stay b no_strides = refl
past_stay b (stride up ss) = past_stay b ss
past_stay b (stride stay ss) = past_stay b ss
past_stay b (stride (child p n es) ss) = past_stay true ss

past_child : (b : Bool) (ss : Strides) (p : Option (List ℕ)) (n : List ℕ) (es : Predicates) → past_behind b (snoc ss (child p n es)) ≡ true
past_child b no_strides p n es = refl
past_child b (stride up ss) p n es = past_child b ss p n es
past_child b (stride stay ss) p n es = past_child b ss p n es
past_child b (stride (child q m ds) ss) p n es = past_child true ss p n es

may_up : (b : Bool) (ss : Strides) → MayBeCounted b ss → past_behind b ss ≡ false → MayBeCounted b (snoc ss up)
may_up b no_strides h e = (e, tt)
may_up b (stride up ss) h e = (h.0, may_up b ss h.1 e)
may_up b (stride stay ss) h e = may_up b ss h e
may_up b (stride (child p n es) ss) h e = may_up true ss h e

may_stay : (b : Bool) (ss : Strides) → MayBeCounted b ss → MayBeCounted b (snoc ss stay)
may_stay b no_strides h = tt
may_stay b (stride up ss) h = (h.0, may_stay b ss h.1)
may_stay b (stride stay ss) h = may_stay b ss h
may_stay b (stride (child p n es) ss) h = may_stay true ss h

may_child : (b : Bool) (ss : Strides) (p : Option (List ℕ)) (n : List ℕ) (es : Predicates) → MayBeCounted b ss → MayBeCounted b (snoc ss (child p n es))
may_child b no_strides p n es h = tt
may_child b (stride up ss) p n es h = (h.0, may_child b ss p n es h.1)
may_child b (stride stay ss) p n es h = may_child b ss p n es h
may_child b (stride (child q m ds) ss) p n es h = may_child true ss p n es h

pub fits_up : (r : Role) (ss : Strides) → Fits r ss → is_past_name r ≡ false → Fits r (snoc ss up)
fits_up Left ss h e = tt
fits_up (Right r o) ss h e = tt
fits_up (Counted past) ss h e = (may_up false ss h.0 (h.1 ∙ e), past_up false ss ∙ h.1)

pub fits_stay : (r : Role) (ss : Strides) → Fits r ss → Fits r (snoc ss stay)
fits_stay Left ss h = tt
fits_stay (Right r o) ss h = tt
fits_stay (Counted past) ss h = (may_stay false ss h.0, past_stay false ss ∙ h.1)

pub fits_child : (r : Role) (ss : Strides) (p : Option (List ℕ)) (n : List ℕ) (es : Predicates) → Fits r ss → Fits (behind_name r) (snoc ss (child p n es))
fits_child Left ss p n es h = tt
fits_child (Right r o) ss p n es h = tt
fits_child (Counted past) ss p n es h = (may_child false ss p n es h.0, past_child false ss p n es)

-- a path goes on by a step
steps_on : {n : ℕ} {ts us : List Token} {ss : Strides} {s : Stride} → AreSteps n ts ss → IsStep n us s → AreSteps n (ts ++ Signed Slash ∷ us) (snoc ss s)
steps_on (one_step h) k = more_steps h (one_step k)
steps_on {n = n} {us = us} {s = s} (more_steps {ts = ts} {us = vs} {s = r} {ss = ss} h rest) k =
    subst (λ l. AreSteps n l (stride r (snoc ss s))) (sym (append_assoc ts (Signed Slash ∷ vs) (Signed Slash ∷ us))) (more_steps h (steps_on rest k))

path_on : {n : ℕ} {ts us : List Token} {o : Origin} {ss : Strides} {s : Stride} → IsPath n ts (along o ss) → IsStep n us s
    → IsPath n (ts ++ Signed Slash ∷ us) (along o (snoc ss s))
path_on (from_root h) k = from_root (steps_on h k)
path_on (from_context h) k = from_context (steps_on h k)
path_on at_current k = from_current (one_step k)
path_on (from_current h) k = from_current (steps_on h k)

-- what stands before a step that is due
pub data IsBefore : ℕ → Walk → List Token → Type 0 where
  before_context : {n : ℕ} (w : Walk) → w ≡ start_walk Context → IsBefore n w []
  before_root : {n : ℕ} (w : Walk) → w ≡ start_walk Root → IsBefore n w (Signed Slash ∷ [])
  before_next : {n : ℕ} (w : Walk) {ts : List Token} → IsPath n ts (path_of w) → IsBefore n w (ts ++ Signed Slash ∷ [])

pub before_step : {n : ℕ} {w : Walk} {ts us : List Token} {s : Stride} → IsBefore n w ts → IsStep n us s → IsPath n (ts ++ us) (path_of (with_stride w s))
before_step {n = n} {us = us} {s = s} (before_context w e) k =
    subst (λ x. IsPath n us (path_of (with_stride x s))) (sym e) (from_context (one_step k))
before_step {n = n} {us = us} {s = s} (before_root w e) k =
    subst (λ x. IsPath n (Signed Slash ∷ us) (path_of (with_stride x s))) (sym e) (from_root (one_step k))
before_step {n = n} {us = us} {s = s} (before_next w {ts = ts} h) k =
    subst (λ l. IsPath n l (path_of (with_stride w s))) (sym (append_assoc ts (Signed Slash ∷ []) us))
    (subst (λ ss. IsPath n (ts ++ Signed Slash ∷ us) (along w.origin ss)) (sym (strides_of-snoc w.steps s)) (path_on h k))

abbrev pub snoc_predicates : Predicates → Expression → Predicates
snoc_predicates no_predicates e = predicate e no_predicates
snoc_predicates (predicate d es) e = predicate d (snoc_predicates es e)

pub predicates_of-snoc : (es : List Expression) (e : Expression) → predicates_of (es ++ e ∷ []) ≡ snoc_predicates (predicates_of es) e
predicates_of-snoc [] e = refl
predicates_of-snoc (d ∷ es) e = ap (predicate d) (predicates_of-snoc es e)

pub predicates_on : {n : ℕ} {ts us : List Token} {es : Predicates} {e : Expression} → ArePredicates (suc n) ts es → IsOr n us e
    → ArePredicates (suc n) (ts ++ Signed OpenBracket ∷ (us ++ Signed CloseBracket ∷ [])) (snoc_predicates es e)
predicates_on none_more k = one_more k none_more
predicates_on {n = n} {us = us} {e = e} (one_more {ts = xs} {us = ys} {e = d} {es = es} h rest) k =
    subst (λ l. ArePredicates (suc n) (Signed OpenBracket ∷ l) (predicate d (snoc_predicates es e)))
    (sym (append_assoc xs (Signed CloseBracket ∷ ys) (Signed OpenBracket ∷ (us ++ Signed CloseBracket ∷ []))))
    (one_more h (predicates_on rest k))

-- the phases
pub data IsDue : ℕ → ℕ → Level → Role → List Token → Type 0 where
  is_due : {n m k : ℕ} (l : Level) (r : Role) {us vs : List Token} → IsLevel n l us → IsRole n m k r vs → Fits r no_strides
      → IsDue n k l r (us ++ vs)

pub data IsStepDue : ℕ → ℕ → Level → Place → List Token → Type 0 where
  is_step_due : {n m k : ℕ} (l : Level) (p : Place) {us vs ts : List Token} → IsLevel n l us → IsRole n m k p.role vs → IsBefore m p.walk ts
      → Fits p.role (strides_of p.walk.steps) → IsStepDue n k l p (us ++ (vs ++ ts))

pub data IsNamed : ℕ → ℕ → ℕ → Level → Named → List Token → Type 0 where
  is_named : {n m k : ℕ} (l : Level) (x : Named) {us vs ts ps : List Token} → IsLevel n l us → IsRole n m k x.place.role vs → IsBefore m x.place.walk ts
      → ArePredicates m ps (predicates_of x.tests) → Fits x.place.role (strides_of x.place.walk.steps)
      → IsNamed n m k l x (us ++ (vs ++ (ts ++ Name x.prefix x.name ∷ ps)))

-- a whole operand
pub data IsWalkEnd : ℕ → ℕ → Level → Role → Walk → List Token → Type 0 where
  is_walk_end : {n m k : ℕ} (l : Level) (r : Role) (w : Walk) {us vs ts : List Token} → IsLevel n l us → IsRole n m k r vs → IsPath m ts (path_of w)
      → Fits r (strides_of w.steps) → IsWalkEnd n k l r w (us ++ (vs ++ ts))

pub data IsLiteralEnd : ℕ → ℕ → Level → Role → List ℕ → List Token → Type 0 where
  is_literal_end : {n m k : ℕ} (l : Level) (r : Role) (s : List ℕ) {us vs : List Token} → IsLevel n l us → IsRole n m k r vs
      → IsLiteralEnd n k l r s (us ++ (vs ++ Literal s ∷ []))

abbrev pub IsEnd : ℕ → ℕ → Level → Role → Operand → List Token → Type 0
IsEnd n k l r (Walks w) ts = IsWalkEnd n k l r w ts
IsEnd n k l r (Text s) ts = IsLiteralEnd n k l r s ts

pub data IsCurrentDue : ℕ → ℕ → Level → Role → List Token → Type 0 where
  is_current_due : {n m k : ℕ} (j : ℕ) (l : Level) (r : Role) {us vs : List Token} → j ≡ k + 1 → IsLevel n l us → IsRole n (suc m) k r vs → Fits r no_strides
      → IsCurrentDue n j l r (us ++ (vs ++ plain (codes "current") ∷ Signed Open ∷ []))

pub data IsCountEnd : ℕ → Level → Walk → List Token → Type 0 where
  is_count_end : {m : ℕ} (l : Level) (w : Walk) {us ts : List Token} → IsLevel (suc m) l us → IsPath m ts (path_of w) → MayBeCounted false (strides_of w.steps)
      → IsCountEnd (suc m) l w (us ++ plain (codes "count") ∷ Signed Open ∷ (ts ++ Signed Close ∷ []))

pub data IsNumberDue : ℕ → Level → Walk → Cmp → List Token → Type 0 where
  is_number_due : {m : ℕ} (l : Level) (w : Walk) (c : Cmp) {us ts : List Token} → IsLevel (suc m) l us → IsPath m ts (path_of w) → MayBeCounted false (strides_of w.steps)
      → IsNumberDue (suc m) l w c (us ++ plain (codes "count") ∷ Signed Open ∷ (ts ++ Signed Close ∷ Signed (Compare c) ∷ []))

abbrev pub IsPhase : ℕ → ℕ → Phase → List Token → Type 0
IsPhase n k (Due l r) ts = IsDue n k l r ts
IsPhase n k (Step l p) ts = IsStepDue n k l p ts
IsPhase n k (Named' l x) ts = (m : ℕ) × IsNamed n m k l x ts
IsPhase n k (AtWhole w) ts = IsEnd n k w.level w.role w.operand ts
IsPhase n k (AtCurrent l r) ts = IsCurrentDue n k l r ts
IsPhase n k (AtTested t) ts = (k ≡ 0) × IsTested n t ts
IsPhase n k (Comparison l w) ts = (k ≡ 0) × IsCountEnd n l w ts
IsPhase n k (NumberDue l w c) ts = (k ≡ 0) × IsNumberDue n l w c ts

role_behind : {n m k : ℕ} {r : Role} {vs : List Token} → IsRole n m k r vs → IsRole n m k (behind_name r) vs
role_behind is_left = is_left
role_behind (is_right r o h) = is_right r o h
role_behind (is_counted past) = is_counted true

named_end : {n m k : ℕ} {l : Level} {x : Named} {ts : List Token} → IsNamed n m k l x ts
    → IsWalkEnd n k l (behind_name x.place.role) (with_stride x.place.walk (child x.prefix x.name (predicates_of x.tests))) ts
named_end (is_named l x level role before tests fits) =
    is_walk_end l (behind_name x.place.role) (with_stride x.place.walk (child x.prefix x.name (predicates_of x.tests))) level (role_behind role)
    (before_step before (child_step x.prefix x.name tests))
    (subst (Fits (behind_name x.place.role)) (sym (strides_of-snoc x.place.walk.steps (child x.prefix x.name (predicates_of x.tests))))
    (fits_child x.place.role (strides_of x.place.walk.steps) x.prefix x.name (predicates_of x.tests) fits))

pub ended_is : (n k : ℕ) (p : Phase) (ts : List Token) → IsPhase n k p ts → IsPhase n k (ended p) ts
ended_is n k (Named' l x) ts h = named_end h.1
ended_is n k (Due l r) ts h = h
ended_is n k (Step l p) ts h = h
ended_is n k (AtWhole w) ts h = h
ended_is n k (AtCurrent l r) ts h = h
ended_is n k (AtTested t) ts h = h
ended_is n k (Comparison l w) ts h = h
ended_is n k (NumberDue l w c) ts h = h

pub some_same : {A : Type 0} (a b : A) → Some a ≡ Some b → a ≡ b
some_same a b e = ap (λ o. unwrap_or o a) e

-- an operand ends a test
term_tested : {n m k : ℕ} {us vs ts : List Token} (l : Level) (r : Role) (o : Operand) (t : Tested) → IsLevel n l us → IsRole n m k r vs → IsTerm m ts (term_of o)
    → tested_of (record { level = l; role = r; operand = o }) ≡ Some t → (k ≡ 0) × IsTested n t (us ++ (vs ++ ts))
term_tested {n = n} {us = us} {ts = ts} l Left o t level is_left term e =
    (refl, subst (λ x. IsTested n x (us ++ ts)) (some_same _ t e) (level_test level (alone_test term)))
term_tested {n = n} {us = us} {ts = ts} l (Right Same a) o t level (is_right _ _ {ts = zs} h) term e = (
  refl,
  subst (λ x. IsTested n x (us ++ ((zs ++ Signed (Compare Equal) ∷ []) ++ ts))) (some_same _ t e)
      (subst (λ y. IsTested n (with_test l (equal (term_of a) (term_of o))) (us ++ y)) (sym (append_assoc zs (Signed (Compare Equal) ∷ []) ts)) (level_test level (equal_test h term))),
)
term_tested {n = n} {us = us} {ts = ts} l (Right Different a) o t level (is_right _ _ {ts = zs} h) term e = (
  refl,
  subst (λ x. IsTested n x (us ++ ((zs ++ Signed (Compare Differ) ∷ []) ++ ts))) (some_same _ t e)
      (subst (λ y. IsTested n (with_test l (differ (term_of a) (term_of o))) (us ++ y)) (sym (append_assoc zs (Signed (Compare Differ) ∷ []) ts)) (level_test level (differ_test h term))),
)
term_tested l (Counted b) o t level role term e = absurd (let no : None ≡ Some t = e in cc)

end_tested : (n k : ℕ) (l : Level) (r : Role) (o : Operand) (t : Tested) (ts : List Token) → IsEnd n k l r o ts
    → tested_of (record { level = l; role = r; operand = o }) ≡ Some t → (k ≡ 0) × IsTested n t ts
end_tested n k l r (Walks w) t ts (is_walk_end _ _ _ level role leads fits) e = term_tested l r (Walks w) t level role (path_term leads) e
end_tested n k l r (Text s) t ts (is_literal_end _ _ _ level role) e = term_tested l r (Text s) t level role (literal_term s) e

pub settled_is : (n k : ℕ) (p : Phase) (t : Tested) (ts : List Token) → IsPhase n k p ts → settled p ≡ Some t → (k ≡ 0) × IsTested n t ts
settled_is n k (Named' l x) t ts h e = end_tested n k l (behind_name x.place.role) (Walks (with_stride x.place.walk (child x.prefix x.name (predicates_of x.tests)))) t ts (named_end h.1) e
settled_is n k (AtWhole w) t ts h e = end_tested n k w.level w.role w.operand t ts h e
settled_is n k (AtTested s) t ts h e = (h.0, subst (λ x. IsTested n x ts) (some_same s t e) h.1)
settled_is n k (Due l r) t ts h e = absurd (let no : None ≡ Some t = e in cc)
settled_is n k (Step l p) t ts h e = absurd (let no : None ≡ Some t = e in cc)
settled_is n k (AtCurrent l r) t ts h e = absurd (let no : None ≡ Some t = e in cc)
settled_is n k (Comparison l w) t ts h e = absurd (let no : None ≡ Some t = e in cc)
settled_is n k (NumberDue l w c) t ts h e = absurd (let no : None ≡ Some t = e in cc)

value_by : (n k : ℕ) (p : Phase) (e : Expression) (ts : List Token) → IsPhase n k p ts → (o : Option Tested) → settled p ≡ o
    → option_map (λ t. joined_or t.ors t.ands) o ≡ Some e → (k ≡ 0) × IsOr n ts e
value_by n k p e ts h None s v = absurd (let no : None ≡ Some e = v in cc)
value_by n k p e ts h (Some t) s v =
    let done = settled_is n k p t ts h s in
    (done.0, subst (IsOr n ts) (some_same (joined_or t.ors t.ands) e v) (tested_or done.1))

-- the value of what ends
pub value_is : (n k : ℕ) (p : Phase) (e : Expression) (ts : List Token) → IsPhase n k p ts → value_of p ≡ Some e → (k ≡ 0) × IsOr n ts e
value_is n k p e ts h v = value_by n k p e ts h (settled p) refl v
