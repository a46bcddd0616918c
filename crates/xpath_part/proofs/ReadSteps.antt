-- One token more of what is read.
use Rattle.std.proofs.Common.{◌≡◌, ℕ, suc, Bool, true, false, cond, List, [], ◌∷◌, ◌++◌, codes, Option, Some, None, option_map, option_and_then, refl, sym, ap, subst, ◌∙◌, append_assoc}
use Rattle.std.proofs.lemmas.List.{append-nil}
use Rattle.std.specs.Str.{bytes_eq}
use Rattle.std.proofs.lemmas.Slice.Eq.{bytes_eq-Decides}
use Rattle.xpath_part.specs.Expression.{count, strides_of, Stride, up, stay}
use Rattle.xpath_part.specs.Expressions.{term_of, path_of}
use Rattle.xpath_part.specs.Following.{slash, slash_ended, slash_behind, up_at, connected, connective_of, level_behind, word, named, operator, operator_by, literal_due, literal as read_literal, comparison, comparison_ended, number, with_step, is_past_name, stay as read_stay, up as read_up}
use Rattle.xpath_part.specs.Grammar.{plain, count_test, IsTerm, path_term, literal_term, IsStep, up_step, stay_step, none_more}
use Rattle.xpath_part.specs.Phases.{with_test, ended, settled, start_place, start_walk, step_due, with_stride}
use Rattle.xpath_part.specs.declared.comparisons.Cmp.{Cmp}
use Rattle.xpath_part.specs.declared.comparisons.Cmp.TheVariants.{Equal, Differ, Less, AtMost, More, AtLeast}
use Rattle.xpath_part.specs.declared.expressions.Operand.{Operand}
use Rattle.xpath_part.specs.declared.expressions.Operand.TheVariants.{Walk as Walks, Literal as Text}
use Rattle.xpath_part.specs.declared.expressions.Walk.{Walk}
use Rattle.xpath_part.specs.declared.following.Connective.{Connective}
use Rattle.xpath_part.specs.declared.following.Connective.TheVariants.{Or, And}
use Rattle.xpath_part.specs.declared.origins.Origin.TheVariants.{Root, Context}
use Rattle.xpath_part.specs.declared.phases.Level.{Level}
use Rattle.xpath_part.specs.declared.phases.Tested.{Tested}
use Rattle.xpath_part.specs.declared.phases.Role.{Role}
use Rattle.xpath_part.specs.declared.phases.Role.TheVariants.{Left, Right, Counted}
use Rattle.xpath_part.specs.declared.phases.Place.{Place}
use Rattle.xpath_part.specs.declared.phases.Phase.{Phase}
use Rattle.xpath_part.specs.declared.phases.Phase.TheVariants.{Due, Step, Name as Named', Whole as AtWhole, Current as AtCurrent, Tested as AtTested, Comparison, Number as NumberDue}
use Rattle.xpath_part.specs.declared.sought.Relation.TheVariants.{Same, Different}
use Rattle.xpath_part.specs.declared.symbols.Sign.TheVariants.{Slash, Open, Close, Compare, Up, Stay}
use Rattle.xpath_part.specs.declared.symbols.Token.{Token}
use Rattle.xpath_part.specs.declared.symbols.Token.TheVariants.{Sign as Signed, Name, Literal, Number}
use Rattle.xpath_part.proofs.PhaseTokens.{IsLevel, IsTested, level_test, behind_or, behind_and, IsRole, is_left, is_right, Fits, fits_up, fits_stay, strides_of-snoc, before_context, before_root, before_next, before_step, IsDue, is_due, IsStepDue, is_step_due, IsNamed, is_named, IsWalkEnd, is_walk_end, IsLiteralEnd, is_literal_end, IsEnd, IsCountEnd, is_count_end, IsNumberDue, is_number_due, IsPhase, ended_is, settled_is, some_same}

out : (a b c d : List Token) → (a ++ (b ++ c)) ++ d ≡ a ++ (b ++ (c ++ d))
out a b c d = append_assoc a (b ++ c) d ∙ ap (λ x. a ++ x) (append_assoc b c d)

out_four : (a b c e d : List Token) → (a ++ (b ++ (c ++ e))) ++ d ≡ a ++ (b ++ (c ++ (e ++ d)))
out_four a b c e d = out a b (c ++ e) d ∙ ap (λ x. a ++ (b ++ x)) (append_assoc c e d)

-- a step is due
step_due_is : (n k : ℕ) (p : Phase) (q : Level × Place) (ts : List Token) → IsPhase n k p ts → step_due p ≡ Some q → IsStepDue n k q.0 q.1 ts
step_due_is n k (Due l r) q ts (is_due _ _ {us = us} {vs = vs} level role fits) e =
    subst (λ y. IsStepDue n k y.0 y.1 (us ++ vs)) (some_same (l, start_place r Context) q e)
    (subst (λ x. IsStepDue n k l (start_place r Context) (us ++ x)) (append-nil vs)
    (is_step_due l (start_place r Context) level role (before_context (start_walk Context) refl) fits))
step_due_is n k (Step l p) q ts h e = subst (λ y. IsStepDue n k y.0 y.1 ts) (some_same (l, p) q e) h
step_due_is n k (Named' l x) q ts h e = absurd (let no : None ≡ Some q = e in cc)
step_due_is n k (AtWhole w) q ts h e = absurd (let no : None ≡ Some q = e in cc)
step_due_is n k (AtCurrent l r) q ts h e = absurd (let no : None ≡ Some q = e in cc)
step_due_is n k (AtTested t) q ts h e = absurd (let no : None ≡ Some q = e in cc)
step_due_is n k (Comparison l w) q ts h e = absurd (let no : None ≡ Some q = e in cc)
step_due_is n k (NumberDue l w c) q ts h e = absurd (let no : None ≡ Some q = e in cc)

-- a step of one token
dot_is : (n k : ℕ) (l : Level) (p : Place) (ts : List Token) (t : Token) (s : Stride) → ((m : ℕ) → IsStep m (t ∷ []) s)
    → (Fits p.role (strides_of p.walk.steps) → Fits p.role (strides_of (p.walk.steps ++ s ∷ []))) → IsStepDue n k l p ts
    → IsPhase n k (with_step l p s) (ts ++ t ∷ [])
dot_is n k l p ts t s is more (is_step_due {m = m} _ _ {us = us} {vs = vs} {ts = xs} level role before fits) =
    subst (λ x. IsWalkEnd n k l p.role (with_stride p.walk s) x) (sym (out us vs xs (t ∷ [])))
    (is_walk_end l p.role (with_stride p.walk s) level role (before_step before (is m)) (more fits))

up_by : (n k : ℕ) (q : Phase) (l : Level) (p : Place) (ts : List Token) → IsStepDue n k l p ts → (b : Bool) → is_past_name p.role ≡ b
    → cond b None (Some (with_step l p up)) ≡ Some q → IsPhase n k q (ts ++ Signed Up ∷ [])
up_by n k q l p ts h true b e = absurd (let no : None ≡ Some q = e in cc)
up_by n k q l p ts h false b e =
    subst (λ x. IsPhase n k x (ts ++ Signed Up ∷ [])) (some_same (with_step l p up) q e)
    (dot_is n k l p ts (Signed Up) up (λ m. up_step)
    (λ f. subst (Fits p.role) (sym (strides_of-snoc p.walk.steps up)) (fits_up p.role (strides_of p.walk.steps) f b)) h)

up_at_by : (n k : ℕ) (p q : Phase) (ts : List Token) → IsPhase n k p ts → (o : Option (Level × Place)) → step_due p ≡ o
    → option_and_then up_at o ≡ Some q → IsPhase n k q (ts ++ Signed Up ∷ [])
up_at_by n k p q ts h None d e = absurd (let no : None ≡ Some q = e in cc)
up_at_by n k p q ts h (Some y) d e = up_by n k q y.0 y.1 ts (step_due_is n k p y ts h d) (is_past_name y.1.role) refl e

pub up_is : (n k : ℕ) (p q : Phase) (ts : List Token) → IsPhase n k p ts → read_up p ≡ Some q → IsPhase n k q (ts ++ Signed Up ∷ [])
up_is n k p q ts h e = up_at_by n k p q ts h (step_due p) refl e

stay_by : (n k : ℕ) (p q : Phase) (ts : List Token) → IsPhase n k p ts → (o : Option (Level × Place)) → step_due p ≡ o
    → option_map (λ y. with_step y.0 y.1 stay) o ≡ Some q → IsPhase n k q (ts ++ Signed Stay ∷ [])
stay_by n k p q ts h None d e = absurd (let no : None ≡ Some q = e in cc)
stay_by n k p q ts h (Some y) d e =
    subst (λ x. IsPhase n k x (ts ++ Signed Stay ∷ [])) (some_same (with_step y.0 y.1 stay) q e)
    (dot_is n k y.0 y.1 ts (Signed Stay) stay (λ m. stay_step)
    (λ f. subst (Fits y.1.role) (sym (strides_of-snoc y.1.walk.steps stay)) (fits_stay y.1.role (strides_of y.1.walk.steps) f))
    (step_due_is n k p y ts h d))

pub stay_is : (n k : ℕ) (p q : Phase) (ts : List Token) → IsPhase n k p ts → read_stay p ≡ Some q → IsPhase n k q (ts ++ Signed Stay ∷ [])
stay_is n k p q ts h e = stay_by n k p q ts h (step_due p) refl e

slash_operand_is : (n k : ℕ) (l : Level) (r : Role) (o : Operand) (q : Phase) (ts : List Token) → IsEnd n k l r o ts
    → slash_behind (record { level = l; role = r; operand = o }) ≡ Some q → IsPhase n k q (ts ++ Signed Slash ∷ [])
slash_operand_is n k l r (Walks w) q ts (is_walk_end _ _ _ {us = us} {vs = vs} {ts = xs} level role leads fits) e =
    let place : Place = record { role = r; walk = w } in
    subst (λ x. IsPhase n k x ((us ++ (vs ++ xs)) ++ Signed Slash ∷ [])) (some_same (Step l place) q e)
    (subst (λ x. IsStepDue n k l place x) (sym (out us vs xs (Signed Slash ∷ []))) (is_step_due l place level role (before_next w leads) fits))
slash_operand_is n k l r (Text s) q ts h e = absurd (let no : None ≡ Some q = e in cc)

slash_ended_is : (n k : ℕ) (p q : Phase) (ts : List Token) → IsPhase n k p ts → slash_ended p ≡ Some q → IsPhase n k q (ts ++ Signed Slash ∷ [])
slash_ended_is n k (Due l r) q ts (is_due _ _ {us = us} {vs = vs} level role fits) e =
    subst (λ x. IsPhase n k x ((us ++ vs) ++ Signed Slash ∷ [])) (some_same (Step l (start_place r Root)) q e)
    (subst (λ x. IsStepDue n k l (start_place r Root) x) (sym (append_assoc us vs (Signed Slash ∷ [])))
    (is_step_due l (start_place r Root) level role (before_root (start_walk Root) refl) fits))
slash_ended_is n k (AtWhole w) q ts h e = slash_operand_is n k w.level w.role w.operand q ts h e
slash_ended_is n k (Step l p) q ts h e = absurd (let no : None ≡ Some q = e in cc)
slash_ended_is n k (Named' l x) q ts h e = absurd (let no : None ≡ Some q = e in cc)
slash_ended_is n k (AtCurrent l r) q ts h e = absurd (let no : None ≡ Some q = e in cc)
slash_ended_is n k (AtTested t) q ts h e = absurd (let no : None ≡ Some q = e in cc)
slash_ended_is n k (Comparison l w) q ts h e = absurd (let no : None ≡ Some q = e in cc)
slash_ended_is n k (NumberDue l w c) q ts h e = absurd (let no : None ≡ Some q = e in cc)

pub slash_is : (n k : ℕ) (p q : Phase) (ts : List Token) → IsPhase n k p ts → slash p ≡ Some q → IsPhase n k q (ts ++ Signed Slash ∷ [])
slash_is n k p q ts h e = slash_ended_is n k (ended p) q ts (ended_is n k p ts h) e

-- a step that is a name
named_is : (n k : ℕ) (l : Level) (p : Place) (ts : List Token) (prefix : Option (List ℕ)) (name : List ℕ) → IsStepDue n k l p ts
    → IsPhase n k (named l p prefix name) (ts ++ Name prefix name ∷ [])
named_is n k l p ts prefix name (is_step_due {m = m} _ _ {us = us} {vs = vs} {ts = xs} level role before fits) = (
  m,
  subst (λ x. IsNamed n m k l (record { place = p; prefix = prefix; name = name; tests = [] }) x) (sym (out us vs xs (Name prefix name ∷ [])))
      (is_named l (record { place = p; prefix = prefix; name = name; tests = [] }) level role before none_more fits),
)

abbrev word_of : Connective → List ℕ
word_of Or = codes "or"
word_of And = codes "and"

connective_by : (name : List ℕ) (c : Connective) (a b : Bool) → (a ≡ true → name ≡ codes "or") → (b ≡ true → name ≡ codes "and")
    → cond a (Some Or) (cond b (Some And) None) ≡ Some c → name ≡ word_of c
connective_by name c true b is_or is_and e = is_or refl ∙ ap word_of (some_same Or c e)
connective_by name c false true is_or is_and e = is_and refl ∙ ap word_of (some_same And c e)
connective_by name c false false is_or is_and e = absurd (let no : None ≡ Some c = e in cc)

connective_is : (prefix : Option (List ℕ)) (name : List ℕ) (c : Connective) → connective_of prefix name ≡ Some c → Name prefix name ≡ plain (word_of c)
connective_is None name c e =
    ap (λ x. Name None x) (connective_by name c (bytes_eq name (codes "or")) (bytes_eq name (codes "and"))
    (bytes_eq-Decides name (codes "or")).0 (bytes_eq-Decides name (codes "and")).0 e)
connective_is (Some p) name c e = absurd (let no : None ≡ Some c = e in cc)

behind_word : (n : ℕ) (c : Connective) (t : Tested) (ws : List Token) → IsTested n t ws → IsLevel n (level_behind c t) (ws ++ plain (word_of c) ∷ [])
behind_word n Or t ws h = behind_or h
behind_word n And t ws h = behind_and h

operator_by_is : (n k : ℕ) (p q : Phase) (ts : List Token) (prefix : Option (List ℕ)) (name : List ℕ) → IsPhase n k p ts
    → (c : Option Connective) → connective_of prefix name ≡ c → (t : Option Tested) → settled p ≡ t
    → option_and_then (λ x. option_map (connected x) t) c ≡ Some q → IsPhase n k q (ts ++ Name prefix name ∷ [])
operator_by_is n k p q ts prefix name h None c t s e = absurd (let no : None ≡ Some q = e in cc)
operator_by_is n k p q ts prefix name h (Some x) c None s e = absurd (let no : None ≡ Some q = e in cc)
operator_by_is n k p q ts prefix name h (Some x) c (Some t) s e =
    let done = settled_is n k p t ts h s in
    subst (λ y. IsPhase n k y (ts ++ Name prefix name ∷ [])) (some_same (connected x t) q e)
    (subst (λ y. IsPhase n k (connected x t) (ts ++ y ∷ [])) (sym (connective_is prefix name x c))
    (subst (λ j. IsPhase n j (connected x t) (ts ++ plain (word_of x) ∷ [])) (sym done.0)
    (subst (λ y. IsDue n 0 (level_behind x t) Left y) (append-nil (ts ++ plain (word_of x) ∷ []))
    (is_due (level_behind x t) Left (behind_word n x t ts done.1) is_left tt))))

operator_same : (p : Phase) (prefix : Option (List ℕ)) (name : List ℕ) (c : Option Connective) → connective_of prefix name ≡ c
    → operator p prefix name ≡ option_and_then (λ x. option_map (connected x) (settled p)) c
operator_same p prefix name None c = ap (operator_by p) c
operator_same p prefix name (Some x) c = ap (operator_by p) c

operator_is : (n k : ℕ) (p q : Phase) (ts : List Token) (prefix : Option (List ℕ)) (name : List ℕ) → IsPhase n k p ts
    → operator p prefix name ≡ Some q → IsPhase n k q (ts ++ Name prefix name ∷ [])
operator_is n k p q ts prefix name h e =
    operator_by_is n k p q ts prefix name h (connective_of prefix name) refl (settled p) refl
    (sym (operator_same p prefix name (connective_of prefix name) refl) ∙ e)

pub word_is : (n k : ℕ) (p q : Phase) (ts : List Token) (prefix : Option (List ℕ)) (name : List ℕ) → IsPhase n k p ts
    → word p prefix name ≡ Some q → IsPhase n k q (ts ++ Name prefix name ∷ [])
word_is n k (Due l r) q ts prefix name h e =
    subst (λ x. IsPhase n k x (ts ++ Name prefix name ∷ [])) (some_same (named l (start_place r Context) prefix name) q e)
    (named_is n k l (start_place r Context) ts prefix name (step_due_is n k (Due l r) (l, start_place r Context) ts h refl))
word_is n k (Step l p) q ts prefix name h e =
    subst (λ x. IsPhase n k x (ts ++ Name prefix name ∷ [])) (some_same (named l p prefix name) q e) (named_is n k l p ts prefix name h)
word_is n k (Named' l x) q ts prefix name h e = operator_is n k (Named' l x) q ts prefix name h e
word_is n k (AtWhole w) q ts prefix name h e = operator_is n k (AtWhole w) q ts prefix name h e
word_is n k (AtTested t) q ts prefix name h e = operator_is n k (AtTested t) q ts prefix name h e
word_is n k (AtCurrent l r) q ts prefix name h e = absurd (let no : None ≡ Some q = e in cc)
word_is n k (Comparison l w) q ts prefix name h e = absurd (let no : None ≡ Some q = e in cc)
word_is n k (NumberDue l w c) q ts prefix name h e = absurd (let no : None ≡ Some q = e in cc)

-- a literal
literal_at : (n k : ℕ) (l : Level) (r : Role) (s : List ℕ) (ts : List Token) → IsDue n k l r ts → IsLiteralEnd n k l r s (ts ++ Literal s ∷ [])
literal_at n k l r s ts (is_due _ _ {us = us} {vs = vs} level role fits) =
    subst (λ x. IsLiteralEnd n k l r s x) (sym (append_assoc us vs (Literal s ∷ []))) (is_literal_end l r s level role)

literal_due_is : (n k : ℕ) (l : Level) (r : Role) (q : Phase) (s : List ℕ) (ts : List Token) → IsDue n k l r ts → literal_due l r s ≡ Some q
    → IsPhase n k q (ts ++ Literal s ∷ [])
literal_due_is n k l Left q s ts h e =
    subst (λ x. IsPhase n k x (ts ++ Literal s ∷ [])) (some_same (AtWhole (record { level = l; role = Left; operand = Text s })) q e) (literal_at n k l Left s ts h)
literal_due_is n k l (Right r o) q s ts h e =
    subst (λ x. IsPhase n k x (ts ++ Literal s ∷ [])) (some_same (AtWhole (record { level = l; role = Right r o; operand = Text s })) q e) (literal_at n k l (Right r o) s ts h)
literal_due_is n k l (Counted b) q s ts h e = absurd (let no : None ≡ Some q = e in cc)

pub literal_is : (n k : ℕ) (p q : Phase) (s : List ℕ) (ts : List Token) → IsPhase n k p ts → read_literal p s ≡ Some q → IsPhase n k q (ts ++ Literal s ∷ [])
literal_is n k (Due l r) q s ts h e = literal_due_is n k l r q s ts h e
literal_is n k (Step l p) q s ts h e = absurd (let no : None ≡ Some q = e in cc)
literal_is n k (Named' l x) q s ts h e = absurd (let no : None ≡ Some q = e in cc)
literal_is n k (AtWhole w) q s ts h e = absurd (let no : None ≡ Some q = e in cc)
literal_is n k (AtCurrent l r) q s ts h e = absurd (let no : None ≡ Some q = e in cc)
literal_is n k (AtTested t) q s ts h e = absurd (let no : None ≡ Some q = e in cc)
literal_is n k (Comparison l w) q s ts h e = absurd (let no : None ≡ Some q = e in cc)
literal_is n k (NumberDue l w c) q s ts h e = absurd (let no : None ≡ Some q = e in cc)

-- the left side of a comparison
right_due : (n m k : ℕ) (l : Level) (o : Operand) (us vs xs : List Token) → IsLevel n l us → IsRole n m k Left vs → IsTerm m xs (term_of o)
    → IsDue n k l (Right Same o) ((us ++ (vs ++ xs)) ++ Signed (Compare Equal) ∷ []) × IsDue n k l (Right Different o) ((us ++ (vs ++ xs)) ++ Signed (Compare Differ) ∷ [])
right_due n m k l o us vs xs level is_left term = (
  subst (λ x. IsDue n 0 l (Right Same o) x) (sym (append_assoc us xs (Signed (Compare Equal) ∷ []))) (is_due l (Right Same o) level (is_right Same o term) tt),
  subst (λ x. IsDue n 0 l (Right Different o) x) (sym (append_assoc us xs (Signed (Compare Differ) ∷ []))) (is_due l (Right Different o) level (is_right Different o term) tt),
)

right_of : (n k : ℕ) (l : Level) (o : Operand) (ts : List Token) → IsEnd n k l Left o ts
    → IsDue n k l (Right Same o) (ts ++ Signed (Compare Equal) ∷ []) × IsDue n k l (Right Different o) (ts ++ Signed (Compare Differ) ∷ [])
right_of n k l (Walks w) ts (is_walk_end {m = m} _ _ _ {us = us} {vs = vs} {ts = xs} level role leads fits) = right_due n m k l (Walks w) us vs xs level role (path_term leads)
right_of n k l (Text s) ts (is_literal_end {m = m} _ _ _ {us = us} {vs = vs} level role) = right_due n m k l (Text s) us vs (Literal s ∷ []) level role (literal_term s)

compared_is : (n k : ℕ) (l : Level) (r : Role) (o : Operand) (c : Cmp) (q : Phase) (ts : List Token) → IsEnd n k l r o ts
    → comparison_ended c (AtWhole (record { level = l; role = r; operand = o })) ≡ Some q → IsPhase n k q (ts ++ Signed (Compare c) ∷ [])
compared_is n k l Left o Equal q ts h e = subst (λ x. IsPhase n k x (ts ++ Signed (Compare Equal) ∷ [])) (some_same (Due l (Right Same o)) q e) (right_of n k l o ts h).0
compared_is n k l Left o Differ q ts h e = subst (λ x. IsPhase n k x (ts ++ Signed (Compare Differ) ∷ [])) (some_same (Due l (Right Different o)) q e) (right_of n k l o ts h).1
compared_is n k l Left o Less q ts h e = absurd (let no : None ≡ Some q = e in cc)
compared_is n k l Left o AtMost q ts h e = absurd (let no : None ≡ Some q = e in cc)
compared_is n k l Left o More q ts h e = absurd (let no : None ≡ Some q = e in cc)
compared_is n k l Left o AtLeast q ts h e = absurd (let no : None ≡ Some q = e in cc)
compared_is n k l (Right s a) o c q ts h e = absurd (let no : None ≡ Some q = e in cc)
compared_is n k l (Counted b) o c q ts h e = absurd (let no : None ≡ Some q = e in cc)

number_due : (n : ℕ) (l : Level) (w : Walk) (c : Cmp) (ts : List Token) → IsCountEnd n l w ts → IsNumberDue n l w c (ts ++ Signed (Compare c) ∷ [])
number_due n l w c ts (is_count_end {m = m} _ _ {us = us} {ts = xs} level leads may) =
    subst (λ x. IsNumberDue (suc m) l w c x) (sym (append_assoc us (plain (codes "count") ∷ Signed Open ∷ (xs ++ Signed Close ∷ [])) (Signed (Compare c) ∷ [])))
    (subst (λ x. IsNumberDue (suc m) l w c (us ++ plain (codes "count") ∷ Signed Open ∷ x)) (sym (append_assoc xs (Signed Close ∷ []) (Signed (Compare c) ∷ [])))
    (is_number_due l w c level leads may))

comparison_ended_is : (n k : ℕ) (p q : Phase) (c : Cmp) (ts : List Token) → IsPhase n k p ts → comparison_ended c p ≡ Some q → IsPhase n k q (ts ++ Signed (Compare c) ∷ [])
comparison_ended_is n k (AtWhole w) q c ts h e = compared_is n k w.level w.role w.operand c q ts h e
comparison_ended_is n k (Comparison l w) q c ts h e =
    subst (λ x. IsPhase n k x (ts ++ Signed (Compare c) ∷ [])) (some_same (NumberDue l w c) q e) (h.0, number_due n l w c ts h.1)
comparison_ended_is n k (Due l r) q c ts h e = absurd (let no : None ≡ Some q = e in cc)
comparison_ended_is n k (Step l p) q c ts h e = absurd (let no : None ≡ Some q = e in cc)
comparison_ended_is n k (Named' l x) q c ts h e = absurd (let no : None ≡ Some q = e in cc)
comparison_ended_is n k (AtCurrent l r) q c ts h e = absurd (let no : None ≡ Some q = e in cc)
comparison_ended_is n k (AtTested t) q c ts h e = absurd (let no : None ≡ Some q = e in cc)
comparison_ended_is n k (NumberDue l w d) q c ts h e = absurd (let no : None ≡ Some q = e in cc)

pub comparison_is : (n k : ℕ) (p q : Phase) (c : Cmp) (ts : List Token) → IsPhase n k p ts → comparison p c ≡ Some q → IsPhase n k q (ts ++ Signed (Compare c) ∷ [])
comparison_is n k p q c ts h e = comparison_ended_is n k (ended p) q c ts (ended_is n k p ts h) e

-- a number
counted_test : (n : ℕ) (l : Level) (w : Walk) (c : Cmp) (i : ℕ) (ts : List Token) → IsNumberDue n l w c ts
    → IsTested n (with_test l (count (path_of w) c i)) (ts ++ Number i ∷ [])
counted_test n l w c i ts (is_number_due {m = m} _ _ _ {us = us} {ts = xs} level leads may) =
    let tested = IsTested (suc m) (with_test l (count (path_of w) c i)) in
    subst tested (sym (append_assoc us (plain (codes "count") ∷ Signed Open ∷ (xs ++ Signed Close ∷ Signed (Compare c) ∷ [])) (Number i ∷ [])))
    (subst (λ x. tested (us ++ plain (codes "count") ∷ Signed Open ∷ x)) (sym (append_assoc xs (Signed Close ∷ Signed (Compare c) ∷ []) (Number i ∷ [])))
    (level_test level (count_test c i leads may)))

pub number_is : (n k : ℕ) (p q : Phase) (i : ℕ) (ts : List Token) → IsPhase n k p ts → number p i ≡ Some q → IsPhase n k q (ts ++ Number i ∷ [])
number_is n k (NumberDue l w c) q i ts h e =
    subst (λ x. IsPhase n k x (ts ++ Number i ∷ [])) (some_same (AtTested (with_test l (count (path_of w) c i))) q e) (h.0, counted_test n l w c i ts h.1)
number_is n k (Due l r) q i ts h e = absurd (let no : None ≡ Some q = e in cc)
number_is n k (Step l p) q i ts h e = absurd (let no : None ≡ Some q = e in cc)
number_is n k (Named' l x) q i ts h e = absurd (let no : None ≡ Some q = e in cc)
number_is n k (AtWhole w) q i ts h e = absurd (let no : None ≡ Some q = e in cc)
number_is n k (AtCurrent l r) q i ts h e = absurd (let no : None ≡ Some q = e in cc)
number_is n k (AtTested t) q i ts h e = absurd (let no : None ≡ Some q = e in cc)
number_is n k (Comparison l w) q i ts h e = absurd (let no : None ≡ Some q = e in cc)
