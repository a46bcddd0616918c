-- What is read is spelled: what opens and closes a nesting, and the whole.
use Rattle.std.proofs.Common.{◌≡◌, ℕ, zero, suc, ◌+◌, ◌-◌, ◌<◌, Bool, true, false, cond, nat_lt, List, [], ◌∷◌, ◌++◌, codes, Option, Some, None, option_map, option_and_then, refl, sym, ap, subst, ◌∙◌, append_assoc, arith}
use Rattle.std.proofs.lemmas.List.{append-nil}
use Rattle.std.proofs.lemmas.Slice.Eq.{bytes_eq-Decides}
use Rattle.std.specs.Str.{bytes_eq}
use Rattle.xpath_part.specs.Expression.{Expression, along, not_of, no_predicates, no_strides, Stride, strides_of, predicates_of}
use Rattle.xpath_part.specs.Expressions.{path_of}
use Rattle.xpath_part.specs.Following.{slash, up, stay, comparison, word, literal, number}
use Rattle.xpath_part.specs.Grammar.{plain, IsOr, not_test, group, at_current, IsPath, ArePredicates, none_more, AreSteps, from_context}
use Rattle.xpath_part.specs.Nesting.{fresh, function_of, first_of, first_name, called, called_by, opened, predicate_of, closed, closed_ended, left_group, left_predicate, with_predicate}
use Rattle.xpath_part.specs.Phases.{with_test, ended, value_of, start_walk}
use Rattle.xpath_part.specs.Reading.{run, read, read_sign, reader_at, entered_by, left, left_bracket, finish, parse}
use Rattle.xpath_part.specs.declared.expressions.Operand.{Operand}
use Rattle.xpath_part.specs.declared.expressions.Operand.TheVariants.{Walk as Walks, Literal as Text}
use Rattle.xpath_part.specs.declared.expressions.Walk.{Walk}
use Rattle.xpath_part.specs.declared.nesting.Frame.{Frame}
use Rattle.xpath_part.specs.declared.nesting.Opening.TheVariants.{Group, Negation, Predicate}
use Rattle.xpath_part.specs.declared.nesting.Opened.{Opened}
use Rattle.xpath_part.specs.declared.nesting.Opened.TheVariants.{Nested, Flat}
use Rattle.xpath_part.specs.declared.nesting.Closed.{Closed}
use Rattle.xpath_part.specs.declared.nesting.Closed.TheVariants.{Value, Flat as FlatEnd}
use Rattle.xpath_part.specs.declared.nesting.Function.{Function}
use Rattle.xpath_part.specs.declared.nesting.Function.TheVariants.{Not, Count, Current as CurrentNode}
use Rattle.xpath_part.specs.declared.origins.Origin.{Origin}
use Rattle.xpath_part.specs.declared.origins.Origin.TheVariants.{Root, Context, Current}
use Rattle.xpath_part.specs.declared.phases.Level.{Level}
use Rattle.xpath_part.specs.declared.phases.Role.{Role}
use Rattle.xpath_part.specs.declared.phases.Role.TheVariants.{Left, Right, Counted}
use Rattle.xpath_part.specs.declared.phases.Named.{Named}
use Rattle.xpath_part.specs.declared.phases.Phase.{Phase}
use Rattle.xpath_part.specs.declared.phases.Phase.TheVariants.{Due, Step, Name as Named', Whole as AtWhole, Current as AtCurrent, Tested as AtTested, Comparison, Number as NumberDue}
use Rattle.xpath_part.specs.declared.reading.Reader.{Reader}
use Rattle.xpath_part.specs.declared.symbols.Sign.{Sign}
use Rattle.xpath_part.specs.declared.symbols.Sign.TheVariants.{Slash, Open, Close, OpenBracket, CloseBracket, Compare, Up, Stay}
use Rattle.xpath_part.specs.declared.symbols.Token.{Token}
use Rattle.xpath_part.specs.declared.symbols.Token.TheVariants.{Sign as Signed, Name, Literal, Number}
use Rattle.xpath_part.proofs.PhaseTokens.{no_ors, no_ands, IsLevel, is_level, level_test, Fits, IsRole, is_left, is_right, is_counted, IsBefore, before_context, before_root, before_next, predicates_on, predicates_of-snoc, IsDue, is_due, IsNamed, is_named, IsWalkEnd, is_walk_end, IsEnd, IsCurrentDue, is_current_due, IsCountEnd, is_count_end, IsPhase, ended_is, value_is, some_same}
use Rattle.xpath_part.proofs.ReadSteps.{slash_is, up_is, stay_is, comparison_is, word_is, literal_is, number_is}

-- a nesting that is open: the levels outside it, those inside, and how many are open between
pub data IsFrame : ℕ → ℕ → ℕ → Frame → List Token → Type 0 where
  group_frame : {n : ℕ} (l : Level) {us : List Token} → IsLevel (suc n) l us
      → IsFrame (suc n) n 0 (record { level = l; opening = Group }) (us ++ Signed Open ∷ [])
  not_frame : {n : ℕ} (l : Level) {us : List Token} → IsLevel (suc n) l us
      → IsFrame (suc n) n 0 (record { level = l; opening = Negation }) (us ++ plain (codes "not") ∷ Signed Open ∷ [])
  predicate_frame : {n m k : ℕ} (l : Level) (x : Named) {us : List Token} → IsNamed n (suc m) k l x us
      → IsFrame n m k (record { level = l; opening = Predicate x }) (us ++ Signed OpenBracket ∷ [])

-- those round the innermost nesting: its levels, and how many are open round it
pub data AreFrames : ℕ → ℕ → List Frame → List Token → Type 0 where
  no_frames : AreFrames 32 0 [] []
  one_frame : {n m k d : ℕ} (f : Frame) (fs : List Frame) {xs ys : List Token} → AreFrames n d fs xs → IsFrame n m k f ys
      → AreFrames m (suc (d + k)) (f ∷ fs) (xs ++ ys)

role_levels : {n m k : ℕ} {r : Role} {vs : List Token} → IsRole n m k r vs → m + k ≡ n
role_levels {n = n} is_left = omega arith
role_levels {n = n} (is_right r o h) = omega arith
role_levels (is_counted {m = m} past) = omega arith

named_levels : {n m k : ℕ} {l : Level} {x : Named} {ts : List Token} → IsNamed n m k l x ts → m + k ≡ n
named_levels (is_named l x level role before tests fits) = role_levels role

frame_levels : {n m k : ℕ} {f : Frame} {ts : List Token} → IsFrame n m k f ts → m + k + 1 ≡ n
frame_levels (group_frame {n = n} l h) = omega arith
frame_levels (not_frame {n = n} l h) = omega arith
frame_levels (predicate_frame {n = n} {m = m} {k = k} l x h) = omega (arith, named_levels h)

frames_levels : {n d : ℕ} {fs : List Frame} {ts : List Token} → AreFrames n d fs ts → n + d ≡ 32
frames_levels no_frames = refl
frames_levels (one_frame {n = n} {m = m} {k = k} {d = d} f fs h g) = omega (arith, frames_levels h, frame_levels g)

-- the tokens so far are those of the open nestings, and those of the innermost
pub record Stands (r : Reader) (us : List Token) : Type 0 where
  levels : ℕ
  round : ℕ
  between : ℕ
  before : List Token
  inside : List Token
  frames : AreFrames levels round r.frames before
  phase : IsPhase levels between r.phase inside
  depth : r.depth ≡ round + between
  split : us ≡ before ++ inside

fresh_is : (n : ℕ) → IsPhase n 0 fresh []
fresh_is n = is_due (record { ors = None; ands = None }) Left (is_level (record { ors = None; ands = None }) no_ors no_ands) is_left tt

-- a token that opens and closes nothing
at_level : (o : Option Phase) (r s : Reader) (us : List Token) (t : Token) (h : Stands r us)
    → ((q : Phase) → o ≡ Some q → IsPhase h.levels h.between q (h.inside ++ t ∷ []))
    → reader_at o r.frames r.depth ≡ Some s → Stands s (us ++ t ∷ [])
at_level None r s us t h next e = absurd (let no : None ≡ Some s = e in cc)
at_level (Some q) r s us t h next e =
    subst (λ x. Stands x (us ++ t ∷ [])) (some_same (record { phase = q; frames = r.frames; depth = r.depth }) s e)
    (record {
      levels = h.levels;
      round = h.round;
      between = h.between;
      before = h.before;
      inside = h.inside ++ t ∷ [];
      frames = h.frames;
      phase = next q refl;
      depth = h.depth;
      split = ap (λ x. x ++ t ∷ []) h.split ∙ append_assoc h.before h.inside (t ∷ []);
    })

opens : (xs us vs t : List Token) → (xs ++ (us ++ vs)) ++ t ≡ (xs ++ (us ++ (vs ++ t))) ++ []
opens xs us vs t = append_assoc xs (us ++ vs) t ∙ ap (λ y. xs ++ y) (append_assoc us vs t) ∙ sym (append-nil (xs ++ (us ++ (vs ++ t))))

-- a nesting opens
open_frame : (n m d k depth : ℕ) (f : Frame) (fs : List Frame) (xs ys us : List Token) (t : Token) → AreFrames n d fs xs → IsFrame n m k f (ys ++ t ∷ [])
    → depth ≡ d + k → us ≡ xs ++ ys
    → Stands (record { phase = fresh; frames = f ∷ fs; depth = depth + 1 }) (us ++ t ∷ [])
open_frame n m d k depth f fs xs ys us t frames frame deep split =
    record {
      levels = m;
      round = suc (d + k);
      between = 0;
      before = xs ++ (ys ++ t ∷ []);
      inside = [];
      frames = one_frame f fs frames frame;
      phase = fresh_is m;
      depth = omega (arith, deep);
      split = ap (λ y. y ++ t ∷ []) split ∙ append_assoc xs ys (t ∷ []) ∙ sym (append-nil (xs ++ (ys ++ t ∷ [])));
    }

-- a parenthesis without an expression in it
open_flat : (r : Reader) (q : Phase) (us : List Token) (t : Token) (h : Stands r us) → IsPhase h.levels (h.between + 1) q (h.inside ++ t ∷ [])
    → Stands (record { phase = q; frames = r.frames; depth = r.depth + 1 }) (us ++ t ∷ [])
open_flat r q us t h phase =
    record {
      levels = h.levels;
      round = h.round;
      between = h.between + 1;
      before = h.before;
      inside = h.inside ++ t ∷ [];
      frames = h.frames;
      phase = phase;
      depth = omega (arith, h.depth);
      split = ap (λ x. x ++ t ∷ []) h.split ∙ append_assoc h.before h.inside (t ∷ []);
    }

-- a parenthesis without an expression in it closes
close_flat : (r : Reader) (q : Phase) (us : List Token) (t : Token) (h : Stands r us) (k : ℕ) → h.between ≡ k + 1 → IsPhase h.levels k q (h.inside ++ t ∷ [])
    → Stands (record { phase = q; frames = r.frames; depth = r.depth - 1 }) (us ++ t ∷ [])
close_flat r q us t h k less phase =
    record {
      levels = h.levels;
      round = h.round;
      between = k;
      before = h.before;
      inside = h.inside ++ t ∷ [];
      frames = h.frames;
      phase = phase;
      depth = omega (arith, h.depth, less);
      split = ap (λ x. x ++ t ∷ []) h.split ∙ append_assoc h.before h.inside (t ∷ []);
    }

no_steps : {n : ℕ} {ts : List Token} → AreSteps n ts no_strides → ⊥
no_steps h = elim h [ ]

no_path : {n : ℕ} {ts : List Token} → IsPath n ts (along Context no_strides) → ⊥
no_path (from_context h) = no_steps h

abbrev function_word : Function → List ℕ
function_word Not = codes "not"
function_word Count = codes "count"
function_word CurrentNode = codes "current"

function_by : (name : List ℕ) (f : Function) (a b c : Bool) → (a ≡ true → name ≡ codes "not") → (b ≡ true → name ≡ codes "count") → (c ≡ true → name ≡ codes "current")
    → cond a (Some Not) (cond b (Some Count) (cond c (Some CurrentNode) None)) ≡ Some f → name ≡ function_word f
function_by name f true b c is_not is_count is_current e = is_not refl ∙ ap function_word (some_same Not f e)
function_by name f false true c is_not is_count is_current e = is_count refl ∙ ap function_word (some_same Count f e)
function_by name f false false true is_not is_count is_current e = is_current refl ∙ ap function_word (some_same CurrentNode f e)
function_by name f false false false is_not is_count is_current e = absurd (let no : None ≡ Some f = e in cc)

function_is : (name : List ℕ) (f : Function) → function_of name ≡ Some f → name ≡ function_word f
function_is name f e =
    function_by name f (bytes_eq name (codes "not")) (bytes_eq name (codes "count")) (bytes_eq name (codes "current"))
    (bytes_eq-Decides name (codes "not")).0 (bytes_eq-Decides name (codes "count")).0 (bytes_eq-Decides name (codes "current")).0 e

first_is : (o : Origin) (ss : List Stride) (prefix : Option (List ℕ)) (name : List ℕ) (es : List Expression) (f : Function)
    → first_of o ss prefix name es ≡ Some f
    → (o ≡ Context) × (ss ≡ []) × (prefix ≡ None) × (es ≡ []) × (name ≡ function_word f)
first_is Context [] None name [] f e = (refl, refl, refl, refl, function_is name f e)
first_is Context [] None name (x ∷ es) f e = absurd (let no : None ≡ Some f = e in cc)
first_is Context [] (Some p) name es f e = absurd (let no : None ≡ Some f = e in cc)
first_is Context (s ∷ ss) prefix name es f e = absurd (let no : None ≡ Some f = e in cc)
first_is Root ss prefix name es f e = absurd (let no : None ≡ Some f = e in cc)
first_is Current ss prefix name es f e = absurd (let no : None ≡ Some f = e in cc)

before_none : {n : ℕ} {w : Walk} {ts : List Token} → w ≡ start_walk Context → IsBefore n w ts → ts ≡ []
before_none e (before_context w h) = refl
before_none e (before_root w h) = absurd (let no : Root ≡ Context = ap (λ x. x.origin) (sym h ∙ e) in cc)
before_none {n = n} e (before_next w {ts = ts} h) = absurd (no_path (subst (λ x. IsPath n ts (path_of x)) e h))

none_tests : {n : ℕ} {ts : List Token} → ArePredicates n ts no_predicates → ts ≡ []
none_tests none_more = refl

-- a function before its parenthesis
record IsCall (n m k : ℕ) (l : Level) (r : Role) (f : Function) (ys : List Token) : Type 0 where
  front : List Token
  side : List Token
  level : IsLevel n l front
  role : IsRole n m k r side
  fits : Fits r no_strides
  split : ys ≡ front ++ (side ++ plain (function_word f) ∷ [])

call_is : {n m k : ℕ} {l : Level} {x : Named} {ys : List Token} (f : Function) → IsNamed n m k l x ys → first_name x ≡ Some f
    → IsCall n m k l x.place.role f ys
call_is f (is_named {m = m} l x {us = us} {vs = vs} {ts = ts} {ps = ps} level role before tests fits) e =
    let first = first_is x.place.walk.origin x.place.walk.steps x.prefix x.name x.tests f e in
    let starts : x.place.walk ≡ start_walk Context = λ i. record { origin = first.0 i; steps = first.1 i } in
    let no_before = before_none starts before in
    let no_tests = none_tests (subst (λ es. ArePredicates m ps (predicates_of es)) first.3 tests) in
    record {
      front = us;
      side = vs;
      level = level;
      role = role;
      fits = subst (λ ss. Fits x.place.role (strides_of ss)) first.1 fits;
      split = λ i. us ++ (vs ++ (no_before i ++ Name (first.2 i) (first.4 i) ∷ no_tests i));
    }

abbrev nested_or : Frame → Opened → Frame
nested_or f (Nested g) = g
nested_or f (Flat q) = f

abbrev flat_or : Phase → Opened → Phase
flat_or q (Nested g) = q
flat_or q (Flat p) = p

abbrev IsNested : Opened → Type 0
IsNested (Nested g) = Unit {0}
IsNested (Flat q) = ⊥

nested_flat : (f : Frame) (q : Phase) → Some (Nested f) ≡ Some (Flat q) → ⊥
nested_flat f q e = subst IsNested (some_same (Nested f) (Flat q) e) tt

-- nothing stands between a level and its left side
left_none : {n m k : ℕ} {vs : List Token} → IsRole n m k Left vs → (k ≡ 0) × (vs ≡ [])
left_none is_left = (refl, refl)

not_flat : (l : Level) (r : Role) (q : Phase) → called Not l r ≡ Some (Flat q) → ⊥
not_flat l Left q e = nested_flat (record { level = l; opening = Negation }) q e
not_flat l (Right s o) q e = absurd (let no : None ≡ Some (Flat q) = e in cc)
not_flat l (Counted b) q e = absurd (let no : None ≡ Some (Flat q) = e in cc)

-- `(` opens a nesting
called_frame : (n m k : ℕ) (l : Level) (r : Role) (c : Function) (f : Frame) (ys : List Token) → IsCall (suc n) m k l r c ys
    → called c l r ≡ Some (Nested f) → IsFrame (suc n) n k f (ys ++ Signed Open ∷ [])
called_frame n m k l r CurrentNode f ys h e = absurd (nested_flat f (AtCurrent l r) (sym e))
called_frame n m k l Left Count f ys h e = absurd (nested_flat f (Due l (Counted false)) (sym e))
called_frame n m k l (Right q o) Count f ys h e = absurd (let no : None ≡ Some (Nested f) = e in cc)
called_frame n m k l (Counted b) Count f ys h e = absurd (let no : None ≡ Some (Nested f) = e in cc)
called_frame n m k l (Right q o) Not f ys h e = absurd (let no : None ≡ Some (Nested f) = e in cc)
called_frame n m k l (Counted b) Not f ys h e = absurd (let no : None ≡ Some (Nested f) = e in cc)
called_frame n m k l Left Not f ys h e =
    let frame : Frame = record { level = l; opening = Negation } in
    let side = left_none h.role in
    subst (λ g. IsFrame (suc n) n k g (ys ++ Signed Open ∷ [])) (ap (nested_or f) (some_same (Nested frame) (Nested f) e))
    (subst (λ x. IsFrame (suc n) n k frame (x ++ Signed Open ∷ [])) (sym (h.split ∙ ap (λ v. h.front ++ (v ++ plain (codes "not") ∷ [])) side.1))
    (subst (λ x. IsFrame (suc n) n k frame x) (sym (append_assoc h.front (plain (codes "not") ∷ []) (Signed Open ∷ [])))
    (subst (λ j. IsFrame (suc n) n j frame (h.front ++ plain (codes "not") ∷ Signed Open ∷ [])) (sym side.0) (not_frame l h.level))))

group_opened : (n k : ℕ) (l : Level) (f : Frame) (ys : List Token) → IsDue (suc n) k l Left ys
    → Some (Nested (record { level = l; opening = Group })) ≡ Some (Nested f) → IsFrame (suc n) n k f (ys ++ Signed Open ∷ [])
group_opened n k l f ys (is_due _ _ {us = us} {vs = vs} level role fits) e =
    let frame : Frame = record { level = l; opening = Group } in
    let side = left_none role in
    subst (λ g. IsFrame (suc n) n k g ((us ++ vs) ++ Signed Open ∷ [])) (ap (nested_or f) (some_same (Nested frame) (Nested f) e))
    (subst (λ x. IsFrame (suc n) n k frame ((us ++ x) ++ Signed Open ∷ [])) (sym side.1)
    (subst (λ x. IsFrame (suc n) n k frame (x ++ Signed Open ∷ [])) (sym (append-nil us))
    (subst (λ j. IsFrame (suc n) n j frame (us ++ Signed Open ∷ [])) (sym side.0) (group_frame l level))))

named_opened : (n m k : ℕ) (l : Level) (x : Named) (f : Frame) (ys : List Token) → IsNamed (suc n) m k l x ys
    → (o : Option Function) → first_name x ≡ o → called_by o l x.place.role ≡ Some (Nested f) → IsFrame (suc n) n k f (ys ++ Signed Open ∷ [])
named_opened n m k l x f ys h None o e = absurd (let no : None ≡ Some (Nested f) = e in cc)
named_opened n m k l x f ys h (Some c) o e = called_frame n m k l x.place.role c f ys (call_is c h o) e

opened_frame : (n k d : ℕ) → n + d ≡ 32 → d + k < 32 → (p : Phase) (ys : List Token) (f : Frame) → IsPhase n k p ys → opened p ≡ Some (Nested f)
    → (m : ℕ) × IsFrame n m k f (ys ++ Signed Open ∷ [])
opened_frame zero k d room low p ys f h e = absurd (omega (arith, room, low))
opened_frame (suc n) k d room low (Due l Left) ys f h e = (n, group_opened n k l f ys h e)
opened_frame (suc n) k d room low (Due l (Right r o)) ys f h e = absurd (let no : None ≡ Some (Nested f) = e in cc)
opened_frame (suc n) k d room low (Due l (Counted b)) ys f h e = absurd (let no : None ≡ Some (Nested f) = e in cc)
opened_frame (suc n) k d room low (Named' l x) ys f h e = (n, named_opened n h.0 k l x f ys h.1 (first_name x) refl e)
opened_frame (suc n) k d room low (Step l p) ys f h e = absurd (let no : None ≡ Some (Nested f) = e in cc)
opened_frame (suc n) k d room low (AtWhole w) ys f h e = absurd (let no : None ≡ Some (Nested f) = e in cc)
opened_frame (suc n) k d room low (AtCurrent l r) ys f h e = absurd (let no : None ≡ Some (Nested f) = e in cc)
opened_frame (suc n) k d room low (AtTested t) ys f h e = absurd (let no : None ≡ Some (Nested f) = e in cc)
opened_frame (suc n) k d room low (Comparison l w) ys f h e = absurd (let no : None ≡ Some (Nested f) = e in cc)
opened_frame (suc n) k d room low (NumberDue l w c) ys f h e = absurd (let no : None ≡ Some (Nested f) = e in cc)

-- `(` opens what has no expression in it
called_flat : (n m k d : ℕ) → n + d ≡ 32 → d + k < 32 → (l : Level) (r : Role) (c : Function) (q : Phase) (ys : List Token) → IsCall n m k l r c ys
    → called c l r ≡ Some (Flat q) → IsPhase n (k + 1) q (ys ++ Signed Open ∷ [])
called_flat n m k d room low l r Not q ys h e = absurd (not_flat l r q e)
called_flat n m k d room low l (Right s o) Count q ys h e = absurd (let no : None ≡ Some (Flat q) = e in cc)
called_flat n m k d room low l (Counted b) Count q ys h e = absurd (let no : None ≡ Some (Flat q) = e in cc)
called_flat zero m k d room low l Left Count q ys h e = absurd (omega (arith, room, low))
called_flat (suc n) m k d room low l Left Count q ys h e =
    let side = left_none h.role in
    subst (λ p. IsPhase (suc n) (k + 1) p (ys ++ Signed Open ∷ [])) (ap (flat_or q) (some_same (Flat (Due l (Counted false))) (Flat q) e))
    (subst (λ x. IsDue (suc n) (k + 1) l (Counted false) (x ++ Signed Open ∷ [])) (sym (h.split ∙ ap (λ v. h.front ++ (v ++ plain (codes "count") ∷ [])) side.1))
    (subst (λ x. IsDue (suc n) (k + 1) l (Counted false) x) (sym (append_assoc h.front (plain (codes "count") ∷ []) (Signed Open ∷ [])))
    (subst (λ j. IsDue (suc n) (j + 1) l (Counted false) (h.front ++ plain (codes "count") ∷ Signed Open ∷ [])) (sym side.0)
    (is_due l (Counted false) h.level (is_counted false) (tt, refl)))))
called_flat n zero k d room low l r CurrentNode q ys h e = absurd (omega (arith, room, low, role_levels h.role))
called_flat n (suc m) k d room low l r CurrentNode q ys h e =
    subst (λ p. IsPhase n (k + 1) p (ys ++ Signed Open ∷ [])) (ap (flat_or q) (some_same (Flat (AtCurrent l r)) (Flat q) e))
    (subst (λ x. IsCurrentDue n (k + 1) l r (x ++ Signed Open ∷ [])) (sym h.split)
    (subst (λ x. IsCurrentDue n (k + 1) l r x) (sym (append_assoc h.front (h.side ++ plain (codes "current") ∷ []) (Signed Open ∷ []) ∙ ap (λ x. h.front ++ x) (append_assoc h.side (plain (codes "current") ∷ []) (Signed Open ∷ []))))
    (is_current_due (k + 1) l r refl h.level h.role h.fits)))

named_flat : (n m k d : ℕ) → n + d ≡ 32 → d + k < 32 → (l : Level) (x : Named) (q : Phase) (ys : List Token) → IsNamed n m k l x ys
    → (o : Option Function) → first_name x ≡ o → called_by o l x.place.role ≡ Some (Flat q) → IsPhase n (k + 1) q (ys ++ Signed Open ∷ [])
named_flat n m k d room low l x q ys h None o e = absurd (let no : None ≡ Some (Flat q) = e in cc)
named_flat n m k d room low l x q ys h (Some c) o e = called_flat n m k d room low l x.place.role c q ys (call_is c h o) e

opened_flat : (n k d : ℕ) → n + d ≡ 32 → d + k < 32 → (p q : Phase) (ys : List Token) → IsPhase n k p ys → opened p ≡ Some (Flat q)
    → IsPhase n (k + 1) q (ys ++ Signed Open ∷ [])
opened_flat n k d room low (Named' l x) q ys h e = named_flat n h.0 k d room low l x q ys h.1 (first_name x) refl e
opened_flat n k d room low (Due l Left) q ys h e = absurd (nested_flat (record { level = l; opening = Group }) q e)
opened_flat n k d room low (Due l (Right r o)) q ys h e = absurd (let no : None ≡ Some (Flat q) = e in cc)
opened_flat n k d room low (Due l (Counted b)) q ys h e = absurd (let no : None ≡ Some (Flat q) = e in cc)
opened_flat n k d room low (Step l p) q ys h e = absurd (let no : None ≡ Some (Flat q) = e in cc)
opened_flat n k d room low (AtWhole w) q ys h e = absurd (let no : None ≡ Some (Flat q) = e in cc)
opened_flat n k d room low (AtCurrent l r) q ys h e = absurd (let no : None ≡ Some (Flat q) = e in cc)
opened_flat n k d room low (AtTested t) q ys h e = absurd (let no : None ≡ Some (Flat q) = e in cc)
opened_flat n k d room low (Comparison l w) q ys h e = absurd (let no : None ≡ Some (Flat q) = e in cc)
opened_flat n k d room low (NumberDue l w c) q ys h e = absurd (let no : None ≡ Some (Flat q) = e in cc)

counted_role : {n m k : ℕ} {b : Bool} {vs : List Token} → IsRole n m k (Counted b) vs → (n ≡ suc m) × (k ≡ 0 + 1) × (vs ≡ plain (codes "count") ∷ Signed Open ∷ [])
counted_role (is_counted past) = (refl, refl, refl)

abbrev end_or : Phase → Closed → Phase
end_or q (Value e) = q
end_or q (FlatEnd p) = p

abbrev IsValue : Closed → Type 0
IsValue (Value e) = Unit {0}
IsValue (FlatEnd q) = ⊥

value_flat : (e : Expression) (q : Phase) → Some (Value e) ≡ Some (FlatEnd q) → ⊥
value_flat e q h = subst IsValue (some_same (Value e) (FlatEnd q) h) tt

no_flat : (o : Option Expression) (q : Phase) → option_map (λ e. Value e) o ≡ Some (FlatEnd q) → ⊥
no_flat None q h = absurd (let no : None ≡ Some (FlatEnd q) = h in cc)
no_flat (Some e) q h = value_flat e q h

abbrev value_or : Expression → Closed → Expression
value_or d (Value e) = e
value_or d (FlatEnd q) = d

some_value : (o : Option Expression) (e : Expression) → option_map (λ x. Value x) o ≡ Some (Value e) → o ≡ Some e
some_value None e h = absurd (let no : None ≡ Some (Value e) = h in cc)
some_value (Some d) e h = ap Some (ap (value_or d) (some_same (Value d) (Value e) h))

-- `)` closes what has no expression in it
record EndsFlat (n k : ℕ) (q : Phase) (ys : List Token) : Type 0 where
  between : ℕ
  less : k ≡ between + 1
  phase : IsPhase n between q (ys ++ Signed Close ∷ [])

counted_flat : (n k : ℕ) (l : Level) (b : Bool) (w : Walk) (q : Phase) (ys : List Token) → IsWalkEnd n k l (Counted b) w ys
    → Some (FlatEnd (Comparison l w)) ≡ Some (FlatEnd q) → EndsFlat n k q ys
counted_flat n k l b w q ys (is_walk_end {m = m} _ _ _ {us = us} {vs = vs} {ts = ts} level role leads fits) e =
    let side = counted_role role in
    let ends : IsCountEnd (suc m) l w (us ++ plain (codes "count") ∷ Signed Open ∷ (ts ++ Signed Close ∷ [])) =
    is_count_end l w (subst (λ j. IsLevel j l us) side.0 level) leads fits.0 in
    record {
      between = 0;
      less = side.1;
      phase = subst (λ p. IsPhase n 0 p ((us ++ (vs ++ ts)) ++ Signed Close ∷ [])) (ap (end_or q) (some_same (FlatEnd (Comparison l w)) (FlatEnd q) e)) (
        refl,
        subst (λ x. IsCountEnd n l w x) (sym (append_assoc us (vs ++ ts) (Signed Close ∷ []) ∙ ap (λ v. us ++ ((v ++ ts) ++ Signed Close ∷ [])) side.2))
            (subst (λ j. IsCountEnd j l w (us ++ plain (codes "count") ∷ Signed Open ∷ (ts ++ Signed Close ∷ []))) (sym side.0) ends),
      );
    }

current_flat : (n k : ℕ) (l : Level) (r : Role) (q : Phase) (ys : List Token) → IsCurrentDue n k l r ys
    → Some (FlatEnd (AtWhole (record { level = l; role = r; operand = Walks (start_walk Current) }))) ≡ Some (FlatEnd q) → EndsFlat n k q ys
current_flat n k l r q ys (is_current_due {k = j} _ _ _ {us = us} {vs = vs} less level role fits) e =
    record {
      between = j;
      less = less;
      phase = subst (λ p. IsPhase n j p ((us ++ (vs ++ plain (codes "current") ∷ Signed Open ∷ [])) ++ Signed Close ∷ []))
          (ap (end_or q) (some_same (FlatEnd (AtWhole (record { level = l; role = r; operand = Walks (start_walk Current) }))) (FlatEnd q) e))
          (subst (λ x. IsWalkEnd n j l r (start_walk Current) x) (sym (append_assoc us (vs ++ plain (codes "current") ∷ Signed Open ∷ []) (Signed Close ∷ [])
          ∙ ap (λ x. us ++ x) (append_assoc vs (plain (codes "current") ∷ Signed Open ∷ []) (Signed Close ∷ []))))
          (is_walk_end l r (start_walk Current) level role at_current fits));
    }

operand_flat : (n k : ℕ) (l : Level) (r : Role) (o : Operand) (q : Phase) (ys : List Token) → IsEnd n k l r o ys
    → closed_ended (AtWhole (record { level = l; role = r; operand = o })) ≡ Some (FlatEnd q) → EndsFlat n k q ys
operand_flat n k l (Counted b) (Walks w) q ys h e = counted_flat n k l b w q ys h e
operand_flat n k l (Counted b) (Text s) q ys h e = absurd (let no : None ≡ Some (FlatEnd q) = e in cc)
operand_flat n k l Left o q ys h e = absurd (no_flat (value_of (AtWhole (record { level = l; role = Left; operand = o }))) q e)
operand_flat n k l (Right s a) o q ys h e = absurd (no_flat (value_of (AtWhole (record { level = l; role = Right s a; operand = o }))) q e)

closed_flat : (n k : ℕ) (p q : Phase) (ys : List Token) → IsPhase n k p ys → closed_ended p ≡ Some (FlatEnd q) → EndsFlat n k q ys
closed_flat n k (AtWhole w) q ys h e = operand_flat n k w.level w.role w.operand q ys h e
closed_flat n k (AtCurrent l r) q ys h e = current_flat n k l r q ys h e
closed_flat n k (AtTested t) q ys h e = absurd (no_flat (value_of (AtTested t)) q e)
closed_flat n k (Due l r) q ys h e = absurd (let no : None ≡ Some (FlatEnd q) = e in cc)
closed_flat n k (Step l p) q ys h e = absurd (let no : None ≡ Some (FlatEnd q) = e in cc)
closed_flat n k (Named' l x) q ys h e = absurd (let no : None ≡ Some (FlatEnd q) = e in cc)
closed_flat n k (Comparison l w) q ys h e = absurd (let no : None ≡ Some (FlatEnd q) = e in cc)
closed_flat n k (NumberDue l w c) q ys h e = absurd (let no : None ≡ Some (FlatEnd q) = e in cc)

operand_closes : (l : Level) (r : Role) (o : Operand) (e : Expression)
    → closed_ended (AtWhole (record { level = l; role = r; operand = o })) ≡ Some (Value e) → value_of (AtWhole (record { level = l; role = r; operand = o })) ≡ Some e
operand_closes l Left o e h = some_value (value_of (AtWhole (record { level = l; role = Left; operand = o }))) e h
operand_closes l (Right s a) o e h = some_value (value_of (AtWhole (record { level = l; role = Right s a; operand = o }))) e h
operand_closes l (Counted b) (Walks w) e h = absurd (value_flat e (Comparison l w) (sym h))
operand_closes l (Counted b) (Text s) e h = absurd (let no : None ≡ Some (Value e) = h in cc)

closes : (p : Phase) (e : Expression) → closed_ended p ≡ Some (Value e) → value_of p ≡ Some e
closes (AtWhole w) e h = operand_closes w.level w.role w.operand e h
closes (AtTested t) e h = some_value (value_of (AtTested t)) e h
closes (AtCurrent l r) e h = absurd (value_flat e (AtWhole (record { level = l; role = r; operand = Walks (start_walk Current) })) (sym h))
closes (Due l r) e h = absurd (let no : None ≡ Some (Value e) = h in cc)
closes (Step l p) e h = absurd (let no : None ≡ Some (Value e) = h in cc)
closes (Named' l x) e h = absurd (let no : None ≡ Some (Value e) = h in cc)
closes (Comparison l w) e h = absurd (let no : None ≡ Some (Value e) = h in cc)
closes (NumberDue l w c) e h = absurd (let no : None ≡ Some (Value e) = h in cc)

regroup : (a b c d e : List Token) → ((a ++ (b ++ c)) ++ d) ++ e ≡ a ++ (b ++ (c ++ (d ++ e)))
regroup a b c d e = append_assoc (a ++ (b ++ c)) d e ∙ append_assoc a (b ++ c) (d ++ e) ∙ ap (λ x. a ++ x) (append_assoc b c (d ++ e))

-- `)` closes a nesting
group_closes : (n k' d depth : ℕ) (f : Frame) (fs : List Frame) (xs zs ys us : List Token) (e : Expression) (s : Reader)
    → (n' : ℕ) → AreFrames n' d fs xs → IsFrame n' n k' f zs → IsOr n ys e → depth ≡ suc (d + k') → us ≡ (xs ++ zs) ++ ys
    → reader_at (left_group f e) fs (depth - 1) ≡ Some s → Stands s (us ++ Signed Close ∷ [])
group_closes n k' d depth f fs xs zs ys us e s n' round (group_frame l {us = ls} level) or deep split h =
    subst (λ x. Stands x (us ++ Signed Close ∷ [])) (some_same (record { phase = AtTested (with_test l e); frames = fs; depth = depth - 1 }) s h)
    (record {
      levels = suc n;
      round = d;
      between = 0;
      before = xs;
      inside = ls ++ Signed Open ∷ (ys ++ Signed Close ∷ []);
      frames = round;
      phase = (refl, level_test level (group or));
      depth = omega (arith, deep);
      split = ap (λ x. x ++ Signed Close ∷ []) split ∙ regroup xs ls (Signed Open ∷ []) ys (Signed Close ∷ []);
    })
group_closes n k' d depth f fs xs zs ys us e s n' round (not_frame l {us = ls} level) or deep split h =
    subst (λ x. Stands x (us ++ Signed Close ∷ [])) (some_same (record { phase = AtTested (with_test l (not_of e)); frames = fs; depth = depth - 1 }) s h)
    (record {
      levels = suc n;
      round = d;
      between = 0;
      before = xs;
      inside = ls ++ plain (codes "not") ∷ Signed Open ∷ (ys ++ Signed Close ∷ []);
      frames = round;
      phase = (refl, level_test level (not_test or));
      depth = omega (arith, deep);
      split = ap (λ x. x ++ Signed Close ∷ []) split ∙ regroup xs ls (plain (codes "not") ∷ Signed Open ∷ []) ys (Signed Close ∷ []);
    })
group_closes n k' d depth f fs xs zs ys us e s n' round (predicate_frame l x h) or deep split q = absurd (let no : None ≡ Some s = q in cc)

-- a step with one predicate more
named_more : (n' n k : ℕ) (l : Level) (x : Named) (zs ys : List Token) (e : Expression) → IsNamed n' (suc n) k l x zs → IsOr n ys e
    → IsNamed n' (suc n) k l (with_predicate x e) (zs ++ Signed OpenBracket ∷ (ys ++ Signed CloseBracket ∷ []))
named_more n' n k l x zs ys e (is_named _ _ {us = us} {vs = vs} {ts = ts} {ps = ps} level role before tests fits) or =
    let end = Signed OpenBracket ∷ (ys ++ Signed CloseBracket ∷ []) in
    subst (λ t. IsNamed n' (suc n) k l (with_predicate x e) t)
    (sym (append_assoc us (vs ++ (ts ++ Name x.prefix x.name ∷ ps)) end ∙ ap (λ t. us ++ t) (append_assoc vs (ts ++ Name x.prefix x.name ∷ ps) end ∙ ap (λ t. vs ++ t) (append_assoc ts (Name x.prefix x.name ∷ ps) end))))
    (is_named l (with_predicate x e) level role before
    (subst (λ es. ArePredicates (suc n) (ps ++ end) es) (sym (predicates_of-snoc x.tests e)) (predicates_on tests or)) fits)

-- `]` closes a predicate
bracket_closes : (n k' d depth : ℕ) (f : Frame) (fs : List Frame) (xs zs ys us : List Token) (e : Expression) (s : Reader)
    → (n' : ℕ) → AreFrames n' d fs xs → IsFrame n' n k' f zs → IsOr n ys e → depth ≡ suc (d + k') → us ≡ (xs ++ zs) ++ ys
    → reader_at (left_predicate f e) fs (depth - 1) ≡ Some s → Stands s (us ++ Signed CloseBracket ∷ [])
bracket_closes n k' d depth f fs xs zs ys us e s n' round (predicate_frame l x {us = ls} named) or deep split h =
    subst (λ y. Stands y (us ++ Signed CloseBracket ∷ [])) (some_same (record { phase = Named' l (with_predicate x e); frames = fs; depth = depth - 1 }) s h)
    (record {
      levels = n';
      round = d;
      between = k';
      before = xs;
      inside = ls ++ Signed OpenBracket ∷ (ys ++ Signed CloseBracket ∷ []);
      frames = round;
      phase = (suc n, named_more n' n k' l x ls ys e named or);
      depth = omega (arith, deep);
      split = ap (λ y. y ++ Signed CloseBracket ∷ []) split ∙ regroup xs ls (Signed OpenBracket ∷ []) ys (Signed CloseBracket ∷ []);
    })
bracket_closes n k' d depth f fs xs zs ys us e s n' round (group_frame l level) or deep split h = absurd (let no : None ≡ Some s = h in cc)
bracket_closes n k' d depth f fs xs zs ys us e s n' round (not_frame l level) or deep split h = absurd (let no : None ≡ Some s = h in cc)

pop_group : (n k D depth : ℕ) (fs : List Frame) (xs ys us : List Token) (e : Expression) (s : Reader) → AreFrames n D fs xs → IsOr n ys e → k ≡ 0
    → depth ≡ D + k → us ≡ xs ++ ys → left (Some (Value e)) fs depth ≡ Some s → Stands s (us ++ Signed Close ∷ [])
pop_group n k D depth fs xs ys us e s no_frames or none deep split h = absurd (let no : None ≡ Some s = h in cc)
pop_group n k D depth fs xs ys us e s (one_frame {n = m} {k = j} {d = d} f gs {xs = ws} {ys = zs} round frame) or none deep split h =
    group_closes n j d depth f gs ws zs ys us e s m round frame or (omega (arith, deep, none)) split h

pop_bracket : (n k D depth : ℕ) (fs : List Frame) (xs ys us : List Token) (e : Expression) (s : Reader) → AreFrames n D fs xs → IsOr n ys e → k ≡ 0
    → depth ≡ D + k → us ≡ xs ++ ys → left_bracket (Some e) fs depth ≡ Some s → Stands s (us ++ Signed CloseBracket ∷ [])
pop_bracket n k D depth fs xs ys us e s no_frames or none deep split h = absurd (let no : None ≡ Some s = h in cc)
pop_bracket n k D depth fs xs ys us e s (one_frame {n = m} {k = j} {d = d} f gs {xs = ws} {ys = zs} round frame) or none deep split h =
    bracket_closes n j d depth f gs ws zs ys us e s m round frame or (omega (arith, deep, none)) split h

close_by : (r s : Reader) (us : List Token) (h : Stands r us) (o : Option Closed) → closed r.phase ≡ o → left o r.frames r.depth ≡ Some s
    → Stands s (us ++ Signed Close ∷ [])
close_by r s us h None o e = absurd (let no : None ≡ Some s = e in cc)
close_by r s us h (Some (Value v)) o e =
    let done = value_is h.levels h.between (ended r.phase) v h.inside (ended_is h.levels h.between r.phase h.inside h.phase) (closes (ended r.phase) v o) in
    pop_group h.levels h.between h.round r.depth r.frames h.before h.inside us v s h.frames done.1 done.0 h.depth h.split e
close_by r s us h (Some (FlatEnd q)) o e =
    let ends = closed_flat h.levels h.between (ended r.phase) q h.inside (ended_is h.levels h.between r.phase h.inside h.phase) o in
    subst (λ x. Stands x (us ++ Signed Close ∷ [])) (some_same (record { phase = q; frames = r.frames; depth = r.depth - 1 }) s e)
    (close_flat r q us (Signed Close) h ends.between ends.less ends.phase)

bracket_by : (r s : Reader) (us : List Token) (h : Stands r us) (o : Option Expression) → value_of r.phase ≡ o → left_bracket o r.frames r.depth ≡ Some s
    → Stands s (us ++ Signed CloseBracket ∷ [])
bracket_by r s us h None o e = absurd (let no : None ≡ Some s = e in cc)
bracket_by r s us h (Some v) o e =
    let done = value_is h.levels h.between r.phase v h.inside h.phase o in
    pop_bracket h.levels h.between h.round r.depth r.frames h.before h.inside us v s h.frames done.1 done.0 h.depth h.split e

low_depth : (d : ℕ) → nat_lt d 32 ≡ true → d < 32
low_depth d e = grind arith

-- what opens
enter_by : (r s : Reader) (us : List Token) (t : Token) (h : Stands r us) (o : Option Opened) (b : Bool) → nat_lt r.depth 32 ≡ b
    → ((f : Frame) → o ≡ Some (Nested f) → r.depth < 32 → (m : ℕ) × IsFrame h.levels m h.between f (h.inside ++ t ∷ []))
    → ((q : Phase) → o ≡ Some (Flat q) → r.depth < 32 → IsPhase h.levels (h.between + 1) q (h.inside ++ t ∷ []))
    → cond b (entered_by o r.frames r.depth) None ≡ Some s → Stands s (us ++ t ∷ [])
enter_by r s us t h o false b nests flats e = absurd (let no : None ≡ Some s = e in cc)
enter_by r s us t h None true b nests flats e = absurd (let no : None ≡ Some s = e in cc)
enter_by r s us t h (Some (Nested f)) true b nests flats e =
    let frame = nests f refl (low_depth r.depth b) in
    subst (λ x. Stands x (us ++ t ∷ [])) (some_same (record { phase = fresh; frames = f ∷ r.frames; depth = r.depth + 1 }) s e)
    (open_frame h.levels frame.0 h.round h.between r.depth f r.frames h.before h.inside us t h.frames frame.1 h.depth h.split)
enter_by r s us t h (Some (Flat q)) true b nests flats e =
    subst (λ x. Stands x (us ++ t ∷ [])) (some_same (record { phase = q; frames = r.frames; depth = r.depth + 1 }) s e)
    (open_flat r q us t h (flats q refl (low_depth r.depth b)))

predicate_at : (n k d : ℕ) → n + d ≡ 32 → d + k < 32 → (m : ℕ) (l : Level) (x : Named) (ys : List Token) (f : Frame) → IsNamed n m k l x ys
    → Some (record { level = l; opening = Predicate x }) ≡ Some f → (j : ℕ) × IsFrame n j k f (ys ++ Signed OpenBracket ∷ [])
predicate_at n k d room low zero l x ys f h e = absurd (omega (arith, room, low, named_levels h))
predicate_at n k d room low (suc m) l x ys f h e =
    (m, subst (λ g. IsFrame n m k g (ys ++ Signed OpenBracket ∷ [])) (some_same (record { level = l; opening = Predicate x }) f e) (predicate_frame l x h))

predicate_frame_is : (n k d : ℕ) → n + d ≡ 32 → d + k < 32 → (p : Phase) (ys : List Token) (f : Frame) → IsPhase n k p ys → predicate_of p ≡ Some f
    → (m : ℕ) × IsFrame n m k f (ys ++ Signed OpenBracket ∷ [])
predicate_frame_is n k d room low (Named' l x) ys f h e = predicate_at n k d room low h.0 l x ys f h.1 e
predicate_frame_is n k d room low (Due l r) ys f h e = absurd (let no : None ≡ Some f = e in cc)
predicate_frame_is n k d room low (Step l p) ys f h e = absurd (let no : None ≡ Some f = e in cc)
predicate_frame_is n k d room low (AtWhole w) ys f h e = absurd (let no : None ≡ Some f = e in cc)
predicate_frame_is n k d room low (AtCurrent l r) ys f h e = absurd (let no : None ≡ Some f = e in cc)
predicate_frame_is n k d room low (AtTested t) ys f h e = absurd (let no : None ≡ Some f = e in cc)
predicate_frame_is n k d room low (Comparison l w) ys f h e = absurd (let no : None ≡ Some f = e in cc)
predicate_frame_is n k d room low (NumberDue l w c) ys f h e = absurd (let no : None ≡ Some f = e in cc)

some_nested : (o : Option Frame) (f : Frame) → option_map (λ g. Nested g) o ≡ Some (Nested f) → o ≡ Some f
some_nested None f h = absurd (let no : None ≡ Some (Nested f) = h in cc)
some_nested (Some g) f h = ap Some (ap (nested_or g) (some_same (Nested g) (Nested f) h))

none_flat : (o : Option Frame) (q : Phase) → option_map (λ g. Nested g) o ≡ Some (Flat q) → ⊥
none_flat None q h = absurd (let no : None ≡ Some (Flat q) = h in cc)
none_flat (Some g) q h = nested_flat g q h

low_here : (d r k : ℕ) → d ≡ r + k → d < 32 → r + k < 32
low_here d r k e low = omega (arith, e, low)

sign_is : (t : Sign) (r s : Reader) (us : List Token) → Stands r us → read_sign t r ≡ Some s → Stands s (us ++ Signed t ∷ [])
sign_is Slash r s us h e = at_level (slash r.phase) r s us (Signed Slash) h (λ q. slash_is h.levels h.between r.phase q h.inside h.phase) e
sign_is Up r s us h e = at_level (up r.phase) r s us (Signed Up) h (λ q. up_is h.levels h.between r.phase q h.inside h.phase) e
sign_is Stay r s us h e = at_level (stay r.phase) r s us (Signed Stay) h (λ q. stay_is h.levels h.between r.phase q h.inside h.phase) e
sign_is (Compare c) r s us h e = at_level (comparison r.phase c) r s us (Signed (Compare c)) h (λ q. comparison_is h.levels h.between r.phase q c h.inside h.phase) e
sign_is Open r s us h e =
    enter_by r s us (Signed Open) h (opened r.phase) (nat_lt r.depth 32) refl
    (λ f o low. opened_frame h.levels h.between h.round (frames_levels h.frames) (low_here r.depth h.round h.between h.depth low) r.phase h.inside f h.phase o)
    (λ q o low. opened_flat h.levels h.between h.round (frames_levels h.frames) (low_here r.depth h.round h.between h.depth low) r.phase q h.inside h.phase o) e
sign_is OpenBracket r s us h e =
    enter_by r s us (Signed OpenBracket) h (option_map (λ f. Nested f) (predicate_of r.phase)) (nat_lt r.depth 32) refl
    (λ f o low. predicate_frame_is h.levels h.between h.round (frames_levels h.frames) (low_here r.depth h.round h.between h.depth low) r.phase h.inside f h.phase (some_nested (predicate_of r.phase) f o))
    (λ q o low. absurd (none_flat (predicate_of r.phase) q o)) e
sign_is Close r s us h e = close_by r s us h (closed r.phase) refl e
sign_is CloseBracket r s us h e = bracket_by r s us h (value_of r.phase) refl e

read_is : (t : Token) (r s : Reader) (us : List Token) → Stands r us → read t r ≡ Some s → Stands s (us ++ t ∷ [])
read_is (Signed t) r s us h e = sign_is t r s us h e
read_is (Name prefix name) r s us h e = at_level (word r.phase prefix name) r s us (Name prefix name) h (λ q. word_is h.levels h.between r.phase q h.inside prefix name h.phase) e
read_is (Literal x) r s us h e = at_level (literal r.phase x) r s us (Literal x) h (λ q. literal_is h.levels h.between r.phase q x h.inside h.phase) e
read_is (Number i) r s us h e = at_level (number r.phase i) r s us (Number i) h (λ q. number_is h.levels h.between r.phase q i h.inside h.phase) e

finish_by : (n D : ℕ) (fs : List Frame) (p : Phase) (xs ys us : List Token) (k : ℕ) (e : Expression) → AreFrames n D fs xs → IsPhase n k p ys → us ≡ xs ++ ys
    → finish (record { phase = p; frames = fs; depth = D + k }) ≡ Some e → IsOr 32 us e
finish_by n D fs p xs ys us k e no_frames phase split h = subst (λ x. IsOr 32 x e) (sym split) (value_is 32 k p e ys phase h).1
finish_by n D fs p xs ys us k e (one_frame f gs round frame) phase split h = absurd (let no : None ≡ Some e = h in cc)

step_with : (t : Token) (ts : List Token) (r : Reader) (us : List Token) (e : Expression) → Stands r us
    → ((s : Reader) → Stands s (us ++ t ∷ []) → run ts s ≡ Some e → IsOr 32 ((us ++ t ∷ []) ++ ts) e)
    → (o : Option Reader) → read t r ≡ o → option_and_then (λ next. run ts next) o ≡ Some e → IsOr 32 (us ++ t ∷ ts) e
step_with t ts r us e h rest None o q = absurd (let no : None ≡ Some e = q in cc)
step_with t ts r us e h rest (Some s) o q =
    subst (λ x. IsOr 32 x e) (append_assoc us (t ∷ []) ts) (rest s (read_is t r s us h o) q)

run_is : (ts : List Token) (r : Reader) (us : List Token) (e : Expression) → Stands r us → run ts r ≡ Some e → IsOr 32 (us ++ ts) e
run_is [] r us e h q =
    subst (λ x. IsOr 32 x e) (sym (append-nil us))
    (finish_by h.levels h.round r.frames r.phase h.before h.inside us h.between e h.frames h.phase h.split q)
run_is (t ∷ ts) r us e h q = step_with t ts r us e h (λ s next o. run_is ts s (us ++ t ∷ []) e next o) (read t r) refl q

-- what is read is spelled
pub read_is_spelled : (ts : List Token) (e : Expression) → parse ts ≡ Some e → IsOr 32 ts e
read_is_spelled ts e h =
    run_is ts (record { phase = fresh; frames = []; depth = 0 }) [] e
    (record {
      levels = 32;
      round = 0;
      between = 0;
      before = [];
      inside = [];
      frames = no_frames;
      phase = fresh_is 32;
      depth = refl;
      split = refl;
    }) h
