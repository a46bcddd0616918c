-- What tokens spell is read.
use Rattle.std.proofs.Common.{◌≡◌, ℕ, suc, ◌+◌, ◌-◌, Bool, true, false, cond, nat_lt, List, [], ◌∷◌, ◌++◌, codes, Option, Some, None, option_map, option_and_then, refl, sym, ap, ◌∙◌, append_assoc, arith}
use Rattle.std.proofs.lemmas.List.{append-nil}
use Rattle.xpath_part.specs.Expression.{Expression, not_of, alone, equal, differ, count, Term, path, along, Strides, no_strides, stride, strides, strides_of, Stride, up, stay, child, Predicates, no_predicates, predicate, predicates, predicates_of}
use Rattle.xpath_part.specs.Expressions.{term_of, path_of}
use Rattle.xpath_part.specs.Following.{up_at, comparison_ended, connected, word, named, slash_ended, with_step, is_past_name}
use Rattle.xpath_part.specs.Grammar.{plain, MayBeCounted, IsOr, one_and, more_or, IsAnd, one_test, more_and, IsTest, not_test, group, alone_test, equal_test, differ_test, count_test, IsTerm, path_term, literal_term, IsPath, from_root, from_context, at_current, from_current, AreSteps, one_step, more_steps, IsStep, up_step, stay_step, child_step, ArePredicates, none_more, one_more}
use Rattle.xpath_part.specs.Nesting.{fresh, closed, closed_ended}
use Rattle.xpath_part.specs.Phases.{joined_or, with_test, ended, settled, value_of, step_due, start_place, start_walk, with_stride, behind_name}
use Rattle.xpath_part.specs.Reading.{run, read, reader_at, left, left_bracket, parse}
use Rattle.xpath_part.specs.declared.comparisons.Cmp.TheVariants.{Equal, Differ}
use Rattle.xpath_part.specs.declared.expressions.Operand.{Operand}
use Rattle.xpath_part.specs.declared.expressions.Operand.TheVariants.{Walk as Walks, Literal as Text}
use Rattle.xpath_part.specs.declared.expressions.Walk.{Walk}
use Rattle.xpath_part.specs.declared.following.Connective.TheVariants.{Or, And}
use Rattle.xpath_part.specs.declared.nesting.Frame.{Frame}
use Rattle.xpath_part.specs.declared.nesting.Opening.TheVariants.{Group, Negation, Predicate}
use Rattle.xpath_part.specs.declared.nesting.Closed.TheVariants.{Value, Flat as FlatEnd}
use Rattle.xpath_part.specs.declared.origins.Origin.{Origin}
use Rattle.xpath_part.specs.declared.origins.Origin.TheVariants.{Root, Context, Current}
use Rattle.xpath_part.specs.declared.phases.Level.{Level}
use Rattle.xpath_part.specs.declared.phases.Tested.{Tested}
use Rattle.xpath_part.specs.declared.phases.Role.{Role}
use Rattle.xpath_part.specs.declared.phases.Role.TheVariants.{Left, Right, Counted}
use Rattle.xpath_part.specs.declared.phases.Place.{Place}
use Rattle.xpath_part.specs.declared.phases.Named.{Named}
use Rattle.xpath_part.specs.declared.phases.Phase.{Phase}
use Rattle.xpath_part.specs.declared.phases.Phase.TheVariants.{Due, Step, Name as Named', Whole as AtWhole, Current as AtCurrent, Tested as AtTested, Comparison, Number as NumberDue}
use Rattle.xpath_part.specs.declared.reading.Reader.{Reader}
use Rattle.xpath_part.specs.declared.sought.Relation.TheVariants.{Same, Different}
use Rattle.xpath_part.specs.declared.symbols.Sign.TheVariants.{Slash, Open, Close, OpenBracket, CloseBracket, Compare, Up, Stay}
use Rattle.xpath_part.specs.declared.symbols.Token.{Token}
use Rattle.xpath_part.specs.declared.symbols.Token.TheVariants.{Sign as Signed, Name, Number}

abbrev reader : Phase → List Frame → ℕ → Reader
reader p fs d = record { phase = p; frames = fs; depth = d }

-- tokens lead from one state of the reader to another
record Leads (us : List Token) (r s : Reader) : Type 0 where
  go : (rest : List Token) → run (us ++ rest) r ≡ run rest s

leads_one : (t : Token) (r s : Reader) → read t r ≡ Some s → Leads (t ∷ []) r s
leads_one t r s e = record { go = λ rest. ap (option_and_then (λ next. run rest next)) e }

leads_both : (us vs : List Token) (r s q : Reader) → Leads us r s → Leads vs s q → Leads (us ++ vs) r q
leads_both us vs r s q a b = record { go = λ rest. ap (λ l. run l r) (append_assoc us vs rest) ∙ a.go (vs ++ rest) ∙ b.go rest }

-- what a role allows of the steps of a path, and what it is behind them
abbrev Allows : Role → Strides → Type 0
Allows Left ss = Unit {0}
Allows (Right r o) ss = Unit {0}
Allows (Counted past) ss = MayBeCounted past ss

abbrev after : Strides → Role → Role
after no_strides r = r
after (stride up ss) r = after ss r
after (stride stay ss) r = after ss r
after (stride (child p n es) ss) r = after ss (behind_name r)

abbrev IsSide : Role → Type 0
IsSide Left = Unit {0}
IsSide (Right r o) = Unit {0}
IsSide (Counted past) = ⊥

side_allows : (r : Role) (ss : Strides) → IsSide r → Allows r ss
side_allows Left ss h = tt
side_allows (Right r o) ss h = tt
side_allows (Counted past) ss h = absurd h

side_stays : (ss : Strides) (r : Role) → IsSide r → after ss r ≡ r
side_stays no_strides r h = refl
side_stays (stride up ss) r h = side_stays ss r h
side_stays (stride stay ss) r h = side_stays ss r h
side_stays (stride (child p n es) ss) Left h = side_stays ss Left h
side_stays (stride (child p n es) ss) (Right s o) h = side_stays ss (Right s o) h
side_stays (stride (child p n es) ss) (Counted past) h = absurd h

not_past : (r : Role) (ss : Strides) → Allows r (stride up ss) → is_past_name r ≡ false
not_past Left ss h = refl
not_past (Right s o) ss h = refl
not_past (Counted past) ss h = h.0

allows_rest : (r : Role) (s : Stride) (ss : Strides) → Allows r (stride s ss) → Allows (after (stride s no_strides) r) ss
allows_rest Left up ss h = tt
allows_rest Left stay ss h = tt
allows_rest Left (child p n es) ss h = tt
allows_rest (Right r o) up ss h = tt
allows_rest (Right r o) stay ss h = tt
allows_rest (Right r o) (child p n es) ss h = tt
allows_rest (Counted past) up ss h = h.1
allows_rest (Counted past) stay ss h = h
allows_rest (Counted past) (child p n es) ss h = h

allows_first : (r : Role) (s : Stride) (ss : Strides) → Allows r (stride s ss) → Allows r (stride s no_strides)
allows_first Left s ss h = tt
allows_first (Right r o) s ss h = tt
allows_first (Counted past) up ss h = (h.0, tt)
allows_first (Counted past) stay ss h = tt
allows_first (Counted past) (child p n es) ss h = tt

after_rest : (s : Stride) (ss : Strides) (r : Role) → after ss (after (stride s no_strides) r) ≡ after (stride s ss) r
after_rest up ss r = refl
after_rest stay ss r = refl
after_rest (child p n es) ss r = refl

strides_back : (ss : Strides) → strides_of (strides ss) ≡ ss
strides_back no_strides = refl
strides_back (stride s ss) = ap (stride s) (strides_back ss)

predicates_back : (es : Predicates) → predicates_of (predicates es) ≡ es
predicates_back no_predicates = refl
predicates_back (predicate e es) = ap (predicate e) (predicates_back es)

settled_ended : (p : Phase) → settled (ended p) ≡ settled p
settled_ended (Due l r) = refl
settled_ended (Step l p) = refl
settled_ended (Named' l n) = refl
settled_ended (AtWhole w) = refl
settled_ended (AtCurrent l r) = refl
settled_ended (AtTested t) = refl
settled_ended (Comparison l w) = refl
settled_ended (NumberDue l w c) = refl

word_due : (from : Phase) (q : Level × Place) (prefix : Option (List ℕ)) (name : List ℕ) → step_due from ≡ Some q
    → word from prefix name ≡ Some (named q.0 q.1 prefix name)
word_due (Due l r) q prefix name h = ap (option_map (λ x. named x.0 x.1 prefix name)) h
word_due (Step l p) q prefix name h = ap (option_map (λ x. named x.0 x.1 prefix name)) h
word_due (Named' l n) q prefix name h = absurd (let no : None ≡ Some q = h in cc)
word_due (AtWhole w) q prefix name h = absurd (let no : None ≡ Some q = h in cc)
word_due (AtCurrent l r) q prefix name h = absurd (let no : None ≡ Some q = h in cc)
word_due (AtTested t) q prefix name h = absurd (let no : None ≡ Some q = h in cc)
word_due (Comparison l w) q prefix name h = absurd (let no : None ≡ Some q = h in cc)
word_due (NumberDue l w c) q prefix name h = absurd (let no : None ≡ Some q = h in cc)

word_or : (p : Phase) (t : Tested) → settled p ≡ Some t → word p None (codes "or") ≡ Some (connected Or t)
word_or (Named' l n) t h = ap (option_map (connected Or)) h
word_or (AtWhole w) t h = ap (option_map (connected Or)) h
word_or (AtTested s) t h = ap (option_map (connected Or)) h
word_or (Due l r) t h = absurd (let no : None ≡ Some t = h in cc)
word_or (Step l p) t h = absurd (let no : None ≡ Some t = h in cc)
word_or (AtCurrent l r) t h = absurd (let no : None ≡ Some t = h in cc)
word_or (Comparison l w) t h = absurd (let no : None ≡ Some t = h in cc)
word_or (NumberDue l w c) t h = absurd (let no : None ≡ Some t = h in cc)

word_and : (p : Phase) (t : Tested) → settled p ≡ Some t → word p None (codes "and") ≡ Some (connected And t)
word_and (Named' l n) t h = ap (option_map (connected And)) h
word_and (AtWhole w) t h = ap (option_map (connected And)) h
word_and (AtTested s) t h = ap (option_map (connected And)) h
word_and (Due l r) t h = absurd (let no : None ≡ Some t = h in cc)
word_and (Step l p) t h = absurd (let no : None ≡ Some t = h in cc)
word_and (AtCurrent l r) t h = absurd (let no : None ≡ Some t = h in cc)
word_and (Comparison l w) t h = absurd (let no : None ≡ Some t = h in cc)
word_and (NumberDue l w c) t h = absurd (let no : None ≡ Some t = h in cc)

closed_side : (l : Level) (r : Role) (o : Operand) (t : Tested)
    → settled (AtWhole (record { level = l; role = r; operand = o })) ≡ Some t
    → closed (AtWhole (record { level = l; role = r; operand = o })) ≡ Some (Value (joined_or t.ors t.ands))
closed_side l Left o t h = ap (λ s. option_map (λ e. Value e) (option_map (λ x. joined_or x.ors x.ands) s)) h
closed_side l (Right s left) o t h = ap (λ s. option_map (λ e. Value e) (option_map (λ x. joined_or x.ors x.ands) s)) h
closed_side l (Counted b) o t h = absurd (let no : None ≡ Some t = h in cc)

closed_settled : (p : Phase) (t : Tested) → settled p ≡ Some t → closed p ≡ Some (Value (joined_or t.ors t.ands))
closed_settled (Named' l n) t h = closed_side l (behind_name n.place.role) (Walks (with_stride n.place.walk (child n.prefix n.name (predicates_of n.tests)))) t h
closed_settled (AtWhole w) t h = closed_side w.level w.role w.operand t h
closed_settled (AtTested s) t h = ap (λ s. option_map (λ e. Value e) (option_map (λ x. joined_or x.ors x.ands) s)) h
closed_settled (Due l r) t h = absurd (let no : None ≡ Some t = h in cc)
closed_settled (Step l p) t h = absurd (let no : None ≡ Some t = h in cc)
closed_settled (AtCurrent l r) t h = absurd (let no : None ≡ Some t = h in cc)
closed_settled (Comparison l w) t h = absurd (let no : None ≡ Some t = h in cc)
closed_settled (NumberDue l w c) t h = absurd (let no : None ≡ Some t = h in cc)

room_left : (d n : ℕ) → d + suc n ≡ 32 → nat_lt d 32 ≡ true
room_left d n e = grind arith

-- a path that may end here
record PathEnd (us : List Token) (from : Phase) (fs : List Frame) (d : ℕ) (l : Level) (r : Role) (w : Walk) : Type 0 where
  to : Phase
  leads : Leads us (reader from fs d) (reader to fs d)
  is : ended to ≡ AtWhole (record { level = l; role = r; operand = Walks w })

-- the same of a whole path
record WholePath (us : List Token) (l : Level) (r : Role) (fs : List Frame) (d : ℕ) (o : Origin) (ss : Strides) : Type 0 where
  to : Phase
  walk : Walk
  leads : Leads us (reader (Due l r) fs d) (reader to fs d)
  is : ended to ≡ AtWhole (record { level = l; role = after ss r; operand = Walks walk })
  same : path_of walk ≡ along o ss

-- an operand that may end here
record TermEnd (us : List Token) (l : Level) (r : Role) (fs : List Frame) (d : ℕ) (t : Term) : Type 0 where
  to : Phase
  operand : Operand
  leads : Leads us (reader (Due l r) fs d) (reader to fs d)
  is : ended to ≡ AtWhole (record { level = l; role = r; operand = operand })
  same : term_of operand ≡ t

-- a test that may end here
record TestEnd (us : List Token) (l : Level) (fs : List Frame) (d : ℕ) (e : Expression) : Type 0 where
  to : Phase
  leads : Leads us (reader (Due l Left) fs d) (reader to fs d)
  is : settled to ≡ Some (with_test l e)

-- operands of `and` that may end here
record AndEnd (us : List Token) (ors : Option Expression) (fs : List Frame) (d : ℕ) (e : Expression) : Type 0 where
  to : Phase
  leads : Leads us (reader (Due (record { ors = ors; ands = None }) Left) fs d) (reader to fs d)
  is : settled to ≡ Some (record { ors = ors; ands = e })

-- an expression that may end here
record OrEnd (us : List Token) (fs : List Frame) (d : ℕ) (e : Expression) : Type 0 where
  to : Phase
  tested : Tested
  leads : Leads us (reader fresh fs d) (reader to fs d)
  is : settled to ≡ Some tested
  same : joined_or tested.ors tested.ands ≡ e

abbrev level : Option Expression → Option Expression → Level
level ors ands = record { ors = ors; ands = ands }

abbrev with_tests : Named → List Expression → Named
with_tests m es = record { place = m.place; prefix = m.prefix; name = m.name; tests = es }

-- the token of a bracket or parenthesis that opens, with one level more
leads_open : (t : Token) (p q : Phase) (fs gs : List Frame) (d n : ℕ) → d + suc n ≡ 32
    → read t (reader p fs d) ≡ cond (nat_lt d 32) (Some (reader q gs (d + 1))) None
    → Leads (t ∷ []) (reader p fs d) (reader q gs (d + 1))
leads_open t p q fs gs d n room e = leads_one t (reader p fs d) (reader q gs (d + 1)) (e ∙ ap (λ b. cond b (Some (reader q gs (d + 1))) None) (room_left d n room))

back_down : (d : ℕ) → d + 1 - 1 ≡ d
back_down d = omega arith

one_deeper : (d n : ℕ) → d + suc n ≡ 32 → d + 1 + n ≡ 32
one_deeper d n e = omega arith

-- the token that closes
leads_close : (t : Token) (p q : Phase) (fs gs : List Frame) (d : ℕ) → read t (reader p gs (d + 1)) ≡ Some (reader q fs (d + 1 - 1))
    → Leads (t ∷ []) (reader p gs (d + 1)) (reader q fs d)
leads_close t p q fs gs d e = leads_one t (reader p gs (d + 1)) (reader q fs d) (e ∙ ap (λ n. Some (reader q fs n)) (back_down d))

-- the path of `count` closes whatever steps it has
counted_closes : (ss : Strides) (b : Bool) (l : Level) (w : Walk)
    → closed (AtWhole (record { level = l; role = after ss (Counted b); operand = Walks w })) ≡ Some (FlatEnd (Comparison l w))
counted_closes no_strides b l w = refl
counted_closes (stride up ss) b l w = counted_closes ss b l w
counted_closes (stride stay ss) b l w = counted_closes ss b l w
counted_closes (stride (child p n es) ss) b l w = counted_closes ss true l w

current_read : (l : Level) (r : Role) (fs : List Frame) (d n : ℕ) → d + suc n ≡ 32
    → Leads (plain (codes "current") ∷ Signed Open ∷ Signed Close ∷ []) (reader (Due l r) fs d)
    (reader (AtWhole (record { level = l; role = r; operand = Walks (start_walk Current) })) fs d)
current_read l r fs d n room =
    let name : Phase = Named' l (record { place = start_place r Context; prefix = None; name = codes "current"; tests = [] }) in
    leads_both (plain (codes "current") ∷ []) (Signed Open ∷ Signed Close ∷ []) _ _ _ (leads_one _ _ (reader name fs d) refl)
    (leads_both (Signed Open ∷ []) (Signed Close ∷ []) _ _ _ (leads_open (Signed Open) name (AtCurrent l r) fs fs d n room refl)
    (leads_close (Signed Close) (AtCurrent l r) _ fs fs d refl))

mutual
  or_read : {n : ℕ} {us : List Token} {e : Expression} → IsOr n us e → (fs : List Frame) (d : ℕ) → d + n ≡ 32 → OrEnd us fs d e
  or_read {us = us} {e = e} (one_and h) fs d room =
      let and = and_read h None fs d room in
      record { to = and.to; tested = record { ors = None; ands = e }; leads = and.leads; is = and.is; same = refl }
  or_read (more_or {ts = ts} {us = us} {a = a} {b = b} h k) fs d room =
      let first = or_read h fs d room in
      let and = and_read k (Some a) fs d room in
      let connects : read (plain (codes "or")) (reader first.to fs d) ≡ Some (reader (Due (level (Some a) None) Left) fs d) =
      ap (λ o. reader_at o fs d) (word_or first.to first.tested first.is) ∙ ap (λ x. Some (reader (Due (level (Some x) None) Left) fs d)) first.same in
      record {
        to = and.to;
        tested = record { ors = Some a; ands = b };
        leads = leads_both ts (plain (codes "or") ∷ us) _ _ _ first.leads (leads_both (plain (codes "or") ∷ []) us _ _ _ (leads_one _ _ _ connects) and.leads);
        is = and.is;
        same = refl;
      }

  -- behind an `or` or at the start
  and_read : {n : ℕ} {us : List Token} {e : Expression} → IsAnd n us e → (ors : Option Expression) (fs : List Frame) (d : ℕ) → d + n ≡ 32
      → AndEnd us ors fs d e
  and_read (one_test h) ors fs d room = let test = test_read h (level ors None) fs d room in record { to = test.to; leads = test.leads; is = test.is }
  and_read (more_and {ts = ts} {us = us} {a = a} {b = b} h k) ors fs d room =
      let first = and_read h ors fs d room in
      let test = test_read k (level ors (Some a)) fs d room in
      let connects : read (plain (codes "and")) (reader first.to fs d) ≡ Some (reader (Due (level ors (Some a)) Left) fs d) =
      ap (λ o. reader_at o fs d) (word_and first.to (record { ors = ors; ands = a }) first.is) in
      record {
        to = test.to;
        leads = leads_both ts (plain (codes "and") ∷ us) _ _ _ first.leads (leads_both (plain (codes "and") ∷ []) us _ _ _ (leads_one _ _ _ connects) test.leads);
        is = test.is;
      }

  test_read : {n : ℕ} {us : List Token} {e : Expression} → IsTest n us e → (l : Level) (fs : List Frame) (d : ℕ) → d + n ≡ 32 → TestEnd us l fs d e
  test_read (not_test {n = n} {ts = ts} {e = e} h) l fs d room =
      let frame : Frame = record { level = l; opening = Negation } in
      let name : Phase = Named' l (record { place = start_place Left Context; prefix = None; name = codes "not"; tests = [] }) in
      let inner = or_read h (frame ∷ fs) (d + 1) (one_deeper d n room) in
      let done : read (Signed Close) (reader inner.to (frame ∷ fs) (d + 1)) ≡ Some (reader (AtTested (with_test l (not_of e))) fs (d + 1 - 1)) =
      ap (λ c. left c (frame ∷ fs) (d + 1)) (closed_settled inner.to inner.tested inner.is) ∙ ap (λ x. Some (reader (AtTested (with_test l (not_of x))) fs (d + 1 - 1))) inner.same in
      record {
        to = AtTested (with_test l (not_of e));
        leads = leads_both (plain (codes "not") ∷ []) (Signed Open ∷ (ts ++ Signed Close ∷ [])) _ _ _ (leads_one _ _ (reader name fs d) refl)
            (leads_both (Signed Open ∷ []) (ts ++ Signed Close ∷ []) _ _ _ (leads_open (Signed Open) name fresh fs (frame ∷ fs) d n room refl)
            (leads_both ts (Signed Close ∷ []) _ _ _ inner.leads (leads_close (Signed Close) inner.to _ fs (frame ∷ fs) d done)));
        is = refl;
      }
  test_read (group {n = n} {ts = ts} {e = e} h) l fs d room =
      let frame : Frame = record { level = l; opening = Group } in
      let inner = or_read h (frame ∷ fs) (d + 1) (one_deeper d n room) in
      let done : read (Signed Close) (reader inner.to (frame ∷ fs) (d + 1)) ≡ Some (reader (AtTested (with_test l e)) fs (d + 1 - 1)) =
      ap (λ c. left c (frame ∷ fs) (d + 1)) (closed_settled inner.to inner.tested inner.is) ∙ ap (λ x. Some (reader (AtTested (with_test l x)) fs (d + 1 - 1))) inner.same in
      record {
        to = AtTested (with_test l e);
        leads = leads_both (Signed Open ∷ []) (ts ++ Signed Close ∷ []) _ _ _ (leads_open (Signed Open) (Due l Left) fresh fs (frame ∷ fs) d n room refl)
            (leads_both ts (Signed Close ∷ []) _ _ _ inner.leads (leads_close (Signed Close) inner.to _ fs (frame ∷ fs) d done));
        is = refl;
      }
  test_read (alone_test {t = t} h) l fs d room =
      let term = term_read h l Left fs d tt room in
      record { to = term.to; leads = term.leads; is = sym (settled_ended term.to) ∙ ap settled term.is ∙ ap (λ x. Some (with_test l (alone x))) term.same }
  test_read (equal_test {ts = ts} {us = us} {l = a} {r = b} h k) l fs d room =
      let first = term_read h l Left fs d tt room in
      let second = term_read k l (Right Same first.operand) fs d tt room in
      let compares : read (Signed (Compare Equal)) (reader first.to fs d) ≡ Some (reader (Due l (Right Same first.operand)) fs d) =
      ap (λ p. reader_at (comparison_ended Equal p) fs d) first.is in
      record {
        to = second.to;
        leads = leads_both ts (Signed (Compare Equal) ∷ us) _ _ _ first.leads (leads_both (Signed (Compare Equal) ∷ []) us _ _ _ (leads_one _ _ _ compares) second.leads);
        is = sym (settled_ended second.to) ∙ ap settled second.is ∙ (λ i. Some (with_test l (equal (first.same i) (second.same i))));
      }
  test_read (differ_test {ts = ts} {us = us} {l = a} {r = b} h k) l fs d room =
      let first = term_read h l Left fs d tt room in
      let second = term_read k l (Right Different first.operand) fs d tt room in
      let compares : read (Signed (Compare Differ)) (reader first.to fs d) ≡ Some (reader (Due l (Right Different first.operand)) fs d) =
      ap (λ p. reader_at (comparison_ended Differ p) fs d) first.is in
      record {
        to = second.to;
        leads = leads_both ts (Signed (Compare Differ) ∷ us) _ _ _ first.leads (leads_both (Signed (Compare Differ) ∷ []) us _ _ _ (leads_one _ _ _ compares) second.leads);
        is = sym (settled_ended second.to) ∙ ap settled second.is ∙ (λ i. Some (with_test l (differ (first.same i) (second.same i))));
      }
  test_read (count_test {n = n} {ts = ts} {o = o} {ss = ss} c k h may) l fs d room =
      let name : Phase = Named' l (record { place = start_place Left Context; prefix = None; name = codes "count"; tests = [] }) in
      let inner = path_read h l (Counted false) fs (d + 1) may (one_deeper d n room) in
      let done : read (Signed Close) (reader inner.to fs (d + 1)) ≡ Some (reader (Comparison l inner.walk) fs (d + 1 - 1)) =
      ap (λ p. left (closed_ended p) fs (d + 1)) inner.is ∙ ap (λ x. left x fs (d + 1)) (counted_closes ss false l inner.walk) in
      record {
        to = AtTested (with_test l (count (along o ss) c k));
        leads = leads_both (plain (codes "count") ∷ []) (Signed Open ∷ (ts ++ Signed Close ∷ Signed (Compare c) ∷ Number k ∷ [])) _ _ _ (leads_one _ _ (reader name fs d) refl)
            (leads_both (Signed Open ∷ []) (ts ++ Signed Close ∷ Signed (Compare c) ∷ Number k ∷ []) _ _ _ (leads_open (Signed Open) name (Due l (Counted false)) fs fs d n room refl)
            (leads_both ts (Signed Close ∷ Signed (Compare c) ∷ Number k ∷ []) _ _ _ inner.leads
            (leads_both (Signed Close ∷ []) (Signed (Compare c) ∷ Number k ∷ []) _ _ _ (leads_close (Signed Close) inner.to _ fs fs d done)
            (leads_both (Signed (Compare c) ∷ []) (Number k ∷ []) _ _ _ (leads_one _ _ (reader (NumberDue l inner.walk c) fs d) refl)
            (leads_one (Number k) _ _ (ap (λ x. Some (reader (AtTested (with_test l (count x c k))) fs d)) inner.same))))));
        is = refl;
      }

  term_read : {n : ℕ} {us : List Token} {t : Term} → IsTerm n us t → (l : Level) (r : Role) (fs : List Frame) (d : ℕ) → IsSide r → d + n ≡ 32
      → TermEnd us l r fs d t
  term_read (path_term {p = along o ss} h) l r fs d side room =
      let inner = path_read h l r fs d (side_allows r ss side) room in
      record {
        to = inner.to;
        operand = Walks inner.walk;
        leads = inner.leads;
        is = inner.is ∙ ap (λ x. AtWhole (record { level = l; role = x; operand = Walks inner.walk })) (side_stays ss r side);
        same = ap path inner.same;
      }
  term_read (literal_term s) l Left fs d side room =
      record { to = AtWhole (record { level = l; role = Left; operand = Text s }); operand = Text s; leads = leads_one _ _ _ refl; is = refl; same = refl }
  term_read (literal_term s) l (Right q o) fs d side room =
      record { to = AtWhole (record { level = l; role = Right q o; operand = Text s }); operand = Text s; leads = leads_one _ _ _ refl; is = refl; same = refl }
  term_read (literal_term s) l (Counted past) fs d side room = absurd side

  path_read : {n : ℕ} {us : List Token} {o : Origin} {ss : Strides} → IsPath n us (along o ss) → (l : Level) (r : Role) (fs : List Frame) (d : ℕ)
      → Allows r ss → d + n ≡ 32 → WholePath us l r fs d o ss
  path_read (from_root {ts = ts} {ss = ss} h) l r fs d may room =
      let place : Place = start_place r Root in
      let inner = steps_read h (Step l place) l place fs d refl may room in
      record {
        to = inner.to;
        walk = record { origin = Root; steps = [] ++ strides ss };
        leads = leads_both (Signed Slash ∷ []) ts _ _ _ (leads_one _ _ (reader (Step l place) fs d) refl) inner.leads;
        is = inner.is;
        same = ap (along Root) (strides_back ss);
      }
  path_read (from_context {ts = ts} {ss = ss} h) l r fs d may room =
      let inner = steps_read h (Due l r) l (start_place r Context) fs d refl may room in
      record {
        to = inner.to;
        walk = record { origin = Context; steps = [] ++ strides ss };
        leads = inner.leads;
        is = inner.is;
        same = ap (along Context) (strides_back ss);
      }
  path_read (at_current {n = n}) l r fs d may room =
      record {
        to = AtWhole (record { level = l; role = r; operand = Walks (start_walk Current) });
        walk = start_walk Current;
        leads = current_read l r fs d n room;
        is = refl;
        same = refl;
      }
  path_read (from_current {n = n} {ts = ts} {ss = ss} h) l r fs d may room =
      let place : Place = record { role = r; walk = start_walk Current } in
      let inner = steps_read h (Step l place) l place fs d refl may room in
      record {
        to = inner.to;
        walk = record { origin = Current; steps = [] ++ strides ss };
        leads = leads_both (plain (codes "current") ∷ Signed Open ∷ Signed Close ∷ []) (Signed Slash ∷ ts) _ _ _ (current_read l r fs d n room)
            (leads_both (Signed Slash ∷ []) ts _ _ _ (leads_one _ _ (reader (Step l place) fs d) refl) inner.leads);
        is = inner.is;
        same = ap (along Current) (strides_back ss);
      }

  steps_read : {n : ℕ} {us : List Token} {ss : Strides} → AreSteps n us ss → (from : Phase) (l : Level) (p : Place) (fs : List Frame) (d : ℕ)
      → step_due from ≡ Some (l, p) → Allows p.role ss → d + n ≡ 32
      → PathEnd us from fs d l (after ss p.role) (record { origin = p.walk.origin; steps = p.walk.steps ++ strides ss })
  steps_read (one_step h) from l p fs d due may room = step_read h from l p fs d due may room
  steps_read (more_steps {ts = ts} {us = us} {s = s} {ss = ss} h k) from l p fs d due may room =
      let first = step_read h from l p fs d due (allows_first p.role s ss may) room in
      let role = after (stride s no_strides) p.role in
      let place : Place = record { role = role; walk = with_stride p.walk s } in
      let rest = steps_read k (Step l place) l place fs d refl (allows_rest p.role s ss may) room in
      record {
        to = rest.to;
        leads = leads_both ts (Signed Slash ∷ us) _ _ _ first.leads
            (leads_both (Signed Slash ∷ []) us _ _ _ (leads_one (Signed Slash) (reader first.to fs d) (reader (Step l place) fs d) (ap (λ x. reader_at (slash_ended x) fs d) first.is)) rest.leads);
        is = rest.is
            ∙ (λ i. AtWhole (record { level = l; role = after_rest s ss p.role i; operand = Walks (record { origin = p.walk.origin; steps = append_assoc p.walk.steps (s ∷ []) (strides ss) i }) }));
      }

  step_read : {n : ℕ} {us : List Token} {s : Stride} → IsStep n us s → (from : Phase) (l : Level) (p : Place) (fs : List Frame) (d : ℕ)
      → step_due from ≡ Some (l, p) → Allows p.role (stride s no_strides) → d + n ≡ 32
      → PathEnd us from fs d l (after (stride s no_strides) p.role) (with_stride p.walk s)
  step_read up_step from l p fs d due may room =
      record {
        to = with_step l p up;
        leads = leads_one (Signed Up) _ _ (ap (λ x. reader_at (option_and_then up_at x) fs d) due ∙ ap (λ b. reader_at (cond b None (Some (with_step l p up))) fs d) (not_past p.role no_strides may));
        is = refl;
      }
  step_read stay_step from l p fs d due may room =
      record {
        to = with_step l p stay;
        leads = leads_one (Signed Stay) _ _ (ap (λ x. reader_at (option_map (λ q. with_step q.0 q.1 stay) x) fs d) due);
        is = refl;
      }
  step_read (child_step {ts = ts} {es = es} prefix name h) from l p fs d due may room =
      let first : Named = record { place = p; prefix = prefix; name = name; tests = [] } in
      record {
        to = Named' l (with_tests first ([] ++ predicates es));
        leads = leads_both (Name prefix name ∷ []) ts _ _ _
            (leads_one (Name prefix name) _ (reader (Named' l first) fs d) (ap (λ x. reader_at x fs d) (word_due from (l, p) prefix name due)))
            (predicates_read h l first fs d room);
        is = ap (λ x. AtWhole (record { level = l; role = behind_name p.role; operand = Walks (with_stride p.walk (child prefix name x)) })) (predicates_back es);
      }

  predicates_read : {n : ℕ} {us : List Token} {es : Predicates} → ArePredicates n us es → (l : Level) (m : Named) (fs : List Frame) (d : ℕ) → d + n ≡ 32
      → Leads us (reader (Named' l m) fs d) (reader (Named' l (with_tests m (m.tests ++ predicates es))) fs d)
  predicates_read none_more l m fs d room = record { go = λ rest. ap (λ es. run rest (reader (Named' l (with_tests m es)) fs d)) (sym (append-nil m.tests)) }
  predicates_read (one_more {n = n} {ts = ts} {us = us} {e = e} {es = es} h k) l m fs d room =
      let frame : Frame = record { level = l; opening = Predicate m } in
      let inner = or_read h (frame ∷ fs) (d + 1) (one_deeper d n room) in
      let next = with_tests m (m.tests ++ e ∷ []) in
      let value : value_of inner.to ≡ Some e = ap (option_map (λ t. joined_or t.ors t.ands)) inner.is ∙ ap Some inner.same in
      let done : read (Signed CloseBracket) (reader inner.to (frame ∷ fs) (d + 1)) ≡ Some (reader (Named' l next) fs (d + 1 - 1)) =
      ap (λ x. left_bracket x (frame ∷ fs) (d + 1)) value in
      let rest : Leads us (reader (Named' l next) fs d) (reader (Named' l (with_tests m (m.tests ++ (e ∷ predicates es)))) fs d) =
      record { go = λ more. (predicates_read k l next fs d room).go more ∙ ap (λ x. run more (reader (Named' l (with_tests m x)) fs d)) (append_assoc m.tests (e ∷ []) (predicates es)) } in
      leads_both (Signed OpenBracket ∷ []) (ts ++ Signed CloseBracket ∷ us) _ _ _ (leads_open (Signed OpenBracket) (Named' l m) fresh fs (frame ∷ fs) d n room refl)
      (leads_both ts (Signed CloseBracket ∷ us) _ _ _ inner.leads
      (leads_both (Signed CloseBracket ∷ []) us _ _ _ (leads_close (Signed CloseBracket) inner.to (Named' l next) fs (frame ∷ fs) d done) rest))

-- what is spelled is read
pub spelled_is_read : (ts : List Token) (e : Expression) → IsOr 32 ts e → parse ts ≡ Some e
spelled_is_read ts e h =
    let whole = or_read h [] 0 refl in
    sym (ap parse (append-nil ts)) ∙ whole.leads.go [] ∙ ap (option_map (λ t. joined_or t.ors t.ands)) whole.is ∙ ap Some whole.same
