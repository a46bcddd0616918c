-- Moves that are reached by extensions.
use Rattle.std.proofs.Common.{◌≡◌, ◌⊎◌, inl, inr, ℕ, zero, suc, ◌+◌, ◌<◌, ◌≤◌, List, [], ◌∷◌, ◌++◌, length, Some, slice_get, refl, sym, ap, subst, ◌∙◌, arith, append_assoc, append-nil, add-one, All, IsSomeAnd}
use Rattle.std.specs.List.{Contains}
use Rattle.std.proofs.lemmas.List.Elements.{Contains-append_left, Contains-push, Contains-push_cases, All-append, All-nil, All-push, All-contains, All-weaker}
use Rattle.std.proofs.lemmas.Option.{slice_get_within, slice_get-get_or, get_or_from_slice_get}
use Rattle.move_core.specs.Contexts.{rulebook}
use Rattle.move_core.specs.Extensions.{IsUpper, as_in_goal, upper_place}
use Rattle.move_core.specs.Listed.{IsListed}
use Rattle.move_core.specs.Moves.{IsDefined}
use Rattle.move_core.specs.declared.moves.Move.{Move}
use Rattle.move_lists.specs.Questions.{FollowsIn, LeadsIn}
use Rattle.move_lists.specs.Reaches.{AreNoted, AreReached, CanSpread, Depths, HasBelow, HasMove, HasWithin, HoldsAll, HoldsWithin, IsClosed, IsOfferedMove, IsLedTo, IsNoted, IsSpread, IsSpreadBefore, SharesAbove, most_moves}
use Rattle.move_lists.specs.declared.asking.Question.{Question}
use Rattle.move_lists.proofs.Members.{no_member}

-- ---- indexes

module _ {A : Type 0} where
  -- what stands at an index is a member
  pub member_at : (xs : List A) (i : ℕ) (x : A) → slice_get xs i ≡ Some x → Contains xs x
  member_at xs i x at = (i, slice_get_within xs i x at, get_or_from_slice_get xs i x x at)

  -- a member stands at an index
  pub index_of_member : (xs : List A) (x : A) → Contains xs x → (i : ℕ) × (slice_get xs i ≡ Some x)
  index_of_member xs x h = (h.0, slice_get-get_or xs h.0 x h.1 ∙ ap Some h.2)

  -- the items before the end stay
  pub at_left : (xs ys : List A) (i : ℕ) (x : A) → slice_get xs i ≡ Some x → slice_get (xs ++ ys) i ≡ Some x
  at_left [] ys i x at = absurd (cc)
  at_left (y ∷ xs) ys zero x at = at
  at_left (y ∷ xs) ys (suc i) x at = at_left xs ys i x at

  -- an item of two lists joined is one of the first, or one of the second
  pub at_cases : (xs ys : List A) (i : ℕ) (x : A) → slice_get (xs ++ ys) i ≡ Some x
      → ((i < length xs) × (slice_get xs i ≡ Some x)) ⊎ ((length xs ≤ i) × Contains ys x)
  at_cases [] ys i x at = inr (omega arith, member_at ys i x at)
  at_cases (y ∷ xs) ys zero x at = inl (omega arith, at)
  at_cases (y ∷ xs) ys (suc i) x at = by (at_cases xs ys i x at)
    where
      by : ((i < length xs) × (slice_get xs i ≡ Some x)) ⊎ ((length xs ≤ i) × Contains ys x)
          → ((suc i < length (y ∷ xs)) × (slice_get xs i ≡ Some x)) ⊎ ((length (y ∷ xs) ≤ suc i) × Contains ys x)
      by (inl l) = let h = l.0 in inl (omega arith, l.1)
      by (inr r) = let h = r.0 in inr (omega arith, r.1)

-- one stands at an index within the list
at_index : {A : Type 0} (xs : List A) (i : ℕ) → i < length xs → (x : A) × (slice_get xs i ≡ Some x)
at_index [] i lt = absurd (omega (arith, lt))
at_index (x ∷ xs) zero lt = (x, refl)
at_index (x ∷ xs) (suc i) lt = at_index xs i (omega (arith, lt))

-- one entry stands at an index
pub depth_at : (es : Depths) (i : ℕ) (a b : Move × ℕ) → slice_get es i ≡ Some a → slice_get es i ≡ Some b → a.1 ≡ b.1
depth_at es i a b at_a at_b = ap (λ (e : Move × ℕ). e.1) (same a b (sym at_a ∙ at_b))
  where
    same : (x y : Move × ℕ) → Some x ≡ Some y → x ≡ y
    same x y e = cc

-- ---- moves noted

has_left : (es more : Depths) (m : Move) → HasMove es m → HasMove (es ++ more) m
has_left es more m h = (h.0, Contains-append_left es more _ h.1)

within_left : (es more : Depths) (n : ℕ) (m : Move) → HasWithin es n m → HasWithin (es ++ more) n m
within_left es more n m h = (h.0, h.1, Contains-append_left es more _ h.2)

pub noted_none : (beside old : Depths) (d : ℕ) → AreNoted beside old old [] d
noted_none beside old d = record {
  more = [];
  follows = sym (append-nil old);
  each = All-nil _;
  all = λ m h. absurd (no_member m h);
}

more_of : (ms : List Move) (m : Move) (d : ℕ) (more : Depths) → All (λ e. Contains ms e.0 × (e.1 ≡ d)) more
    → All (λ e. Contains (ms ++ m ∷ []) e.0 × (e.1 ≡ d)) more
more_of ms m d more each =
    All-weaker (λ (e : Move × ℕ). Contains ms e.0 × (e.1 ≡ d)) (λ (e : Move × ℕ). Contains (ms ++ m ∷ []) e.0 × (e.1 ≡ d))
    (λ e h. (Contains-append_left ms (m ∷ []) e.0 h.0, h.1)) more each

pub noted_more : (beside old mid new : Depths) (ms : List Move) (m : Move) (d : ℕ)
    → AreNoted beside old mid ms d → IsNoted beside mid new m d → AreNoted beside old new (ms ++ m ∷ []) d
noted_more beside old mid new ms m d are (inl known) = record {
  more = are.more;
  follows = known.1 ∙ are.follows;
  each = more_of ms m d are.more are.each;
  all = λ x h. by x (Contains-push_cases ms m x h);
}
  where
    known_now : (x : Move) → HasMove beside x ⊎ HasMove mid x → HasMove beside x ⊎ HasMove new x
    known_now x (inl b) = inl b
    known_now x (inr k) = inr (subst (λ es. HasMove es x) (sym known.1) k)

    by : (x : Move) → Contains ms x ⊎ (m ≡ x) → HasMove beside x ⊎ HasMove new x
    by x (inl h) = known_now x (are.all x h)
    by x (inr e) = known_now x (subst (λ y. HasMove beside y ⊎ HasMove mid y) e known.0)
noted_more beside old mid new ms m d are (inr is) = record {
  more = are.more ++ (m, d) ∷ [];
  follows = is.1 ∙ ap (λ es. es ++ (m, d) ∷ []) are.follows ∙ append_assoc old are.more ((m, d) ∷ []);
  each = All-push (λ (e : Move × ℕ). Contains (ms ++ m ∷ []) e.0 × (e.1 ≡ d)) are.more (m, d)
      (more_of ms m d are.more are.each)
      (Contains-push ms m, refl);
  all = λ x h. by x (Contains-push_cases ms m x h);
}
  where
    now : (x : Move) → HasMove (mid ++ (m, d) ∷ []) x → HasMove new x
    now x h = subst (λ es. HasMove es x) (sym is.1) h

    known_now : (x : Move) → HasMove beside x ⊎ HasMove mid x → HasMove beside x ⊎ HasMove new x
    known_now x (inl b) = inl b
    known_now x (inr k) = inr (now x (has_left mid ((m, d) ∷ []) x k))

    by : (x : Move) → Contains ms x ⊎ (m ≡ x) → HasMove beside x ⊎ HasMove new x
    by x (inl h) = known_now x (are.all x h)
    by x (inr e) = inr (now x (d, subst (λ y. Contains (mid ++ (m, d) ∷ []) (y, d)) e (Contains-push mid (m, d))))

-- ---- moves reached

module _ (q : Question) (beside : Depths) (first : List Move) where
  -- the moves themselves
  pub reached_begun : (es : Depths) → AreNoted beside [] es first 0 → AreReached q beside first es 0
  reached_begun es are = record {
    each = All-weaker (λ (e : Move × ℕ). Contains first e.0 × (e.1 ≡ 0)) (IsLedTo q first)
        (λ e h. (e.0, h.0, subst (λ n. LeadsIn q e.0 n e.0) (sym h.1) refl)) es noted;
    begun = λ f h. by f (are.all f h);
    rising = λ j k a b le at_j at_k. let none = flat j a at_j in omega (arith, none);
    near = λ j k a b le at_j at_k. let none = flat j a at_j in omega (arith, none);
    shallow = λ k e at. let none = flat k e at in omega (arith, none);
    spread = λ k e lt at x follows. absurd (omega (arith, lt));
  }
    where
      noted : All (λ e. Contains first e.0 × (e.1 ≡ 0)) es
      noted = subst (All (λ e. Contains first e.0 × (e.1 ≡ 0))) (sym are.follows) are.each

      flat : (k : ℕ) (e : Move × ℕ) → slice_get es k ≡ Some e → e.1 ≡ 0
      flat k e at = (All-contains (λ (a : Move × ℕ). Contains first a.0 × (a.1 ≡ 0)) es e noted (member_at es k e at)).1

      by : (f : Move) → HasMove beside f ⊎ HasMove es f → HasMove beside f ⊎ HasWithin es 0 f
      by f (inl b) = inl b
      by f (inr h) = let at = index_of_member es (f, h.0) h.1 in let none = flat at.0 (f, h.0) at.1 in inr (h.0, omega (arith, none), h.1)

  -- the extensions of one more
  pub reached_more : (es new : Depths) (i : ℕ) → AreReached q beside first es i → IsSpread q beside es new i
      → AreReached q beside first new (i + 1)
  reached_more es new i are on = record {
    each = subst (All (IsLedTo q first)) (sym on.follows)
        (All-append (IsLedTo q first) es on.more are.each
        (All-weaker (λ (e : Move × ℕ). FollowsIn q on.mv e.0 × (e.1 ≡ on.depth + 1)) (IsLedTo q first) led on.more on.each));
    begun = λ f h. begun_now f (are.begun f h);
    rising = λ j k a b le at_j at_k. rises j k a b le (cases j a at_j) (cases k b at_k);
    near = λ j k a b le at_j at_k. nears j k a b le (cases j a at_j) (cases k b at_k);
    shallow = λ k e at. shallows k e (cases k e at);
    spread = λ k e lt at x follows. spreads k e lt (cases k e at) x follows;
  }
    where
      IsOld : ℕ → Move × ℕ → Type 0
      IsOld k e = (k < length es) × (slice_get es k ≡ Some e)

      IsNew : ℕ → Move × ℕ → Type 0
      IsNew k e = (length es ≤ k) × FollowsIn q on.mv e.0 × (e.1 ≡ on.depth + 1)

      cases : (k : ℕ) (e : Move × ℕ) → slice_get new k ≡ Some e → IsOld k e ⊎ IsNew k e
      cases k e at = by (at_cases es on.more k e (subst (λ l. slice_get l k ≡ Some e) on.follows at))
        where
          by : IsOld k e ⊎ ((length es ≤ k) × Contains on.more e) → IsOld k e ⊎ IsNew k e
          by (inl l) = inl l
          by (inr r) =
              let h = All-contains (λ (a : Move × ℕ). FollowsIn q on.mv a.0 × (a.1 ≡ on.depth + 1)) on.more e on.each r.1 in
              inr (r.0, h.0, h.1)

      within : i < length es
      within = slice_get_within es i _ on.at

      led : (e : Move × ℕ) → FollowsIn q on.mv e.0 × (e.1 ≡ on.depth + 1) → IsLedTo q first e
      led e h =
          let old = All-contains (IsLedTo q first) es (on.mv, on.depth) are.each (member_at es i _ on.at) in
          (old.0, old.1, subst (λ n. LeadsIn q old.0 n e.0) (sym (h.1 ∙ add-one on.depth)) (on.mv, old.2, h.0))

      begun_now : (f : Move) → HasMove beside f ⊎ HasWithin es 0 f → HasMove beside f ⊎ HasWithin new 0 f
      begun_now f (inl b) = inl b
      begun_now f (inr w) = inr (subst (λ l. HasWithin l 0 f) (sym on.follows) (within_left es on.more 0 f w))

      near_here : (j : ℕ) (a : Move × ℕ) → slice_get es j ≡ Some a → a.1 ≤ on.depth + 1
      near_here j a at = are.near j i a (on.mv, on.depth) (omega arith) at on.at

      rises : (j k : ℕ) (a b : Move × ℕ) → j ≤ k → IsOld j a ⊎ IsNew j a → IsOld k b ⊎ IsNew k b → a.1 ≤ b.1
      rises j k a b le (inl x) (inl y) = are.rising j k a b le x.1 y.1
      rises j k a b le (inr x) (inl y) = absurd (let p = x.0 in let r = y.0 in omega (arith, p, r, le))
      rises j k a b le (inl x) (inr y) = let p = near_here j a x.1 in let r = y.2 in omega (arith, p, r)
      rises j k a b le (inr x) (inr y) = let p = x.2 in let r = y.2 in omega (arith, p, r)

      nears : (j k : ℕ) (a b : Move × ℕ) → i + 1 ≤ k → IsOld j a ⊎ IsNew j a → IsOld k b ⊎ IsNew k b → a.1 ≤ b.1 + 1
      nears j k a b le (inl x) (inl y) = are.near j k a b (omega (arith, le)) x.1 y.1
      nears j k a b le (inr x) (inl y) =
          let p = x.2 in
          let r = are.rising i k (on.mv, on.depth) b (omega (arith, le)) on.at y.1 in omega (arith, p, r)
      nears j k a b le (inl x) (inr y) = let p = near_here j a x.1 in let r = y.2 in omega (arith, p, r)
      nears j k a b le (inr x) (inr y) = let p = x.2 in let r = y.2 in omega (arith, p, r)

      shallows : (k : ℕ) (e : Move × ℕ) → IsOld k e ⊎ IsNew k e → e.1 ≤ k
      shallows k e (inl x) = are.shallow k e x.1
      shallows k e (inr x) =
          let p = are.shallow i (on.mv, on.depth) on.at in
          let r = x.0 in
          let s = x.2 in
          let w = within in omega (arith, p, r, s, w)

      close : (x : Move) → HasMove beside x ⊎ HasMove new x → HasMove beside x ⊎ HasWithin new (on.depth + 1) x
      close x (inl b) = inl b
      close x (inr h) =
          let at = index_of_member new (x, h.0) h.1 in inr (h.0, low at.0 (cases at.0 (x, h.0) at.1), h.1)
        where
          low : (j : ℕ) → IsOld j (x, h.0) ⊎ IsNew j (x, h.0) → h.0 ≤ on.depth + 1
          low j (inl o) = near_here j (x, h.0) o.1
          low j (inr n) = let p = n.2 in omega (arith, p)

      spreads : (k : ℕ) (e : Move × ℕ) → k < i + 1 → IsOld k e ⊎ IsNew k e → (x : Move) → FollowsIn q e.0 x
          → HasMove beside x ⊎ HasWithin new (e.1 + 1) x
      spreads k e lt (inr n) x follows = absurd (let p = n.0 in let w = within in omega (arith, p, w, lt))
      spreads k e lt (inl o) x follows = by (split k i lt)
        where
          old_now : HasMove beside x ⊎ HasWithin es (e.1 + 1) x → HasMove beside x ⊎ HasWithin new (e.1 + 1) x
          old_now (inl b) = inl b
          old_now (inr w) = inr (subst (λ l. HasWithin l (e.1 + 1) x) (sym on.follows) (within_left es on.more (e.1 + 1) x w))

          split : (a b : ℕ) → a < b + 1 → (a < b) ⊎ (a ≡ b)
          split a b h = grind arith

          same : k ≡ i → (on.mv, on.depth) ≡ e
          same is = let at = on.at in let old = o.1 in cc

          by : (k < i) ⊎ (k ≡ i) → HasMove beside x ⊎ HasWithin new (e.1 + 1) x
          by (inl below) = old_now (are.spread k e below o.1 x follows)
          by (inr is) =
              let s = same is in
              subst (λ (y : Move × ℕ). HasMove beside x ⊎ HasWithin new (y.1 + 1) x) s
              (close x (on.all x (subst (λ (y : Move × ℕ). FollowsIn q y.0 x) (sym s) follows)))

  -- all that the moves lead to
  pub reached_all : (es : Depths) (i : ℕ) → AreReached q beside first es i → length es ≤ i → IsClosed q beside
      → HoldsAll q beside first es
  reached_all es i are end closed f zero x there leads = by (are.begun f there)
    where
      by : HasMove beside f ⊎ HasWithin es 0 f → HasMove beside x ⊎ HasWithin es 0 x
      by (inl b) = inl (subst (HasMove beside) (sym leads) b)
      by (inr w) = inr (subst (HasWithin es 0) (sym leads) w)
  reached_all es i are end closed f (suc n) x there leads =
      by (reached_all es i are end closed f n leads.0 there leads.1)
    where
      on : (d : ℕ) → d ≤ n → HasMove beside x ⊎ HasWithin es (d + 1) x → HasMove beside x ⊎ HasWithin es (suc n) x
      on d le (inl b) = inl b
      on d le (inr w) = let p = w.1 in inr (w.0, omega (arith, p, le), w.2)

      by : HasMove beside leads.0 ⊎ HasWithin es n leads.0 → HasMove beside x ⊎ HasWithin es (suc n) x
      by (inl b) = inl (closed leads.0 x b leads.2)
      by (inr w) =
          let at = index_of_member es (leads.0, w.0) w.2 in
          let lt = slice_get_within es at.0 _ at.1 in
          on w.0 w.1 (are.spread at.0 (leads.0, w.0) (omega (arith, lt, end)) at.1 x leads.2)

-- ---- moves reached within a limit

module _ (q : Question) (first : List Move) (limit : ℕ) where
  -- moves that were reached, none by more extensions
  pub record AreWithin (es : Depths) (i : ℕ) : Type 0 where
    pub reached : AreReached q [] first es i
    pub few : All (λ e. e.1 ≤ limit) es

  pub within_begun : (es : Depths) → AreNoted [] [] es first 0 → AreWithin es 0
  within_begun es are = record {
    reached = reached_begun q [] first es are;
    few = subst (All (λ (e : Move × ℕ). e.1 ≤ limit)) (sym are.follows)
        (All-weaker (λ (e : Move × ℕ). Contains first e.0 × (e.1 ≡ 0)) (λ (e : Move × ℕ). e.1 ≤ limit)
        (λ e h. let none = h.1 in omega (arith, none)) are.more are.each);
  }

  pub within_more : (es new : Depths) (i : ℕ) → AreWithin es i → HasBelow es i limit → IsSpread q [] es new i → AreWithin new (i + 1)
  within_more es new i are below on = record {
    reached = reached_more q [] first es new i are.reached on;
    few = subst (All (λ (e : Move × ℕ). e.1 ≤ limit)) (sym on.follows)
        (All-append (λ (e : Move × ℕ). e.1 ≤ limit) es on.more are.few
        (All-weaker (λ (e : Move × ℕ). FollowsIn q on.mv e.0 × (e.1 ≡ on.depth + 1)) (λ (e : Move × ℕ). e.1 ≤ limit)
        (λ e h. let is = h.1 in let lt = less in omega (arith, is, lt)) on.more on.each));
  }
    where
      less : on.depth < limit
      less = subst (λ n. n < limit) (depth_at es i below.0 (on.mv, on.depth) below.1 on.at) below.2

  -- all that no more extensions lead to
  pub within_all : (es : Depths) (i : ℕ) → AreWithin es i → ¬ HasBelow es i limit → HoldsWithin q limit first es
  within_all es i are none f zero x there most leads = by (are.reached.begun f there)
    where
      by : HasMove [] f ⊎ HasWithin es 0 f → HasWithin es 0 x
      by (inl b) = absurd (no_member _ b.1)
      by (inr w) = subst (HasWithin es 0) (sym leads) w
  within_all es i are none f (suc n) x there most leads =
      by (within_all es i are none f n leads.0 there (omega (arith, most)) leads.1)
    where
      on : (d : ℕ) → d ≤ n → HasMove [] x ⊎ HasWithin es (d + 1) x → HasWithin es (suc n) x
      on d le (inl b) = absurd (no_member _ b.1)
      on d le (inr w) = let p = w.1 in (w.0, omega (arith, p, le), w.2)

      split : (a b : ℕ) → (a < b) ⊎ (b ≤ a)
      split a b = grind arith

      -- a move with fewer extensions stands before the index
      before : (k d : ℕ) → d ≤ n → slice_get es k ≡ Some (leads.0, d) → (k < i) ⊎ (i ≤ k) → k < i
      before k d le at (inl lt) = lt
      before k d le at (inr ge) =
          let here = at_index es i (let within = slice_get_within es k _ at in omega (arith, within, ge)) in
          let low = are.reached.rising i k here.0 (leads.0, d) ge here.1 at in
          absurd (none (here.0, here.1, omega (arith, low, le, most)))

      by : HasWithin es n leads.0 → HasWithin es (suc n) x
      by w =
          let at = index_of_member es (leads.0, w.0) w.2 in
          on w.0 w.1 (are.reached.spread at.0 (leads.0, w.0) (before at.0 w.0 w.1 at.1 (split at.0 i)) at.1 x leads.2)

-- ---- extensions noted

-- what the place above becomes is known where a move before shares it
pub above_known : (q : Question) (beside es : Depths) (i : ℕ) (mv : Move) (depth : ℕ) → slice_get es i ≡ Some (mv, depth)
    → IsSpreadBefore q beside es i → SharesAbove es i → (m : Move) → IsUpper q.goal.now mv m → HasMove beside m ⊎ HasMove es m
above_known q beside es i mv depth at before shares m is =
    before shares.k shares.before shares.follows shares.at_before m
    (1, inl (refl, subst (λ p. IsSomeAnd p (λ p. m ≡ as_in_goal q.goal.now p)) (sym (shares.same ∙ ap (λ (e : Move × ℕ). upper_place e.0) (same shares.at at))) is))
  where
    same : slice_get es i ≡ Some shares.here → slice_get es i ≡ Some (mv, depth) → shares.here ≡ (mv, depth)
    same a b = cc

-- the extensions of a move are noted
pub spread_noted : (q : Question) (beside old new : Depths) (i : ℕ) (mv : Move) (depth : ℕ) (ms : List Move) (K : Move → Type 0)
    → slice_get old i ≡ Some (mv, depth) → All (FollowsIn q mv) ms → ((m : Move) → FollowsIn q mv m → K m ⊎ Contains ms m)
    → ((m : Move) → K m → HasMove beside m ⊎ HasMove old m) → AreNoted beside old new ms (depth + 1)
    → IsSpread q beside old new i
spread_noted q beside old new i mv depth ms K at each all known are = record {
  mv = mv;
  depth = depth;
  at = at;
  more = are.more;
  follows = are.follows;
  each = All-weaker (λ (e : Move × ℕ). Contains ms e.0 × (e.1 ≡ depth + 1)) (λ (e : Move × ℕ). FollowsIn q mv e.0 × (e.1 ≡ depth + 1))
      (λ e h. (All-contains (FollowsIn q mv) ms e.0 each h.0, h.1)) are.more are.each;
  all = λ m h. by m (all m h);
}
  where
    old_now : (m : Move) → HasMove beside m ⊎ HasMove old m → HasMove beside m ⊎ HasMove new m
    old_now m (inl b) = inl b
    old_now m (inr h) = inr (subst (λ l. HasMove l m) (sym are.follows) (has_left old are.more m h))

    by : (m : Move) → K m ⊎ Contains ms m → HasMove beside m ⊎ HasMove new m
    by m (inl k) = old_now m (known m k)
    by m (inr h) = are.all m h

-- ---- the extenders asked

-- what generated moves lead to is listed
pub led_listed : (q : Question) (first : List Move) (e : Move × ℕ) → All (IsOfferedMove q) first → IsLedTo q first e
    → IsListed (rulebook q.ctx.now) q.cur.now q.goal.now e.0
led_listed q first e firsts led =
    let g = All-contains (IsOfferedMove q) first led.0 firsts led.1 in
    record { first = g.0; depth = e.1; generated = g.1; leads = subst (λ m. LeadsIn q m e.1 e.0) (sym g.2) led.2 }

-- the extenders can be asked about the next one
pub can_spread : (q : Question) (beside : Depths) (first : List Move) (es : Depths) (i : ℕ) → AreReached q beside first es i
    → i < length es → length es < most_moves → All (IsOfferedMove q) first
    → ((m : Move) → IsListed (rulebook q.ctx.now) q.cur.now q.goal.now m → IsDefined q.cur.now m) → CanSpread q es i
can_spread q beside first es i are lt small firsts defined =
    let here = at_index es i lt in
    record {
      mv = here.0.0;
      depth = here.0.1;
      at = here.1;
      defined = defined here.0.0 (led_listed q first here.0 firsts (All-contains (IsLedTo q first) es here.0 are.each (member_at es i here.0 here.1)));
      shallow = are.shallow i here.0 here.1;
      small = omega (arith, lt, small);
    }

-- so where it has fewer extensions
pub below_spreads : (q : Question) (first : List Move) (es : Depths) (i limit : ℕ) → AreReached q [] first es i → HasBelow es i limit
    → i < most_moves → All (IsOfferedMove q) first
    → ((m : Move) → IsListed (rulebook q.ctx.now) q.cur.now q.goal.now m → IsDefined q.cur.now m) → CanSpread q es i
below_spreads q first es i limit are (e, at, lt) small firsts defined = record {
  mv = e.0;
  depth = e.1;
  at = at;
  defined = defined e.0 (led_listed q first e firsts (All-contains (IsLedTo q first) es e are.each (member_at es i e at)));
  shallow = are.shallow i e at;
  small = small;
}

-- the extensions of those before it are known
pub spread_before : (q : Question) (beside : Depths) (first : List Move) (es : Depths) (i : ℕ) → AreReached q beside first es i
    → IsSpreadBefore q beside es i
spread_before q beside first es i are k e follows at x extends = by (are.spread k e (omega (arith, follows)) at x extends)
  where
    by : HasMove beside x ⊎ HasWithin es (e.1 + 1) x → HasMove beside x ⊎ HasMove es x
    by (inl b) = inl b
    by (inr w) = inr (w.0, w.2)
