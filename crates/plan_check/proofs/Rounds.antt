-- What leads to a move, found backwards, round by round.
use Rattle.std.proofs.Common.{◌≡◌, ◌⊎◌, ℕ, zero, suc, ◌+◌, ◌<◌, ◌≤◌, Bool, true, false, List, [], ◌∷◌, ◌++◌, length, take, Some, slice_get, inl, inr, Contains, All, refl, sym, ap, ◌∙◌, subst, arith}
use Rattle.std.proofs.lemmas.Bool.{cases_lt}
use Rattle.std.proofs.lemmas.List.{take_all}
use Rattle.std.proofs.lemmas.List.Elements.{All-append, All-cons, All-nil, All-contains, All-weaker, Contains-append_cases, Contains-append_left, Contains-append_right}
use Rattle.std.proofs.lemmas.Option.{get_or_from_slice_get, slice_get_within}
use Rattle.conf_doc.proofs.Lists.{take_more}
use Rattle.move_core.specs.Contexts.{rulebook}
use Rattle.move_core.specs.Listed.{LeadsTo}
use Rattle.move_core.specs.declared.moves.Generated.{Generated}
use Rattle.move_core.specs.declared.moves.Move.{Move}
use Rattle.plan_check.specs.Backwards.{ArePreceding, FollowsGenerated, HasBeginning, IsReached, IsRound, Joins, JoinsOrBegins, Leads, LeadsAs, LeadsOf, RoundOrBegins}
use Rattle.plan_check.specs.Beginnings.{Begins, IsListedAt}
use Rattle.plan_check.specs.declared.here.Here.{Here}
use Rattle.plan_check.proofs.Taking.{none_in, only_one}
use Rattle.plan_check.proofs.Loops.{at_contained}

-- ---- what joins

-- as P says, and not generated
abbrev Fresh : Here → (Move → Type 0) → Move → Type 0
Fresh h P m = P m × ¬ Begins h m

pub joins_none : (h : Here) (P : Move → Type 0) (ms : List Move) → ((m : Move) → P m → Contains ms m) → Joins h P ms ms
joins_none h P ms all = record { more = []; follows = sym (append_nil ms); each = All-nil (Fresh h P); all = all }
  where
    append_nil : (xs : List Move) → xs ++ [] ≡ xs
    append_nil [] = refl
    append_nil (x ∷ xs) = ap (λ ys. x ∷ ys) (append_nil xs)

pub joins_one : (h : Here) (P : Move → Type 0) (ms new : List Move) (m : Move) → Fresh h P m
    → ((a : Move) → P a → a ≡ m) → new ≡ ms ++ m ∷ [] → Joins h P ms new
joins_one h P ms new m is only put = record {
  more = m ∷ [];
  follows = put;
  each = All-cons (Fresh h P) m [] is (All-nil (Fresh h P));
  all = λ a p. subst (λ l. Contains l a) (sym put) (Contains-append_right ms (m ∷ []) a (0, omega arith, sym (only a p)));
}

module _ (h : Here) (x : Move) where
  pub joins_first : (moves ms : List Move) → Joins h (LeadsOf h (take 0 moves) x) ms ms
  joins_first moves ms = joins_none h (LeadsOf h (take 0 moves) x) ms (λ m is. absurd (none_in m is.0))

  pub joins_more : (moves : List Move) (i : ℕ) (m : Move) (a b c : List Move) → slice_get moves i ≡ Some m
      → Joins h (LeadsOf h (take i moves) x) a b → Joins h (LeadsAs h m x) b c
      → Joins h (LeadsOf h (take (i + 1) moves) x) a c
  joins_more moves i m a b c at before here = record {
    more = before.more ++ here.more;
    follows = here.follows ∙ ap (λ l. l ++ here.more) before.follows ∙ assoc a before.more here.more;
    each =
        All-append (Fresh h Now) before.more here.more
        (All-weaker (Fresh h (LeadsOf h (take i moves) x)) (Fresh h Now) old before.more before.each)
        (All-weaker (Fresh h (LeadsAs h m x)) (Fresh h Now) new here.more here.each);
    all = λ y is. by y is.1 (Contains-append_cases (take i moves) (m ∷ []) y (subst (λ l. Contains l y) (take_more moves i m at) is.0));
  }
    where
      Now : Move → Type 0
      Now = LeadsOf h (take (i + 1) moves) x

      assoc : (xs ys zs : List Move) → (xs ++ ys) ++ zs ≡ xs ++ (ys ++ zs)
      assoc [] ys zs = refl
      assoc (w ∷ xs) ys zs = ap (λ l. w ∷ l) (assoc xs ys zs)

      old : (y : Move) → Fresh h (LeadsOf h (take i moves) x) y → Fresh h Now y
      old y is = (
        (subst (λ l. Contains l y) (sym (take_more moves i m at)) (Contains-append_left (take i moves) (m ∷ []) y is.0.0), is.0.1),
        is.1,
      )

      new : (y : Move) → Fresh h (LeadsAs h m x) y → Fresh h Now y
      new y is = (
        (
          subst (λ l. Contains l y) (sym (take_more moves i m at))
              (Contains-append_right (take i moves) (m ∷ []) y (0, omega arith, sym is.0.0)),
          subst (λ z. Leads h z x) (sym is.0.0) is.0.1,
        ),
        is.1,
      )

      kept : (y : Move) → Contains b y → Contains c y
      kept y has = subst (λ l. Contains l y) (sym here.follows) (Contains-append_left b here.more y has)

      by : (y : Move) → Leads h y x → Contains (take i moves) y ⊎ Contains (m ∷ []) y → Contains c y
      by y leads (inl has) = kept y (before.all y (has, leads))
      by y leads (inr has) = let same = only_one m y has in here.all y (same, subst (λ z. Leads h z x) same leads)

  pub joins_all : (moves : List Move) (i : ℕ) (a b : List Move) → length moves ≤ i
      → Joins h (LeadsOf h (take i moves) x) a b → Joins h (LeadsOf h moves x) a b
  joins_all moves i a b end is = subst (λ l. Joins h (LeadsOf h l x) a b) (take_all i moves end) is

  -- where what joins is all that may precede, it is a round
  round_of : (moves old new : List Move) → ArePreceding h x moves → Joins h (LeadsOf h moves x) old new
      → IsRound h x old new
  round_of moves old new may joins = record {
    more = joins.more;
    follows = joins.follows;
    each = All-weaker (Fresh h (LeadsOf h moves x)) (Fresh h (λ m. Leads h m x)) (λ m is. (is.0.1, is.1)) joins.more joins.each;
    all = λ m listed precedes. by m (may m listed precedes);
  }
    where
      by : (m : Move) → LeadsOf h moves x m ⊎ HasBeginning h x moves → LeadsOf h new x m ⊎ HasBeginning h x new
      by m (inl has) = inl (joins.all m has, has.1)
      by m (inr has) = inr (record { mv = has.mv; begins = has.begins; leads = has.leads; there = joins.all has.mv (has.there, has.leads) })

  pub round_or : (moves old new : List Move) → ArePreceding h x moves → (b : Bool)
      → JoinsOrBegins h x (LeadsOf h moves x) old new b → RoundOrBegins h x old new b
  round_or moves old new may true begins = begins
  round_or moves old new may false joins = round_of moves old new may joins

-- ---- rounds

get_old : (xs ys : List Move) (i : ℕ) → i < length xs → slice_get (xs ++ ys) i ≡ slice_get xs i
get_old [] ys i lt = absurd (omega arith)
get_old (x ∷ xs) ys zero lt = refl
get_old (x ∷ xs) ys (suc i) lt = get_old xs ys i (omega arith)

same_Some : (a b : Move) → Some a ≡ Some b → a ≡ b
same_Some a b e = cc

module _ (h : Here) (x : Move) where
  -- it leads on to the move
  abbrev On : Move → Type 0
  On m = IsListedAt h m → IsListedAt h x

  -- one that is generated is listed
  pub begins_listed : Begins h x → IsListedAt h x
  begins_listed begins = record { first = begins.first; depth = zero; generated = begins.generated; leads = sym begins.move }

  -- before the first round
  pub reached_first : (ms : List Move) → ms ≡ x ∷ [] → ¬ Begins h x → IsReached h x 0 ms
  reached_first ms is other = record {
    last = subst (λ l. Contains l x) (sym is) (0, omega arith, refl);
    each = subst (All On) (sym is) (All-cons On x [] (λ listed. listed) (All-nil On));
    none = subst (All (λ m. ¬ Begins h m)) (sym is) (All-cons (λ m. ¬ Begins h m) x [] other (All-nil (λ m. ¬ Begins h m)));
    all = λ i m lt there. absurd (omega arith);
  }

  -- one that follows a generated move leads to the move
  pub reached_begins : (n : ℕ) (ms : List Move) (m : Move) → IsReached h x n ms → slice_get ms n ≡ Some m
      → FollowsGenerated h m → IsListedAt h x
  reached_begins n ms m inv at start =
      All-contains On ms m inv.each (n, slice_get_within ms n m at, get_or_from_slice_get ms n m m at)
      (record { first = start.begins.first; depth = suc zero; generated = start.begins.generated; leads = (start.mv, sym start.begins.move, start.leads.1) })

  module _ (n : ℕ) (ms new : List Move) (m : Move) (inv : IsReached h x n ms) (at : slice_get ms n ≡ Some m) (round : IsRound h m ms new) where
    kept : (y : Move) → Contains ms y → Contains new y
    kept y has = subst (λ l. Contains l y) (sym round.follows) (Contains-append_left ms round.more y has)

    kept_all : (z : Move) → ArePreceding h z ms → ArePreceding h z new
    kept_all z all y listed precedes = by (all y listed precedes)
      where
        by : LeadsOf h ms z y ⊎ HasBeginning h z ms → LeadsOf h new z y ⊎ HasBeginning h z new
        by (inl has) = inl (kept y has.0, has.1)
        by (inr has) = inr (record { mv = has.mv; begins = has.begins; leads = has.leads; there = kept has.mv has.there })

    old : (i : ℕ) (y : Move) → i < n → slice_get new i ≡ Some y → slice_get ms i ≡ Some y
    old i y lt there =
        let within = slice_get_within ms n m at in
        sym (ap (λ l. slice_get l i) round.follows ∙ get_old ms round.more i (omega arith)) ∙ there

    here : (i : ℕ) (y : Move) → i ≡ n → slice_get new i ≡ Some y → y ≡ m
    here i y same there =
        let within = slice_get_within ms n m at in
        same_Some y m (sym there ∙ ap (slice_get new) same ∙ ap (λ l. slice_get l n) round.follows ∙ get_old ms round.more n within ∙ at)

    leads_on : (y : Move) → Fresh h (λ z. Leads h z m) y → On y
    leads_on y is listed =
        All-contains On ms m inv.each (n, slice_get_within ms n m at, get_or_from_slice_get ms n m m at)
        (record { first = listed.first; depth = suc listed.depth; generated = listed.generated; leads = (y, listed.leads, is.0.1) })

    -- what may precede the move at the index is put at the end
    pub reached_more : IsReached h x (n + 1) new
    reached_more = record {
      last = kept x inv.last;
      each =
          subst (All On) (sym round.follows)
          (All-append On ms round.more inv.each (All-weaker (Fresh h (λ z. Leads h z m)) On leads_on round.more round.each));
      none =
          subst (All (λ z. ¬ Begins h z)) (sym round.follows)
          (All-append (λ z. ¬ Begins h z) ms round.more inv.none (All-weaker (Fresh h (λ z. Leads h z m)) (λ z. ¬ Begins h z) (λ z is. is.1) round.more round.each));
      all = λ i y lt there. elim (cases_lt i n) [
        | inl less ↦ kept_all y (inv.all i y less (old i y less there))
        | inr most ↦
            let same : i ≡ n = omega arith in
            subst (λ z. ArePreceding h z new) (sym (here i y same there)) round.all
      ];
    }

  module _ (n : ℕ) (ms : List Move) (inv : IsReached h x n ms) (end : length ms ≤ n) where
    none_begins : (y : Move) → Contains ms y → ¬ Begins h y
    none_begins y has = All-contains (λ z. ¬ Begins h z) ms y inv.none has

    -- no chain ends with one of those found
    no_chain : (first : Generated) → (depth : ℕ) (m : Move) → Begins h first.mv → LeadsTo (rulebook h.ctx.now) h.cur.now h.goal.now first.mv depth m
        → ((k : ℕ) (y : Move) → LeadsTo (rulebook h.ctx.now) h.cur.now h.goal.now first.mv k y → IsListedAt h y) → ¬ Contains ms m
    no_chain first zero m begins leads listed has = none_begins m has (subst (Begins h) (sym leads) begins)
    no_chain first (suc depth) m begins (y, leads, more) listed has =
        let within = has.1 in
        elim (inv.all has.0 m (omega arith) (at_contained ms m has) y (listed depth y leads) more) [
          | inl there ↦ no_chain first depth y begins leads listed there.0
          | inr there ↦ none_begins there.mv there.there there.begins
        ]

    pub not_listed : ¬ IsListedAt h x
    not_listed is =
        no_chain is.first is.depth x (record { first = is.first; generated = is.generated; move = refl }) is.leads
        (λ k y leads. record { first = is.first; depth = k; generated = is.generated; leads = leads }) inv.last
