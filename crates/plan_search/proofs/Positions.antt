-- The order of ways is that of their positions in the lists of moves.
use Rattle.std.proofs.Common.{◌≡◌, ◌⊎◌, inl, inr, ℕ, ◌<◌, List, [], ◌∷◌, zero, suc, length, Some, get_or, refl, sym, ap, subst, ◌∙◌, arith}
use Rattle.std.specs.Cmp.{nat_cmp_is, nat_cmp_total, tied_itself}
use Rattle.std.specs.Cmp.Lexicographic.{slice_cmp}
use Rattle.std.specs.List.{Contains, slice_get}
use Rattle.std.specs.Ordering.{nat_cmp, ordering_then}
use Rattle.std.specs.declared.cmp.Ordering.{Ordering}
use Rattle.std.specs.declared.cmp.Ordering.TheVariants.{Less, Equal, Greater}
use Rattle.std.proofs.lemmas.Cmp.{ranked}
use Rattle.std.proofs.lemmas.Option.{get_or_from_slice_get, slice_get-get_or}
use Rattle.conf_doc.specs.declared.configuration.Config.{Config}
use Rattle.move_core.specs.Contexts.{rulebook}
use Rattle.move_core.specs.Listed.{AreListed, IsListed}
use Rattle.move_core.specs.Moves.{step}
use Rattle.move_core.specs.Plans.{IsWay}
use Rattle.move_core.specs.Ways.{ArePositions, IsAhead, IsBefore as AreBefore, IsLeast, IsSimpleWay}
use Rattle.move_core.specs.declared.contexts.Ctx.{Ctx}
use Rattle.move_core.specs.declared.moves.Move.{Move}
use Rattle.move_lists.proofs.OneList.{one_list}
use Rattle.plan_search.specs.FirstWays.{IsAheadOfGoal, IsBefore, IsFirstWay, StandsBefore}
use Rattle.plan_search.specs.Kits.{one_before}
use Rattle.plan_search.proofs.Parts.{listed_order}
use Rattle.plan_search.proofs.RankedMoves.{list_there}

-- a member has a position
position : {A : Type 0} (xs : List A) (x : A) → Contains xs x → (i : ℕ) × (slice_get xs i ≡ Some x)
position xs x h = (h.0, slice_get-get_or xs h.0 x h.1 ∙ ap Some h.2)

-- a position is within the list
within : {A : Type 0} (xs : List A) (i : ℕ) (x : A) → slice_get xs i ≡ Some x → i < length xs
within [] i x e = absurd cc
within (y ∷ ys) zero x e = omega arith
within (y ∷ ys) (suc i) x e = let h = within ys i x e in omega (arith, h)

-- the lesser position decides
lesser : (i j : ℕ) (is js : List ℕ) → i < j → slice_cmp nat_cmp (i ∷ is) (j ∷ js) ≡ Less
lesser i j is js lt = ap (λ o. ordering_then o (slice_cmp nat_cmp is js)) (sym (nat_cmp_is i j Less lt))

-- after the same position the rest decides
after_same : (i : ℕ) (is js : List ℕ) → slice_cmp nat_cmp is js ≡ Less → slice_cmp nat_cmp (i ∷ is) (i ∷ js) ≡ Less
after_same i is js e =
    ap (λ o. ordering_then o (slice_cmp nat_cmp is js)) (tied_itself nat_cmp_total i) ∙ e

module _ (ctx : Ctx) (start goal : Config) where
  -- the list of moves of a configuration
  abbrev HasList : Config → Type 0
  HasList c = (list : List Move) × AreListed (rulebook ctx) start c goal list

  -- moves have positions
  abbrev HavePositions : Config → List Move → Type 0
  HavePositions c ms = (is : List ℕ) × ArePositions (rulebook ctx) start goal c ms is

  -- some have, and others have, and the first ones are before
  abbrev HaveBefore : Config → List Move → List Move → Type 0
  HaveBefore c ms ns =
      (left : List ℕ) × (right : List ℕ) × ArePositions (rulebook ctx) start goal c ms left
      × ArePositions (rulebook ctx) start goal c ns right × (slice_cmp nat_cmp left right ≡ Less)

  -- a listed move has a position
  at : (c : Config) (l : HasList c) (m : Move) → IsListed (rulebook ctx) c goal m → (i : ℕ) × (slice_get l.0 i ≡ Some m)
  at c l m is = position l.0 m (subst (λ k. Contains k m) (sym l.1.2) (l.1.1.all m is))

  -- so has one with moves that follow it
  one_more : (c : Config) (m : Move) (ms : List Move) → HasList c → IsListed (rulebook ctx) c goal m
      → HavePositions (step c m) ms → HavePositions c (m ∷ ms)
  one_more c m ms l is rest = let i = at c l m is in (i.0 ∷ rest.0, ((l.0, l.1, i.1), rest.1))

  -- the move of the lesser position stands before the other
  in_list : (c : Config) (list : List Move) (m n : Move) (i j : ℕ)
      → AreListed (rulebook ctx) start c goal list → slice_get list i ≡ Some m → slice_get list j ≡ Some n
      → i < j → StandsBefore (rulebook ctx) start goal c m n
  in_list c list m n i j are mi nj lt =
      let pairs = listed_order (rulebook ctx) start goal c list are i j m lt (within list j n nj) in
      subst (λ k. StandsBefore (rulebook ctx) start goal c k n) (get_or_from_slice_get list i m m mi)
      (subst (StandsBefore (rulebook ctx) start goal c (get_or list i m)) (get_or_from_slice_get list j n m nj) pairs)

  -- at one position stands one move
  at_one : (list : List Move) (m n : Move) (i j : ℕ) → slice_get list i ≡ Some m → slice_get list j ≡ Some n → i ≡ j → m ≡ n
  at_one list m n i j mi nj e =
      sym (get_or_from_slice_get list i m n mi) ∙ ap (λ k. get_or list k n) e ∙ get_or_from_slice_get list j n n nj

  -- the earlier move has the lesser position
  earlier : (c : Config) (list : List Move) (m n : Move) (i j : ℕ)
      → AreListed (rulebook ctx) start c goal list → slice_get list i ≡ Some m → slice_get list j ≡ Some n
      → StandsBefore (rulebook ctx) start goal c m n → i < j
  earlier c list m n i j are mi nj before = by (order i j)
    where
      order : (a b : ℕ) → (a < b) ⊎ ((b < a) ⊎ (a ≡ b))
      order a b = grind arith

      no_self : (k : Move) → ¬ StandsBefore (rulebook ctx) start goal c k k
      no_self k s = one_before (rulebook ctx) start goal c k k s s

      by : (i < j) ⊎ ((j < i) ⊎ (i ≡ j)) → i < j
      by (inl lt) = lt
      by (inr (inl lt)) = absurd (one_before (rulebook ctx) start goal c m n before (in_list c list n m j i are nj mi lt))
      by (inr (inr e)) =
          let same = at_one list m n i j mi nj e in
          absurd (no_self n (subst (λ k. StandsBefore (rulebook ctx) start goal c k n) same before))

  -- moves that follow an earlier one are before those that follow a later one
  parted : (c : Config) (m n : Move) (ms ns : List Move) → HasList c → IsListed (rulebook ctx) c goal m → IsListed (rulebook ctx) c goal n
      → StandsBefore (rulebook ctx) start goal c m n → HavePositions (step c m) ms → HavePositions (step c n) ns
      → HaveBefore c (m ∷ ms) (n ∷ ns)
  parted c m n ms ns l is_m is_n before left right =
      let i = at c l m is_m in
      let j = at c l n is_n in (
        i.0 ∷ left.0,
        j.0 ∷ right.0,
        ((l.0, l.1, i.1), left.1),
        ((l.0, l.1, j.1), right.1),
        lesser i.0 j.0 left.0 right.0 (earlier c l.0 m n i.0 j.0 l.1 i.1 j.1 before),
      )

  -- those that follow one move are as they were
  alike : (c : Config) (m n : Move) (ms ns : List Move) → HasList c → IsListed (rulebook ctx) c goal m → m ≡ n
      → HaveBefore (step c m) ms ns → HaveBefore c (m ∷ ms) (n ∷ ns)
  alike c m n ms ns l is same rest =
      let i = at c l m is in (
        i.0 ∷ rest.0,
        i.0 ∷ rest.1,
        ((l.0, l.1, i.1), rest.2),
        (
          (l.0, l.1, i.1 ∙ ap Some same),
          subst (λ k. ArePositions (rulebook ctx) start goal (step c k) ns rest.1) same rest.3,
        ),
        after_same i.0 rest.0 rest.1 rest.4,
      )

  -- no moves are before some
  none_first : (c : Config) (n : Move) (ns : List Move) → HavePositions c (n ∷ ns) → HaveBefore c [] (n ∷ ns)
  none_first c n ns ([], are) = absurd are
  none_first c n ns (j ∷ js, are) = ([], j ∷ js, tt, are, refl)

  -- the list of moves there
  listed : (c : Config) → HasList c
  listed c = list_there ctx c goal start

  -- the moves of a way have positions
  positions : (c : Config) (ms : List Move) (x : Config) → IsWay (rulebook ctx) goal c ms x → HavePositions c ms
  positions c [] x w = ([], tt)
  positions c (m ∷ ms) x w = one_more c m ms (listed c) w.0.listed (positions (step c m) ms x w.1)

  -- by them the way before is before
  by_positions : (c : Config) (ms ns : List Move) (x y : Config) → IsWay (rulebook ctx) goal c ms x
      → IsWay (rulebook ctx) goal c ns y → IsBefore (StandsBefore (rulebook ctx) start goal) c ms ns → HaveBefore c ms ns
  by_positions c [] [] x y v w b = absurd b
  by_positions c [] (n ∷ ns) x y v w b = none_first c n ns (positions c (n ∷ ns) y w)
  by_positions c (m ∷ ms) [] x y v w b = absurd b
  by_positions c (m ∷ ms) (n ∷ ns) x y v w (inl before) =
      parted c m n ms ns (listed c) v.0.listed w.0.listed before (positions (step c m) ms x v.1) (positions (step c n) ns y w.1)
  by_positions c (m ∷ ms) (n ∷ ns) x y v w (inr b) =
      alike c m n ms ns (listed c) v.0.listed b.0
      (by_positions (step c m) ms ns x y v.1 (subst (λ k. IsWay (rulebook ctx) goal (step c k) ns y) (sym b.0) w.1) b.1)

  -- so a simple way that is before another one is so by positions
  simple_before : (ms ns : List Move) (x y : Config) → IsSimpleWay (rulebook ctx) start goal ms x
      → IsSimpleWay (rulebook ctx) start goal ns y → IsBefore (StandsBefore (rulebook ctx) start goal) start ms ns
      → AreBefore (rulebook ctx) start goal ms ns
  simple_before ms ns x y one other b =
      let h = by_positions start ms ns x y one.way other.way b in
      record { left = h.0; right = h.1; left_are = h.2; right_are = h.3; before = h.4 }

  -- the first way is the least one
  pub first_is_least : (ms : List Move) → IsFirstWay (rulebook ctx) start goal ms
      → IsLeast (rulebook ctx) start goal ms goal
  first_is_least ms is = record {
    way = is.way;
    first = λ ns simple other. simple_before ms ns goal goal is.way simple (is.first ns simple other);
  }

  -- and what is ahead by chains is so by positions
  pub ahead_by_positions : (x : Config) → IsAheadOfGoal (rulebook ctx) start goal x
      → IsAhead (rulebook ctx) start goal x
  ahead_by_positions x is = record {
    other = is.other;
    moves = is.moves;
    way = is.way;
    before = λ ns simple. simple_before is.moves ns x goal is.way simple (is.before ns simple);
  }

  -- ---- from positions to chains

  -- moves of lesser positions are before the others
  by_chains : (c : Config) (ms ns : List Move) (left right : List ℕ) → ArePositions (rulebook ctx) start goal c ms left
      → ArePositions (rulebook ctx) start goal c ns right → slice_cmp nat_cmp left right ≡ Less
      → IsBefore (StandsBefore (rulebook ctx) start goal) c ms ns
  by_chains c [] [] [] [] l r less = absurd (no_less less)
    where
      no_less : ¬ Equal ≡ Less
      no_less e = absurd cc
  by_chains c [] [] [] (j ∷ js) l r less = absurd r
  by_chains c [] [] (i ∷ is) right l r less = absurd l
  by_chains c [] (n ∷ ns) left right l r less = tt
  by_chains c (m ∷ ms) ns [] right l r less = absurd l
  by_chains c (m ∷ ms) [] (i ∷ is) [] l r less = absurd (no_less less)
    where
      no_less : ¬ Greater ≡ Less
      no_less e = absurd cc
  by_chains c (m ∷ ms) [] (i ∷ is) (j ∷ js) l r less = absurd r
  by_chains c (m ∷ ms) (n ∷ ns) (i ∷ is) [] l r less = absurd r
  by_chains c (m ∷ ms) (n ∷ ns) (i ∷ is) (j ∷ js) l r less =
      by (nat_cmp i j) refl (by_chains (step c m) ms ns is js l.1)
    where
      Later : Move → List Move → Type 0
      Later k qs = ArePositions (rulebook ctx) start goal (step c k) qs js

      -- both lists are one
      at_left : slice_get l.0.0 j ≡ Some n
      at_left =
          subst (λ list. slice_get list j ≡ Some n) (sym (one_list ctx start c goal l.0.0 r.0.0 l.0.1 r.0.1)) r.0.2

      by : (o : Ordering) → o ≡ nat_cmp i j
          → (Later m ns → slice_cmp nat_cmp is js ≡ Less → IsBefore (StandsBefore (rulebook ctx) start goal) (step c m) ms ns)
          → IsBefore (StandsBefore (rulebook ctx) start goal) c (m ∷ ms) (n ∷ ns)
      by Less e later = inl (in_list c l.0.0 m n i j l.0.1 l.0.2 at_left (ranked i j Less e))
      by Equal e later =
          let same = at_one l.0.0 m n i j l.0.2 at_left (ranked i j Equal e) in
          inr (same, later (subst (λ k. Later k ns) (sym same) r.1) (ap (λ o. ordering_then o (slice_cmp nat_cmp is js)) e ∙ less))
      by Greater e later =
          let d : Greater ≡ Less = ap (λ o. ordering_then o (slice_cmp nat_cmp is js)) e ∙ less in absurd cc

  before_by_chains : (ms ns : List Move) → AreBefore (rulebook ctx) start goal ms ns
      → IsBefore (StandsBefore (rulebook ctx) start goal) start ms ns
  before_by_chains ms ns b = by_chains start ms ns b.left b.right b.left_are b.right_are b.before

  -- the least way is the first one
  pub least_is_first : (ms : List Move) → IsLeast (rulebook ctx) start goal ms goal
      → IsFirstWay (rulebook ctx) start goal ms
  least_is_first ms is = record {
    way = is.way;
    first = λ ns simple other. before_by_chains ms ns (is.first ns simple other);
  }

  -- and what is ahead by positions is so by chains
  pub ahead_by_chains : (x : Config) → IsAhead (rulebook ctx) start goal x
      → IsAheadOfGoal (rulebook ctx) start goal x
  ahead_by_chains x is = record {
    other = is.other;
    moves = is.moves;
    way = is.way;
    before = λ ns simple. before_by_chains is.moves ns (is.before ns simple);
  }
