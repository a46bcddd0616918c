-- The first chain of each move.
use Rattle.std.proofs.Common.{◌≡◌, ◌≢◌, ◌⊎◌, inl, inr, ℕ, suc, ◌<◌, false, List, [], ◌∷◌, ◌++◌, length, length-append, map, get_or, refl, sym, ap, subst, ◌∙◌, arith, true≢false, All}
use Rattle.std.specs.Cmp.{IsTotalOrder, nat_cmp_total, on_total, then_total, tied_itself, upto}
use Rattle.std.specs.List.{AllPairs, Contains}
use Rattle.std.specs.List.Sorted.{IsPermutation, IsSorted}
use Rattle.std.specs.Ordering.{is_gt, is_lt, ordering_reverse, ordering_then}
use Rattle.std.specs.declared.cmp.Ordering.{Ordering}
use Rattle.std.specs.declared.cmp.Ordering.TheVariants.{Less, Equal, Greater}
use Rattle.std.proofs.lemmas.List.Elements.{Contains-append_left, Contains-get_or, Contains-push, Contains-push_cases, All-contains, All-nil, All-push, All-weaker}
use Rattle.std.proofs.lemmas.List.MinMax.{ranks_by}
use Rattle.std.proofs.lemmas.List.Quantifiers.{all_pairs_push}
use Rattle.std.proofs.lemmas.List.Sorted.{All-permutation, Contains-permutation, IsPermutation-sym, sorted_far}
use Rattle.move_core.specs.Contexts.{rulebook}
use Rattle.move_core.specs.Listed.{IsRanked, moves_of}
use Rattle.move_core.specs.ListedOrder.{listed_cmp, move_cmp, rank_cmp}
use Rattle.move_core.specs.ListedOrderLaws.{listed_same, listed_total}
use Rattle.move_core.specs.declared.moves.Move.{Move}
use Rattle.move_core.specs.declared.moves.Ranked.{Ranked}
use Rattle.move_lists.specs.Parts.{AreRankedIn, part_of}
use Rattle.move_lists.specs.Ranking.{AreChainsIn, AreEarlier, AreFirsts, AreInOrder, AreSorted, HasFirsts, HasLeast, IsChain, IsEarlier, IsInPart}
use Rattle.move_lists.specs.Reaches.{Depths, HasMove, IsNoted}
use Rattle.move_lists.specs.declared.asking.Question.{Question}
use Rattle.move_lists.proofs.Members.{member_cases, member_from_map, member_map, no_member}
use Rattle.move_lists.proofs.PartOrder.{less_part}

-- ---- orders

pub not_gt : (o : Ordering) → is_gt o ≡ false → o ≢ Greater
not_gt Less e g = absurd (cc)
not_gt Equal e g = absurd (cc)
not_gt Greater e g = true≢false e

pub gt_false : (o : Ordering) → o ≢ Greater → is_gt o ≡ false
gt_false Less n = refl
gt_false Equal n = refl
gt_false Greater n = absurd (n refl)

not_lt_back : (o p : Ordering) → o ≡ ordering_reverse p → is_lt p ≡ false → o ≢ Greater
not_lt_back o Less e n g = true≢false n
not_lt_back o Equal e n g = absurd (cc)
not_lt_back o Greater e n g = absurd (cc)

pub rank_total : IsTotalOrder rank_cmp
rank_total =
    then_total (on_total (λ r. r.tier) nat_cmp_total)
    (then_total (on_total (λ r. r.depth) nat_cmp_total) (on_total (λ r. r.class) nat_cmp_total))

-- ranks chain
rank_chain : (r s t : Ranked) → rank_cmp r s ≢ Greater → rank_cmp s t ≢ Greater → rank_cmp r t ≢ Greater
rank_chain r s t a b = not_gt _ (upto rank_total r s t (gt_false _ a) (gt_false _ b))

-- the order of the list is by rank first
by_rank : (o p : Ordering) → ordering_then o p ≢ Greater → o ≢ Greater
by_rank Less p n e = absurd (cc)
by_rank Equal p n e = absurd (cc)
by_rank Greater p n e = n refl

pub itself : (r : Ranked) → listed_cmp r r ≢ Greater
itself r = not_gt _ (ap is_gt (tied_itself listed_total r))

-- ---- sorted lists

-- a sorted list is so at all pairs
pub all_sorted : (rs : List Ranked) → IsSorted listed_cmp rs → AreSorted rs
all_sorted rs sorted i j d lt within =
    let far = sorted_far (λ x y. is_lt (listed_cmp x y)) (ranks_by listed_total (λ r. r)) rs sorted i j d (omega (arith, lt)) within in
    not_lt_back _ _ (listed_total.antisymm (get_or rs i d) (get_or rs j d)) far

-- what stands after the first part of a list
at_end : {A : Type 0} (xs : List A) (y : A) (rest : List A) (d : A) → get_or (xs ++ y ∷ rest) (length xs) d ≡ y
at_end [] y rest d = refl
at_end (x ∷ xs) y rest d = at_end xs y rest d

-- an item stands before a later one
pub pairs_before : {A : Type 0} (R : A → A → Type 0) (xs : List A) (y : A) (rest : List A)
    → AllPairs R (xs ++ y ∷ rest) → (x : A) → Contains xs x → R x y
pairs_before R [] y rest pairs x there = absurd (no_member x there)
pairs_before {A = A} R (z ∷ xs) y rest pairs x there = by (pairs_before R xs y rest after x) (member_cases z xs x there)
  where
    after : AllPairs R (xs ++ y ∷ rest)
    after i j d lt within = pairs (suc i) (suc j) d (omega (arith, lt)) (omega (arith, within))

    first : R z y
    first =
        let len = length-append xs (y ∷ rest) in
        subst (R z) (at_end xs y rest y) (pairs 0 (suc (length xs)) y (omega arith) (omega (arith, len)))

    by : (Contains xs x → R x y) → (z ≡ x) ⊎ Contains xs x → R x y
    by later (inl e) = subst (λ w. R w y) e first
    by later (inr h) = later h

-- ---- lists under a function

map_map : {A B C : Type 0} (g : B → C) (f : A → B) (xs : List A) → map g (map f xs) ≡ map (λ x. g (f x)) xs
map_map g f [] = refl
map_map g f (x ∷ xs) = ap (λ ys. g (f x) ∷ ys) (map_map g f xs)

map_push : {A B : Type 0} (f : A → B) (xs : List A) (x : A) → map f (xs ++ x ∷ []) ≡ map f xs ++ f x ∷ []
map_push f [] x = refl
map_push f (y ∷ xs) x = ap (λ ys. f y ∷ ys) (map_push f xs x)

-- ---- the first of each move

abbrev pub entry : Ranked → Move × ℕ
entry r = (r.mv, r.depth)

-- what is noted of chains that were looked at: the first of each move
pub record IsSeen (known : Depths) (done : List Ranked) (seen : Depths) : Type 0 where
  pub kept : List Ranked
  pub firsts : AreFirsts known done kept
  pub is : seen ≡ map entry kept

pub seen_none : (known : Depths) → IsSeen known [] []
seen_none known = record {
  kept = [];
  firsts = record {
    each = All-nil _;
    all = λ r h. absurd (no_member r h);
    least = λ r s h. absurd (no_member r h);
    sorted = λ i j d lt within. absurd (omega (arith, within));
    distinct = λ i j d lt within. absurd (omega (arith, within));
  };
  is = refl;
}

module _ (known : Depths) (done : List Ranked) (c : Ranked) (rest : List Ranked) (seen new : Depths)
    (sorted : AreSorted (done ++ c ∷ rest)) (so : IsSeen known done seen) where
  -- each that is kept comes before the next chain
  before : (r : Ranked) → Contains so.kept r → listed_cmp r c ≢ Greater
  before r h = pairs_before (λ a b. listed_cmp a b ≢ Greater) done c rest sorted r (All-contains (λ k. Contains done k × ¬ HasMove known k.mv) so.kept r so.firsts.each h).0

  -- a kept chain of a move is seen
  is_seen : (k : Ranked) (m : Move) → Contains so.kept k → k.mv ≡ m → HasMove seen m
  is_seen k m h e = (
    k.depth,
    subst (λ (l : Depths). Contains {X = Move × ℕ} l (m, k.depth)) (sym so.is)
        (subst (λ (x : Move). Contains {X = Move × ℕ} (map entry so.kept) (x, k.depth)) e (member_map entry so.kept k h)),
  )

  -- a seen move has a kept chain
  is_kept : (m : Move) → HasMove seen m → (k : Ranked) × Contains so.kept k × (k.mv ≡ m)
  is_kept m h =
      let k = member_from_map entry so.kept (m, h.0) (subst (λ (l : Depths). Contains {X = Move × ℕ} l (m, h.0)) so.is h.1) in
      (k.0, k.1, ap (λ e. e.0) k.2)

  abbrev now : List Ranked
  now = done ++ c ∷ []

  abbrev IsKept : List Ranked → Ranked → Type 0
  IsKept l r = Contains l r × ¬ HasMove known r.mv

  still_each : All (IsKept now) so.kept
  still_each = All-weaker (IsKept done) (IsKept now) (λ r h. (Contains-append_left done (c ∷ []) r h.0, h.1)) so.kept so.firsts.each

  -- the move of the next chain is known, or was seen
  seen_again : HasMove known c.mv ⊎ HasMove seen c.mv → new ≡ seen → IsSeen known now new
  seen_again was is = record {
    kept = so.kept;
    firsts = record {
      each = still_each;
      all = λ r h. all r (Contains-push_cases done c r h);
      least = λ r s h k e. least r s h (Contains-push_cases done c s k) e;
      sorted = so.firsts.sorted;
      distinct = so.firsts.distinct;
    };
    is = is ∙ so.is;
  }
    where
      this : (r : Ranked) → c ≡ r → HasMove known c.mv ⊎ HasMove seen c.mv → HasMove known r.mv ⊎ ((k : Ranked) × Contains so.kept k × (k.mv ≡ r.mv))
      this r e (inl h) = inl (subst (λ x. HasMove known x.mv) e h)
      this r e (inr h) = let k = is_kept c.mv h in inr (k.0, k.1, k.2 ∙ ap (λ x. x.mv) e)

      all : (r : Ranked) → Contains done r ⊎ (c ≡ r) → HasMove known r.mv ⊎ ((k : Ranked) × Contains so.kept k × (k.mv ≡ r.mv))
      all r (inl h) = so.firsts.all r h
      all r (inr e) = this r e was

      least : (r s : Ranked) → Contains so.kept r → Contains done s ⊎ (c ≡ s) → r.mv ≡ s.mv → listed_cmp r s ≢ Greater
      least r s h (inl k) e = so.firsts.least r s h k e
      least r s h (inr is) e = subst (λ x. listed_cmp r x ≢ Greater) is (before r h)

  seen_new : ¬ HasMove known c.mv → ¬ HasMove seen c.mv → new ≡ seen ++ (c.mv, c.depth) ∷ [] → IsSeen known now new
  seen_new other unknown is = record {
    kept = so.kept ++ c ∷ [];
    firsts = record {
      each = All-push (IsKept now) so.kept c still_each (Contains-push done c, other);
      all = λ r h. all r (Contains-push_cases done c r h);
      least = λ r s h k e. least r s (Contains-push_cases so.kept c r h) (Contains-push_cases done c s k) e;
      sorted = all_pairs_push (λ (a b : Ranked). listed_cmp a b ≢ Greater) so.kept c so.firsts.sorted (λ k d lt. before (get_or so.kept k d) (member k d lt));
      distinct = all_pairs_push (λ (a b : Ranked). a.mv ≢ b.mv) so.kept c so.firsts.distinct
          (λ k d lt e. unknown (is_seen (get_or so.kept k d) c.mv (member k d lt) e));
    };
    is = is ∙ ap (λ l. l ++ (c.mv, c.depth) ∷ []) so.is ∙ sym (map_push entry so.kept c);
  }
    where
      member : (k : ℕ) (d : Ranked) → k < length so.kept → Contains so.kept (get_or so.kept k d)
      member k d lt = Contains-get_or so.kept k d lt

      old : (r : Ranked) → HasMove known r.mv ⊎ ((k : Ranked) × Contains so.kept k × (k.mv ≡ r.mv))
          → HasMove known r.mv ⊎ ((k : Ranked) × Contains (so.kept ++ c ∷ []) k × (k.mv ≡ r.mv))
      old r (inl h) = inl h
      old r (inr k) = inr (k.0, Contains-append_left so.kept (c ∷ []) k.0 k.1, k.2)

      all : (r : Ranked) → Contains done r ⊎ (c ≡ r) → HasMove known r.mv ⊎ ((k : Ranked) × Contains (so.kept ++ c ∷ []) k × (k.mv ≡ r.mv))
      all r (inl h) = old r (so.firsts.all r h)
      all r (inr e) = inr (c, Contains-push so.kept c, ap (λ x. x.mv) e)

      -- the move of the next chain isn't among those that were looked at
      apart : (s : Ranked) → Contains done s → s.mv ≡ c.mv → ⊥
      apart s k e = by (so.firsts.all s k)
        where
          by : HasMove known s.mv ⊎ ((k : Ranked) × Contains so.kept k × (k.mv ≡ s.mv)) → ⊥
          by (inl h) = other (subst (HasMove known) e h)
          by (inr f) = unknown (is_seen f.0 c.mv f.1 (f.2 ∙ e))

      least : (r s : Ranked) → Contains so.kept r ⊎ (c ≡ r) → Contains done s ⊎ (c ≡ s) → r.mv ≡ s.mv → listed_cmp r s ≢ Greater
      least r s (inl h) (inl k) e = so.firsts.least r s h k e
      least r s (inl h) (inr is) e = subst (λ x. listed_cmp r x ≢ Greater) is (before r h)
      least r s (inr is) (inl k) e = absurd (apart s k (sym e ∙ sym (ap (λ x. x.mv) is)))
      least r s (inr is) (inr it) e = subst (λ x. listed_cmp x s ≢ Greater) is (subst (λ x. listed_cmp c x ≢ Greater) it (itself c))

  pub seen_more : IsNoted known seen new c.mv c.depth → IsSeen known now new
  seen_more (inl (was, is)) = seen_again was is
  seen_more (inr (unknown, is)) = seen_new unknown.0 unknown.1 is

-- the moves that were seen
pub has_firsts : (known : Depths) (rs : List Ranked) (seen : Depths) (ms : List Move) → IsSeen known rs seen → ms ≡ map (λ e. e.0) seen → HasFirsts known rs ms
has_firsts known rs seen ms so is =
    (so.kept, so.firsts, is ∙ ap (map (λ e. e.0)) so.is ∙ map_map (λ e. e.0) entry so.kept)

-- ---- the list of a part

less_only : (o : Ordering) → o ≢ Greater → o ≢ Equal → o ≡ Less
less_only Less g e = refl
less_only Equal g e = absurd (e refl)
less_only Greater g e = absurd (g refl)

module _ (q : Question) (part : ℕ) (known : Depths) (rs : List Ranked) (chains : AreChainsIn q part rs)
    (earlier : AreEarlier q part rs known) (sorted kept : List Ranked) (turned : IsPermutation rs sorted) (firsts : AreFirsts known sorted kept) where
  abbrev IsKeptChain : Ranked → Type 0
  IsKeptChain r = Contains sorted r × ¬ HasMove known r.mv

  in_kept : (r : Ranked) → Contains kept r → IsKeptChain r
  in_kept r h = All-contains IsKeptChain kept r firsts.each h

  is_chain : (r : Ranked) → Contains kept r → IsChain q r × (part_of r ≡ part)
  is_chain r h =
      All-contains (λ x. IsChain q x × (part_of x ≡ part)) sorted r
      (All-permutation (λ x. IsChain q x × (part_of x ≡ part)) rs sorted turned chains.each) (in_kept r h).0

  module _ (r : Ranked) (h : Contains kept r) where
    not_earlier : ¬ IsEarlier q part r.mv
    not_earlier e = (in_kept r h).1 (earlier.all r (Contains-permutation sorted rs r (IsPermutation-sym rs sorted turned) (in_kept r h).0) e)

    of_part : (s : Ranked) → s.mv ≡ r.mv → HasLeast rs s ⊎ IsEarlier q part s.mv → rank_cmp r s ≢ Greater
    of_part s e (inl c) =
        rank_chain r c.0 s
        (by_rank (rank_cmp r c.0) (move_cmp r.mv c.0.mv) (firsts.least r c.0 h (Contains-permutation rs sorted c.0 turned c.1) (sym (c.2 ∙ e)))) c.3
    of_part s e (inr before) = absurd (not_earlier (subst (IsEarlier q part) e before))

    split : (a b : ℕ) → (a < b) ⊎ ((a ≡ b) ⊎ (b < a))
    split a b = grind arith

    least : (s : Ranked) → s.mv ≡ r.mv → IsChain q s → rank_cmp r s ≢ Greater
    least s e is = by (split (part_of s) part)
      where
        by : (part_of s < part) ⊎ ((part_of s ≡ part) ⊎ (part < part_of s)) → rank_cmp r s ≢ Greater
        by (inl lt) = absurd (not_earlier (s, is, e, lt))
        by (inr (inl same)) = of_part s e (chains.least s is same)
        by (inr (inr more)) = let t = (is_chain r h).1 in less_part r s (omega (arith, t, more))

    is_ranked : IsRanked (rulebook q.ctx.now) q.start.now q.cur.now q.goal.now r × (part_of r ≡ part)
    is_ranked = (record { ends = (is_chain r h).0; least = least }, (is_chain r h).1)

  there : (s : Ranked) → IsChain q s → part_of s ≡ part → Contains (moves_of kept) s.mv ⊎ IsEarlier q part s.mv
  there s is same = by (chains.least s is same)
    where
      found : (c : Ranked) → c.mv ≡ s.mv → HasMove known c.mv ⊎ ((k : Ranked) × Contains kept k × (k.mv ≡ c.mv))
          → Contains (moves_of kept) s.mv ⊎ IsEarlier q part s.mv
      found c e (inl h) = inr (subst (IsEarlier q part) e (earlier.each c.mv h))
      found c e (inr k) = inl (subst (Contains (moves_of kept)) (k.2 ∙ e) (member_map (λ r. r.mv) kept k.0 k.1))

      by : HasLeast rs s ⊎ IsEarlier q part s.mv → Contains (moves_of kept) s.mv ⊎ IsEarlier q part s.mv
      by (inl c) = found c.0 c.2 (firsts.all c.0 (Contains-permutation rs sorted c.0 turned c.1))
      by (inr e) = inr e

  ranked_in : AreRankedIn (rulebook q.ctx.now) q.start.now q.cur.now q.goal.now part kept
  ranked_in = record {
    each = λ k d lt. is_ranked (get_or kept k d) (Contains-get_or kept k d lt);
    all = there;
    order = λ i j d lt within.
        less_only _ (firsts.sorted i j d lt within)
        (λ e. firsts.distinct i j d lt within (ap (λ (r : Ranked). r.mv) (listed_same (get_or kept i d) (get_or kept j d) e)));
  }

pub in_part : (q : Question) (part : ℕ) (known : Depths) (rs : List Ranked) (ms : List Move) → AreChainsIn q part rs
    → AreEarlier q part rs known → AreInOrder known rs ms → IsInPart q part ms
in_part q part known rs ms chains earlier has =
    (has.2.0, ranked_in q part known rs chains earlier has.0 has.2.0 has.1 has.2.1, has.2.2)
