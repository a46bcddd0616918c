-- The lists of the parts one after another.
use Rattle.std.proofs.Common.{◌≡◌, ◌⊎◌, inl, inr, ℕ, suc, ◌+◌, ◌≤◌, List, [], ◌∷◌, ◌++◌, get_or, refl, sym, ap, subst, ◌∙◌, arith, All}
use Rattle.std.specs.List.{AllPairs, Contains}
use Rattle.std.specs.declared.cmp.Ordering.TheVariants.{Less}
use Rattle.std.proofs.lemmas.List.{map-append}
use Rattle.std.proofs.lemmas.List.Elements.{Contains-append_left, Contains-append_right, Contains-get_or, All-append, All-contains, All-nil, All-weaker}
use Rattle.std.proofs.lemmas.List.Kept.{AllPairs-cons}
use Rattle.conf_doc.specs.declared.configuration.Config.{Config}
use Rattle.move_core.specs.Contexts.{rulebook}
use Rattle.move_core.specs.Listed.{AreListed, EndsChain, IsListed, IsRanked, moves_of}
use Rattle.move_core.specs.ListedOrder.{listed_cmp}
use Rattle.move_core.specs.declared.contexts.Ctx.{Ctx}
use Rattle.move_core.specs.declared.moves.Move.{Move}
use Rattle.move_core.specs.declared.moves.Ranked.{Ranked}
use Rattle.move_lists.specs.Parts.{AreListedIn, AreListedTo, AreRankedIn, AreRankedTo, EndsEarlier, PartsMakeTheList, part_count, part_of}
use Rattle.move_lists.proofs.Chains.{some_chain}
use Rattle.move_lists.proofs.PartOrder.{part_first}
use Rattle.move_lists.proofs.Parts.{part_bounds}

-- ---- pairs

pub pairs_tail : {A : Type 0} (R : A → A → Type 0) (x : A) (xs : List A) → AllPairs R (x ∷ xs) → AllPairs R xs
pairs_tail R x xs pairs i j d lt within = pairs (suc i) (suc j) d (omega (arith, lt)) (omega (arith, within))

pub pairs_head : {A : Type 0} (R : A → A → Type 0) (x : A) (xs : List A) → AllPairs R (x ∷ xs) → All (R x) xs
pairs_head R x xs pairs k d lt = pairs 0 (suc k) d (omega arith) (omega (arith, lt))

-- pairs of one list after another
pairs_join : {A : Type 0} (R : A → A → Type 0) (xs ys : List A) → AllPairs R xs → AllPairs R ys → ((x y : A) → Contains xs x → Contains ys y → R x y) → AllPairs R (xs ++ ys)
pairs_join R [] ys first second across = second
pairs_join R (x ∷ xs) ys first second across =
    AllPairs-cons R x (xs ++ ys)
    (All-append (R x) xs ys (pairs_head R x xs first) (λ k d lt. across x (get_or ys k d) (Contains-append_left (x ∷ []) xs x (0, omega arith, refl)) (Contains-get_or ys k d lt)))
    (pairs_join R xs ys (pairs_tail R x xs first) second (λ a b h. across a b (Contains-append_right (x ∷ []) xs a h)))

-- ---- the list up to a part

module _ (ctx : Ctx) (start cur goal : Config) where
  abbrev Chain : Ranked → Type 0
  Chain s = EndsChain (rulebook ctx) start cur goal s

  abbrev To : ℕ → List Ranked → Type 0
  To part rs = AreRankedTo (rulebook ctx) start cur goal part rs

  -- ranked, of a part up to one or of one
  abbrev IsUpTo : ℕ → Ranked → Type 0
  IsUpTo part r = IsRanked (rulebook ctx) start cur goal r × (part_of r ≤ part)

  abbrev IsOf : ℕ → Ranked → Type 0
  IsOf part r = IsRanked (rulebook ctx) start cur goal r × (part_of r ≡ part)

  none_ranked : To 0 []
  none_ranked = record {
    each = All-nil (IsUpTo 0);
    all = λ s is le. let low = (part_bounds start goal is.first s is.tier).0 in absurd (omega (arith, low, le));
    order = λ i j d lt within. absurd (omega (arith, within));
  }

  module _ (part : ℕ) (done more : List Ranked) (to : To part done)
      (here : AreRankedIn (rulebook ctx) start cur goal (part + 1) more) where
    abbrev both : List Ranked
    both = done ++ more

    there : (s : Ranked) → Chain s → part_of s ≤ part + 1 → Contains (moves_of both) s.mv
    there s is le = by (split (part_of s) part le)
      where
        split : (a b : ℕ) → a ≤ b + 1 → (a ≤ b) ⊎ (a ≡ b + 1)
        split a b h = grind arith

        left : (m : Move) → Contains (moves_of done) m → Contains (moves_of both) m
        left m h = subst (λ l. Contains l m) (sym (map-append (λ r. r.mv) done more)) (Contains-append_left (moves_of done) (moves_of more) m h)

        of : Contains (moves_of more) s.mv ⊎ EndsEarlier (rulebook ctx) start cur goal (part + 1) s.mv → Contains (moves_of both) s.mv
        of (inl h) = subst (λ l. Contains l s.mv) (sym (map-append (λ r. r.mv) done more)) (Contains-append_right (moves_of done) (moves_of more) s.mv h)
        of (inr e) = let lt = e.3 in left s.mv (subst (Contains (moves_of done)) e.2 (to.all e.0 e.1 (omega (arith, lt))))

        by : (part_of s ≤ part) ⊎ (part_of s ≡ part + 1) → Contains (moves_of both) s.mv
        by (inl less) = left s.mv (to.all s is less)
        by (inr same) = of (here.all s is same)

    next_ranked : To (part + 1) both
    next_ranked = record {
      each = All-append (IsUpTo (part + 1)) done more
          (All-weaker (IsUpTo part) (IsUpTo (part + 1)) (λ r h. let le = h.1 in (h.0, omega (arith, le))) done to.each)
          (All-weaker (IsOf (part + 1)) (IsUpTo (part + 1)) (λ r h. let e = h.1 in (h.0, omega (arith, e))) more here.each);
      all = there;
      order = pairs_join (λ r s. listed_cmp r s ≡ Less) done more to.order here.order (λ r s h k.
          let low = (All-contains (IsUpTo part) done r to.each h).1 in
          let high = (All-contains (IsOf (part + 1)) more s here.each k).1 in
          part_first r s (omega (arith, low, high)));
    }

  next : (part : ℕ) (done more : List Move) → AreListedTo (rulebook ctx) start cur goal part done
      → AreListedIn (rulebook ctx) start cur goal (part + 1) more → AreListedTo (rulebook ctx) start cur goal (part + 1) (done ++ more)
  next part done more (rs, to, is) (ss, here, same) = (
    rs ++ ss,
    next_ranked part rs ss to here,
    ap (λ l. l ++ more) is ∙ ap (λ l. moves_of rs ++ l) same ∙ sym (map-append (λ r. r.mv) rs ss),
  )

  whole : (ms : List Move) → AreListedTo (rulebook ctx) start cur goal part_count ms → AreListed (rulebook ctx) start cur goal ms
  whole ms (rs, to, is) = (rs, record { each = All-weaker (IsUpTo part_count) (IsRanked (rulebook ctx) start cur goal) (λ r h. h.0) rs to.each; all = listed; order = to.order }, is)
    where
      listed : (m : Move) → IsListed (rulebook ctx) cur goal m → Contains (moves_of rs) m
      listed m l =
          let s = some_chain ctx start cur goal m l in
          subst (Contains (moves_of rs)) s.2 (to.all s.0 s.1 (part_bounds start goal s.1.first s.0 s.1.tier).1)

  pub parts_joined : PartsMakeTheList (rulebook ctx) start cur goal
  parts_joined = record { none = ([], none_ranked, refl); next = next; whole = whole }
