-- There is one list of the listed moves of a configuration.
use Rattle.std.proofs.Common.{◌≡◌, ◌⊎◌, inl, inr, List, [], ◌∷◌, refl, sym, ap, subst, ◌∙◌}
use Rattle.std.specs.Cmp.{tied_itself}
use Rattle.std.specs.List.{AllPairs, Contains}
use Rattle.std.specs.Ordering.{ordering_reverse, ordering_then}
use Rattle.std.specs.declared.cmp.Ordering.{Ordering}
use Rattle.std.specs.declared.cmp.Ordering.TheVariants.{Less, Equal, Greater}
use Rattle.std.proofs.lemmas.List.Elements.{All-contains}
use Rattle.conf_doc.specs.declared.configuration.Config.{Config}
use Rattle.move_core.specs.Contexts.{rulebook}
use Rattle.move_core.specs.Listed.{AreListed, AreRanked, IsListed, IsRanked, moves_of}
use Rattle.move_core.specs.ListedOrder.{listed_cmp, move_cmp, rank_cmp}
use Rattle.move_core.specs.ListedOrderLaws.{listed_same, listed_total}
use Rattle.move_core.specs.declared.contexts.Ctx.{Ctx}
use Rattle.move_core.specs.declared.moves.Move.{Move}
use Rattle.move_core.specs.declared.moves.Ranked.{Ranked}
use Rattle.move_lists.specs.MoveKeys.{move_total}
use Rattle.move_lists.proofs.FirstChains.{rank_total}
use Rattle.move_lists.proofs.PartConcatenation.{pairs_head, pairs_tail}
use Rattle.move_lists.proofs.Members.{first_member, later_member, member_cases, member_from_map, no_member}

-- ---- lists with the same members

module _ {A : Type 0} (R : A → A → Type 0) (one_way : (x y : A) → R x y → ¬ R y x) where
  -- nothing that comes after something is that
  no_other : (x y z : A) → x ≡ y → y ≡ z → ¬ R x z
  no_other x y z e f r =
      let same : x ≡ z = e ∙ f in one_way x z r (subst (λ w. R w x) same (subst (R x) (sym same) r))

  -- of the first things, each the first or a later one in the other list, neither is a later one
  same_first : (x y : A) (xs ys : List A) → AllPairs R (x ∷ xs) → AllPairs R (y ∷ ys)
      → (y ≡ x) ⊎ Contains ys x → (x ≡ y) ⊎ Contains xs y → x ≡ y
  same_first x y xs ys a b (inl e) at = sym e
  same_first x y xs ys a b (inr h) (inl e) = e
  same_first x y xs ys a b (inr h) (inr k) =
      absurd (one_way x y (All-contains (R x) xs y (pairs_head R x xs a) k) (All-contains (R y) ys x (pairs_head R y ys b) h))

  -- the later ones of the one are later ones of the other
  later_too : (x y : A) (xs ys : List A) → x ≡ y → AllPairs R (x ∷ xs) → ((z : A) → Contains (x ∷ xs) z → Contains (y ∷ ys) z)
      → (z : A) → Contains xs z → Contains ys z
  later_too x y xs ys same pairs all z h = by (member_cases y ys z (all z (later_member x xs z h)))
    where
      by : (y ≡ z) ⊎ Contains ys z → Contains ys z
      by (inl e) = absurd (no_other x y z same e (All-contains (R x) xs z (pairs_head R x xs pairs) h))
      by (inr k) = k

  -- two lists of the same things, each before the later ones, are the same
  pub same_lists : (xs ys : List A) → AllPairs R xs → AllPairs R ys → ((z : A) → Contains xs z → Contains ys z)
      → ((z : A) → Contains ys z → Contains xs z) → xs ≡ ys
  same_lists [] [] a b left right = refl
  same_lists [] (y ∷ ys) a b left right = absurd (no_member y (right y (first_member y ys)))
  same_lists (x ∷ xs) [] a b left right = absurd (no_member x (left x (first_member x xs)))
  same_lists (x ∷ xs) (y ∷ ys) a b left right =
      let first : x ≡ y =
      same_first x y xs ys a b (member_cases y ys x (left x (first_member x xs))) (member_cases x xs y (right y (first_member y ys))) in
      let rest : xs ≡ ys =
      same_lists xs ys (pairs_tail R x xs a) (pairs_tail R y ys b) (later_too x y xs ys first a left) (later_too y x ys xs (sym first) b right) in
      λ i. first i ∷ rest i

-- ---- ranked moves

-- one chain comes before another
abbrev Before : Ranked → Ranked → Type 0
Before r s = listed_cmp r s ≡ Less

one_before : (r s : Ranked) → Before r s → ¬ Before s r
one_before r s a b = let d : Less ≡ Greater = sym a ∙ listed_total.antisymm r s ∙ ap ordering_reverse b in absurd cc

module _ (ctx : Ctx) (start cur goal : Config) where
  abbrev Ranks : Ranked → Type 0
  Ranks r = IsRanked (rulebook ctx) start cur goal r

  is_listed : (r : Ranked) → Ranks r → IsListed (rulebook ctx) cur goal r.mv
  is_listed r is = record {
    first = is.ends.first;
    depth = r.depth;
    generated = is.ends.generated;
    leads = is.ends.leads;
  }

  -- a move has one rank
  one_rank : (r s : Ranked) → Ranks r → Ranks s → r.mv ≡ s.mv → r ≡ s
  one_rank r s is other same = listed_same r s (by (rank_cmp r s) refl)
    where
      by : (o : Ordering) → rank_cmp r s ≡ o → listed_cmp r s ≡ Equal
      by Less e = absurd (other.least r same is.ends (rank_total.antisymm s r ∙ ap ordering_reverse e))
      by Equal e = ap (λ o. ordering_then o (move_cmp r.mv s.mv)) e ∙ ap (move_cmp r.mv) (sym same) ∙ tied_itself move_total r.mv
      by Greater e = absurd (is.least s (sym same) other.ends e)

  -- what is ranked in one list is so in the other
  in_other : (rs ss : List Ranked) → AreRanked (rulebook ctx) start cur goal rs → AreRanked (rulebook ctx) start cur goal ss
      → (r : Ranked) → Contains rs r → Contains ss r
  in_other rs ss are other r h =
      let is = All-contains Ranks rs r are.each h in
      let s = member_from_map (λ t. t.mv) ss r.mv (other.all r.mv (is_listed r is)) in
      subst (Contains ss) (sym (one_rank r s.0 is (All-contains Ranks ss s.0 other.each s.1) (sym s.2))) s.1

  pub one_list : (ms ns : List Move) → AreListed (rulebook ctx) start cur goal ms
      → AreListed (rulebook ctx) start cur goal ns → ms ≡ ns
  one_list ms ns (rs, are, is) (ss, other, also) =
      is ∙ ap (λ rs. moves_of rs) (same_lists Before one_before rs ss are.order other.order (in_other rs ss are other) (in_other ss rs other are))
      ∙ sym also
