-- The lists of the parts, from what was reached and what is known.
use Rattle.std.proofs.Common.{◌≡◌, ◌⊎◌, inl, inr, ℕ, ◌+◌, ◌≤◌, List, [], true, false, refl, sym, subst, arith, All}
use Rattle.std.proofs.lemmas.List.Elements.{All-contains}
use Rattle.move_core.specs.Contexts.{rulebook}
use Rattle.move_core.specs.Listed.{AreListed}
use Rattle.move_core.specs.declared.moves.Move.{Move}
use Rattle.move_core.specs.declared.moves.Ranked.{Ranked}
use Rattle.move_lists.specs.Firsts.{generated_of}
use Rattle.move_lists.specs.Parts.{part_count}
use Rattle.move_lists.specs.Questions.{AreFirstsIn}
use Rattle.move_lists.specs.Ranking.{AddsPart, AreExtended, AreInOrder, AreToPart, IsInPart, IsReachFor, IsReachOf, chosen_moves, ranked_alone}
use Rattle.move_lists.specs.Reaches.{AreNoted, Depths, HasMove, HasWithin, HoldsWithin, IsLedTo}
use Rattle.move_lists.specs.declared.asking.Question.{Question}
use Rattle.move_lists.specs.declared.firsts.First.{First}
use Rattle.move_lists.specs.declared.ranking.Choice.TheVariants.{Early, Late, Restoring, Other}
use Rattle.move_lists.proofs.MoveChoices.{IsReachFrom, LeadsEarly, are_alone, are_chosen, offered}
use Rattle.move_lists.proofs.FirstChains.{in_part}
use Rattle.move_lists.proofs.PartConcatenation.{parts_joined}
use Rattle.move_lists.proofs.Members.{no_member}
use Rattle.move_lists.proofs.Parts.{IsEarlyPart, chains_alone, chains_others, chains_restoring, earlier_alone, earlier_early, earlier_others, earlier_restoring, early_chains, few_at, few_part, few_within, many_at, many_part}

-- ---- what was reached from early chains

module _ (q : Question) where
  -- within so many extensions
  pub few_reach : (k : ℕ) → k ≤ 3 → (first : List Move) (es : Depths) → All (IsLedTo q first) es → All (λ e. e.1 ≤ k) es → HoldsWithin q k first es
      → IsReachFor q k first es
  few_reach k few first es led within all = record {
    each = led;
    all = λ f n x h most leads. all f n x h (few_within k n few most) leads;
    lands = λ m d there more. few_at k d few more (All-contains (λ (e : Move × ℕ). e.1 ≤ k) es (m, d) within there);
  }

  -- `beside` is empty
  alone : (es : Depths) (n : ℕ) (m : Move) → HasMove [] m ⊎ HasWithin es n m → HasWithin es n m
  alone es n m (inl none) = absurd (no_member _ none.1)
  alone es n m (inr w) = w

  -- with any number of them
  pub many_reach : (first : List Move) (es : Depths) → IsReachOf q [] first es → IsReachFor q 4 first es
  many_reach first es reach = record {
    each = reach.each;
    all = λ f n x h most leads. alone es n x (reach.all f n x h leads);
    lands = λ m d there more. many_at d more;
  }

early_part : (k : ℕ) → 1 ≤ k → k ≤ 4 → IsEarlyPart (1 + k) k
early_part k some most = by (split k most)
  where
    split : (n : ℕ) → n ≤ 4 → (n ≤ 3) ⊎ (n ≡ 4)
    split n le = grind arith

    by : (k ≤ 3) ⊎ (k ≡ 4) → IsEarlyPart (1 + k) k
    by (inl few) = few_part k some few
    by (inr e) = subst (λ n. IsEarlyPart (1 + n) n) (sym e) many_part

-- ---- the list of each part

module _ (q : Question) (fs : List First) (are : AreFirstsIn q fs) where
  pub alone_listed : (rs : List Ranked) (ms : List Move) → rs ≡ ranked_alone false fs → AreInOrder [] rs ms → IsInPart q 1 ms
  alone_listed rs ms these is =
      let each = offered q fs are in
      in_part q 1 [] rs ms (chains_alone q (generated_of fs) each are.all rs (are_alone q fs are false rs these))
      (earlier_alone q (generated_of fs) each are.all rs) is

  pub early_listed : (k : ℕ) → 1 ≤ k → k ≤ 4 → (early known : Depths) (ms : List Move) → IsReachFor q k (chosen_moves Early fs) early
      → AreNoted [] [] known (chosen_moves Other fs) 0 → AreExtended known early 2 k ms → IsInPart q (1 + k) ms
  early_listed k some most early known ms reach noted has =
      let each = offered q fs are in
      let part = early_part k some most in
      let from = chosen_moves Early fs in
      let of = are_chosen q fs are Early from refl in
      let rest = chosen_moves Other fs in
      in_part q (1 + k) known has.ranked ms
      (early_chains q (generated_of fs) each are.all (1 + k) k part some from early of reach.each has.ranked has.added reach.all reach.lands)
      (earlier_early q (generated_of fs) each are.all rest (are_chosen q fs are Other rest refl) (1 + k) k part some from early of reach.each has.ranked has.added reach.all
      has.once known noted) has.order

  pub restoring_listed : (early known : Depths) (rs : List Ranked) (ms : List Move) → IsReachOf q [] (chosen_moves Early fs) early
      → AreNoted [] early known (chosen_moves Other fs) 0 → rs ≡ ranked_alone true fs → AreInOrder known rs ms → IsInPart q 6 ms
  restoring_listed early known rs ms reach noted these is =
      let each = offered q fs are in
      let from = chosen_moves Early fs in
      let rest = chosen_moves Other fs in
      in_part q 6 known rs ms (chains_restoring q (generated_of fs) each are.all rs (are_alone q fs are true rs these))
      (earlier_restoring q (generated_of fs) each are.all rest (are_chosen q fs are Other rest refl) early (from, are_chosen q fs are Early from refl, reach) rs known noted) is

  pub late_listed : (early late first known : Depths) (ms : List Move) → IsReachOf q [] (chosen_moves Early fs) early → IsReachOf q early (chosen_moves Late fs) late
      → AreNoted [] early first (chosen_moves Other fs) 0 → AreNoted [] first known (chosen_moves Restoring fs) 0 → AreExtended known late 4 1 ms → IsInPart q 7 ms
  late_listed early late first known ms reach late_reach noted again has =
      let each = offered q fs are in
      let from = chosen_moves Early fs in
      let early_of : IsReachFrom q (LeadsEarly q.start.now q.goal.now) (generated_of fs) [] early = (from, are_chosen q fs are Early from refl, reach) in
      let after = chosen_moves Late fs in
      let rest = chosen_moves Other fs in
      let restoring = chosen_moves Restoring fs in
      in_part q 7 known has.ranked ms
      (chains_others q (generated_of fs) each are.all early late has.ranked early_of (after, are_chosen q fs are Late after refl, late_reach) has.added)
      (earlier_others q (generated_of fs) each are.all rest (are_chosen q fs are Other rest refl) early early_of has.ranked restoring first known
      (are_chosen q fs are Restoring restoring refl) noted again) has.order

-- ---- part by part

module _ (q : Question) where
  pub none_listed : AreToPart q 0 []
  none_listed = (parts_joined q.ctx.now q.start.now q.cur.now q.goal.now).none

  pub next_listed : (part : ℕ) (old new : List Move) → AreToPart q part old → AddsPart q (part + 1) old new → AreToPart q (part + 1) new
  next_listed part old new done adds =
      subst (AreToPart q (part + 1)) (sym adds.2) ((parts_joined q.ctx.now q.start.now q.cur.now q.goal.now).next part old adds.0 done adds.1)

  pub whole_listed : (ms : List Move) → AreToPart q part_count ms → AreListed (rulebook q.ctx.now) q.start.now q.cur.now q.goal.now ms
  whole_listed ms to = (parts_joined q.ctx.now q.start.now q.cur.now q.goal.now).whole ms to
