-- The problem of a search whose moves come from a kit.
use Rattle.std.proofs.Common.{◌≡◌, ◌≢◌, ◌⊎◌, inl, inr, ℕ, zero, suc, ◌+◌, ◌-◌, Bool, true, false, if◌then◌else◌, IsTrue, nat_le, refl, sym, ap, ◌∙◌, true≢false, arith}
use Rattle.std.proofs.lemmas.Bool.Decides.{nat_tests}
use Rattle.std.specs.Cmp.{tied_itself}
use Rattle.std.specs.Ordering.{is_gt, is_lt, ordering_reverse}
use Rattle.std.specs.declared.cmp.Ordering.{Ordering}
use Rattle.std.specs.declared.cmp.Ordering.TheVariants.{Less, Equal, Greater}
use Rattle.conf_doc.specs.declared.configuration.Config.{Config}
use Rattle.move_core.specs.Contexts.{IsValidIn, rulebook}
use Rattle.move_core.specs.Generated.{IsRestoring}
use Rattle.move_core.specs.Listed.{EndsChain, HasTier, IsListed, chain_class, other_tier, restoring_tier}
use Rattle.move_core.specs.ListedOrder.{listed_cmp, move_cmp}
use Rattle.move_core.specs.ListedOrderLaws.{listed_same, listed_total}
use Rattle.move_core.specs.Plans.{IsAllowed}
use Rattle.move_core.specs.Rulebook.{Rulebook}
use Rattle.move_core.specs.declared.contexts.Ctx.{Ctx}
use Rattle.move_core.specs.declared.moves.Generated.{Generated}
use Rattle.move_core.specs.declared.moves.Move.{Move}
use Rattle.move_core.specs.declared.moves.Move.TheVariants.{Add, Remove, Replace, AddItem, RemoveItem}
use Rattle.move_core.specs.declared.moves.Ranked.{Ranked}
use Rattle.move_lists.specs.Offers.{IsLeading}
use Rattle.move_lists.specs.Parts.{chain_part, part_count, part_of}
use Rattle.plan_search.specs.FirstWays.{StandsBefore}
use Rattle.plan_search.specs.Problems.{Problem, IsLawful}

-- some chain of that part or a lesser one ends with the move
abbrev pub IsInParts : Rulebook → Config → Config → Config → ℕ → Move → Type 0
IsInParts book start goal cur k m =
    (s : Ranked) × EndsChain book start cur goal s × (s.mv ≡ m) × IsTrue (nat_le (part_of s) k)

-- The move that the list begins with is a part of its own before the seven parts of the list: it alone is
-- within the first part, and from then on it is by the parts of the list.
abbrev pub IsWithinParts : Rulebook → Config → Config → Config → ℕ → Move → Type 0
IsWithinParts book start goal cur k m =
    ((k ≡ 1) × IsLeading book start cur goal m) ⊎ IsInParts book start goal cur (k - 1) m

-- the moves of a context from start to goal; moves can be asked for where a configuration is valid
abbrev pub move_problem : Ctx → Config → Config → Problem
move_problem ctx start goal =
    record {
      start = start;
      goal = goal;
      IsAllowed = IsAllowed (rulebook ctx) goal;
      IsListed = λ c m. IsListed (rulebook ctx) c goal m;
      IsWithin = IsWithinParts (rulebook ctx) start goal;
      Precedes = StandsBefore (rulebook ctx) start goal;
      IsFit = IsValidIn ctx;
    }

-- ---- parts

-- the part by what is known of the tier and of the number of extensions
abbrev part_by : ℕ → ℕ → Bool → Bool → Bool → ℕ
part_by t d one two near = if one then t else if two then (if near then 1 + d else 5) else t + 3

-- a chain of the part 0 has the tier 0
first_tier : (t d : ℕ) → IsTrue (nat_le (chain_part t d) 0) → IsTrue (nat_le t 0)
first_tier t d le = by (nat_le t 1) (nat_le t 2) (nat_le d 3) le
  where
    by : (a b c : Bool) → IsTrue (nat_le (part_by t d a b c) 0) → IsTrue (nat_le t 0)
    by true b c h = h
    by false true true h = grind (arith, nat_tests)
    by false true false h = absurd (true≢false (sym h))
    by false false c h = grind (arith, nat_tests)

no_restoring : (d t : ℕ) → t ≡ restoring_tier d → ¬ IsTrue (nat_le t 0)
no_restoring zero t e le = true≢false (sym le ∙ ap (λ x. nat_le x 0) e)
no_restoring (suc d) t e le = true≢false (sym le ∙ ap (λ x. nat_le x 0) e)

no_other : (m : Move) (d t : ℕ) → t ≡ other_tier m d → ¬ IsTrue (nat_le t 0)
no_other m zero t e le = true≢false (sym le ∙ ap (λ x. nat_le x 0) e)
no_other (Add p part) (suc d) t e le = true≢false (sym le ∙ ap (λ x. nat_le x 0) e)
no_other (Remove p) (suc d) t e le = true≢false (sym le ∙ ap (λ x. nat_le x 0) e)
no_other (Replace p part) (suc d) t e le = true≢false (sym le ∙ ap (λ x. nat_le x 0) e)
no_other (AddItem p i text) (suc d) t e le = true≢false (sym le ∙ ap (λ x. nat_le x 0) e)
no_other (RemoveItem p i) (suc d) t e le = true≢false (sym le ∙ ap (λ x. nat_le x 0) e)

-- no chain has the part 0
pub no_part : (start goal : Config) (g : Generated) (d t : ℕ)
    → HasTier start goal g d t → ¬ IsTrue (nat_le (chain_part t d) 0)
no_part start goal g d t has le =
    no_other g.mv d t
    (has.other (λ r. no_restoring d t (has.restoring r) (first_tier t d le))) (first_tier t d le)

-- of the tiers up to 4 there are seven parts
few : (t d : ℕ) → IsTrue (nat_le t 4) → IsTrue (nat_le (chain_part t d) part_count)
few t d le = by (nat_le t 1) (nat_le t 2) (nat_le d 3) refl refl
  where
    by : (a b c : Bool) → nat_le t 1 ≡ a → nat_le d 3 ≡ c
        → IsTrue (nat_le (part_by t d a b c) part_count)
    by true b c low near = grind (arith, nat_tests)
    by false true true low near = grind (arith, nat_tests)
    by false true false low near = refl
    by false false c low near = grind (arith, nat_tests)

few_restoring : (d : ℕ) → IsTrue (nat_le (restoring_tier d) 4)
few_restoring zero = refl
few_restoring (suc d) = refl

few_other : (m : Move) (d : ℕ) → IsTrue (nat_le (other_tier m d) 4)
few_other m zero = refl
few_other (Add p part) (suc d) = refl
few_other (Remove p) (suc d) = refl
few_other (Replace p part) (suc d) = refl
few_other (AddItem p i text) (suc d) = refl
few_other (RemoveItem p i) (suc d) = refl

-- a listed move has a chain of some part
some_part : (book : Rulebook) (start goal cur : Config) (m : Move)
    → IsListed book cur goal m → ¬ ¬ IsInParts book start goal cur part_count m
some_part book start goal cur m is out =
    otherwise (λ r. out (chain (restoring_tier is.depth)
    (record { restoring = λ x. refl; other = λ n. absurd (n r) }) (few_restoring is.depth)))
  where
    chain : (t : ℕ) → HasTier start goal is.first is.depth t → IsTrue (nat_le t 4)
        → IsInParts book start goal cur part_count m
    chain t has le = (
      record { tier = t; depth = is.depth; class = chain_class is.first is.depth m; mv = m },
      record {
        first = is.first;
        generated = is.generated;
        leads = is.leads;
        tier = has;
        class = refl;
      },
      refl,
      few t is.depth le,
    )

    otherwise : ¬ IsRestoring start goal is.first → ⊥
    otherwise n =
        out (chain (other_tier is.first.mv is.depth)
        (record { restoring = λ r. absurd (n r); other = λ x. refl })
        (few_other is.first.mv is.depth))

-- ---- the order of moves

less_twice : (o q : Ordering) → o ≡ Less → q ≡ Less → o ≡ ordering_reverse q → ⊥
less_twice o q a b e = true≢false (sym (ap is_gt (sym a ∙ e ∙ ap ordering_reverse b)))

-- no two moves stand before each other
pub one_before : (book : Rulebook) (start goal cur : Config) (m n : Move)
    → StandsBefore book start goal cur m n → ¬ StandsBefore book start goal cur n m
one_before book start goal cur m n a b =
    less_twice (listed_cmp a.chain b.chain) (listed_cmp b.chain a.chain)
    (a.before b.chain b.ends b.mv) (b.before a.chain a.ends a.mv)
    (listed_total.antisymm a.chain b.chain)

-- the move with the least rank
abbrev unranked : Move → Ranked
unranked m = record { tier = 0; depth = 0; class = 0; mv = m }

-- a move ties with itself
pub move_tied : (m : Move) → move_cmp m m ≡ Equal
move_tied m = tied_itself listed_total (unranked m)

told_by : (m n : Move) (o : Ordering) → move_cmp m n ≡ o → (m ≡ n) ⊎ (m ≢ n)
told_by m n Less e =
    inr (λ same. true≢false (ap is_lt (sym e ∙ ap (move_cmp m) (sym same) ∙ move_tied m)))
told_by m n Equal e = inl (ap (λ r. r.mv) (listed_same (unranked m) (unranked n) e))
told_by m n Greater e =
    inr (λ same. true≢false (ap is_gt (sym e ∙ ap (move_cmp m) (sym same) ∙ move_tied m)))

-- moves are the same or not
pub moves_told : (m n : Move) → (m ≡ n) ⊎ (m ≢ n)
moves_told m n = told_by m n (move_cmp m n) refl

-- no move is within no parts
none_within : (book : Rulebook) (start goal cur : Config) (m : Move)
    → ¬ IsWithinParts book start goal cur 0 m
none_within book start goal cur m (inl h) = absurd (omega (arith, h.0))
none_within book start goal cur m (inr h) =
    no_part start goal h.1.first h.0.depth h.0.tier h.1.tier h.3

-- an allowed move is a listed one, and its result is valid; each has a part; the order is one
pub moves_lawful : (ctx : Ctx) (start goal : Config) → IsLawful (move_problem ctx start goal)
moves_lawful ctx start goal =
    record {
      listed = λ c m is. is.listed;
      fit = λ c m valid is. is.rules.full;
      none = none_within (rulebook ctx) start goal;
      all = λ c m is out. some_part (rulebook ctx) start goal c m is (λ within. out (inr within));
      one_way = one_before (rulebook ctx) start goal;
      told = moves_told;
    }
