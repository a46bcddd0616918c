-- Moves have at most one first fault.
use Rattle.std.proofs.Common.{◌≡◌, ◌+◌, ℕ, zero, suc, List, [], ◌∷◌, ◌++◌, length, inl, inr, refl, sym, ap, ◌∙◌, subst, arith}
use Rattle.std.proofs.lemmas.Bool.{cases_lt}
use Rattle.conf_doc.specs.WellFormed.{IsConfig}
use Rattle.conf_doc.specs.declared.configuration.Config.{Config}
use Rattle.move_core.specs.Listed.{IsListed}
use Rattle.move_core.specs.Moves.{IsDefined, step}
use Rattle.move_core.specs.Plans.{IsAllowed, IsWay}
use Rattle.move_core.specs.Rulebook.{Rulebook}
use Rattle.move_core.specs.declared.moves.Move.{Move}
use Rattle.plan_check.specs.Checks.{BreaksAt, IsFirstCause, IsFirstFault, rank}
use Rattle.plan_texts.specs.declared.causes.NoWhy.{NoWhy}
use Rattle.plan_texts.specs.declared.causes.NoWhy.TheVariants.{NotDefined, NotListed, Rule1, Rule2, Rule3, Rule4, Rule5, Same, WrongEnd}
use Rattle.plan_check.proofs.FaultlessPlans.{all_met, no_break}

-- ---- causes

-- the cause of a rank
abbrev cause_of : ℕ → NoWhy
cause_of zero = NotDefined
cause_of (suc zero) = NotListed
cause_of (suc (suc zero)) = Same
cause_of (suc (suc (suc zero))) = Rule1
cause_of (suc (suc (suc (suc zero)))) = Rule2
cause_of (suc (suc (suc (suc (suc zero))))) = Rule3
cause_of (suc (suc (suc (suc (suc (suc zero)))))) = Rule4
cause_of (suc (suc (suc (suc (suc (suc (suc zero))))))) = Rule5
cause_of n = WrongEnd

ranked : (w : NoWhy) → cause_of (rank w) ≡ w
ranked NotDefined = refl
ranked NotListed = refl
ranked Same = refl
ranked Rule1 = refl
ranked Rule2 = refl
ranked Rule3 = refl
ranked Rule4 = refl
ranked Rule5 = refl
ranked WrongEnd = refl

one_cause : (book : Rulebook) (goal cur : Config) (m : Move) (v w : NoWhy) → IsFirstCause book goal cur m v → IsFirstCause book goal cur m w → v ≡ w
one_cause book goal cur m v w one two = elim (cases_lt (rank v) (rank w)) [
  | inl less ↦ absurd (one.broken (two.before v less))
  | inr most ↦ elim (cases_lt (rank w) (rank v)) [
    | inl less ↦ absurd (two.broken (one.before w less))
    | inr least ↦ let same : rank v ≡ rank w = omega (arith, most, least) in sym (ranked v) ∙ ap cause_of same ∙ ranked w
  ]
]

module _ (book : Rulebook) (goal : Config) (listed_defined : (cur : Config) (m : Move) → IsConfig cur → IsListed book cur goal m → IsDefined cur m) where
  -- a move that is allowed where it stands isn't at fault there
  not_both : (c cur : Config) (m n : Move) (why : NoWhy) → IsConfig cur → cur ≡ c → m ≡ n → IsAllowed book goal c n → IsFirstCause book goal cur m why → ⊥
  not_both c cur m n why formed at is allowed cause =
      let moved = subst (λ (k : Move). IsAllowed book goal c k) (sym is) allowed in
      let there = subst (λ (d : Config). IsAllowed book goal d m) (sym at) moved in
      cause.broken (all_met book goal listed_defined cur m formed there why)

  -- ---- steps

  module _ (cur also : Config) (m n : Move) (rest others : List Move) (why because : NoWhy) (formed : IsConfig cur) (formed_too : IsConfig also)
      (cause : IsFirstCause book goal cur m why) (cause_too : IsFirstCause book goal also n because) where
    one_break : (c : Config) (before earlier : List Move) → before ++ m ∷ rest ≡ earlier ++ n ∷ others → IsWay book goal c before cur → IsWay book goal c earlier also
        → (length before ≡ length earlier) × (why ≡ because)
    one_break c [] [] e way ways =
        let move : m ≡ n = cc in
        let at = way ∙ sym ways in
        let one = subst (λ (k : Move). IsFirstCause book goal cur k why) move cause in
        (refl, one_cause book goal also n why because (subst (λ (d : Config). IsFirstCause book goal d n why) at one) cause_too)
    one_break c [] (b ∷ bs) e way ways = let move : m ≡ b = cc in absurd (not_both c cur m b why formed way move ways.0 cause)
    one_break c (a ∷ firsts) [] e way ways = let move : n ≡ a = cc in absurd (not_both c also n a because formed_too ways move way.0 cause_too)
    one_break c (a ∷ firsts) (b ∷ bs) e way ways =
        let first : a ≡ b = cc in
        let more : firsts ++ m ∷ rest ≡ bs ++ n ∷ others = cc in
        let same = one_break (step c b) firsts bs more (subst (λ (k : Move). IsWay book goal (step c k) firsts cur) first way.1) ways.1 in
        (ap (λ (k : ℕ). suc k) same.0, same.1)

  module _ (start : Config) (ms : List Move) where
    breaks_same : (i j : ℕ) (why because : NoWhy) → BreaksAt book start goal ms i why → BreaksAt book start goal ms j because → (i ≡ j) × (why ≡ because)
    breaks_same i j why because one two =
        let same = one_break one.cur two.cur one.mv two.mv one.rest two.rest why because one.formed two.formed one.cause two.cause start one.before two.before
        (sym one.is ∙ two.is) one.way two.way in
        (one.number ∙ ap (λ (k : ℕ). k + 1) same.0 ∙ sym two.number, same.1)

    pub faults_same : (i j : ℕ) (why because : NoWhy) → IsFirstFault book start goal ms i why → IsFirstFault book start goal ms j because → (i ≡ j) × (why ≡ because)
    faults_same i j why because (inl one) (inl two) = breaks_same i j why because one two
    faults_same i j why because (inl one) (inr two) = absurd (no_break book goal listed_defined start ms two.1.end i why two.1.way one)
    faults_same i j why because (inr one) (inl two) = absurd (no_break book goal listed_defined start ms one.1.end j because one.1.way two)
    faults_same i j why because (inr one) (inr two) = (one.1.number ∙ sym two.1.number, one.0 ∙ sym two.0)
