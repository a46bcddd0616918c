-- What a command did is told by what it printed: there is one such list of moves, and one number.
use Rattle.std.proofs.Common.{◌≡◌, ◌<◌, ◌^◌, ◌⊎◌, inl, inr, ℕ, List, [], ◌∷◌, ◌++◌, length, append-nil, append_assoc, refl, sym, ap, ◌∙◌, subst, arith}
use Rattle.host_core.specs.State.{IsFront}
use Rattle.move_core.specs.Operations.{plan_text}
use Rattle.move_core.specs.declared.moves.Move.{Move}
use Rattle.change_apply.specs.Acknowledgements.{ack}
use Rattle.command_runs.specs.Works.{AreAcknowledged, FitTheirPlaces, HaveNames, IsOperated, IsPlanned, IsUnplanned, IsWork, Told, moves_told, told_text}
use Rattle.command_runs.proofs.Acknowledgements.{Quiet, acknowledged_is_one, acknowledged_by, not_empty, quiet_front, silent, three_ways}
use Rattle.command_runs.proofs.CompactTexts.{heads, tails}
use Rattle.command_runs.proofs.MoveOperations.{ReadsTokens}
use Rattle.command_runs.proofs.OtherTexts.{plan_has_no_told}
use Rattle.command_runs.proofs.OperatorTexts.{HasNoTold, cut_has_no_told, moves_split, no_told_in_front, rests_split, told_has_no_plan}
use Rattle.command_runs.proofs.PlanLines.{front_has_no_plan, plans_split}
use Rattle.command_runs.proofs.PlanHeads.{HasNone, none_in_front}

-- ---- one work

module _ (reads : ReadsTokens) (output : List ℕ) (ms ns : List Move) (k j : ℕ) where
  abbrev IsOne : Type 0
  IsOne = (ms ≡ ns) × (k ≡ j)

  same_plan : IsPlanned output ms k → IsPlanned output ns j → IsOne
  same_plan a b =
      let h = plans_split reads ms ns a.rest b.rest a.fit b.fit a.few b.few (sym a.begins ∙ b.begins) in
      (h.0, acknowledged_is_one k j a.rest a.acknowledged (subst (AreAcknowledged j) (sym h.1) b.acknowledged))

  same_told : IsOperated output ms k → IsOperated output ns j → IsOne
  same_told a b =
      let same = sym a.begins ∙ b.begins in
      let rests = rests_split a.told b.told a.rest b.rest a.named b.named same in
      let moves = moves_split reads a.told b.told a.rest b.rest a.named b.named (subst FitTheirPlaces a.moves a.fit)
      (subst FitTheirPlaces b.moves b.fit) same in (
        a.moves ∙ moves ∙ sym b.moves,
        acknowledged_is_one k j
            a.rest a.acknowledged (subst (AreAcknowledged j) (sym rests) b.acknowledged),
      )

  -- one list of moves, and one number of acknowledgements
  pub work_is_one : IsWork output ms k → IsWork output ns j → IsOne
  work_is_one (inl a) (inl b) = same_plan a b
  work_is_one (inl a) (inr (inl b)) =
      absurd (told_has_no_plan b.told b.named b.rest ms (a.rest, sym b.begins ∙ a.begins))
  work_is_one (inl a) (inr (inr b)) = absurd (b.none ms (a.rest, a.begins))
  work_is_one (inr (inl a)) (inl b) =
      absurd (told_has_no_plan a.told a.named a.rest ns (b.rest, sym a.begins ∙ b.begins))
  work_is_one (inr (inl a)) (inr (inl b)) = same_told a b
  work_is_one (inr (inl a)) (inr (inr b)) = absurd (b.untold a.told a.named (a.rest, a.begins))
  work_is_one (inr (inr a)) (inl b) = absurd (a.none ns (b.rest, b.begins))
  work_is_one (inr (inr a)) (inr (inl b)) = absurd (a.untold b.told b.named (b.rest, b.begins))
  work_is_one (inr (inr a)) (inr (inr b)) = (a.empty ∙ sym b.empty, a.nothing ∙ sym b.nothing)

-- ---- outputs

-- a text at whose head stands neither a plan nor what operators are told
abbrev pub HasNeither : List ℕ → Type 0
HasNeither text = HasNone text × HasNoTold text

pub unplanned : (output : List ℕ) → HasNeither output → IsWork output [] 0
unplanned output neither = inr (inr (record {
  none = neither.0;
  untold = λ told named front. neither.1 told (length (moves_told told)) named front;
  empty = refl;
  nothing = refl;
}))

-- a front of such a text
pub unplanned_front : (part rest : List ℕ) → HasNeither (part ++ rest) → IsWork part [] 0
unplanned_front part rest neither =
    unplanned part (none_in_front part rest neither.0, no_told_in_front part rest neither.1)

-- ---- what stands before the acknowledgements

-- moves that are told by a text: by that of their plan, or by what operators are told
abbrev pub AreToldBy : List Move → List ℕ → Type 0
AreToldBy ms text =
    (FitTheirPlaces ms × (length ms < 2 ^ 64) × (text ≡ plan_text ms))
    ⊎ ((told : List Told) × HaveNames told × (ms ≡ moves_told told) × FitTheirPlaces ms × (text ≡ told_text told))

-- behind it so many are acknowledged
pub told_work : (ms : List Move) (text more output : List ℕ) (k : ℕ) → AreToldBy ms text → output ≡ text ++ more
    → AreAcknowledged k more → IsWork output ms k
told_work ms text more output k (inl (fit, few, is)) begins acknowledged = inl (record {
  fit = fit;
  few = few;
  rest = more;
  begins = begins ∙ ap (λ (t : List ℕ). t ++ more) is;
  acknowledged = acknowledged;
})
told_work ms text more output k (inr (told, named, moves, fit, is)) begins acknowledged = inr (inl (record {
  told = told;
  named = named;
  moves = moves;
  fit = fit;
  rest = more;
  begins = begins ∙ ap (λ (t : List ℕ). t ++ more) is;
  acknowledged = acknowledged;
}))

nothing_more : (more rest : List ℕ) → more ++ rest ≡ [] → rest ≡ []
nothing_more [] rest e = e
nothing_more (x ∷ more) rest e = absurd cc

-- a front of it that isn't all of it
cut_short : (ms : List Move) (text part : List ℕ) (r : ℕ) (rest : List ℕ) → AreToldBy ms text → text ≡ part ++ r ∷ rest
    → HasNeither part
cut_short ms text part r rest (inl (fit, few, is)) e = (
  (λ ns (more, same).
      let all : plan_text ms ≡ plan_text ns ++ (more ++ r ∷ rest) =
      sym is ∙ e ∙ ap (λ (t : List ℕ). t ++ r ∷ rest) same ∙ append_assoc (plan_text ns) more (r ∷ rest) in
      let gone = nothing_more more (r ∷ rest) (front_has_no_plan ms ns (more ++ r ∷ rest) few all) in
      absurd cc),
  no_told_in_front part (r ∷ rest) (subst HasNoTold (append-nil (plan_text ms) ∙ sym is ∙ e) (plan_has_no_told ms [])),
)
cut_short ms text part r rest (inr (told, named, moves, fit, is)) e = (
  none_in_front part (r ∷ rest) (subst HasNone (append-nil (told_text told) ∙ sym is ∙ e)
      (told_has_no_plan told named [])),
  cut_has_no_told told named part r rest (sym is ∙ e),
)

-- a front of it: all of it, or neither
pub cut_work : (ms : List Move) (text part rest : List ℕ) → AreToldBy ms text → text ≡ part ++ rest
    → (ns : List Move) × IsWork part ns 0
cut_work ms text part [] told e = (
  ms,
  told_work ms text [] part 0 told (sym (append-nil part) ∙ sym e ∙ sym (append-nil text))
      (acknowledged_by 0 [] silent),
)
cut_work ms text part (r ∷ rest) told e = ([], unplanned part (cut_short ms text part r rest told e))

split_by : (a b c d : List ℕ) → a ++ b ≡ c ++ d
    → ((x : List ℕ) × (a ≡ c ++ x) × (d ≡ x ++ b)) ⊎ ((y : List ℕ) × (c ≡ a ++ y) × (b ≡ y ++ d))
split_by a b [] d e = inl (a, refl, sym e)
split_by [] b (z ∷ c) d e = inr (z ∷ c, refl, e)
split_by (w ∷ a) b (z ∷ c) d e =
    let head : w ≡ z = cc in let tail : a ++ b ≡ c ++ d = cc in again head (split_by a b c d tail)
  where
    again : w ≡ z → ((x : List ℕ) × (a ≡ c ++ x) × (d ≡ x ++ b)) ⊎ ((y : List ℕ) × (c ≡ a ++ y) × (b ≡ y ++ d))
        → ((x : List ℕ) × (w ∷ a ≡ (z ∷ c) ++ x) × (d ≡ x ++ b))
        ⊎ ((y : List ℕ) × (z ∷ c ≡ (w ∷ a) ++ y) × (b ≡ y ++ d))
    again head (inl (x, p, q)) = inl (x, (λ i. head i ∷ p i), q)
    again head (inr (y, p, q)) = inr (y, (λ i. sym head i ∷ p i), q)

-- a front of it with a quiet text behind it: nothing is acknowledged
pub front_of_work : (ms : List Move) (text behind part rest : List ℕ) → Quiet behind → AreToldBy ms text
    → part ++ rest ≡ text ++ behind
    → (ns : List Move) × IsWork part ns 0
front_of_work ms text behind part rest quiet told e = by (split_by part rest text behind e)
  where
    by : ((x : List ℕ) × (part ≡ text ++ x) × (behind ≡ x ++ rest))
        ⊎ ((y : List ℕ) × (text ≡ part ++ y) × (rest ≡ y ++ behind))
        → (ns : List Move) × IsWork part ns 0
    by (inl (x, whole, is)) =
        (ms, told_work ms text x part 0 told whole (acknowledged_by 0 x (quiet_front x rest (subst Quiet is quiet))))
    by (inr (y, less, is)) = cut_work ms text part y told less

-- ---- a text that may begin with the empty plan, or with no commits

-- at whose head no plan with a step stands and no reply, and behind an empty plan, or behind no commits, no
-- acknowledgement
pub record HasNoSteps (text : List ℕ) : Type 0 where
  pub none : (m : Move) (ms : List Move) → ¬ IsFront (plan_text (m ∷ ms)) text
  pub quiet : (rest : List ℕ) → text ≡ plan_text [] ++ rest → ¬ IsFront (ack 1) rest
  pub untold : (t : Told) (ts : List Told) → HaveNames (t ∷ ts) → ¬ IsFront (told_text (t ∷ ts)) text
  pub still : (rest : List ℕ) → text ≡ told_text [] ++ rest → ¬ IsFront (ack 1) rest

-- a text begins with another one, or it doesn't
abbrev BeginsOrNot : List ℕ → List ℕ → Type 0
BeginsOrNot a t = ((x : List ℕ) × (t ≡ a ++ x)) ⊎ ((x : List ℕ) → t ≡ a ++ x → ⊥)

begins : (a t : List ℕ) → BeginsOrNot a t
begins [] t = inl (t, refl)
begins (c ∷ a) [] = inr (λ x e. not_empty c (a ++ x) e)
begins (c ∷ a) (d ∷ t) = by (three_ways c d) (begins a t)
  where
    by : (c < d) ⊎ ((c ≡ d) ⊎ (d < c)) → BeginsOrNot a t → BeginsOrNot (c ∷ a) (d ∷ t)
    by (inl lt) rest = inr (λ x e. let same = heads d c t (a ++ x) e in absurd (omega (arith, lt, same)))
    by (inr (inl same)) (inl (x, e)) = inl (x, λ i. sym same i ∷ e i)
    by (inr (inl same)) (inr none) = inr (λ x e. none x (tails d c t (a ++ x) e))
    by (inr (inr gt)) rest = inr (λ x e. let same = heads d c t (a ++ x) e in absurd (omega (arith, gt, same)))

module _ (part rest : List ℕ) (few : HasNoSteps (part ++ rest)) where
  -- nothing is acknowledged behind such a head
  nothing_behind : (head x : List ℕ) → ((more : List ℕ) → part ++ rest ≡ head ++ more → ¬ IsFront (ack 1) more)
      → part ≡ head ++ x → AreAcknowledged 0 x
  nothing_behind head x quiet e = record {
    rest = x;
    begins = refl;
    no_more = λ (more, is).
        quiet (x ++ rest) (ap (λ (t : List ℕ). t ++ rest) e ∙ append_assoc head x rest)
        (more ++ rest, ap (λ (t : List ℕ). t ++ rest) is ∙ append_assoc (ack 1) more rest);
  }

  no_head : (((x : List ℕ) → part ≡ plan_text [] ++ x → ⊥)) → ((x : List ℕ) → part ≡ told_text [] ++ x → ⊥)
      → IsUnplanned part [] 0
  no_head plan told = record { none = none; untold = untold; empty = refl; nothing = refl }
    where
      none : HasNone part
      none [] (more, e) = plan more e
      none (m ∷ ms) (more, e) =
          few.none m ms (more ++ rest, ap (λ (t : List ℕ). t ++ rest) e ∙ append_assoc (plan_text (m ∷ ms)) more rest)

      untold : (ts : List Told) → HaveNames ts → ¬ IsFront (told_text ts) part
      untold [] named (more, e) = told more e
      untold (t ∷ ts) named (more, e) =
          few.untold t ts named (
            more ++ rest,
            ap (λ (b : List ℕ). b ++ rest) e ∙ append_assoc (told_text (t ∷ ts))
                more rest,
          )

  -- a front of it acknowledges nothing
  pub front_of_no_steps : (ms : List Move) × IsWork part ms 0
  front_of_no_steps = by (begins (plan_text []) part) (begins (told_text []) part)
    where
      by : BeginsOrNot (plan_text []) part → BeginsOrNot (told_text []) part → (ms : List Move) × IsWork part ms 0
      by (inl (x, e)) told = (
        [],
        told_work [] (plan_text []) x part 0 (inl (tt, omega arith, refl)) e
            (nothing_behind (plan_text []) x few.quiet e),
      )
      by (inr none) (inl (x, e)) = (
        [],
        told_work [] (told_text []) x part 0 (inr ([], tt, refl, tt, refl)) e
            (nothing_behind (told_text []) x few.still e),
      )
      by (inr none) (inr untold) = ([], inr (inr (no_head none untold)))
