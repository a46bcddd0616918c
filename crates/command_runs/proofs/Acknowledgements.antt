-- Acknowledgements at the head of a text: how many there are is one number.
use Rattle.std.proofs.Common.{◌≡◌, ◌≢◌, ◌<◌, ◌≤◌, ◌⊎◌, inl, inr, ℕ, zero, suc, ◌+◌, List, [], ◌∷◌, ◌++◌, length, append-nil, append_assoc, length-append, refl, sym, ap, ◌∙◌, subst, arith}
use Rattle.std.proofs.lemmas.List.{append_cancel_left}
use Rattle.host_core.specs.State.{IsFront}
use Rattle.change_apply.specs.Acknowledgements.{HasAcknowledged, ack, acks}
use Rattle.command_runs.specs.Works.{AreAcknowledged}
use Rattle.command_runs.specs.OneWork.{HasOneNumber}
use Rattle.command_runs.proofs.CompactTexts.{heads, tails}

pub three_ways : (d k : ℕ) → (d < k) ⊎ ((d ≡ k) ⊎ (k < d))
three_ways zero zero = inr (inl refl)
three_ways zero (suc k) = inl (omega arith)
three_ways (suc d) zero = inr (inr (omega arith))
three_ways (suc d) (suc k) = up (three_ways d k)
  where
    up : (d < k) ⊎ ((d ≡ k) ⊎ (k < d)) → (suc d < suc k) ⊎ ((suc d ≡ suc k) ⊎ (suc k < suc d))
    up (inl lt) = inl (omega (arith, lt))
    up (inr (inl e)) = inr (inl (ap suc e))
    up (inr (inr gt)) = inr (inr (omega (arith, gt)))

some_length : (rest : List ℕ) → rest ≢ [] → 0 < length rest
some_length [] some = absurd (some refl)
some_length (x ∷ rest) some = omega arith

-- the lines of more steps go on with the next line
more_acks : (k j : ℕ) → k < j → (more : List ℕ) × (acks j ≡ acks k ++ (ack (suc k) ++ more))
more_acks k zero low = absurd (omega (arith, low))
more_acks k (suc j) low = by (three_ways k j) (λ lt. more_acks k j lt)
  where
    by : (k < j) ⊎ ((k ≡ j) ⊎ (j < k)) → (k < j → (more : List ℕ) × (acks j ≡ acks k ++ (ack (suc k) ++ more)))
        → (more : List ℕ) × (acks (suc j) ≡ acks k ++ (ack (suc k) ++ more))
    by (inl lt) before =
        let so_far = before lt in (
          so_far.0 ++ ack (suc j),
          ap (λ (t : List ℕ). t ++ ack (suc j)) so_far.1
              ∙ append_assoc (acks k) (ack (suc k) ++ so_far.0) (ack (suc j))
              ∙ ap (λ (t : List ℕ). acks k ++ t) (append_assoc (ack (suc k)) so_far.0 (ack (suc j))),
        )
    by (inr (inl e)) before = (
      [],
      subst (λ (n : ℕ). acks (suc n) ≡ acks k ++ (ack (suc k) ++ [])) e
          (ap (λ (t : List ℕ). acks k ++ t) (sym (append-nil (ack (suc k))))),
    )
    by (inr (inr gt)) before = absurd (omega (arith, low, gt))

not_below : (k j : ℕ) (text : List ℕ) → AreAcknowledged k text → AreAcknowledged j text → k < j → ⊥
not_below k j text a b low =
    let more = more_acks k j low in
    a.no_more (
      more.0 ++ b.rest,
      append_cancel_left (acks k) a.rest (ack (suc k) ++ (more.0 ++ b.rest))
          (sym a.begins ∙ b.begins ∙ ap (λ (t : List ℕ). t ++ b.rest) more.1
          ∙ append_assoc (acks k) (ack (suc k) ++ more.0) b.rest
          ∙ ap (λ (t : List ℕ). acks k ++ t) (append_assoc (ack (suc k)) more.0 b.rest)),
    )

-- the number of whole acknowledgements
pub acknowledged_is_one : (k j : ℕ) (text : List ℕ) → AreAcknowledged k text → AreAcknowledged j text → k ≡ j
acknowledged_is_one k j text a b = by (three_ways k j)
  where
    by : (k < j) ⊎ ((k ≡ j) ⊎ (j < k)) → k ≡ j
    by (inl lt) = absurd (not_below k j text a b lt)
    by (inr (inl e)) = e
    by (inr (inr gt)) = absurd (not_below j k text b a gt)

-- ---- there is such a number

pub not_empty : (c : ℕ) (text : List ℕ) → [] ≡ c ∷ text → ⊥
not_empty c text e = absurd cc

-- whether a text begins with another
begins_or_not : (part text : List ℕ) → IsFront part text ⊎ (¬ IsFront part text)
begins_or_not [] text = inl (text, refl)
begins_or_not (c ∷ part) [] = inr (λ (rest, e). not_empty c (part ++ rest) e)
begins_or_not (c ∷ part) (d ∷ text) = by (three_ways c d) (begins_or_not part text)
  where
    other_head : (c ≡ d → ⊥) → IsFront (c ∷ part) (d ∷ text) ⊎ (¬ IsFront (c ∷ part) (d ∷ text))
    other_head not = inr (λ (rest, e). not (sym (heads d c text (part ++ rest) e)))

    by : (c < d) ⊎ ((c ≡ d) ⊎ (d < c)) → IsFront part text ⊎ (¬ IsFront part text)
        → IsFront (c ∷ part) (d ∷ text) ⊎ (¬ IsFront (c ∷ part) (d ∷ text))
    by (inl low) more = other_head (λ e. omega (arith, low, e))
    by (inr (inr high)) more = other_head (λ e. omega (arith, high, e))
    by (inr (inl same)) (inl (rest, e)) = inl (rest, λ i. (sym same i ∷ e i))
    by (inr (inl same)) (inr none) = inr (λ (rest, e). none (rest, tails d c text (part ++ rest) e))

longer : (k : ℕ) (rest more : List ℕ) → rest ≡ ack (suc k) ++ more → length more < length rest
longer k rest more is =
    let long : length rest ≡ length (ack (suc k)) + length more = ap (λ (t : List ℕ). length t) is
    ∙ length-append (ack (suc k)) more in
    let some = some_length (ack (suc k)) (λ none. not_empty 97 _ (sym none)) in
    omega (arith, long, some)

-- behind so many: these are all, or there is one more
count_on : (k : ℕ) (text rest : List ℕ) → text ≡ acks k ++ rest
    → IsFront (ack (suc k)) rest ⊎ (¬ IsFront (ack (suc k)) rest)
    → ((more : List ℕ) → rest ≡ ack (suc k) ++ more → (j : ℕ) × AreAcknowledged j text)
    → (j : ℕ) × AreAcknowledged j text
count_on k text rest e (inl (more, is)) further = further more is
count_on k text rest e (inr none) further = (k, record { rest = rest; begins = e; no_more = none })

-- the same, where the rest is no longer than that
count_from : (most k : ℕ) (text rest : List ℕ) → text ≡ acks k ++ rest → length rest ≤ most
    → (j : ℕ) × AreAcknowledged j text
count_from zero k text rest e short =
    count_on k text rest e (begins_or_not (ack (suc k)) rest)
    (λ more is. let low = longer k rest more is in absurd (omega (arith, low, short)))
count_from (suc most) k text rest e short =
    count_on k text rest e (begins_or_not (ack (suc k)) rest)
    (λ more is.
    let low = longer k rest more is in
    count_from most (suc k) text more
    (e ∙ ap (λ (t : List ℕ). acks k ++ t) is ∙ sym (append_assoc (acks k) (ack (suc k)) more))
    (omega (arith, low, short)))

-- each text has one number of them
pub has_one_number : (text : List ℕ) → HasOneNumber text
has_one_number text =
    let found = count_from (length text) 0 text text refl (omega arith) in
    record {
      number = found.0;
      acknowledged = found.1;
      alone = λ k are. acknowledged_is_one k found.0 text are found.1;
    }

-- ---- nothing more is acknowledged

-- a text that is empty or begins with another letter
pub data Quiet : List ℕ → Type 0 where
  silent : Quiet []
  other : (c : ℕ) (text : List ℕ) → c ≢ 112 → c ≢ 97 → Quiet (c ∷ text)

pub quiet_front : (part rest : List ℕ) → Quiet (part ++ rest) → Quiet part
quiet_front [] rest q = silent
quiet_front (c ∷ part) rest (other _ _ n m) = other c part n m

quiet_has_no_ack : (text : List ℕ) → Quiet text → (k : ℕ) → ¬ IsFront (ack k) text
quiet_has_no_ack [] silent k (rest, e) = not_empty 97 _ e
quiet_has_no_ack (c ∷ text) (other _ _ n m) k (rest, e) = m (heads c 97 text _ e)

-- so many acknowledgements, and behind them a text that is none
pub acknowledged_by : (k : ℕ) (text : List ℕ) → Quiet text → AreAcknowledged k (acks k ++ text)
acknowledged_by k text q = record { rest = text; begins = refl; no_more = quiet_has_no_ack text q (suc k) }

-- the same with part of the next one
pub cut_acknowledged : (k : ℕ) (part rest : List ℕ) → ack (suc k) ≡ part ++ rest → rest ≢ []
    → AreAcknowledged k (acks k ++ part)
cut_acknowledged k part rest line cut = record {
  rest = part;
  begins = refl;
  no_more = λ (more, e).
      let long : length (ack (suc k)) ≡ length part + length rest = ap (λ (t : List ℕ). length t) line
      ∙ length-append part rest in
      let back : length part ≡ length (ack (suc k)) + length more = ap (λ (t : List ℕ). length t) e
      ∙ length-append (ack (suc k)) more in
      let some = some_length rest cut in
      omega (arith, long, back, some);
}

-- so many were printed, and no part of another one
pub printed_acks : (d k : ℕ) (base : List ℕ) → HasAcknowledged d base (base ++ acks k) → d ≡ k
printed_acks d k base h =
    acknowledged_is_one d k (acks k)
    (subst (AreAcknowledged d)
    (sym (append_cancel_left base (acks k) (acks d ++ h.part) (h.printed ∙ append_assoc base (acks d) h.part)))
    (cut_acknowledged d h.part h.rest h.line h.cut))
    (subst (AreAcknowledged k) (append-nil (acks k)) (acknowledged_by k [] silent))
