-- Extended chains added one by one.
use Rattle.std.proofs.Common.{◌≡◌, ◌⊎◌, inl, inr, ℕ, zero, suc, ◌≤◌, ◌+◌, List, [], ◌∷◌, ◌++◌, take, sym, ap, subst, ◌∙◌, Some, slice_get, add-one, append-nil, append_assoc}
use Rattle.std.specs.List.{Contains}
use Rattle.std.proofs.lemmas.List.Elements.{Contains-append_left, Contains-push, Contains-push_cases, All-nil, All-push, All-weaker}
use Rattle.move_core.specs.Listed.{place_class}
use Rattle.move_core.specs.declared.moves.Move.{Move}
use Rattle.move_core.specs.declared.moves.Ranked.{Ranked}
use Rattle.move_lists.specs.Ranking.{AddsExtended, IsExtended}
use Rattle.move_lists.specs.Reaches.{Depths}
use Rattle.move_lists.proofs.Members.{no_member}

-- ---- extended moves

module _ (tier least : ℕ) where
  pub extended_none : (old : List Ranked) → AddsExtended [] tier least old old
  extended_none old = record {
    more = [];
    follows = sym (append-nil old);
    each = All-nil (IsExtended [] tier least);
    all = λ m d h lt. absurd (no_member (m, d) h);
  }

  still : (done : Depths) (e : Move × ℕ) (r : Ranked) → IsExtended done tier least r → IsExtended (done ++ e ∷ []) tier least r
  still done e r is = record {
    there = Contains-append_left done (e ∷ []) (r.mv, r.depth) is.there;
    extended = is.extended;
    tier_is = is.tier_is;
    class = is.class;
  }

  pub extended_more : (done : Depths) (old mid new : List Ranked) (r : Ranked) → AddsExtended done tier least old mid
      → least ≤ r.depth → r.tier ≡ tier → r.class ≡ place_class r.mv → new ≡ mid ++ r ∷ []
      → AddsExtended (done ++ (r.mv, r.depth) ∷ []) tier least old new
  extended_more done old mid new r adds lt tier_is class pushed = record {
    more = adds.more ++ r ∷ [];
    follows = pushed ∙ ap (λ l. l ++ r ∷ []) adds.follows ∙ append_assoc old adds.more (r ∷ []);
    each = All-push (IsExtended now tier least) adds.more r
        (All-weaker (IsExtended done tier least) (IsExtended now tier least) (still done (r.mv, r.depth)) adds.more adds.each) this;
    all = λ m d h pos. by m d pos (Contains-push_cases done (r.mv, r.depth) (m, d) h);
  }
    where
      now : Depths
      now = done ++ (r.mv, r.depth) ∷ []

      this : IsExtended now tier least r
      this = record { there = Contains-push done (r.mv, r.depth); extended = lt; tier_is = tier_is; class = class }

      by : (m : Move) (d : ℕ) → least ≤ d → Contains done (m, d) ⊎ (◌≡◌ {A = Move × ℕ} (r.mv, r.depth) (m, d))
          → (s : Ranked) × Contains (adds.more ++ r ∷ []) s × (s.mv ≡ m) × (s.depth ≡ d) × IsExtended now tier least s
      by m d pos (inl h) =
          let s = adds.all m d h pos in
          (s.0, Contains-append_left adds.more (r ∷ []) s.0 s.1, s.2, s.3, still done (r.mv, r.depth) s.0 s.4)
      by m d pos (inr e) = (r, Contains-push adds.more r, ap (λ (p : Move × ℕ). p.0) e, ap (λ (p : Move × ℕ). p.1) e, this)

  pub extended_without : (done : Depths) (e : Move × ℕ) (old new : List Ranked) → AddsExtended done tier least old new → ¬ (least ≤ e.1)
      → AddsExtended (done ++ e ∷ []) tier least old new
  extended_without done e old new adds none = record {
    more = adds.more;
    follows = adds.follows;
    each = All-weaker (IsExtended done tier least) (IsExtended (done ++ e ∷ []) tier least) (still done e) adds.more adds.each;
    all = λ m d h pos. by m d pos (Contains-push_cases done e (m, d) h);
  }
    where
      by : (m : Move) (d : ℕ) → least ≤ d → Contains done (m, d) ⊎ (e ≡ (m, d))
          → (s : Ranked) × Contains adds.more s × (s.mv ≡ m) × (s.depth ≡ d) × IsExtended (done ++ e ∷ []) tier least s
      by m d pos (inl h) = let s = adds.all m d h pos in (s.0, s.1, s.2, s.3, still done e s.0 s.4)
      by m d pos (inr is) = absurd (none (subst (λ n. least ≤ n) (sym (ap (λ (p : Move × ℕ). p.1) is)) pos))

-- ---- steps of the loops

take_at : {A : Type 0} (xs : List A) (i : ℕ) (x : A) → slice_get xs i ≡ Some x → take (suc i) xs ≡ take i xs ++ x ∷ []
take_at {A = A} [] i x at = absurd (cc)
take_at {A = A} (y ∷ xs) zero x at = ap (λ z. z ∷ []) (same y x at)
  where
    same : (a b : A) → Some a ≡ Some b → a ≡ b
    same a b e = cc
take_at {A = A} (y ∷ xs) (suc i) x at = ap (λ zs. y ∷ zs) (take_at xs i x at)

-- one more that was reached by so many extensions
pub extended_step : (tier least : ℕ) (es : Depths) (i : ℕ) (m : Move) (d : ℕ) (old mid new : List Ranked) (r : Ranked)
    → AddsExtended (take i es) tier least old mid → slice_get es i ≡ Some (m, d) → least ≤ d → r.mv ≡ m → r.depth ≡ d → r.tier ≡ tier
    → r.class ≡ place_class m → new ≡ mid ++ r ∷ [] → AddsExtended (take (i + 1) es) tier least old new
extended_step tier least es i m d old mid new r adds at pos mv depth tier_is class pushed =
    subst (λ n. AddsExtended (take n es) tier least old new) (sym (add-one i))
    (subst (λ l. AddsExtended l tier least old new)
    (sym (take_at es i (m, d) at ∙ ap (λ (e : Move × ℕ). take i es ++ e ∷ []) (λ j. (sym mv j, sym depth j))))
    (extended_more tier least (take i es) old mid new r adds (subst (λ n. least ≤ n) (sym depth) pos) tier_is
    (class ∙ ap place_class (sym mv)) pushed))

-- one that wasn't
pub unextended_step : (tier least : ℕ) (es : Depths) (i : ℕ) (m : Move) (d : ℕ) (old new : List Ranked)
    → AddsExtended (take i es) tier least old new → slice_get es i ≡ Some (m, d) → ¬ (least ≤ d) → AddsExtended (take (i + 1) es) tier least old new
unextended_step tier least es i m d old new adds at none =
    subst (λ n. AddsExtended (take n es) tier least old new) (sym (add-one i))
    (subst (λ l. AddsExtended l tier least old new) (sym (take_at es i (m, d) at))
    (extended_without tier least (take i es) (m, d) old new adds none))
