-- The services of a table, those found so far and those from an index on.
use Rattle.std.proofs.Common.{◌≡◌, ℕ, suc, ◌+◌, ◌<◌, List, [], ◌∷◌, ◌++◌, length, get_or, drop, true, false, if◌then◌else◌, add-one, append-nil, append_assoc, drop-cons, sym, ap, ◌∙◌}
use Rattle.move_core.specs.Services.{is_tied, tied_from}
use Rattle.move_core.specs.declared.settings.ServiceTie.{ServiceTie}

-- those found and those from an index on are all
abbrev pub AreTied : List ℕ → List ServiceTie → List ℕ → ℕ → Type 0
AreTied table ties found i = found ++ tied_from i table (drop i ties) ≡ tied_from 0 table ties

module _ (table : List ℕ) (ties : List ServiceTie) (found : List ℕ) (i : ℕ) (tie : ServiceTie) (so : AreTied table ties found i) (within : i < length ties)
    (is : tie ≡ get_or ties i tie) where
  rest : drop i ties ≡ tie ∷ drop (suc i) ties
  rest = drop-cons ties i tie within ∙ ap (λ t. t ∷ drop (suc i) ties) (sym is)

  pub one_more : (new : List ℕ) → new ≡ found ++ i ∷ [] → is_tied table tie ≡ true → AreTied table ties new (i + 1)
  one_more new pushed tied =
      rw add-one
      (ap (λ xs. xs ++ tied_from (suc i) table (drop (suc i) ties)) pushed
      ∙ append_assoc found (i ∷ []) (tied_from (suc i) table (drop (suc i) ties))
      ∙ ap (λ b. found ++ (if b then i ∷ tied_from (suc i) table (drop (suc i) ties) else tied_from (suc i) table (drop (suc i) ties))) (sym tied)
      ∙ ap (λ ts. found ++ tied_from i table ts) (sym rest) ∙ so)

  pub none_more : is_tied table tie ≡ false → AreTied table ties found (i + 1)
  none_more other =
      rw add-one
      (ap (λ b. found ++ (if b then i ∷ tied_from (suc i) table (drop (suc i) ties) else tied_from (suc i) table (drop (suc i) ties))) (sym other)
      ∙ ap (λ ts. found ++ tied_from i table ts) (sym rest) ∙ so)

-- none is left
pub all_found : (table : List ℕ) (ties : List ServiceTie) (found : List ℕ) (i : ℕ) → AreTied table ties found i → drop i ties ≡ [] → found ≡ tied_from 0 table ties
all_found table ties found i so ended = sym (append-nil found) ∙ ap (λ ts. found ++ tied_from i table ts) (sym ended) ∙ so
