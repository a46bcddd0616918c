-- What is taken at keys and in tables, where a move may precede the sought one.
use Rattle.std.proofs.Common.{◌≡◌, ℕ, List, [], ◌∷◌, Some, inl, inr, refl, sym, ap, subst}
use Rattle.move_core.specs.Moves.{Place, place}
use Rattle.move_core.specs.Services.{table_of}
use Rattle.move_core.specs.Extensions.{required_part}
use Rattle.move_core.specs.declared.moves.Move.{Move}
use Rattle.conf_doc.specs.declared.configuration.Config.{Config}
use Rattle.conf_doc.specs.declared.parts.Part.{Part}
use Rattle.plan_check.specs.Candidates.{IsFieldOf, IsInEntry, IsPlainAt, IsPut}
use Rattle.plan_check.specs.Nearby.{IsIn, IsInTable}
use Rattle.plan_check.specs.declared.here.Here.{Here}
use Rattle.plan_check.specs.declared.preceding.Sought.{Sought}

module _ (h : Here) where
  put_at : (p : Place) (x : Part) (m : Move) → IsPut p x m → place m ≡ p
  put_at p x m (inl is) = ap place is
  put_at p x m (inr is) = ap place is

  -- a move at a place has that place
  pub plain_at : (p : Place) (m : Move) → IsPlainAt h p m → place m ≡ p
  plain_at p m (inl (inl is)) = put_at p is.part m is.puts
  plain_at p m (inl (inr is)) = ap place is.move
  plain_at p m (inr (inl is)) = ap place is.move
  plain_at p m (inr (inr is)) = ap place is

  field_at : (c : Config) (t k : List ℕ) (m : Move) → IsFieldOf h c t k m → IsIn (place m) t (Some k)
  field_at c t k m is = subst (λ p. IsIn p t (Some k)) (sym (plain_at (t ∷ k ∷ is.field ∷ []) m is.is)) (refl, refl)

  -- one in an entry is at that key
  pub entry_at : (c : Config) (t k : List ℕ) (m : Move) → IsInEntry h c t k m → IsIn (place m) t (Some k)
  entry_at c t k m (inl is) = field_at c t k m is
  entry_at c t k m (inr (inl is)) = subst (λ p. IsIn p t (Some k)) (sym (plain_at (t ∷ k ∷ []) m is)) (refl, refl)
  entry_at c t k m (inr (inr is)) = subst (λ p. IsIn p t (Some k)) (sym (put_at (t ∷ k ∷ is.item.field ∷ []) (required_part is.item) m is.is.1)) (refl, refl)

-- one in a table is in it
pub table_at : (s : Sought) (c : Config) (t : List ℕ) (m : Move) → IsInTable s c t m → table_of (place m) ≡ t
table_at s c t m (inl is) = (entry_at s.here.now c t is.item m is.is.0).0
table_at s c t m (inr is) = ap table_of (plain_at s.here.now (t ∷ []) m is)
