-- What the extender of each kind gives, among what all of them give.
use Rattle.std.proofs.Common.{◌≡◌, ◌↔◌, inl, inr, Option, Some, None, option_map, IsSomeAnd, refl, sym, ap, ◌∙◌, arith}
use Rattle.conf_doc.specs.declared.configuration.Config.{Config}
use Rattle.conf_doc.proofs.Edits.{same_Some}
use Rattle.move_core.specs.Extensions.{as_in_goal, upper_place, IsExtension, IsReferrer, IsRequired, IsUpper}
use Rattle.move_core.specs.Moves.{Place}
use Rattle.move_core.specs.Rulebook.{Rulebook}
use Rattle.move_core.specs.declared.moves.Move.{Move}

module _ (book : Rulebook) (cur goal : Config) (m x : Move) where
  pub first_kind : IsUpper goal m x ↔ IsExtension book cur goal 1 m x
  first_kind = (λ is. inl (refl, is), back)
    where
      back : IsExtension book cur goal 1 m x → IsUpper goal m x
      back (inl p) = p.1
      back (inr (inl p)) = absurd (omega arith)
      back (inr (inr (inl p))) = absurd (omega arith)
      back (inr (inr (inr p))) = absurd (omega arith)

  pub third_kind : IsReferrer book cur m x ↔ IsExtension book cur goal 3 m x
  third_kind = (λ is. inr (inr (inl (refl, is))), back)
    where
      back : IsExtension book cur goal 3 m x → IsReferrer book cur m x
      back (inl p) = absurd (omega arith)
      back (inr (inl p)) = absurd (omega arith)
      back (inr (inr (inl p))) = p.1
      back (inr (inr (inr p))) = absurd (omega arith)

  pub fourth_kind : IsRequired book cur m x ↔ IsExtension book cur goal 4 m x
  fourth_kind = (λ is. inr (inr (inr (refl, is))), back)
    where
      back : IsExtension book cur goal 4 m x → IsRequired book cur m x
      back (inl p) = absurd (omega arith)
      back (inr (inl p)) = absurd (omega arith)
      back (inr (inr (inl p))) = absurd (omega arith)
      back (inr (inr (inr p))) = p.1

-- the place above becomes as in goal, where there is one
pub is_upper : (goal : Config) (m x : Move) (o : Option Move) → o ≡ option_map (as_in_goal goal) (upper_place m) → IsUpper goal m x ↔ (o ≡ Some x)
is_upper goal m x o is = by (upper_place m) is
  where
    by : (p : Option Place) → o ≡ option_map (as_in_goal goal) p → IsSomeAnd p (λ q. x ≡ as_in_goal goal q) ↔ (o ≡ Some x)
    by None e = (λ h. absurd h, λ s. let no : None ≡ Some x = sym e ∙ s in absurd cc)
    by (Some q) e = (λ h. e ∙ ap Some (sym h), λ s. same_Some x (as_in_goal goal q) (sym s ∙ e))
