-- A machine with no place that takes the empty text.
use Rattle.std.proofs.Common.{◌≡◌, ℕ, true, List, [], ◌∷◌, ◌++◌, length, refl, sym, ap, ◌∙◌, subst, append-nil, arith, ◌↔◌}
use Rattle.yang_pattern.specs.declared.fragments.Fragment.{Fragment}
use Rattle.yang_pattern.specs.Machine.{HasLanguage, Both}

-- no place and the empty text
pub takes_nothing : (f : Fragment) → length f.places.items ≡ 0 → f.empty ≡ true → HasLanguage f (λ r u. u ≡ [])
takes_nothing f none empty r [] = (λ h. refl, λ e. empty)
takes_nothing f none empty r (c ∷ u) = (λ (q, within, here, reads, more). absurd (omega arith), λ e. absurd (cc))

-- a language with nothing behind it
pub both_nothing : (P Q : List ℕ → Type 0) → ((u : List ℕ) → Q u ↔ (u ≡ [])) → (u : List ℕ) → P u ↔ Both P Q u
both_nothing P Q nothing u = (
  λ p. (u, [], sym (append-nil u), p, (nothing []).1 refl),
  λ (x, y, e, p, q). subst P (sym (e ∙ ap (λ v. x ++ v) ((nothing y).0 q) ∙ append-nil x)) p,
)
