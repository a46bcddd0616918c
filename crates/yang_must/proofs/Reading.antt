-- A text that spells nothing is not read.
use Rattle.std.proofs.Common.{◌≡◌, ℕ, List, Option, Some, None, refl, subst}
use Rattle.xpath_part.specs.Expression.{Expression}
use Rattle.xpath_part.specs.Grammar.{SpellsNothing}
use Rattle.xpath_part.specs.Errors.{IfBad}
use Rattle.xpath_part.specs.declared.errors.ExprError.{ExprError}
use Rattle.xpath_part.specs.declared.errors.ExprError.TheVariants.{Bad}
use Rattle.yang_must.specs.Musts.{ReadsExpressions}

-- what is said of an error that is none of memory
pub if_bad : (e : ExprError) (at : ℕ) (P : Type 0) → e ≡ Bad at → IfBad e P → P
if_bad e at P is said = subst (λ (x : ExprError). IfBad x P) is said

pub reads_nothing : (read : List ℕ → Option Expression) (s : List ℕ) → ReadsExpressions read → SpellsNothing s → None ≡ read s
reads_nothing read s is nothing = by (read s) refl
  where
    by : (o : Option Expression) → read s ≡ o → None ≡ o
    by None e = refl
    by (Some x) e = absurd (nothing x ((is.reads s x).0 e))
