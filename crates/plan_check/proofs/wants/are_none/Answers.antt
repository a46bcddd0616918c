use Rattle.std.proofs.Common.{◌≡◌, List, [], ◌∷◌, length, refl, sym, ap, ◌∙◌, arith}
use Rattle.std.proofs.lemmas.Bool.{eq-eqb, eqb-true}
use Rattle.plan_check.proofs.wants.are_none.Goals as goal

none_of : {A : Type 0} (xs : List A) → length xs ≡ 0 → xs ≡ []
none_of [] is = refl
none_of (x ∷ xs) is = absurd (omega arith)

pub returns : goal.returns
returns c = (
  λ t. none_of c.args.wants.now (eqb-true _ 0 (sym c.is_empty.ensures ∙ t)),
  λ none. c.is_empty.ensures ∙ eq-eqb _ 0 (ap length none),
)
