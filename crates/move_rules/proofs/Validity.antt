-- Validity as the first rule.
use Rattle.std.proofs.Common.{Bool, false, IsTrue, ◌↔◌, inl, inr, refl, arith}
use Rattle.conf_doc.specs.declared.configuration.Config.{Config}
use Rattle.conf_check.specs.Validity.{IsFirstViolation, IsValid}
use Rattle.conf_check.specs.declared.violations.Violation.{Violation}
use Rattle.move_core.specs.Contexts.{rulebook}
use Rattle.move_core.specs.Rules.{Passes}
use Rattle.move_core.specs.declared.contexts.Ctx.{Ctx}
use Rattle.move_core.specs.declared.moves.Move.{Move}
use Rattle.yang_model.specs.ModelSets.{ModelSet}

-- a configuration with a violation isn't valid
pub not_valid : (models : ModelSet) (config : Config) (v : Violation) → IsFirstViolation models config v → IsTrue false ↔ IsValid models config
not_valid models config v first = (λ t. absurd cc, λ valid. absurd (valid first.breach first.broken))

-- the first rule lets a move pass to a valid configuration
pub first_rule : (ctx : Ctx) (cur next : Config) (m : Move) (b : Bool) → IsTrue b ↔ IsValid ctx.models next → IsTrue b ↔ Passes (rulebook ctx) 1 cur next m
first_rule ctx cur next m b says = (λ passes. inl (refl, says.0 passes), λ p. says.1 (back p))
  where
    back : Passes (rulebook ctx) 1 cur next m → IsValid ctx.models next
    back (inl p) = p.1
    back (inr (inl p)) = absurd (omega arith)
    back (inr (inr (inl p))) = absurd (omega arith)
    back (inr (inr (inr (inl p)))) = absurd (omega arith)
    back (inr (inr (inr (inr p)))) = absurd (omega arith)
