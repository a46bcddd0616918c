-- Which type statements are on circles can be told.
use Rattle.std.proofs.Common.{◌≡◌, ap, subst, List}
use Rattle.std.specs.Prelude.{IsTrue}
use Rattle.yang_text.specs.Declarations.{Declaration}
use Rattle.yang_pattern.specs.Decided.{IsDecided}
use Rattle.yang_pattern.proofs.Decisions.{Told, like, both, same_number, told_true, decided_by}
use Rattle.yang_scope.specs.Modules.{Module}
use Rattle.yang_scope.specs.Paths.{Placed}
use Rattle.yang_values.specs.Circles.{IsOnCircle}
use Rattle.yang_values.specs.Sameness.{same_declaration}
use Rattle.yang_values.proofs.EqualStatements.{declaration-is, declaration-same}
use Rattle.yang_values.proofs.Ways.{way_told, way_reached, reached_way}
use Rattle.yang_values.proofs.StatementNesting.{around, around_itself, around_closed}

same_statement : (d e : Declaration) → Told (d ≡ e)
same_statement d e =
    like (declaration-is d e) (λ is. subst (λ x. IsTrue (same_declaration d x)) is (declaration-same d)) (told_true (same_declaration d e))

same_placed : (p q : Placed) → Told (p ≡ q)
same_placed p q = like (λ h. λ i. (h.0 i, h.1 i)) (λ e. (ap (λ r. r.0) e, ap (λ r. r.1) e)) (both (same_number p.0 q.0) (same_statement p.1 q.1))

pub circles_told : (modules : List Module) → IsDecided (IsOnCircle modules)
circles_told modules = decided_by (IsOnCircle modules)
    (λ p. like (way_reached modules (around modules p) p p)
    (λ h. reached_way modules (around modules p) (around_closed modules p) h.0 p p (around_itself modules p) h.1)
    (way_told modules same_placed (around modules p) p p))
