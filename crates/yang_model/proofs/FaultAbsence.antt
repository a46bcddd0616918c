-- No least fault, no faults.
use Rattle.std.proofs.Common.{◌≡◌, Bool, true, false, cond, List, [], ◌∷◌, Some, None, refl, ap, ◌∙◌}
use Rattle.yang_scope.specs.Faults.{lesser, least_of, is_before}
use Rattle.yang_scope.specs.declared.faults.Fault.{Fault}

either : (b : Bool) (f g : Fault) → (h : Fault) × (cond b (Some f) (Some g) ≡ Some h)
either true f g = (f, refl)
either false f g = (g, refl)

some_least : (fs : List Fault) (g : Fault) → None ≡ least_of (Some g) fs → ⊥
some_least [] g is = cc
some_least (f ∷ fs) g is =
    let next : (h : Fault) × (lesser (Some g) f ≡ Some h) = either (is_before f g) f g in
    some_least fs next.0 (is ∙ ap (λ o. least_of o fs) next.1)

pub no_faults : (fs : List Fault) → None ≡ least_of None fs → fs ≡ []
no_faults [] is = refl
no_faults (f ∷ fs) is = absurd (some_least fs f is)
