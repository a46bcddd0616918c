use Rattle.std.proofs.Common.{◌≡◌, ◌↔◌, IsTrue, IfOk, Bool, true, false, cond, ℕ, List, [], ◌∷◌, Option, sym, ap, refl, subst}
use Rattle.yang_text.specs.Declarations.{Declaration}
use Rattle.yang_text.specs.Statements.{declaration}
use Rattle.yang_text.specs.declared.errors.ModelWhy.TheVariants.{Circle}
use Rattle.yang_scope.specs.Faults.{least_of, fault_at}
use Rattle.yang_scope.specs.Modules.{Module}
use Rattle.yang_scope.specs.Paths.{Placed}
use Rattle.yang_scope.specs.declared.faults.Fault.{Fault}
use Rattle.yang_values.specs.Circles.{IsOnCircle, DecidesCircles, circle}
use Rattle.yang_values.proofs.Ends.{off_circles}
use Rattle.yang_values.proofs.endings.note_if_circle.Goals as goal

is_off : (b : Bool) (P : Type 0) → (IsTrue b ↔ P) → (P → ⊥) → b ≡ false
is_off true P decides off = absurd (off (decides.0 refl))
is_off false P decides off = refl

-- nothing is noted off a circle
none : (modules : List Module) (is_on_circle : Placed → Bool) → DecidesCircles modules is_on_circle → (least : Option Fault) (file m : ℕ) (d : Declaration)
    → (IsOnCircle modules (m, d) → ⊥) → least ≡ least_of least (circle is_on_circle file m d)
none modules is_on_circle decides least file m d off =
    ap (λ (b : Bool). least_of least (cond b (fault_at file Circle d ∷ []) [])) (sym (is_off (is_on_circle (m, d)) (IsOnCircle modules (m, d)) (decides.decides (m, d)) off))

pub returns-then-does_end : goal.returns-then-does_end
returns-then-does_end c = λ is_on_circle decides.
    none c.args.endings.now is_on_circle decides c.args.least.now c.args.file c.args.number (declaration c.args.statement.now)
    (off_circles c.args.endings.now (c.args.number, declaration c.args.statement.now) (c.does_end.ensures c.if-does_end.true))

pub returns : goal.returns
returns c =
    let d : Declaration = declaration c.args.statement.now in
    subst (λ (ms : List Module). IfOk c.note_circle.result (λ _. (is_on_circle : Placed → Bool) → DecidesCircles ms is_on_circle
    → c.note_circle.new.least ≡ least_of c.args.least.now (circle is_on_circle c.args.file c.args.number d)))
    c.names.ensures c.note_circle.ensures
