use Rattle.std.proofs.Common.{arith, ◌≡◌, ℕ, ◌<◌, ◌≤◌, ◌+◌, ◌-◌, ◌&&◌, ◌||◌, leb, length, subst, inl, inr}
use Rattle.yang_pattern.proofs.Joining.{either, either_within}
use Rattle.yang_pattern.proofs.Languages.{either_to, either_left, either_right}
use Rattle.yang_pattern.specs.PlaceSets.{contains, IsAppended}
use Rattle.yang_pattern.specs.Machine.{machine_of, machine_from}
use Rattle.yang_pattern.proofs.fragments.Fragment.either.Goals as goal

pub invariant_of-result : goal.invariant_of-result
invariant_of-result c =
    let a = c.args.self in
    let b = c.args.right.now in
    let fits : length a.places.items + length b.places.items ≤ 1024 = omega arith in
    let n : c.len.result ≡ length a.places.items = omega arith in
    let entered : (q : ℕ) → q < 1024 → contains c.shift-entered.result q ≡ (leb (length a.places.items) q && contains b.first (q - length a.places.items)) =
    subst (λ k. (q : ℕ) → q < 1024 → contains c.shift-entered.result q ≡ (leb k q && contains b.first (q - k))) n c.shift-entered.ensures in
    let added : IsAppended a.places.items b.places.items c.append.new.places.items =
    subst (λ xs. IsAppended a.places.items xs c.append.new.places.items) c.deref.ensures.value c.in_ok-append.ensures in
    let within = either_within a.places.items b.places.items fits a.first b.first a.within b.within c.shift-entered.result entered c.append.new.places.items added a.empty b.empty c.with.result c.with.ensures in
    record { within = within; small = omega (arith, added.count) }

pub returns-clause-language : goal.returns-clause-language
returns-clause-language c =
    let a = c.args.self in
    let b = c.args.right.now in
    let fits : length a.places.items + length b.places.items ≤ 1024 = omega arith in
    let n : c.len.result ≡ length a.places.items = omega arith in
    let entered : (q : ℕ) → q < 1024 → contains c.shift-entered.result q ≡ (leb (length a.places.items) q && contains b.first (q - length a.places.items)) =
    subst (λ k. (q : ℕ) → q < 1024 → contains c.shift-entered.result q ≡ (leb k q && contains b.first (q - k))) n c.shift-entered.ensures in
    let added : IsAppended a.places.items b.places.items c.append.new.places.items =
    subst (λ xs. IsAppended a.places.items xs c.append.new.places.items) c.deref.ensures.value c.in_ok-append.ensures in
    λ r u.
    let j = either a.places.items b.places.items fits a.first b.first a.within b.within c.shift-entered.result entered c.append.new.places.items added a.empty b.empty c.with.result c.with.ensures r in
    let new = machine_from r c.append.new.places.items c.with.result (a.empty || b.empty) in (
      λ t. either_to (machine_of r a) (machine_of r b) new j u t,
      λ t. elim t [ inl h ↦ either_left (machine_of r a) (machine_of r b) new j u h | inr h ↦ either_right (machine_of r a) (machine_of r b) new j u h ],
    )
