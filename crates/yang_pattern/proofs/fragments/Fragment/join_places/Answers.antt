use Rattle.std.proofs.Common.{arith, ◌≡◌, sym, subst, ℕ, ◌<◌, ◌≤◌, ◌+◌, ◌-◌, ◌&&◌, leb, length}
use Rattle.yang_pattern.proofs.Joining.{joined, joined_within}
use Rattle.yang_pattern.proofs.Languages.{joined_to, joined_from}
use Rattle.yang_pattern.specs.PlaceSets.{contains, IsAppended}
use Rattle.yang_pattern.specs.Machine.{machine_of, machine_from, Takes}
use Rattle.yang_pattern.proofs.fragments.Fragment.join_places.Goals as goal

pub invariant_of-result : goal.invariant_of-result
invariant_of-result c =
    let a = c.args.self in
    let b = c.args.right.now in
    let fits : length a.places.items + length b.places.items ≤ 1024 = omega arith in
    let n : c.len.result ≡ length a.places.items = omega arith in
    let entered : (q : ℕ) → q < 1024 → contains c.shift-entered.result q ≡ (leb (length a.places.items) q && contains b.first (q - length a.places.items)) =
    subst (λ k. (q : ℕ) → q < 1024 → contains c.shift-entered.result q ≡ (leb k q && contains b.first (q - k))) n c.shift-entered.ensures in
    let added : IsAppended c.link.new.places.items b.places.items c.append.new.places.items =
    subst (λ xs. IsAppended c.link.new.places.items xs c.append.new.places.items) c.deref.ensures.value c.in_ok-append.ensures in
    let within = joined_within a.places.items b.places.items fits a.first b.first a.within b.within c.shift-entered.result entered b.empty c.link.new.places.items c.link.ensures.count c.link.ensures.linked c.append.new.places.items added a.empty c.with.result c.with.ensures in
    record { within = within; small = omega (arith, added.count, c.link.ensures.count) }

pub returns-clause-language : goal.returns-clause-language
returns-clause-language c =
    let a = c.args.self in
    let b = c.args.right.now in
    let fits : length a.places.items + length b.places.items ≤ 1024 = omega arith in
    let n : c.len.result ≡ length a.places.items = omega arith in
    let entered : (q : ℕ) → q < 1024 → contains c.shift-entered.result q ≡ (leb (length a.places.items) q && contains b.first (q - length a.places.items)) =
    subst (λ k. (q : ℕ) → q < 1024 → contains c.shift-entered.result q ≡ (leb k q && contains b.first (q - k))) n c.shift-entered.ensures in
    let added : IsAppended c.link.new.places.items b.places.items c.append.new.places.items =
    subst (λ xs. IsAppended c.link.new.places.items xs c.append.new.places.items) c.deref.ensures.value c.in_ok-append.ensures in
    λ r u.
    let j = joined a.places.items b.places.items fits a.first b.first a.within b.within c.shift-entered.result entered b.empty c.link.new.places.items c.link.ensures.count c.link.ensures.linked c.append.new.places.items added a.empty c.with.result c.with.ensures r in
    let new = machine_from r c.append.new.places.items c.with.result (a.empty && b.empty) in (
      λ t. joined_to (machine_of r a) (machine_of r b) new j u t,
      λ (x, y, e, p, q). subst (Takes new) (sym e) (joined_from (machine_of r a) (machine_of r b) new j x y p q),
    )
