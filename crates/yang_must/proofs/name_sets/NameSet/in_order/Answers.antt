use Rattle.std.proofs.Common.{rules, ap, sym, ◌∙◌, ◌≡◌, map}
use Rattle.std.specs.Prelude.{string_bytes}
use Rattle.std.specs.Map.Iter.{deref}
use Rattle.std.proofs.lemmas.Map.Iter.{iter_end}
use Rattle.std.proofs.lemmas.Simd.{map-map}
use Rattle.yang_must.proofs.KeyOrder.{in_order-keys}
use Rattle.yang_must.proofs.name_sets.NameSet.in_order.Goals as goal

pub returns : goal.returns
returns c = λ names set.
    let all : map deref c.loop-name.yielded ≡ c.args.self.now.names.keys = search (rules, iter_end) in
    c.loop-name.invariant
    ∙ sym (map-map string_bytes deref c.loop-name.yielded)
    ∙ ap (map string_bytes) all
    ∙ in_order-keys c.args.self.now.names names c.iter-name-items.ensures.ordered set
