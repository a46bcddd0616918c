use Rattle.std.proofs.Common.{rules, ◌≡◌, ap, ◌∙◌, subst, arith, to_z}
use Rattle.std.specs.Prelude.{ℤ, pos, IsTrue, ◌↔◌}
use Rattle.std.specs.Int.{w128}
use Rattle.std.proofs.lemmas.Int.{ints}
use Rattle.std.proofs.lemmas.Str.{chars_from_encodes}
use Rattle.yang_types.specs.Accepts.{char_count}
use Rattle.yang_types.specs.Numbers.{IsWithinAny}
use Rattle.yang_types.proofs.numbers.has_length_within_any.Goals as goal

pub returns : goal.returns
returns c =
    let counted : c.count.result ≡ char_count c.args.text.now = search (rules, chars_from_encodes) in
    let cast : to_z w128 c.count.result ≡ pos c.count.result = omega (arith, ints) in
    let P : ℤ → Type 0 = λ v. IsTrue c.is_within_any.result ↔ IsWithinAny v c.args.parts.now in
    subst P (cast ∙ ap pos counted) c.is_within_any.ensures
