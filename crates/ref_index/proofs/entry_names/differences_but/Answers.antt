use Rattle.std.proofs.Common.{◌≡◌, Bool, true, false, Option, None, Some, ap, is_some, option_map, subst, sym, ◌∙◌}
use Rattle.std.proofs.Math.Bool.{beq}
use Rattle.ref_index.specs.EntryNames.{HoldsParts}
use Rattle.ref_index.proofs.Agreements.{one_differs, referring_differ}
use Rattle.ref_index.proofs.entry_names.differences_but.Goals as goal

same_answer : (a b x y : Bool) → beq a b ≡ true → a ≡ x → b ≡ y → x ≡ y
same_answer true true x y e p q = sym p ∙ q
same_answer false false x y e p q = sym p ∙ q
same_answer true false x y e p q = cc
same_answer false true x y e p q = cc

mapped_some : {A B : Type 0} (f : A → B) (o : Option A) (p : Option B) (b : Bool) → option_map f o ≡ p → b ≡ is_some o → b ≡ is_some p
mapped_some f None p b e is = is ∙ ap is_some e
mapped_some f (Some x) p b e is = is ∙ ap is_some e

pub returns-then-is_some : goal.returns-then-is_some
returns-then-is_some c =
    one_differs c.args.models.now c.args.first.now c.args.second.now c.args.table.now c.args.key.now c.in_ok-found.found.items c.requires
    c.entry.ensures.formed c.entry-2.ensures.formed
    (same_answer c.is_some.result c.is_some-2.result _ _ c.if-is_some.true
    (mapped_some _ c.entry.result _ c.is_some.result c.entry.ensures.entry c.is_some.ensures)
    (mapped_some _ c.entry-2.result _ c.is_some-2.result c.entry-2.ensures.entry c.is_some-2.ensures)) c.in_ok-found.ensures

pub returns : goal.returns
returns c =
    let adds = c.in_ok-add_referring.ensures in
    referring_differ c.args.models.now c.args.table.now c.args.key.now c.in_ok-found.found.items c.add_referring.new.found.items c.in_ok-parts.parts
    c.in_ok-found.ensures (subst (λ names. HoldsParts names c.in_ok-parts.parts) c.as_slice.ensures.value c.in_ok-parts.ensures) adds.stay
    c.args.first.now c.args.second.now c.requires c.entry.ensures.formed c.entry-2.ensures.formed adds.all
