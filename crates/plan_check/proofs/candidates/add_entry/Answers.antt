use Rattle.std.proofs.Common.{◌⊎◌, ◌∷◌, [], subst}
use Rattle.std.proofs.lemmas.Result.{on_ok_weaker}
use Rattle.plan_check.specs.Candidates.{GivesSome, IsFieldOf, IsPlainAt, Takes}
use Rattle.plan_check.proofs.Taking.{takes_both}
use Rattle.plan_check.proofs.candidates.add_entry.Goals as goal

pub returns : goal.returns
returns c =
    let h = c.args.here.now in
    let t = c.args.table.now in
    let k = c.args.key.now in
    let a = c.args.found.now.items in
    let b = c.add_fields_of.new.found.items in
    let d = c.add_at.new.found.items in
    let e = c.add_all_required.new.found.items in
    let rules = h.ctx.now.settings.required in
    let here = subst (λ p. Takes (IsPlainAt h p) b d) c.in_ok-new.ensures c.in_ok-add_at.ensures in
    on_ok_weaker c.add_all_required.result
    (λ last. takes_both (IsFieldOf h c.args.config.now t k) (λ m. IsPlainAt h (t ∷ k ∷ []) m ⊎ GivesSome t k rules m) a b e
    c.in_ok-add_fields_of.ensures
    (takes_both (IsPlainAt h (t ∷ k ∷ [])) (GivesSome t k rules) b d e here
    (subst (λ rs. Takes (GivesSome t k rs) d e) c.items-rules.ensures last)))
    c.add_all_required.ensures
