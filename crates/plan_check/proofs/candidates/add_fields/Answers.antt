use Rattle.std.proofs.Common.{[], ◌∷◌, map, subst, arith}
use Rattle.conf_doc.proofs.Lists.{length-map}
use Rattle.plan_check.specs.Candidates.{IsPlainAt, Takes}
use Rattle.plan_check.proofs.PairSearches.{named_name}
use Rattle.plan_check.proofs.Taking.{takes_all, takes_first, takes_more}
use Rattle.plan_check.proofs.candidates.add_fields.Goals as goal

pub loop-i-init : goal.loop-i-init
loop-i-init c =
    takes_first (λ f. IsPlainAt c.args.here.now (c.args.table.now ∷ c.args.key.now ∷ f ∷ [])) (map (λ f. f.0) c.args.entry.now) c.args.found.now.items

pub loop-i-preserved : goal.loop-i-preserved
loop-i-preserved c =
    let h = c.args.here.now in
    let f = c.name_at-field.result.now in
    let old = c.loop-i.found.items in
    let new = c.add_at.new.found.items in
    takes_more (λ g. IsPlainAt h (c.args.table.now ∷ c.args.key.now ∷ g ∷ [])) (map (λ g. g.0) c.args.entry.now) c.loop-i.i f
    c.args.found.now.items old new c.name_at-field.ensures c.loop-i.invariant
    (subst (λ p. Takes (IsPlainAt h p) old new) c.in_ok-new.ensures c.in_ok-add_at.ensures)

pub returns : goal.returns
returns c =
    takes_all (λ f. IsPlainAt c.args.here.now (c.args.table.now ∷ c.args.key.now ∷ f ∷ [])) (map (λ f. f.0) c.args.entry.now) c.loop-i.i
    c.args.found.now.items c.loop-i.found.items (rw (length-map (λ f. f.0) c.args.entry.now) (omega arith)) c.loop-i.invariant

pub new-requires : goal.new-requires
new-requires c =
    let field = named_name c.args.entry.now c.loop-i.i c.name_at-field.result.now c.len-i-end.ensures.formed.shaped.named c.name_at-field.ensures in
    record { some = omega arith; few = omega arith; named = (c.requires.table, (c.requires.key, (field, tt))) }
