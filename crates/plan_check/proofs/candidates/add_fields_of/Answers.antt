use Rattle.std.proofs.Common.{map, sym}
use Rattle.std.proofs.lemmas.Result.{on_ok_weaker}
use Rattle.plan_check.specs.Candidates.{IsFieldIn, IsFieldOf}
use Rattle.plan_check.proofs.NearPlaces.{field_named, no_field}
use Rattle.plan_check.proofs.Taking.{takes_as, takes_none}
use Rattle.plan_check.proofs.candidates.add_fields_of.Goals as goal

pub returns-in-Some : goal.returns-in-Some
returns-in-Some c =
    let h = c.args.here.now in
    let t = c.args.table.now in
    let k = c.args.key.now in
    on_ok_weaker c.add_fields.result
    (λ takes. takes_as (IsFieldIn h t k (map (λ f. f.0) c.in-Some.entry.now)) (IsFieldOf h c.args.config.now t k) c.args.found.now.items c.add_fields.new.found.items
    (λ m is. record { item = is.field; there = field_named c.args.config.now t k is.field c.in-Some.entry.now (sym c.in-Some.ensures.entry) is.there; is = is.is }) takes)
    c.add_fields.ensures

pub returns-in-None : goal.returns-in-None
returns-in-None c =
    let h = c.args.here.now in
    let t = c.args.table.now in
    let k = c.args.key.now in
    takes_none (IsFieldOf h c.args.config.now t k) c.args.found.now.items (λ m is. no_field c.args.config.now t k is.field (sym c.in-None.ensures.entry) is.there)
