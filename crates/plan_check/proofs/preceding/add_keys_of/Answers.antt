use Rattle.std.proofs.Common.{ℕ, List, [], map, subst}
use Rattle.std.specs.Option.{option_map_or}
use Rattle.std.proofs.lemmas.Result.{on_ok_weaker}
use Rattle.conf_doc.specs.declared.configuration.Entry.{Entry}
use Rattle.plan_check.specs.Candidates.{Takes}
use Rattle.plan_check.specs.Nearby.{IsInKeys}
use Rattle.plan_check.proofs.Taking.{none_in, takes_none}
use Rattle.plan_check.proofs.preceding.add_keys_of.Goals as goal

pub returns-in-Some : goal.returns-in-Some
returns-in-Some c =
    let s = c.args.sought.now in
    let d = c.args.config.now in
    let t = c.args.table.now in
    on_ok_weaker c.add_keys.result
    (λ takes. subst (λ o. Takes (IsInKeys s d t (option_map_or (map (λ (e : List ℕ × Entry). e.0)) o [])) c.args.found.now.items c.add_keys.new.found.items) c.in-Some.ensures.table takes)
    c.add_keys.ensures

pub returns-in-None : goal.returns-in-None
returns-in-None c =
    let s = c.args.sought.now in
    let d = c.args.config.now in
    let t = c.args.table.now in
    subst (λ o. Takes (IsInKeys s d t (option_map_or (map (λ (e : List ℕ × Entry). e.0)) o [])) c.args.found.now.items c.args.found.now.items) c.in-None.ensures.table
    (takes_none (IsInKeys s d t []) c.args.found.now.items (λ m is. none_in is.item is.there))
