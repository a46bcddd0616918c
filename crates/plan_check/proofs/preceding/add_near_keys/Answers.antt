use Rattle.std.proofs.Common.{◌≡◌, Some, slice_get, sym, ap, ◌∙◌}
use Rattle.std.proofs.lemmas.Result.{on_ok_weaker}
use Rattle.conf_check.specs.Acceptance.{keys_of}
use Rattle.move_core.specs.Moves.{place}
use Rattle.plan_check.specs.Nearby.{IsAtKey, IsInKeys}
use Rattle.plan_check.proofs.Loops.{not_so}
use Rattle.plan_check.proofs.NearKeys.{at_one_key}
use Rattle.plan_check.proofs.Taking.{takes_as}
use Rattle.plan_check.proofs.preceding.add_near_keys.Goals as goal

pub returns : goal.returns
returns c =
    let s = c.args.sought.now in
    let d = c.args.config.now in
    let t = c.args.table.now in
    let k = c.name_at.result.now in
    let old = c.args.found.now.items in
    let new = c.add_key.new.found.items in
    let at : slice_get (place s.mv.now) 1 ≡ Some k = ap (λ p. slice_get p 1) (sym c.place-place.ensures)
    ∙ c.name_at.ensures.name in
    on_ok_weaker c.add_key.result
    (λ takes. takes_as (IsAtKey s d t k) (IsInKeys s d t (keys_of t d)) old new
    (at_one_key s c.requires.wants d t k at (not_so c.has_wanted.result c.has_wanted.ensures.1 c.if-has_wanted.false)
    (not_so c.has_requiring.result c.has_requiring.ensures.1 c.if-has_requiring.false)) takes)
    c.add_key.ensures
