use Rattle.std.proofs.Common.{[], slice_get, refl, sym, ap, ◌∙◌, true≢false}
use Rattle.std.proofs.lemmas.Result.{IfOk-weaker}
use Rattle.move_core.specs.Appends.{Appends}
use Rattle.move_core.specs.Contexts.{rulebook}
use Rattle.move_core.specs.Extensions.{IsReferrer}
use Rattle.move_core.specs.Moves.{place, step}
use Rattle.move_core.specs.Services.{table_of}
use Rattle.move_extend.specs.Referrers.{GivesRemovals}
use Rattle.move_extend.proofs.DistinctLists.{appends_as, appends_found, finds_none}
use Rattle.move_extend.proofs.GoneKeys.{breaks_parts}
use Rattle.move_extend.proofs.Leafrefs.{unreferred}
use Rattle.move_extend.proofs.Removals.{no_removals, referrers}
use Rattle.move_extend.proofs.referrers.removals_of.Goals as goal

pub returns-then-keeps_always : goal.returns-then-keeps_always
returns-then-keeps_always c =
    let cur = c.args.cur.now in
    let m = c.args.mv.now in
    no_removals c.args.ctx.now cur (step cur m) m (table_of (place m)) refl refl
    (c.keeps_always.ensures c.if-keeps_always.true cur) c.new.result c.new.ensures

pub returns-then-not-is_referred : goal.returns-then-not-is_referred
returns-then-not-is_referred c =
    let t = c.table-table.result.now in
    let cur = c.args.cur.now in
    let next = step cur c.args.mv.now in
    let Is = IsReferrer (rulebook c.args.ctx.now) cur c.args.mv.now in
    appends_found Is c.new-then-not-is_referred.result
    (finds_none Is [] c.new-then-not-is_referred.result c.new-then-not-is_referred.ensures
    (λ x referrer.
    unreferred c.args.ctx.now.models cur next t (λ u there may. true≢false (sym (c.is_referred.ensures u there may) ∙ c.if-not-is_referred.true)) x
    ((referrers c.args.ctx.now cur next c.args.mv.now x t refl c.table-table.ensures).1 referrer)))

pub returns-then-keeps_keys : goal.returns-then-keeps_keys
returns-then-keeps_keys c =
    no_removals c.args.ctx.now c.args.cur.now c.in_ok-next.next c.args.mv.now (table_of (place c.args.mv.now)) c.in_ok-next.ensures.step refl
    (c.keeps_keys.ensures c.if-keeps_keys.true) c.new-then-keeps_keys.result c.new-then-keeps_keys.ensures

pub removals_of_key-requires : goal.removals_of_key-requires
removals_of_key-requires c = λ at w wanted broken.
    breaks_parts c.args.ctx.now.models c.args.cur.now c.in_ok-next.next c.args.mv.now c.table-table.result.now c.name_at.result.now c.in_ok-next.ensures.step
    c.table-table.ensures (ap (λ p. slice_get p 1) (sym c.place-place.ensures) ∙ c.name_at.ensures.name) at w wanted broken

pub returns-then-len-gt1 : goal.returns-then-len-gt1
returns-then-len-gt1 c =
    let t = c.table-table.result.now in
    let next = c.in_ok-next.next in
    let Gives = GivesRemovals c.args.ctx.now.models c.args.cur.now next t in
    let Is = IsReferrer (rulebook c.args.ctx.now) c.args.cur.now c.args.mv.now in
    IfOk-weaker c.removals_of_key.result (Appends Gives []) (Appends Is [])
    (λ found gives. appends_as Gives Is [] found
    (λ x. referrers c.args.ctx.now c.args.cur.now next c.args.mv.now x t c.in_ok-next.ensures.step c.table-table.ensures) gives)
    c.removals_of_key.ensures

pub returns : goal.returns
returns c =
    let t = c.table-table.result.now in
    let next = c.in_ok-next.next in
    let Gives = GivesRemovals c.args.ctx.now.models c.args.cur.now next t in
    let Is = IsReferrer (rulebook c.args.ctx.now) c.args.cur.now c.args.mv.now in
    IfOk-weaker c.removals_of_keys.result (Appends Gives []) (Appends Is [])
    (λ found gives. appends_as Gives Is [] found
    (λ x. referrers c.args.ctx.now c.args.cur.now next c.args.mv.now x t c.in_ok-next.ensures.step c.table-table.ensures) gives)
    c.removals_of_keys.ensures
