use Rattle.std.proofs.Common.{[], ◌∷◌, ◌++◌, take, sym, subst, ◌∙◌, true≢false}
use Rattle.std.specs.Option.{option_copied}
use Rattle.move_lists.specs.Leading.{LeadsAmong}
use Rattle.move_lists.proofs.LeadingMoves.{leads_on, now_leads, one_more, still_leads}
use Rattle.move_lists.proofs.offers.leading.Goals as goal
use Rattle.move_lists.proofs.offers.leading.Goals.{then-may_lead+then-not-is_restoring, else-may_lead, else-may_lead-via-then-may_lead+else-not-is_restoring, else-may_lead-via-else-may_lead}

pub loop-generated-preserved : goal.loop-generated-preserved
loop-generated-preserved c =
    let from = c.args.start.now in
    let to = c.args.goal.now in
    let offers = c.args.offers.now in
    let i = c.loop-generated.generated-index in
    let g = c.generated-item.result in
    let before = c.loop-generated.invariant in
    let found = option_copied c.loop-generated.found in
    let more = take i offers ++ g ∷ [] in
    subst (λ l. LeadsAmong from to l (option_copied c.if-may_lead.found)) (sym (one_more offers i g c.loop-generated-test.true c.generated-item.is))
    (elim c.if-may_lead.branch [
      | then-may_lead+then-not-is_restoring w ↦
          subst (λ f. LeadsAmong from to more (option_copied f)) (sym w.found-is)
          (now_leads from to (take i offers) g found before (c.may_lead.ensures.0 w.if-may_lead.true)
          (λ is. true≢false (sym (w.is_restoring.ensures.1 is) ∙ w.if-not-is_restoring.true)))
      | else-may_lead w ↦
          subst (λ f. LeadsAmong from to more (option_copied f)) (sym w.found-is)
          (elim w.else-may_lead.branch [
            | else-may_lead-via-then-may_lead+else-not-is_restoring v ↦
                still_leads from to (take i offers) g found before (v.is_restoring.ensures.0 v.if-not-is_restoring.false)
            | else-may_lead-via-else-may_lead v ↦
                leads_on from to (take i offers) g found before (λ may. true≢false (sym (c.may_lead.ensures.1 may) ∙ v.if-may_lead.false))
          ])
    ])
