use Rattle.std.proofs.Common.{◌+◌, List, Vec, Global, sym, subst, take}
use Rattle.conf_check.specs.declared.want_iter.WantAt.{WantAt}
use Rattle.ref_index.specs.EntryNames.{AddsLacking}
use Rattle.ref_index.proofs.Collecting.{lacking_added, lacking_kept, lacking_none}
use Rattle.ref_index.proofs.SameListed.{no_want}
use Rattle.ref_index.proofs.differences.add_lacking.Goals as goal
use Rattle.ref_index.proofs.differences.add_lacking.Goals.{in-Some, in-None+in_ok-push-in-None}

pub loop-at-init : goal.loop-at-init
loop-at-init c = lacking_none c.args.others.now c.args.found.now.items

pub loop-at-preserved : goal.loop-at-preserved
loop-at-preserved c =
    let listed = c.args.listed.now in
    let others = c.args.others.now in
    let i = c.loop-at.at-index in
    let Is : List WantAt → Type 0 = λ ws. AddsLacking (take (i + 1) listed) others c.args.found.now.items ws in
    elim c.match-index_from.branch [
      | in-Some w ↦ subst (λ (v : Vec WantAt Global). Is v.items) (sym w.found-is)
          (lacking_kept listed others c.args.found.now.items c.loop-at.found.items i no_want c.loop-at-test.true c.loop-at.invariant w.in-Some.ensures.same)
      | in-None+in_ok-push-in-None w ↦ subst (λ (v : Vec WantAt Global). Is v.items) (sym w.found-is)
          (lacking_added listed others c.args.found.now.items c.loop-at.found.items i no_want c.loop-at-test.true c.loop-at.invariant
          w.in-None.ensures.same w.push.new.self.items w.in_ok-push-in-None.ensures.items)
    ]
