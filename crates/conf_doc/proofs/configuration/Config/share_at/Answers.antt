use Rattle.std.proofs.Common.{sym, ap, subst, ◌∙◌}
use Rattle.conf_doc.specs.Pairs.{put}
use Rattle.conf_doc.specs.WellFormed.{IsConfig}
use Rattle.conf_doc.proofs.Edits.{put_same}
use Rattle.conf_doc.proofs.WellFormed.{named_at}
use Rattle.conf_doc.proofs.configuration.Config.share_at.Goals as goal

pub with-requires : goal.with-requires
with-requires c = named_at c.args.self.now c.args.i _ c.pair_at.ensures.formed.shaped.named c.pair_at.ensures.pair

pub invariant_of-result : goal.invariant_of-result
invariant_of-result c =
    let same = put_same c.args.self.now _ _ _ c.args.i c.pair_at.ensures.formed.shaped.rising c.pair_at.ensures.pair c.in_ok-table-in-Some.ensures.same in
    subst IsConfig (sym (c.in_ok-with-in-Some.ensures ∙ ap (put _ _) c.self.view_is ∙ same)) c.pair_at.ensures.formed

pub returns-in_ok-with-in-Some : goal.returns-in_ok-with-in-Some
returns-in_ok-with-in-Some c = record {
  same =
      c.in_ok-with-in-Some.ensures ∙ ap (put _ _) c.self.view_is
      ∙ put_same c.args.self.now _ _ _ c.args.i c.pair_at.ensures.formed.shaped.rising c.pair_at.ensures.pair c.in_ok-table-in-Some.ensures.same;
}
