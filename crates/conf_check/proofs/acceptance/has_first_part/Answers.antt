use Rattle.std.proofs.Common.{◌≤◌, ◌<◌, length, refl, ◌∙◌, subst, arith}
use Rattle.std.proofs.lemmas.Bool.{false≢true}
use Rattle.std.proofs.lemmas.Str.Pattern.{starts_text}
use Rattle.conf_doc.specs.Pairs.{first_from}
use Rattle.conf_check.proofs.Searches.{part_at, part_nowhere, none_below, none_behind}
use Rattle.conf_check.specs.Wants.{want_of}
use Rattle.conf_check.proofs.acceptance.has_first_part.Goals as goal

pub loop-i-init : goal.loop-i-init
loop-i-init c = λ j key lt at.
    none_below c.args.models.now c.args.table.now (want_of c.args.want.now).target c.args.want.now.text.now c.requires j key
    (subst (λ n. j < n) c.first_from-i.ensures lt) at

pub returns-then-not-starts_with : goal.returns-then-not-starts_with
returns-then-not-starts_with c =
    let ge : c.first_from-i.result ≤ c.loop-i.i = omega arith in
    let from : first_from c.args.want.now.text.now c.args.table.now ≤ c.loop-i.i = subst (λ n. n ≤ c.loop-i.i) c.first_from-i.ensures ge in (
      λ e. absurd (false≢true e),
      λ has. absurd (none_behind c.args.models.now c.args.table.now (want_of c.args.want.now).target c.args.want.now.text.now c.requires
          c.len-i-end.ensures.formed.shaped.rising c.loop-i.i c.name_at-key.result.now from c.name_at-key.ensures
          (λ e. false≢true (starts_text _ _ _ c.if-not-starts_with.ensures.cases ∙ e)) c.loop-i.invariant has),
    )

pub returns-then-is_met : goal.returns-then-is_met
returns-then-is_met c = (
  λ _. part_at c.args.models.now c.args.table.now (want_of c.args.want.now).target c.args.want.now.text.now c.loop-i.i c.name_at-key.result.now c.name_at-key.ensures (c.if-is_met.ensures.0 refl),
  λ _. refl,
)

pub returns : goal.returns
returns c =
    let past : length c.args.table.now ≤ c.loop-i.i = omega (arith, c.len-i-end.ensures.len, c.loop-i-test.false) in (
      λ e. absurd (false≢true e),
      λ has. absurd (part_nowhere c.args.models.now c.args.table.now (want_of c.args.want.now).target c.args.want.now.text.now c.loop-i.i past c.loop-i.invariant has),
    )
