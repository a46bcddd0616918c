use Rattle.std.proofs.Common.{◌++◌, sym, ap, subst, string_bytes, ◌∙◌, append_assoc, append-nil, take_all, arith}
use Rattle.conf_doc.specs.Joined.{ArePlainFields, joined_field, joined_fields}
use Rattle.conf_doc.proofs.Joined.{joined_fields-more, plain_fields-more}
use Rattle.conf_doc.proofs.Lists.{take_more}
use Rattle.conf_doc.proofs.joining.join_fields.Goals as goal

pub loop-i-init : goal.loop-i-init
loop-i-init c = record { text = sym (append-nil _); plain = tt }

pub loop-i-preserved : goal.loop-i-preserved
loop-i-preserved c =
    let field = c.pair_at.result.now in
    let more = take_more c.args.fields.now c.loop-i.i field c.pair_at.ensures in
    let ensures = c.in_ok-join_field.ensures in
    record {
      text =
          ensures.joined ∙ ap (λ t. t ++ joined_field field) c.loop-i.invariant.text
          ∙ append_assoc (string_bytes c.args.joined.now) _ (joined_field field)
          ∙ ap (λ t. string_bytes c.args.joined.now ++ t) (sym (joined_fields-more _ field) ∙ ap joined_fields (sym more));
      plain = subst ArePlainFields (sym more) (plain_fields-more _ field c.loop-i.invariant.plain (ensures.name, ensures.value));
    }

pub returns-clause-joined : goal.returns-clause-joined
returns-clause-joined c =
    let all = take_all c.loop-i.i c.args.fields.now (omega (arith, c.len-i-end.ensures.len, c.loop-i-test.false)) in
    c.loop-i.invariant.text ∙ ap (λ fs. string_bytes c.args.joined.now ++ joined_fields fs) all

pub returns-clause-plain : goal.returns-clause-plain
returns-clause-plain c =
    let all = take_all c.loop-i.i c.args.fields.now (omega (arith, c.len-i-end.ensures.len, c.loop-i-test.false)) in
    subst ArePlainFields all c.loop-i.invariant.plain
