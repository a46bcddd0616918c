use Rattle.std.proofs.Common.{◌∷◌, ◌++◌, ap, ◌∙◌, take_all, arith}
use Rattle.std.proofs.lemmas.Result.{on_ok_weaker}
use Rattle.json.specs.Token.{begin_object}
use Rattle.conf_doc.specs.Tokens.{opened_members}
use Rattle.conf_doc.proofs.Lists.{take_more}
use Rattle.conf_doc.proofs.Tokens.{member_written, members_written}
use Rattle.conf_doc.proofs.writing.write_parts.Goals as goal

pub loop-i-preserved : goal.loop-i-preserved
loop-i-preserved g c =
    member_written g.X.Written.as_document _ _ c.pair_at.result.now _ _ _ (take_more c.args.parts.now c.loop-i.i _ c.pair_at.ensures) c.loop-i.invariant c.in_ok-write_member.ensures

pub returns : goal.returns
returns g c =
    let F = g.X.Written.as_document in
    let all = c.loop-i.invariant ∙ ap (λ ps. c.args.out.now ++ begin_object ∷ opened_members F ps) (take_all _ c.args.parts.now (omega arith)) in
    on_ok_weaker c.token-2.result (λ closed. members_written F _ _ _ _ all closed) c.token-2.ensures.ok
