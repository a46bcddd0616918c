use Rattle.std.proofs.Common.{◌≡◌, ◌+◌, ◌∷◌, ◌++◌, drop, map, sym, ap, ◌∙◌, append-nil, append_assoc}
use Rattle.std.proofs.lemmas.List.{at_drop_all, drop_more}
use Rattle.checkpoints.specs.Answers.{numbered_view}
use Rattle.checkpoints.specs.declared.numbering.Numbered.{Numbered}
use Rattle.gcu_output.specs.Lines.{line_feed}
use Rattle.command_answers.specs.PointLines.{named_number, point_lines}
use Rattle.reading_commands.proofs.point_listing.numbers_text.Goals as goal

pub loop-numbered-preserved : goal.loop-numbered-preserved
loop-numbered-preserved c =
    let x = c.numbered-item.result in
    let all = c.args.all.now in
    let i = c.loop-numbered.numbered-index in
    let text = c.loop-numbered.text.items in
    let next : drop i all ≡ x ∷ drop (i + 1) all = drop_more all i x c.loop-numbered-test.true ∙ ap
    (λ (y : Numbered). y ∷ drop (i + 1) all) (sym c.numbered-item.is) in
    let line = append_assoc text (named_number (numbered_view x)) line_feed in
    c.loop-numbered.invariant
    ∙ ap (λ ns. text ++ point_lines (map numbered_view ns)) next
    ∙ sym
    (append_assoc text (named_number (numbered_view x) ++ line_feed)
    (point_lines (map numbered_view (drop (i + 1) all))))
    ∙ ap (λ b. b ++ point_lines (map numbered_view (drop (i + 1) all))) (sym (c.in_ok-push_point.ensures ∙ line))

pub returns : goal.returns
returns c =
    let all = c.args.all.now in
    let text = c.loop-numbered.text.items in
    let i = c.loop-numbered.numbered-index in
    sym (c.loop-numbered.invariant ∙ ap (λ b. text ++ b) (at_drop_all (λ ns. point_lines (map numbered_view ns)) all i
    c.loop-numbered-test.false) ∙ append-nil text)
