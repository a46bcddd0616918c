use Rattle.std.specs.Prelude.{ℕ, List}
use Rattle.std.proofs.Common.{sym, ap, ◌∙◌}
use Rattle.conf_doc.specs.Pairs.{find}
use Rattle.patch_core.proofs.Nodes.{below_member, below_no_member}
use Rattle.patch_core.proofs.walks.member_below.Goals as goal

pub returns-in-Some : goal.returns-in-Some
returns-in-Some c = below_member c.args.missing c.args.token.now c.args.members.now _ (ap (λ (n : List ℕ). find n c.args.members.now) (sym c.as_str.ensures.text) ∙ sym c.in-Some.ensures)

pub returns-in-None : goal.returns-in-None
returns-in-None c = below_no_member c.args.missing c.args.token.now c.args.members.now (ap (λ (n : List ℕ). find n c.args.members.now) (sym c.as_str.ensures.text) ∙ sym c.in-None.ensures)
