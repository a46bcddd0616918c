use Rattle.std.specs.Prelude.{ℕ, List}
use Rattle.std.proofs.Common.{sym, ap, ◌∙◌}
use Rattle.conf_doc.specs.Pairs.{find, put}
use Rattle.patch_core.specs.declared.errors.FailWhy.TheVariants.{NoParent}
use Rattle.conf_doc.specs.Trees.{document}
use Rattle.patch_core.proofs.Nodes.{below_member, below_no_member}
use Rattle.patch_core.proofs.Openings.{gap_of_member}
use Rattle.patch_core.proofs.gaps.open_member.Goals as goal

pub returns-in-Ok-clause-child : goal.returns-in-Ok-clause-child
returns-in-Ok-clause-child c = below_member NoParent c.args.token.now c.args.members _ (ap (λ (n : List ℕ). find n c.args.members) (sym c.as_str.ensures.text) ∙ c.in-Ok.ensures.taken)

pub returns-in-Ok-clause-gap : goal.returns-in-Ok-clause-gap
returns-in-Ok-clause-gap c = gap_of_member c.args.token.now c.args.members c.replace.new.self (document c.hole.result) (document c.in-Ok.child) (c.in-Ok.ensures.put ∙ ap (λ (n : List ℕ). put n (document c.hole.result) c.args.members) c.as_str.ensures.text) c.replace.ensures.rising (ap (λ (n : List ℕ). find n c.args.members) (sym c.as_str.ensures.text) ∙ c.in-Ok.ensures.taken)

pub returns-in-Err-clause-child : goal.returns-in-Err-clause-child
returns-in-Err-clause-child c = below_no_member NoParent c.args.token.now c.args.members (ap (λ (n : List ℕ). find n c.args.members) (sym c.as_str.ensures.text) ∙ c.in-Err.ensures.absent.1)
