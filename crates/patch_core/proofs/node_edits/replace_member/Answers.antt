use Rattle.std.specs.Prelude.{◌≡◌, ℕ, List, Some, None}
use Rattle.std.proofs.Common.{sym, ap, ◌∙◌}
use Rattle.conf_doc.specs.Document.{object, members_of}
use Rattle.conf_doc.specs.Pairs.{find, put}
use Rattle.conf_doc.specs.Trees.{document}
use Rattle.patch_core.specs.declared.errors.FailWhy.TheVariants.{NoTarget}
use Rattle.patch_core.proofs.EditMeasures.{measured_replaced_member}
use Rattle.patch_core.proofs.Nodes.{below_member, below_no_member, with_below_member, replaced_there, replaced_fails, of_pairs}
use Rattle.patch_core.proofs.node_edits.replace_member.Goals as goal

pub returns-in-Ok-clause-left : goal.returns-in-Ok-clause-left
returns-in-Ok-clause-left c =
    let there : find c.args.token.now c.args.members ≡ Some (document c.in-Ok.out) = ap (λ (n : List ℕ). find n c.args.members) (sym c.as_str.ensures.text) ∙ c.in-Ok.ensures.taken in
    let after : put c.args.token.now (document c.args.value) c.args.members ≡ c.replace.new.self = ap (λ (n : List ℕ). put n (document c.args.value) c.args.members) (sym c.as_str.ensures.text) ∙ sym c.in-Ok.ensures.put in
    replaced_there c.args.token.now (document c.args.value) (object (members_of c.args.members)) _ _ (below_member NoTarget c.args.token.now c.args.members _ there) (with_below_member c.args.token.now (document c.args.value) c.args.members ∙ ap of_pairs after)

pub returns-in-Ok-clause-taken : goal.returns-in-Ok-clause-taken
returns-in-Ok-clause-taken c =
    let there : find c.args.token.now c.args.members ≡ Some (document c.in-Ok.out) = ap (λ (n : List ℕ). find n c.args.members) (sym c.as_str.ensures.text) ∙ c.in-Ok.ensures.taken in
    below_member NoTarget c.args.token.now c.args.members _ there

pub returns-in-Err-clause-left : goal.returns-in-Err-clause-left
returns-in-Err-clause-left c =
    let none : find c.args.token.now c.args.members ≡ None = ap (λ (n : List ℕ). find n c.args.members) (sym c.as_str.ensures.text) ∙ c.in-Err.ensures.absent.1 in
    replaced_fails c.args.token.now (document c.args.value) (object (members_of c.args.members)) NoTarget (below_no_member NoTarget c.args.token.now c.args.members none)

pub returns-in-Ok-clause-measured : goal.returns-in-Ok-clause-measured
returns-in-Ok-clause-measured c =
    let there : find c.args.token.now c.args.members ≡ Some (document c.in-Ok.out) = ap (λ (n : List ℕ). find n c.args.members) (sym c.as_str.ensures.text) ∙ c.in-Ok.ensures.taken in
    let after : c.replace.new.self ≡ put c.args.token.now (document c.args.value) c.args.members = c.in-Ok.ensures.put ∙ ap (λ (n : List ℕ). put n (document c.args.value) c.args.members) c.as_str.ensures.text in
    measured_replaced_member c.args.token.now c.args.value c.in-Ok.out c.args.members c.replace.new.self c.replace.ensures.rising there after
