use Rattle.std.specs.Prelude.{◌≡◌, ℕ, List, Some, None}
use Rattle.std.proofs.Common.{sym, ap, ◌∙◌, length}
use Rattle.conf_doc.specs.Document.{object, members_of}
use Rattle.conf_doc.specs.Pairs.{find, without}
use Rattle.conf_doc.specs.Trees.{document}
use Rattle.patch_core.specs.declared.errors.FailWhy.TheVariants.{NoTarget}
use Rattle.patch_core.proofs.EditMeasures.{measured_removed_member}
use Rattle.patch_core.proofs.Nodes.{below_member, below_no_member, cut_member, removed_there, removed_fails, of_pairs}
use Rattle.patch_core.proofs.node_edits.remove_member.Goals as goal

pub returns-in-Some-clause-left : goal.returns-in-Some-clause-left
returns-in-Some-clause-left c =
    let there : find c.args.token.now c.args.members ≡ Some (document c.in-Some.out) = ap (λ (n : List ℕ). find n c.args.members) (sym c.as_str.ensures.text) ∙ sym c.in-Some.ensures.taken in
    let rest : without c.args.token.now c.args.members ≡ c.take.new.self = ap (λ (n : List ℕ). without n c.args.members) (sym c.as_str.ensures.text) ∙ sym c.take.ensures.rest in
    removed_there c.args.token.now (object (members_of c.args.members)) _ _ (below_member NoTarget c.args.token.now c.args.members _ there) (cut_member c.args.token.now c.args.members ∙ ap of_pairs rest)

pub returns-in-Some-clause-taken : goal.returns-in-Some-clause-taken
returns-in-Some-clause-taken c =
    let there : find c.args.token.now c.args.members ≡ Some (document c.in-Some.out) = ap (λ (n : List ℕ). find n c.args.members) (sym c.as_str.ensures.text) ∙ sym c.in-Some.ensures.taken in
    below_member NoTarget c.args.token.now c.args.members _ there

pub returns-in-None-clause-left : goal.returns-in-None-clause-left
returns-in-None-clause-left c =
    let none : find c.args.token.now c.args.members ≡ None = ap (λ (n : List ℕ). find n c.args.members) (sym c.as_str.ensures.text) ∙ sym c.in-None.ensures.taken in
    removed_fails c.args.token.now (object (members_of c.args.members)) NoTarget (below_no_member NoTarget c.args.token.now c.args.members none)

pub returns-in-Some-clause-measured : goal.returns-in-Some-clause-measured
returns-in-Some-clause-measured c =
    let there : find c.args.token.now c.args.members ≡ Some (document c.in-Some.out) = ap (λ (n : List ℕ). find n c.args.members) (sym c.as_str.ensures.text) ∙ sym c.in-Some.ensures.taken in
    let rest : c.take.new.self ≡ without c.args.token.now c.args.members = c.take.ensures.rest ∙ ap (λ (n : List ℕ). without n c.args.members) c.as_str.ensures.text in
    measured_removed_member c.args.token.now c.in-Some.out c.args.members c.take.new.self _ (ap length c.as_str-in-Some.ensures.text) c.take.ensures.rising there rest
