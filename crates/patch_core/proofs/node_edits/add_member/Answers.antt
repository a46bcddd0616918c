use Rattle.std.specs.Prelude.{◌≡◌, ℕ, List, Some, None}
use Rattle.std.proofs.Common.{refl, sym, ap, ◌∙◌, length}
use Rattle.conf_doc.specs.Document.{Document}
use Rattle.conf_doc.specs.Pairs.{find, put}
use Rattle.conf_doc.specs.Trees.{document}
use Rattle.patch_core.proofs.EditMeasures.{measured_added_there, measured_added_new}
use Rattle.patch_core.proofs.Nodes.{with_new_member, ok_of, of_pairs}
use Rattle.patch_core.proofs.node_edits.add_member.Goals as goal

-- what was set where nothing was put
set_anew : {T : Type 0} (document : T → Document) {name token : List ℕ} {there value : T} {ms ns es : List (List ℕ × Document)} → es ≡ put name (document there) ns → name ≡ token → there ≡ value → ns ≡ ms → es ≡ put token (document value) ms
set_anew document set named is before = set ∙ rw (named, is, before) refl

pub returns-in-Ok : goal.returns-in-Ok
returns-in-Ok c =
    let after : c.replace.new.self ≡ put c.args.token.now (document c.args.value) c.args.members = c.in-Ok.ensures.put ∙ ap (λ (n : List ℕ). put n (document c.args.value) c.args.members) c.as_str.ensures.text in
    let there : find c.args.token.now c.args.members ≡ Some (document c.in-Ok.out) = ap (λ (n : List ℕ). find n c.args.members) (sym c.as_str.ensures.text) ∙ c.in-Ok.ensures.taken in
    record {
      left = with_new_member c.args.token.now (document c.args.value) c.args.members ∙ ap (λ (ms : List (List ℕ × Document)). ok_of (of_pairs ms)) (sym after);
      measured = measured_added_there c.args.token.now c.args.value c.in-Ok.out c.args.members c.replace.new.self c.replace.ensures.rising there after;
    }

pub returns-in-Ok-set : goal.returns-in-Ok-set
returns-in-Ok-set c =
    let after = set_anew document c.in-Ok-set.ensures.ok (c.in-Ok-new.ensures ∙ c.as_str-in-Err.ensures.text) c.in-Err.ensures.absent.0 c.in-Err.ensures.err in
    let none : find c.args.token.now c.args.members ≡ None = ap (λ (n : List ℕ). find n c.args.members) (sym c.as_str.ensures.text) ∙ c.in-Err.ensures.absent.1 in
    record {
      left = with_new_member c.args.token.now (document c.args.value) c.args.members ∙ ap (λ (ms : List (List ℕ × Document)). ok_of (of_pairs ms)) (sym after);
      measured = measured_added_new c.args.token.now c.args.value c.args.members c.set.new.self _ (ap length c.as_str-in-Ok-set.ensures.text) none after;
    }
