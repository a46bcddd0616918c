use Rattle.std.proofs.Common.{ap, map, subst, sym, ◌∙◌, refl}
use Rattle.conf_doc.specs.Indexes.{IsAt, IsGap}
use Rattle.conf_doc.specs.Pairs.{IsRising}
use Rattle.conf_doc.specs.Trees.{document, named_document}
use Rattle.conf_doc.proofs.Edits.{insert_seen, name_is, rising_put, rising_seen, set_seen}
use Rattle.conf_doc.proofs.trees.Members.set.Goals as goal

pub invariant_of-self : goal.invariant_of-self
invariant_of-self c =
    let name = name_is named_document _ _ _ _ c.deref.ensures.value c.index_mut.result.now c.in-Ok.ensures.found c.index_mut.ensures.value in
    rising_seen named_document _ _ _ _ c.deref.ensures.value _ (c.index_mut.result.now.0, c.replace.new.dest) c.self.invariant c.in-Ok.ensures.found (λ j. (name j, document c.replace.new.dest))

pub invariant_of-self-in-Err : goal.invariant_of-self-in-Err
invariant_of-self-in-Err c =
    let gap = subst (λ n. IsGap (map named_document c.deref.result.now) n c.in-Err.i) c.as_str.ensures.text c.in-Err.ensures.absent in
    let is = ap (map named_document) c.in_ok-insert-in-Err.ensures.items ∙ insert_seen named_document _ _ _ _ c.deref.ensures.value (document c.args.tree) (c.args.name, c.args.tree) gap refl in
    subst IsRising (sym is) (rising_put _ c.args.name (document c.args.tree) c.self.invariant)

pub returns-in-Ok-clause-ok : goal.returns-in-Ok-clause-ok
returns-in-Ok-clause-ok c =
    let at = subst (λ n. IsAt (map named_document c.deref.result.now) n c.in-Ok.i) c.as_str.ensures.text c.in-Ok.ensures.found in
    let name = name_is named_document _ _ _ _ c.deref.ensures.value c.index_mut.result.now at c.index_mut.ensures.value in
    rw (← c.self.view_is) (set_seen named_document _ _ _ _ c.deref.ensures.value (document c.args.tree) (c.index_mut.result.now.0, c.replace.new.dest) c.self.invariant at (λ j. (name j, ap document c.replace.ensures.after j)))

pub returns-in_ok-insert-in-Err-clause-ok : goal.returns-in_ok-insert-in-Err-clause-ok
returns-in_ok-insert-in-Err-clause-ok c =
    let gap = subst (λ n. IsGap (map named_document c.deref.result.now) n c.in-Err.i) c.as_str.ensures.text c.in-Err.ensures.absent in
    rw (← c.self.view_is) (ap (map named_document) c.in_ok-insert-in-Err.ensures.items ∙ insert_seen named_document _ _ _ _ c.deref.ensures.value (document c.args.tree) (c.args.name, c.args.tree) gap refl)
