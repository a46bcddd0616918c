use Rattle.std.proofs.Common.{refl, sym, ap}
use Rattle.conf_doc.specs.Trees.{document, named_document}
use Rattle.conf_doc.proofs.Edits.{name_is, none_seen, read_seen, rising_seen, set_seen}
use Rattle.conf_doc.proofs.trees.Members.replace.Goals as goal

pub invariant_of-self : goal.invariant_of-self
invariant_of-self c =
    let name = name_is named_document _ _ _ _ c.deref.ensures.value c.index_mut.result.now c.in-Ok.ensures.found c.index_mut.ensures.value in
    rising_seen named_document _ _ _ _ c.deref.ensures.value _ (c.index_mut.result.now.0, c.replace.new.dest) c.self.invariant c.in-Ok.ensures.found (λ j. (name j, document c.replace.new.dest))

pub returns-in-Ok-clause-taken : goal.returns-in-Ok-clause-taken
returns-in-Ok-clause-taken c =
    rw (← c.self.view_is, c.replace.ensures.value) (sym (read_seen named_document _ _ _ _ c.deref.ensures.value c.index_mut.result.now c.self.invariant c.in-Ok.ensures.found c.index_mut.ensures.value))

pub returns-in-Ok-clause-put : goal.returns-in-Ok-clause-put
returns-in-Ok-clause-put c =
    let name = name_is named_document _ _ _ _ c.deref.ensures.value c.index_mut.result.now c.in-Ok.ensures.found c.index_mut.ensures.value in
    rw (← c.self.view_is) (set_seen named_document _ _ _ _ c.deref.ensures.value (document c.args.tree) (c.index_mut.result.now.0, c.replace.new.dest) c.self.invariant c.in-Ok.ensures.found (λ j. (name j, ap document c.replace.ensures.after j)))

pub returns-in-Err-clause-absent : goal.returns-in-Err-clause-absent
returns-in-Err-clause-absent c =
    (refl, rw (← c.self.view_is) (sym (none_seen named_document _ _ _ _ c.deref.ensures.value c.self.invariant c.in-Err.ensures.absent)))
