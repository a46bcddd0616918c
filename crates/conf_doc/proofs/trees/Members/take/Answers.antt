use Rattle.std.proofs.Common.{sym, ap, ◌∙◌, subst, map}
use Rattle.conf_doc.specs.Pairs.{IsRising}
use Rattle.conf_doc.specs.Trees.{named_document}
use Rattle.conf_doc.proofs.Edits.{none_seen, read_seen, remove_seen, rising_without, without_seen}
use Rattle.conf_doc.proofs.trees.Members.take.Goals as goal

pub invariant_of-self : goal.invariant_of-self
invariant_of-self c =
    let is = ap (map named_document) c.remove.ensures.items ∙ remove_seen named_document _ _ _ _ c.deref.ensures.value c.self.invariant c.in-Ok.ensures.found in
    subst IsRising (sym is) (rising_without _ c.args.name.now c.self.invariant)

pub returns-in-Ok-clause-taken : goal.returns-in-Ok-clause-taken
returns-in-Ok-clause-taken c = rw (← c.self.view_is) (read_seen named_document _ _ _ _ c.deref.ensures.value c.remove.result c.self.invariant c.in-Ok.ensures.found c.remove.ensures.value)

pub returns-in-Ok-clause-rest : goal.returns-in-Ok-clause-rest
returns-in-Ok-clause-rest c = rw (← c.self.view_is) (ap (map named_document) c.remove.ensures.items ∙ remove_seen named_document _ _ _ _ c.deref.ensures.value c.self.invariant c.in-Ok.ensures.found)

pub returns-in-Err-clause-taken : goal.returns-in-Err-clause-taken
returns-in-Err-clause-taken c = rw (← c.self.view_is) (none_seen named_document _ _ _ _ c.deref.ensures.value c.self.invariant c.in-Err.ensures.absent)

pub returns-in-Err-clause-rest : goal.returns-in-Err-clause-rest
returns-in-Err-clause-rest c = rw (← c.self.view_is) (without_seen named_document _ _ _ _ c.deref.ensures.value c.self.invariant c.in-Err.ensures.absent)
