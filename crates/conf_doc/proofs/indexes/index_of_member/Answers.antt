use Rattle.std.proofs.Common.{rules}
use Rattle.std.proofs.lemmas.Fn.{always_returns_same}
use Rattle.host_core.specs.Names.{name_cmp}
use Rattle.conf_doc.proofs.Searches.{searched}
use Rattle.conf_doc.specs.Trees.{named_document}
use Rattle.conf_doc.proofs.indexes.index_of_member.Goals as goal

-- the closure compares a pair's name with the name
pub returns-clause-found : goal.returns-clause-found
returns-clause-found c =
    let facts = c.binary_search_by.ensures in
    let by_name = facts.position (λ p. name_cmp p.0 c.args.name.now) (always_returns_same _ _ _ (λ a r h called. search rules)) in
    (searched named_document _ c.args.name.now _ c.requires facts.bound by_name).0

pub returns-clause-absent : goal.returns-clause-absent
returns-clause-absent c =
    let facts = c.binary_search_by.ensures in
    let by_name = facts.position (λ p. name_cmp p.0 c.args.name.now) (always_returns_same _ _ _ (λ a r h called. search rules)) in
    (searched named_document _ c.args.name.now _ c.requires facts.bound by_name).1
