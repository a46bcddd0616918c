use Rattle.ref_index.proofs.NamedEntries.{none_there}
use Rattle.ref_index.proofs.Walks.{not_so}
use Rattle.ref_index.proofs.entry_names.index_from.Goals as goal

pub returns-then-is_key_at-clause-at : goal.returns-then-is_key_at-clause-at
returns-then-is_key_at-clause-at c = c.is_key_at.ensures.at.0 c.if-is_key_at.true

pub returns-then-is_key_at-2-clause-at : goal.returns-then-is_key_at-2-clause-at
returns-then-is_key_at-2-clause-at c = c.is_key_at-2.ensures.at.0 c.if-is_key_at-2.true

pub returns-then-is_key_at-clause-within : goal.returns-then-is_key_at-clause-within
returns-then-is_key_at-clause-within c = c.is_key_at.ensures.within c.if-is_key_at.true

pub returns-then-is_key_at-clause-small : goal.returns-then-is_key_at-clause-small
returns-then-is_key_at-clause-small c = c.is_key_at.ensures.small c.if-is_key_at.true

pub returns-then-is_key_at-2-clause-within : goal.returns-then-is_key_at-2-clause-within
returns-then-is_key_at-2-clause-within c = c.is_key_at-2.ensures.within c.if-is_key_at-2.true

pub returns-then-is_key_at-2-clause-small : goal.returns-then-is_key_at-2-clause-small
returns-then-is_key_at-2-clause-small c = c.is_key_at-2.ensures.small c.if-is_key_at-2.true

pub returns-clause-at : goal.returns-clause-at
returns-clause-at c =
    none_there c.args.table.now c.args.key.now c.first_from-i.result c.is_key_at.ensures.formed.shaped.rising c.first_from-i.ensures
    (not_so c.is_key_at-2.result c.if-is_key_at-2.false c.is_key_at-2.ensures.at)
