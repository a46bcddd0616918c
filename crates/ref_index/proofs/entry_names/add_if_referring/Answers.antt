use Rattle.ref_index.proofs.entry_names.add_if_referring.Goals as goal

pub returns-then-not-table_refers : goal.returns-then-not-table_refers
returns-then-not-table_refers c = record { stay = λ t k is. is; all = λ may. absurd (let e = c.table_refers.ensures may in cc) }

pub returns : goal.returns
returns c = let adds = c.in_ok-add_changed_of.ensures in record { stay = adds.stay; all = λ may. adds }
