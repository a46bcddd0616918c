use Rattle.plan_check.proofs.validity.leads_to_valid.Goals as goal

pub is_valid_there-requires-clause-valid : goal.is_valid_there-requires-clause-valid
is_valid_there-requires-clause-valid c = c.requires.known c.if-is_known.true
