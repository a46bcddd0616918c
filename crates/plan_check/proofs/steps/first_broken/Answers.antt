use Rattle.plan_check.proofs.Tests.{failed}
use Rattle.plan_check.proofs.steps.first_broken.Goals as goal

pub returns-then-not-has_no_dependency : goal.returns-then-not-has_no_dependency
returns-then-not-has_no_dependency c = (
  failed c.if-same.ensures.1,
  c.leads_to_valid.ensures.0 c.if-not-leads_to_valid.false,
  failed c.if-not-has_no_dependency.ensures.1,
)

pub returns-then-not-empties_none : goal.returns-then-not-empties_none
returns-then-not-empties_none c = (
  failed c.if-same.ensures.1,
  c.leads_to_valid.ensures.0 c.if-not-leads_to_valid.false,
  c.has_no_dependency.ensures.0 c.if-not-has_no_dependency.false,
  failed c.if-not-empties_none.ensures.1,
)

pub returns-then-not-keeps_create_only : goal.returns-then-not-keeps_create_only
returns-then-not-keeps_create_only c = (
  failed c.if-same.ensures.1,
  c.leads_to_valid.ensures.0 c.if-not-leads_to_valid.false,
  c.has_no_dependency.ensures.0 c.if-not-has_no_dependency.false,
  c.empties_none.ensures.0 c.if-not-empties_none.false,
  failed c.if-not-keeps_create_only.ensures.1,
)

pub returns-then-not-keeps_required : goal.returns-then-not-keeps_required
returns-then-not-keeps_required c = (
  failed c.if-same.ensures.1,
  c.leads_to_valid.ensures.0 c.if-not-leads_to_valid.false,
  c.has_no_dependency.ensures.0 c.if-not-has_no_dependency.false,
  c.empties_none.ensures.0 c.if-not-empties_none.false,
  c.keeps_create_only.ensures.0 c.if-not-keeps_create_only.false,
  failed c.if-not-keeps_required.ensures.1,
)

pub returns : goal.returns
returns c = (
  failed c.if-same.ensures.1,
  record {
    full = c.leads_to_valid.ensures.0 c.if-not-leads_to_valid.false;
    no_dependency = c.has_no_dependency.ensures.0 c.if-not-has_no_dependency.false;
    no_empty = c.empties_none.ensures.0 c.if-not-empties_none.false;
    create_only = c.keeps_create_only.ensures.0 c.if-not-keeps_create_only.false;
    required = c.keeps_required.ensures.0 c.if-not-keeps_required.false;
  },
)
