use Rattle.std.proofs.Common.{sym, ap, ◌++◌, ◌∙◌, append-nil, subst}
use Rattle.std.specs.List.Sorted.{IsStrictlySortedBy}
use Rattle.std.specs.Map.{keys_of}
use Rattle.std.specs.String.{string_cmp}
use Rattle.conf_doc.proofs.reading.listed.Goals as goal

pub returns-clause-members : goal.returns-clause-members
returns-clause-members c = sym (append-nil _) ∙ ap (λ es. c.loop-member.members.items ++ es) (sym c.in-None.ensures.steps.0) ∙ c.loop-member.invariant

pub returns-clause-rising : goal.returns-clause-rising
returns-clause-rising c =
    let all = sym (append-nil _) ∙ ap (λ es. c.loop-member.members.items ++ es) (sym c.in-None.ensures.steps.0) ∙ c.loop-member.invariant in
    subst (λ es. IsStrictlySortedBy string_cmp (keys_of es)) (sym all) c.into_iter-member-iterator.ensures.into_iter_gives.5
