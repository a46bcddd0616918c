use Rattle.std.proofs.Common.{inl, inr}
use Rattle.conf_check.proofs.EqualItems.{parted_at, joined_at, left_over}
use Rattle.conf_check.proofs.equal_items.has_equal_in_groups.Goals as goal

pub returns-then-has_equal_pair : goal.returns-then-has_equal_pair
returns-then-has_equal_pair c =
    let all = joined_at c.min.result c.loop-rest.rest.now c.split_at.result.0.now c.split_at.result.1.now c.split_at.ensures.front c.split_at.ensures.back (inl (c.has_equal_pair.ensures.0 c.if-has_equal_pair.true)) in
    (λ _. c.loop-rest.invariant.back all, λ _. cc)

pub returns-then-has_again : goal.returns-then-has_again
returns-then-has_again c =
    let all = joined_at c.min.result c.loop-rest.rest.now c.split_at.result.0.now c.split_at.result.1.now c.split_at.ensures.front c.split_at.ensures.back (inr (inl (c.has_again.ensures.0 c.if-has_again.true))) in
    (λ _. c.loop-rest.invariant.back all, λ _. cc)

pub loop-rest-preserved : goal.loop-rest-preserved
loop-rest-preserved c = record {
  to = λ e. left_over c.has_equal_pair.result c.has_again.result c.split_at.result.0.now c.split_at.result.1.now c.if-has_equal_pair.false c.if-has_again.false c.has_equal_pair.ensures.1 c.has_again.ensures.1
      (parted_at c.min.result c.loop-rest.rest.now c.split_at.result.0.now c.split_at.result.1.now c.split_at.ensures.front c.split_at.ensures.back (c.loop-rest.invariant.to e));
  back = λ e. c.loop-rest.invariant.back
      (joined_at c.min.result c.loop-rest.rest.now c.split_at.result.0.now c.split_at.result.1.now c.split_at.ensures.front c.split_at.ensures.back (inr (inr e)));
}
