use Rattle.std.proofs.Common.{◌≡◌, Some, map, slice_get, inl, inr, subst, sym}
use Rattle.recheck.proofs.Pairs.{pair_at}
use Rattle.recheck.proofs.agreements.tables_agree.Goals as goal

pub returns-then-is_same_name : goal.returns-then-is_same_name
returns-then-is_same_name c = λ t. record {
  name = c.name_at-name.result.now;
  one = c.part_at-one.result.now;
  other = c.part_at-other.result.now;
  at_first = pair_at c.args.first.now c.args.i c.name_at-name.result.now c.part_at-one.result.now c.name_at-name.ensures c.part_at-one.ensures.part;
  at_second = pair_at c.args.second.now c.args.i c.name_at-name.result.now c.part_at-other.result.now
      (subst (λ n. slice_get (map (λ p. p.0) c.args.second.now) c.args.i ≡ Some n) (sym (c.is_same_name.ensures.0 c.if-not-is_same_name.false)) c.name_at.ensures)
      c.part_at-other.ensures.part;
  agree = inr (c.is_same_name-2.ensures.0 c.if-is_same_name.true, c.entries_agree.ensures t);
}

pub returns : goal.returns
returns c = λ t. record {
  name = c.name_at-name.result.now;
  one = c.part_at-one.result.now;
  other = c.part_at-other.result.now;
  at_first = pair_at c.args.first.now c.args.i c.name_at-name.result.now c.part_at-one.result.now c.name_at-name.ensures c.part_at-one.ensures.part;
  at_second = pair_at c.args.second.now c.args.i c.name_at-name.result.now c.part_at-other.result.now
      (subst (λ n. slice_get (map (λ p. p.0) c.args.second.now) c.args.i ≡ Some n) (sym (c.is_same_name.ensures.0 c.if-not-is_same_name.false)) c.name_at.ensures)
      c.part_at-other.ensures.part;
  agree = inl (c.same.ensures.0 t);
}
