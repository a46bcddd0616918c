use Rattle.std.proofs.Common.{◌≡◌, Some, slice_get, subst}
use Rattle.ref_index.specs.Agreements.{AgreeBut}
use Rattle.recheck.proofs.kept.Kept.sole_entry.Goals as goal

pub returns : goal.returns
returns c =
    let table = c.name_at-table.result.now in
    let key = c.name_at-key.result.now in (
      c.if-not-self.false,
      record {
        at_table = subst (λ p. slice_get p 0 ≡ Some table) c.place-place.ensures c.name_at-table.ensures.name;
        at_key = subst (λ p. slice_get p 1 ≡ Some key) c.place-place.ensures c.name_at-key.ensures.name;
        sole = record {
          agree = subst (λ d. AgreeBut d c.args.next.now table key) c.config.ensures (c.agree_but.ensures c.if-not-agree_but.false);
          alone = c.stands_alone.ensures c.if-not-stands_alone.false;
        };
      },
    )
