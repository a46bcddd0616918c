use Rattle.std.proofs.Common.{Some, map, sym, ap, ◌∙◌, arith}
use Rattle.conf_doc.proofs.Edits.{same_Some}
use Rattle.ref_index.proofs.NamedEntries.{length-map, within}
use Rattle.ref_index.proofs.entry_names.is_key_at.Goals as goal

pub returns-then-i-len-clause-at : goal.returns-then-i-len-clause-at
returns-then-i-len-clause-at c = (
  λ t. absurd (cc),
  λ at.
      let below = within (map (λ e. e.0) c.args.table.now) c.args.i c.args.key.now at in
      let long = length-map (λ e. e.0) c.args.table.now in
      let len = c.len.ensures.len in
      let past = c.if-i-len.true in
      absurd (omega (arith, below, long, len, past)),
)

pub returns-clause-at : goal.returns-clause-at
returns-clause-at c = (
  λ t. c.name_at.ensures ∙ ap Some (c.is_same_name.ensures.0 t),
  λ at. c.is_same_name.ensures.1 (same_Some c.name_at.result.now c.args.key.now (sym c.name_at.ensures ∙ at)),
)

pub returns-clause-within : goal.returns-clause-within
returns-clause-within c = λ t.
    let len = c.len.ensures.len in
    let below = c.if-i-len.false in
    omega (arith, len, below)
