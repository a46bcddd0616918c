use Rattle.std.proofs.Common.{◌<◌, length, sym, subst, arith}
use Rattle.move_extend.proofs.NonemptyNames.{entry_key}
use Rattle.move_extend.proofs.required_values.put_value.Goals as goal

pub new-requires : goal.new-requires
new-requires c =
    let table : 0 < length c.as_str-table.result.now = subst (λ n. 0 < length n) (sym c.as_str-table.ensures.text) c.requires.named.0 in
    let field : 0 < length c.as_str-field.result.now = subst (λ n. 0 < length n) (sym c.as_str-field.ensures.text) c.requires.named.1 in
    let key : 0 < length c.args.key.now = entry_key c.args.cur.now c.args.rule.now.table c.args.key.now c.len-tables.ensures.formed c.requires.entry in
    record { some = omega arith; few = omega arith; named = (table, (key, (field, tt))) }
