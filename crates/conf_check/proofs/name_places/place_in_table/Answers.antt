use Rattle.std.proofs.Common.{◌≤◌, length, sym, ◌∙◌, arith}
use Rattle.std.proofs.lemmas.Bool.{false≢true}
use Rattle.std.proofs.lemmas.Slice.Eq.{bytes_eq-Decides}
use Rattle.conf_check.proofs.NamePlaces.{here_found, other_absent, past_absent}
use Rattle.conf_check.proofs.name_places.place_in_table.Goals as goal
use Rattle.conf_check.proofs.name_places.place_in_table.Goals.{else-i-len-via-then-i-len+else-eq, else-i-len-via-else-i-len}

pub returns-then-eq : goal.returns-then-eq
returns-then-eq c =
    here_found c.args.key.now c.args.table.now c.first_from-i.result c.name_at.result.now c.first_from-i.ensures c.name_at.ensures
    ((bytes_eq-Decides c.name_at.result.now c.args.key.now).0 (sym c.eq.ensures ∙ c.if-eq.true))

pub returns-else-i-len : goal.returns-else-i-len
returns-else-i-len c =
    elim c.else-i-len.branch [
      | else-i-len-via-then-i-len+else-eq w ↦
          other_absent c.args.key.now c.args.table.now c.first_from-i.result w.name_at.result.now c.first_from-i.ensures
          c.len.ensures.formed.shaped.rising w.name_at.ensures
          (λ same. false≢true (sym w.if-eq.false ∙ w.eq.ensures ∙ (bytes_eq-Decides w.name_at.result.now c.args.key.now).1 same))
      | else-i-len-via-else-i-len w ↦
          let past : length c.args.table.now ≤ c.first_from-i.result = omega (arith, c.len.ensures.len, w.if-i-len.false) in
          past_absent c.args.key.now c.args.table.now c.first_from-i.result c.first_from-i.ensures past
    ]
