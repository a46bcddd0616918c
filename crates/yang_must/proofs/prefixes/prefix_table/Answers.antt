use Rattle.std.proofs.Common.{rules, List, subst, sym, ap, ◌∙◌, refl, arith}
use Rattle.yang_text.specs.Statements.{declaration}
use Rattle.yang_scope.specs.Modules.{prefixes_by}
use Rattle.yang_scope.specs.NameTables.{IsTableOf}
use Rattle.yang_scope.specs.Statements.{Entry, each_from}
use Rattle.yang_scope.proofs.Tables.{IsTableOf-element, each_from-map, take_end}
use Rattle.yang_must.proofs.prefixes.prefix_table.Goals as goal

pub loop-place-preserved : goal.loop-place-preserved
loop-place-preserved c =
    IsTableOf-element (λ i s. prefixes_by i (declaration s)) c.push_prefixes.new.table.numbers c.args.statements.now c.loop-place.place c.index-statements-place.result (prefixes_by c.loop-place.place (declaration c.index-statements-place.result))
    (search rules) (search rules) refl
    (c.in_ok-push_prefixes.ensures _ c.loop-place.invariant)

pub returns : goal.returns
returns c =
    subst (λ (es : List Entry). IsTableOf c.loop-place.table.numbers es)
    (ap (each_from (λ i s. prefixes_by i (declaration s)) 0) (take_end c.loop-place.place c.args.statements.now (omega arith) (omega arith)) ∙ sym (each_from-map prefixes_by declaration 0 c.args.statements.now))
    c.loop-place.invariant
