-- The derived comparisons are the order of values, entries and tables.
use Rattle.std.proofs.Common.{◌≡◌, refl}
use Rattle.conf_doc.specs.Order.{pairs_cmp}
use Rattle.conf_doc.specs.PartOrder.{value_cmp, entry_cmp, table_cmp}
use Rattle.conf_doc.specs.contracts.configuration.ValueOrd.TheImpl as value_order
use Rattle.conf_doc.specs.contracts.configuration.EntryOrd.TheImpl as entry_order
use Rattle.conf_doc.specs.contracts.configuration.TableOrd.TheImpl as table_order
use Rattle.conf_doc.specs.declared.configuration.Value.{Value}
use Rattle.conf_doc.specs.declared.configuration.Value.TheVariants.{Text, List as Listed}
use Rattle.conf_doc.specs.declared.configuration.Entry.{Entry}
use Rattle.conf_doc.specs.declared.configuration.Table.{Table}

pub value_named : (v w : Value) → (value_order.ghosts).cmp v w ≡ value_cmp v w
value_named (Text s) (Text t) = refl
value_named (Text s) (Listed ts) = refl
value_named (Listed ss) (Text t) = refl
value_named (Listed ss) (Listed ts) = refl

pub entry_named : (e f : Entry) → (entry_order.ghosts).cmp e f ≡ entry_cmp e f
entry_named e f = λ i. pairs_cmp (λ v w. value_named v w i) e f

pub table_named : (t u : Table) → (table_order.ghosts).cmp t u ≡ table_cmp t u
table_named t u = λ i. pairs_cmp (λ e f. entry_named e f i) t u
