-- The order of values, entries, tables and parts.
use Rattle.std.specs.declared.cmp.Ordering.{Ordering}
use Rattle.std.specs.declared.cmp.Ordering.TheVariants.{Less, Greater}
use Rattle.std.specs.Cmp.Lexicographic.{slice_cmp}
use Rattle.host_core.specs.Names.{name_cmp}
use Rattle.conf_doc.specs.Order.{pairs_cmp}
use Rattle.conf_doc.specs.declared.configuration.Value.{Value}
use Rattle.conf_doc.specs.declared.configuration.Value.TheVariants.{Text, List as Listed}
use Rattle.conf_doc.specs.declared.configuration.Entry.{Entry}
use Rattle.conf_doc.specs.declared.configuration.Table.{Table}
use Rattle.conf_doc.specs.declared.parts.Part.{Part}
use Rattle.conf_doc.specs.declared.parts.Part.TheVariants as part

-- a text is before a list; texts by their bytes, lists item by item, a proper prefix first
abbrev pub value_cmp : Value → Value → Ordering
value_cmp (Text s) (Text t) = name_cmp s t
value_cmp (Text s) (Listed ts) = Less
value_cmp (Listed ss) (Text t) = Greater
value_cmp (Listed ss) (Listed ts) = slice_cmp name_cmp ss ts

-- field by field, the name before its value, a proper prefix first
abbrev pub entry_cmp : Entry → Entry → Ordering
entry_cmp = pairs_cmp value_cmp

-- entry by entry, the key before its entry, a proper prefix first
abbrev pub table_cmp : Table → Table → Ordering
table_cmp = pairs_cmp entry_cmp

-- parts of one kind by the order of that kind; a table is before an entry, and an entry before a value
abbrev pub part_cmp : Part → Part → Ordering
part_cmp (part.Table t) (part.Table u) = table_cmp t u
part_cmp (part.Table t) (part.Entry e) = Less
part_cmp (part.Table t) (part.Value v) = Less
part_cmp (part.Entry e) (part.Table t) = Greater
part_cmp (part.Entry e) (part.Entry f) = entry_cmp e f
part_cmp (part.Entry e) (part.Value v) = Less
part_cmp (part.Value v) (part.Table t) = Greater
part_cmp (part.Value v) (part.Entry e) = Greater
part_cmp (part.Value v) (part.Value w) = value_cmp v w
