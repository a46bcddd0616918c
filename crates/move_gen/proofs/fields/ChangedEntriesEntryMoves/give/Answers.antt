use Rattle.std.proofs.Common.{option_map, option_copied, sym, ap, ◌∙◌}
use Rattle.conf_doc.specs.declared.parts.Part.TheVariants as part
use Rattle.move_gen.specs.Given.{IsChangedEntry, IsOfFields}
use Rattle.move_gen.proofs.ListGrowth.{gives_alike}
use Rattle.move_gen.proofs.FieldMoves.{of_entry}
use Rattle.move_gen.proofs.fields.ChangedEntriesEntryMoves.give.Goals as goal

pub returns-in-Some : goal.returns-in-Some
returns-in-Some c =
    let cur = c.args.self.now.cur.now in let t = c.args.table.now in let k = c.args.key.now in let old = c.in-Some.old.now in let new = c.args.entry.now in
    gives_alike (IsOfFields t k old new) (IsChangedEntry cur t k new) c.give_fields.result c.args.out.now.items c.give_fields.new.out.items
    (λ g. of_entry cur t k old new g (ap (λ o. option_map part.Entry (option_copied o)) (sym c.in-Some.is) ∙ c.requires.there)) c.give_fields.ensures
