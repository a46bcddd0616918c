use Rattle.std.proofs.Common.{refl}
use Rattle.move_extend.specs.Mentions.{GivesOfEntry}
use Rattle.move_extend.proofs.DistinctLists.{finds_none}
use Rattle.move_extend.proofs.Texts.{mentioned, shaped_entry}
use Rattle.move_extend.proofs.referrers.find_in_mentioning.Goals as goal

pub returns-else-may_mention : goal.returns-else-may_mention
returns-else-may_mention c =
    let change = c.args.change.now in
    let gone = c.args.gone.now in
    finds_none (GivesOfEntry change gone.table.now c.args.table.now c.args.key.now) c.args.found.now.items c.args.found.now.items refl
    (λ x gives.
    let no = c.if-may_mention.false in
    let has = c.may_mention.ensures
    (λ short.
    let shaped = shaped_entry change gone.table.now c.args.table.now c.args.key.now x gives in
    c.requires.short short c.args.key.now shaped.0 shaped.1)
    (mentioned change gone c.args.table.now c.args.key.now c.args.fields.now x c.len-tables.ensures.formed c.requires.entry c.requires.only gives) in
    absurd cc)
