use Rattle.std.proofs.Common.{◌≡◌, sym, ◌∙◌}
use Rattle.conf_doc.specs.declared.parts.Part.TheVariants as part
use Rattle.move_core.specs.Generated.{key_class}
use Rattle.move_core.specs.declared.moves.Move.TheVariants.{Remove}
use Rattle.move_gen.specs.Given.{IsRemovedEntry, own_move}
use Rattle.move_gen.proofs.ListGrowth.{appends_none, gives_alike}
use Rattle.move_gen.proofs.KeyMoves.{removed_once}
use Rattle.move_gen.proofs.OwnPlaces.{nothing, something}
use Rattle.move_gen.proofs.keys.RemovedEntriesEntryMoves.give.Goals as goal

pub returns-then-is_some : goal.returns-then-is_some
returns-then-is_some c =
    appends_none (IsRemovedEntry c.args.self.now.goal.now c.args.table.now c.args.key.now c.args._entry.now) c.args.out.now.items
    (λ g is. something part.Entry c.args.there c.is_some.result c.is_some.ensures c.if-is_some.true (c.requires.there ∙ is.0))

pub returns : goal.returns
returns c =
    let goal = c.args.self.now.goal.now in let t = c.args.table.now in let k = c.args.key.now in let e = c.args._entry.now in let p = c.in_ok-path.path in
    gives_alike (λ g. g ≡ own_move (Remove p) key_class) (IsRemovedEntry goal t k e) c.give_own.result c.args.out.now.items c.give_own.new.out.items
    (removed_once goal t k e p (sym c.requires.there ∙ nothing part.Entry c.args.there c.is_some.result c.is_some.ensures c.if-is_some.false) c.in_ok-path.ensures) c.give_own.ensures
