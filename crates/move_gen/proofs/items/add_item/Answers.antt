use Rattle.std.proofs.Common.{◌≡◌, refl, subst}
use Rattle.move_core.specs.Generated.{item_class}
use Rattle.move_core.specs.declared.moves.Move.TheVariants.{AddItem}
use Rattle.move_gen.specs.Given.{own_move}
use Rattle.move_gen.specs.Giving.{Gives}
use Rattle.move_gen.specs.ItemsGiven.{IsAddedItem}
use Rattle.move_gen.proofs.ListGrowth.{gives_alike, gives_some, some_none}
use Rattle.move_gen.proofs.ItemMoves.{of_item}
use Rattle.move_gen.proofs.items.add_item.Goals as goal

pub returns-in_err-place-in-Some : goal.returns-in_err-place-in-Some
returns-in_err-place-in-Some c =
    let Is = IsAddedItem c.args.old.now c.args.new.now c.args.place.now c.args.i in
    let out = c.args.out.now.items in
    gives_some Is c.from_residual.result out out c.from_residual.ensures.0 (some_none Is out out refl)

pub returns-in_err-text-in-Some : goal.returns-in_err-text-in-Some
returns-in_err-text-in-Some c =
    let Is = IsAddedItem c.args.old.now c.args.new.now c.args.place.now c.args.i in
    let out = c.args.out.now.items in
    gives_some Is c.from_residual-in_err-text-in-Some.result out out c.from_residual-in_err-text-in-Some.ensures.0 (some_none Is out out refl)

pub returns-in_ok-text-in-Some : goal.returns-in_ok-text-in-Some
returns-in_ok-text-in-Some c =
    let old = c.args.old.now in let new = c.args.new.now in let p = c.args.place.now in let i = c.args.i in
    let x = c.in-Some.item.now in
    let out = c.args.out.now.items in let more = c.give_own.new.out.items in
    gives_alike (λ g. g ≡ own_move (AddItem p i x) item_class) (IsAddedItem old new p i) c.give_own.result out more (of_item old new p i x c.in-Some.ensures)
    (subst (λ m. Gives (λ g. g ≡ own_move m item_class) c.give_own.result out more)
    (λ j. AddItem (c.in_ok-place-in-Some.ensures j) i (c.in_ok-text-in-Some.ensures j)) c.give_own.ensures)
