use Rattle.std.proofs.Common.{refl, sym, ap, ◌∙◌, arith}
use Rattle.std.specs.Prelude.{option_copied}
use Rattle.move_gen.proofs.ListHolders.{none_of_lists}
use Rattle.move_gen.proofs.entries.pass_settled.Goals as goal

pub count_settled-settled-requires-clause-there : goal.count_settled-settled-requires-clause-there
count_settled-settled-requires-clause-there g c = sym c.requires.there ∙ ap option_copied c.in-Some.is

pub returns-in-None-clause-none : goal.returns-in-None-clause-none
returns-in-None-clause-none g c = λ j from before. absurd (omega (arith, from, before))

pub returns-then-holds_no_list-clause-none : goal.returns-then-holds_no_list-clause-none
returns-then-holds_no_list-clause-none g c =
    none_of_lists (g.M.EntryMoves.is_given c.args.moves.now) c.args.name.now c.args.table.now c.args.i c.len-then-holds_no_list.result
    (c.if-is_of_lists.ensures refl) (c.if-holds_no_list.ensures refl)
