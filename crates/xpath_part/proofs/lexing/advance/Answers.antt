use Rattle.std.proofs.Common.{◌≡◌, sym, ◌∙◌}
use Rattle.xpath_part.specs.Lexing.{grow, begin}
use Rattle.xpath_part.specs.declared.lexing.Growth.TheVariants.{Ends}
use Rattle.xpath_part.proofs.Lexemes.{advance_ends}
use Rattle.xpath_part.proofs.lexing.advance.Goals as goal

pub returns-in_ok-begin-in-Ends-clause-ok : goal.returns-in_ok-begin-in-Ends-clause-ok
returns-in_ok-begin-in-Ends-clause-ok c =
    let grown : grow c.args.mode c.args.byte ≡ Ends c.in-Ends.ended = sym c.in_ok-growth.ensures ∙ c.in-Ends.is in
    let begun : c.in_ok-begin-in-Ends.field-0 ≡ begin c.args.byte = c.in_ok-begin-in-Ends.ensures in
    advance_ends c.args.mode c.args.byte c.in-Ends.ended c.args.tokens.now.items c.push_ended.new.tokens.items c.settle.new.tokens.items c.settle.result
    grown c.in_ok-push_ended-in-Ends.ensures
    (rw begun at c.settle.ensures.ok)
