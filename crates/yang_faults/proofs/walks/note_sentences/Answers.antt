use Rattle.std.proofs.Common.{◌≡◌, ap, ◌∙◌, sym, map, List}
use Rattle.yang_text.specs.Declarations.{Declaration, block_of, declarations}
use Rattle.yang_text.specs.Statements.{declaration}
use Rattle.yang_scope.specs.Faults.{least_of}
use Rattle.yang_scope.proofs.Blocks.{declarations-block_of}
use Rattle.yang_faults.specs.Duplicates.{duplicates_in}
use Rattle.yang_faults.specs.Own.{own_faults}
use Rattle.yang_faults.specs.Sentences.{repeated_in, missing_in, bad_argument}
use Rattle.yang_faults.proofs.FaultLists.{least_of-six}
use Rattle.yang_faults.proofs.walks.note_sentences.Goals as goal

pub returns : goal.returns
returns g c = λ tests decide.
    let s = c.args.statement.now in
    let ds = declarations (block_of s.block) in
    let whole : map declaration c.items-block.result.now ≡ ds = c.items-block.ensures ∙ sym (declarations-block_of s.block) in
    least_of-six c.args.least.now c.note_argument.new.least c.note_repeated_in.new.least c.note_missing.new.least c.note_duplicates_in.new.least c.note_own.new.least c.note_named.new.least
    (bad_argument c.args.file c.args.kind s.argument s.line)
    (repeated_in c.args.file c.args.kind ds)
    (missing_in c.args.file c.args.kind s.line ds)
    (duplicates_in c.args.file c.args.kind ds)
    (own_faults (g.S.Scope.knows c.args.scope.now) c.args.file c.args.kind (declaration s))
    (g.S.Scope.named c.args.scope.now tests c.args.kind (declaration s))
    c.note_argument.ensures
    (c.note_repeated_in.ensures ∙ ap (λ (es : List Declaration). least_of c.note_argument.new.least (repeated_in c.args.file c.args.kind es)) whole)
    (c.note_missing.ensures ∙ ap (λ (es : List Declaration). least_of c.note_repeated_in.new.least (missing_in c.args.file c.args.kind s.line es)) whole)
    (c.in_ok-note_duplicates_in.ensures ∙ ap (λ (es : List Declaration). least_of c.note_missing.new.least (duplicates_in c.args.file c.args.kind es)) whole)
    c.in_ok-note_own.ensures
    (c.in_ok-note_named.ensures tests decide)
