use Rattle.std.proofs.Common.{◌≡◌, ℕ, true, List, [], codes, map, take, take_all, ap, ◌∙◌, sym, subst}
use Rattle.std.specs.List.{flat_map}
use Rattle.std.specs.Str.{bytes_eq}
use Rattle.yang_text.specs.Declarations.{block_of, declarations}
use Rattle.yang_text.specs.Statements.{declaration}
use Rattle.yang_faults.specs.Duplicates.{Given}
use Rattle.yang_faults.specs.Files.{tables_of_container}
use Rattle.yang_faults.specs.NameSets.{NotesGiven}
use Rattle.yang_faults.proofs.Choices.{taken, was_true}
use Rattle.yang_scope.proofs.Blocks.{declarations-block_of}
use Rattle.yang_faults.proofs.NameSequences.{NotesGiven-none, NotesGiven-more}
use Rattle.yang_faults.proofs.files.note_module_tables.Goals as goal

pub loop-inner-init : goal.loop-inner-init
loop-inner-init c = NotesGiven-none c.args.least.now c.args.set.now

pub loop-inner-preserved : goal.loop-inner-preserved
loop-inner-preserved c =
    NotesGiven-more (tables_of_container c.args.file) c.items-inner-items.result.now c.loop-inner.inner-index c.inner-item.result c.loop-inner-test.true c.inner-item.is
    c.args.least.now c.loop-inner.least c.note_container_tables.new.least c.args.set.now c.loop-inner.set c.note_container_tables.new.set
    c.loop-inner.invariant c.in_ok-note_container_tables.ensures

pub returns : goal.returns
returns c =
    let s = c.args.statement.now in
    let give = tables_of_container c.args.file in
    let word : bytes_eq s.keyword (codes "module") ≡ true = ap (λ (k : List ℕ). bytes_eq k (codes "module")) (sym c.as_str.ensures.text) ∙ was_true _ c.if-ne.ensures in
    let whole : map declaration (take c.loop-inner.inner-index c.items-inner-items.result.now) ≡ declarations (block_of s.block) =
    ap (map declaration) (take_all c.loop-inner.inner-index c.items-inner-items.result.now c.loop-inner-test.false) ∙ c.items-inner-items.ensures ∙ sym (declarations-block_of s.block) in
    let P : List Given → Type 0 = λ gs. NotesGiven c.args.least.now c.loop-inner.least c.args.set.now c.loop-inner.set gs in
    subst P (ap (flat_map give) whole ∙ taken (bytes_eq s.keyword (codes "module")) (flat_map give (declarations (block_of s.block))) [] word) c.loop-inner.invariant
