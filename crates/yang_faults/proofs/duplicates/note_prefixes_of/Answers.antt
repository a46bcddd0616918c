use Rattle.std.proofs.Common.{◌≡◌, ℕ, true, List, [], ◌∷◌, codes, map, ap, sym, subst, ◌∙◌}
use Rattle.std.specs.List.{flat_map}
use Rattle.std.specs.Str.{bytes_eq}
use Rattle.yang_text.specs.Declarations.{block_of, declarations}
use Rattle.yang_text.specs.Statements.{declaration}
use Rattle.yang_faults.specs.Duplicates.{Given, given_by}
use Rattle.yang_faults.specs.NameSets.{NotesGiven}
use Rattle.yang_faults.proofs.Choices.{taken, was_true}
use Rattle.yang_scope.proofs.Blocks.{declarations-block_of}
use Rattle.yang_faults.proofs.duplicates.note_prefixes_of.Goals as goal

pub returns : goal.returns
returns c =
    let s = c.args.statement.now in
    let d = declaration s in
    let give = given_by c.args.file (codes "prefix" ∷ []) in
    let word : bytes_eq s.keyword (codes "import") ≡ true = ap (λ (k : List ℕ). bytes_eq k (codes "import")) (sym c.as_str.ensures.text) ∙ was_true _ c.if-ne.ensures in
    let whole : map declaration c.items-block.result.now ≡ declarations (block_of s.block) = c.items-block.ensures ∙ sym (declarations-block_of s.block) in
    let P : List Given → Type 0 = λ gs. NotesGiven c.args.least.now c.note_all_given.new.least c.args.set.now c.note_all_given.new.set gs in
    subst P (ap (flat_map give) whole ∙ taken (bytes_eq s.keyword (codes "import")) (flat_map give (declarations (block_of s.block))) (give d) word) c.in_ok-note_all_given.ensures
