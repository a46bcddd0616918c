use Rattle.std.proofs.Common.{◌≡◌, ◌&&◌, not, ℕ, true, false, List, [], codes, map, ap, sym, ◌∙◌}
use Rattle.std.specs.Str.{bytes_eq}
use Rattle.yang_text.specs.Declarations.{Declaration, block_of, declarations}
use Rattle.yang_text.specs.Statements.{declaration}
use Rattle.yang_scope.specs.Faults.{least_of}
use Rattle.yang_faults.specs.Fields.{is_key_leaf, mandatory_default}
use Rattle.yang_faults.proofs.Choices.{taken, true_and_not}
use Rattle.yang_scope.proofs.Blocks.{declarations-block_of}
use Rattle.yang_faults.proofs.fields.note_field.Goals as goal

pub returns-then-not-is_key_leaf : goal.returns-then-not-is_key_leaf
returns-then-not-is_key_leaf c = λ known set.
    let s = c.args.statement.now in
    let word : bytes_eq s.keyword (codes "leaf") ≡ true = ap (λ (k : List ℕ). bytes_eq k (codes "leaf")) (sym c.as_str.ensures.text) ∙ sym c.if-eq.ensures in
    let none : is_key_leaf known s.argument ≡ false = sym (c.if-not-is_key_leaf.ensures known set) in
    let whole : map declaration c.items.result.now ≡ declarations (block_of s.block) = c.items.ensures ∙ sym (declarations-block_of s.block) in
    c.note_mandatory_default.ensures
    ∙ ap (λ (ds : List Declaration). least_of c.args.least.now (mandatory_default c.args.file ds)) whole
    ∙ ap (least_of c.args.least.now)
    (taken (bytes_eq s.keyword (codes "leaf") && not (is_key_leaf known s.argument)) (mandatory_default c.args.file (declarations (block_of s.block))) [] (true_and_not (bytes_eq s.keyword (codes "leaf")) (is_key_leaf known s.argument) word none))
