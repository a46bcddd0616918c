use Rattle.std.proofs.Common.{◌≡◌, ◌&&◌, not, ℕ, true, false, List, [], codes, ap, sym, ◌∙◌}
use Rattle.std.specs.Str.{bytes_eq}
use Rattle.yang_text.specs.Declarations.{Declaration, block}
use Rattle.yang_text.specs.Statements.{declaration}
use Rattle.yang_scope.specs.Faults.{least_of}
use Rattle.yang_scope.proofs.Blocks.{block-is}
use Rattle.yang_faults.specs.DefaultFaults.{bad_default_in}
use Rattle.yang_faults.specs.Fields.{is_key_leaf}
use Rattle.yang_faults.proofs.Choices.{taken, true_and_not}
use Rattle.yang_faults.proofs.defaults.note_default_at.Goals as goal

pub returns-in_ok-note_default_in : goal.returns-in_ok-note_default_in
returns-in_ok-note_default_in c = λ known set tests decide.
    let s = c.args.statement.now in
    let faults = bad_default_in c.args.scope.now.names.now tests c.args.scope.now.file c.args.scope.now.number in
    let word : bytes_eq s.keyword (codes "leaf") ≡ true = ap (λ (k : List ℕ). bytes_eq k (codes "leaf")) (sym c.as_str.ensures.text) ∙ sym c.if-eq.ensures in
    let none : is_key_leaf known s.argument ≡ false = sym (c.if-not-is_key_leaf.ensures known set) in
    c.in_ok-note_default_in.ensures tests decide
    ∙ ap (λ (ds : List Declaration). least_of c.args.least.now (faults ds)) (c.items-block.ensures ∙ sym (block-is s))
    ∙ ap (least_of c.args.least.now)
    (taken (bytes_eq s.keyword (codes "leaf") && not (is_key_leaf known s.argument)) (faults (block (declaration s))) [] (true_and_not (bytes_eq s.keyword (codes "leaf")) (is_key_leaf known s.argument) word none))
