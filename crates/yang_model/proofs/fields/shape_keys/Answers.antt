use Rattle.std.proofs.Common.{◌≡◌, ℕ, true, List, [], codes, ap, sym, ◌∙◌}
use Rattle.std.specs.Str.{bytes_eq}
use Rattle.yang_text.specs.Declarations.{block}
use Rattle.yang_text.specs.Statements.{declaration}
use Rattle.yang_scope.proofs.Blocks.{block-is}
use Rattle.yang_faults.specs.Fields.{key_names}
use Rattle.yang_faults.proofs.Choices.{taken}
use Rattle.yang_model.proofs.fields.shape_keys.Goals as goal

pub returns-in_ok-keys : goal.returns-in_ok-keys
returns-in_ok-keys c =
    let s = c.args.shape.now in
    let word : bytes_eq s.keyword (codes "list") ≡ true = ap (λ (k : List ℕ). bytes_eq k (codes "list")) (sym c.as_str.ensures.text) ∙ sym c.if-eq.ensures in
    c.in_ok-keys.ensures
    ∙ ap key_names (c.items.ensures ∙ sym (block-is s))
    ∙ taken (bytes_eq s.keyword (codes "list")) (key_names (block (declaration s))) [] word
