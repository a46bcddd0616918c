use Rattle.std.proofs.Common.{◌≡◌, Option, Some, None, option_map, Bor, refl, ap, sym, ◌∙◌}
use Rattle.std.specs.Option.{option_copied}
use Rattle.std.specs.Str.{bytes_eq}
use Rattle.yang_text.specs.Declarations.{keyword}
use Rattle.yang_text.specs.Statements.{declaration}
use Rattle.yang_text.specs.declared.statements.Statement.{Statement}
use Rattle.yang_scope.proofs.Blocks.{find-map}
use Rattle.yang_faults.proofs.fields.first_of.Goals as goal

behind : (o : Option (Bor Statement)) → option_map (λ s. declaration s.now) o ≡ option_map declaration (option_copied o)
behind None = refl
behind (Some s) = refl

pub returns : goal.returns
returns c =
    behind c.first_statement.result
    ∙ ap (option_map declaration) c.first_statement.ensures
    ∙ sym (find-map declaration (λ d. bytes_eq (keyword d) c.args.name.now) c.args.statements.now)
