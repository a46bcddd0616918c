-- What a text spells, and what is read of it.
use Rattle.std.proofs.Common.{◌≡◌, ℕ, List, Option, Some, None, Result, Ok, Err, IfOk, IfErr, option_and_then, refl, sym, ap, ◌∙◌}
use Rattle.xpath_part.specs.Errors.{IfBad}
use Rattle.xpath_part.specs.Expression.{Expression}
use Rattle.xpath_part.specs.Expressions.{expression}
use Rattle.xpath_part.specs.Grammar.{IsExpression, SpellsNothing}
use Rattle.xpath_part.specs.Lexing.{lex}
use Rattle.xpath_part.specs.Reading.{parse, read_expression}
use Rattle.xpath_part.specs.declared.errors.ExprError.{ExprError}
use Rattle.xpath_part.specs.declared.errors.ExprError.TheVariants.{Bad, Memory}
use Rattle.xpath_part.specs.declared.expressions.Expr.{Expr}
use Rattle.xpath_part.specs.declared.symbols.Token.{Token}
use Rattle.xpath_part.proofs.TokenReadings.{spelled_is_read}
use Rattle.xpath_part.proofs.ReadNesting.{read_is_spelled}

spelled_by : (s : List ℕ) (e : Expression) (ts : Option (List Token)) → lex s ≡ ts → option_and_then parse ts ≡ Some e → IsExpression s e
spelled_by s e None l h = absurd (let no : None ≡ Some e = h in cc)
spelled_by s e (Some ts) l h = (ts, l, read_is_spelled ts e h)

pub text_spells : (s : List ℕ) (e : Expression) → read_expression s ≡ Some e → IsExpression s e
text_spells s e h = spelled_by s e (lex s) refl h

pub spelled_text : (s : List ℕ) (e : Expression) → IsExpression s e → read_expression s ≡ Some e
spelled_text s e h = ap (option_and_then parse) h.1 ∙ spelled_is_read h.0 e h.2

pub ok_spells : (s : List ℕ) (r : Result Expr ExprError) → IfOk r (λ e. read_expression s ≡ Some (expression e)) → IfOk r (λ e. IsExpression s (expression e))
ok_spells s (Ok e) h = text_spells s (expression e) h
ok_spells s (Err e) h = tt

pub bad_spells_nothing : (s : List ℕ) (r : Result Expr ExprError) → IfErr r (λ e. IfBad e (read_expression s ≡ None)) → IfErr r (λ e. IfBad e (SpellsNothing s))
bad_spells_nothing s (Ok e) h = tt
bad_spells_nothing s (Err (Bad at)) h = λ e spelled. absurd (let no : None ≡ Some e = sym h ∙ spelled_text s e spelled in cc)
bad_spells_nothing s (Err Memory) h = tt
