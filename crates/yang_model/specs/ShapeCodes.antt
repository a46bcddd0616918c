-- How a shape and the models are told from others: each part has a code.
use Rattle.std.specs.Prelude.{◌≡◌, ℕ, Bool, List, [], ◌∷◌, Option, refl}
use Rattle.std.specs.Coded.{Coded, code_by, coded_ℕ, coded_bool, coded_list, coded_option, coded×}
use Rattle.std.proofs.Common.{ap}
use Rattle.yang_types.specs.declared.types.Ty.{Ty}
use Rattle.yang_types.specs.declared.types.Ty.TheVariants.{Text, Number, Length, Range, Match, OneOf, Truth, Builtin, Ref, Union}
use Rattle.yang_types.specs.Coding.{coded_type}
use Rattle.yang_types.specs.DataType.{DataType, text, number, length_within, value_within, matching, one_of, truth, builtin, leafref, union, types_of, plain_types}
use Rattle.yang_types.specs.DataTypes.{data_type}
use Rattle.xpath_part.specs.Coding.{coded_expression}
use Rattle.xpath_part.specs.Expression.{Expression, or_of, and_of, not_of, alone, equal, differ, count, Term, path, literal, Path, along, Stride, strides, strides_of}
use Rattle.xpath_part.specs.Expressions.{expression, term_of, path_of}
use Rattle.xpath_part.specs.declared.expressions.Expr.{Expr}
use Rattle.xpath_part.specs.declared.expressions.Expr.TheVariants.{Or, And, Not, Alone, Equal, Differ, Count}
use Rattle.xpath_part.specs.declared.expressions.Operand.{Operand}
use Rattle.xpath_part.specs.declared.expressions.Operand.TheVariants.{Walk as Walks, Literal}
use Rattle.xpath_part.specs.declared.expressions.Walk.{Walk}
use Rattle.yang_model.specs.declared.shapes.KeyLeaf.{KeyLeaf}
use Rattle.yang_model.specs.declared.shapes.FieldRule.{FieldRule}
use Rattle.yang_model.specs.declared.shapes.MustRule.{MustRule}
use Rattle.yang_model.specs.declared.shapes.Shape.{Shape}
use Rattle.yang_model.specs.ModelSets.{ModelSet, TableModel}

-- the type that a data type is
abbrev pub ty_of : DataType → Ty
ty_of text = Text
ty_of (number b) = Number b
ty_of (length_within t bs) = Length t bs
ty_of (value_within t bs) = Range t bs
ty_of (matching t p) = Match t p
ty_of (one_of names) = OneOf names
ty_of truth = Truth
ty_of (builtin b) = Builtin b
ty_of (leafref target t) = Ref target t
ty_of (union ts) = Union (plain_types ts)

plain_back : (ts : List DataType) → plain_types (types_of ts) ≡ ts
plain_back [] = refl
plain_back (t ∷ ts) = ap (λ us. t ∷ us) (plain_back ts)

-- and back
pub ty_back : (t : Ty) → ty_of (data_type t) ≡ t
ty_back Text = refl
ty_back (Number b) = refl
ty_back (Length t bs) = refl
ty_back (Range t bs) = refl
ty_back (Match t p) = refl
ty_back (OneOf names) = refl
ty_back Truth = refl
ty_back (Builtin b) = refl
ty_back (Ref target t) = refl
ty_back (Union ts) = ap Union (plain_back ts)

abbrev coded_ty : Coded Ty
coded_ty = code_by DataType coded_type data_type ty_of ty_back

abbrev walk_of : Path → Walk
walk_of (along o ss) = record { origin = o; steps = strides ss }

abbrev operand_of : Term → Operand
operand_of (path p) = Walks (walk_of p)
operand_of (literal s) = Literal s

-- the expression as the code has it
abbrev pub expr_of : Expression → Expr
expr_of (or_of a b) = Or a b
expr_of (and_of a b) = And a b
expr_of (not_of a) = Not a
expr_of (alone t) = Alone (operand_of t)
expr_of (equal l r) = Equal (operand_of l) (operand_of r)
expr_of (differ l r) = Differ (operand_of l) (operand_of r)
expr_of (count p c n) = Count (walk_of p) c n

strides_back : (ss : List Stride) → strides (strides_of ss) ≡ ss
strides_back [] = refl
strides_back (s ∷ ss) = ap (λ us. s ∷ us) (strides_back ss)

walk_back : (w : Walk) → walk_of (path_of w) ≡ w
walk_back w = λ i. record { origin = w.origin; steps = strides_back w.steps i }

operand_back : (o : Operand) → operand_of (term_of o) ≡ o
operand_back (Walks w) = ap Walks (walk_back w)
operand_back (Literal s) = refl

-- and back
pub expr_back : (e : Expr) → expr_of (expression e) ≡ e
expr_back (Or a b) = refl
expr_back (And a b) = refl
expr_back (Not a) = refl
expr_back (Alone t) = ap Alone (operand_back t)
expr_back (Equal l r) = λ i. Equal (operand_back l i) (operand_back r i)
expr_back (Differ l r) = λ i. Differ (operand_back l i) (operand_back r i)
expr_back (Count w c n) = λ i. Count (walk_back w i) c n

abbrev coded_expr : Coded Expr
coded_expr = code_by Expression coded_expression expression expr_of expr_back

abbrev coded_text : Coded (List ℕ)
coded_text = coded_list coded_ℕ

abbrev coded_key : Coded KeyLeaf
coded_key =
    code_by (List ℕ × Ty) (coded× coded_text coded_ty)
    (λ k. (k.name, k.ty))
    (λ p. record { name = p.0; ty = p.1 })
    (λ _. refl)

abbrev coded_field : Coded FieldRule
coded_field =
    code_by (List ℕ × (Ty × (Bool × (Bool × Option (List ℕ)))))
    (coded× coded_text
    (coded× coded_ty (coded× coded_bool (coded× coded_bool (coded_option coded_text)))))
    (λ f. (f.name, (f.ty, (f.list, (f.mandatory, f.default)))))
    (λ p. record {
      name = p.0;
      ty = p.1.0;
      list = p.1.1.0;
      mandatory = p.1.1.1.0;
      default = p.1.1.1.1;
    })
    (λ _. refl)

abbrev coded_must : Coded MustRule
coded_must =
    code_by (Option (List ℕ) × (Expr × List (List ℕ)))
    (coded× (coded_option coded_text) (coded× coded_expr (coded_list coded_text)))
    (λ m. (m.leaf, (m.expr, m.reads)))
    (λ p. record { leaf = p.0; expr = p.1.0; reads = p.1.1 })
    (λ _. refl)

-- the code of a shape
abbrev pub coded_shape : Coded Shape
coded_shape =
    code_by (List ℕ × (Bool × (List KeyLeaf × (List FieldRule × List MustRule))))
    (coded× coded_text (coded× coded_bool (coded× (coded_list coded_key)
    (coded× (coded_list coded_field) (coded_list coded_must)))))
    (λ s. (s.name, (s.fixed, (s.keys, (s.fields, s.musts)))))
    (λ p. record {
      name = p.0;
      fixed = p.1.0;
      keys = p.1.1.0;
      fields = p.1.1.1.0;
      musts = p.1.1.1.1;
    })
    (λ _. refl)

abbrev coded_table : Coded TableModel
coded_table =
    code_by (List ℕ × (ℕ × List Shape))
    (coded× coded_text (coded× coded_ℕ (coded_list coded_shape)))
    (λ t. (t.name, (t.owner, t.shapes)))
    (λ p. record { name = p.0; owner = p.1.0; shapes = p.1.1 })
    (λ _. refl)

-- the code of all models
abbrev pub coded_models : Coded ModelSet
coded_models =
    code_by (List (List ℕ) × List TableModel)
    (coded× (coded_list coded_text) (coded_list coded_table))
    (λ m. (m.modules, m.tables))
    (λ p. record { modules = p.0; tables = p.1 })
    (λ _. refl)
