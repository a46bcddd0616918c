-- The models that the statements of some files give (RFC 7950, sections 7.5 to 7.8), where nothing is
-- wrong with them.
use Rattle.std.specs.Prelude.{ℕ, List, [], ◌++◌, not, map, codes, Option, None, option_map, if◌then◌else◌}
use Rattle.std.specs.List.{flat_map}
use Rattle.std.specs.Option.{option_to_list}
use Rattle.yang_text.specs.Declarations.{Declaration, argument, block}
use Rattle.yang_scope.specs.Modules.{Module}
use Rattle.yang_scope.specs.Statements.{is_keyword}
use Rattle.yang_must.specs.Musts.{Must, must_of}
use Rattle.yang_must.specs.Spots.{Spot, shape, leaf, ModelContainer, containers_of, tables_of, shapes_of}
use Rattle.yang_model.specs.Readers.{Readers}
use Rattle.yang_model.specs.Leaves.{name_of, TypeOf, key_leaf, field_at, shape_keys}
use Rattle.yang_model.specs.ModelSets.{ModelSet, TableModel}
use Rattle.yang_model.specs.ShapeCodes.{expr_of}
use Rattle.yang_model.specs.declared.shapes.MustRule.{MustRule}
use Rattle.yang_model.specs.declared.shapes.Shape.{Shape}

-- a must of the leaf of that name, or of the entry
abbrev pub must_rule : Option (List ℕ) → Must → MustRule
must_rule leaf_name must = record {
  leaf = leaf_name;
  expr = expr_of must.expression;
  reads = must.reads;
}

-- a statement at a spot, where it is a must
abbrev pub must_at : List Module → Readers → ℕ → Option (List ℕ) → Spot → Declaration
    → List MustRule
must_at modules readers m leaf_name spot d =
    if is_keyword (codes "must") d
    then option_to_list (option_map (must_rule leaf_name) (must_of readers.read modules m spot d))
    else []

-- the musts of a leaf; other statements have none
abbrev pub leaf_musts : List Module → Readers → ModelContainer → Declaration → Declaration
    → Declaration → List MustRule
leaf_musts modules readers x t s d =
    if is_keyword (codes "leaf") d
    then flat_map (must_at modules readers x.number (argument d) (leaf x.statement t s d)) (block d)
    else []

-- a statement of a list or a fixed container: a must, or a leaf with its musts
abbrev pub musts_at : List Module → Readers → ModelContainer → Declaration → Declaration
    → Declaration → List MustRule
musts_at modules readers x t s d =
    must_at modules readers x.number None (shape x.statement t s) d
    ++ leaf_musts modules readers x t s d

module _ (type_of : TypeOf) where
  -- a list or a fixed container of a table
  abbrev pub shape_model : List Module → Readers → ModelContainer → Declaration → Declaration
      → Shape
  shape_model modules readers x t s = record {
    name = name_of s;
    fixed = not (is_keyword (codes "list") s);
    keys = map (key_leaf type_of modules readers x.number s) (shape_keys s);
    fields = flat_map (field_at type_of modules readers x.number (shape_keys s)) (block s);
    musts = flat_map (musts_at modules readers x t s) (block s);
  }

  -- a table of a module
  abbrev pub table_of : List Module → Readers → ModelContainer → Declaration → TableModel
  table_of modules readers x t = record {
    name = name_of t;
    owner = x.number;
    shapes = map (shape_model modules readers x t) (shapes_of t);
  }

  -- the tables of a container of a module
  abbrev pub tables_in : List Module → Readers → ModelContainer → List TableModel
  tables_in modules readers x = map (table_of modules readers x) (tables_of x.statement)

  -- the models of all modules
  abbrev pub models_of : List Module → Readers → ModelSet
  models_of modules readers = record {
    modules = map (λ m. name_of m.statement) modules;
    tables = flat_map (tables_in modules readers) (containers_of modules);
  }
