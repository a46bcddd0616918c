-- What a type statement may hold, and what is wrong with it, by what its name stands for
-- (RFC 7950, section 9).
use Rattle.std.specs.Prelude.{ℕ, List, [], ◌++◌, Option, Some, None}
use Rattle.yang_text.specs.Declarations.{Declaration, argument, block}
use Rattle.yang_scope.specs.Meanings.{type_meaning, base_of}
use Rattle.yang_scope.specs.Modules.{Module}
use Rattle.yang_scope.specs.TypeFaults.{unknown_type, bad_patterns, wrong_paths}
use Rattle.yang_scope.specs.declared.bases.Base.{Base}
use Rattle.yang_scope.specs.declared.bases.Base.TheVariants.{Text, Number, Enumeration, Leafref, Union}
use Rattle.yang_scope.specs.declared.faults.Fault.{Fault}
use Rattle.yang_scope.specs.declared.meanings.Meaning.{Meaning}
use Rattle.yang_scope.specs.declared.meanings.Meaning.TheVariants.{Ends}
use Rattle.yang_values.specs.BoundFaults.{bad_bounds}
use Rattle.yang_values.specs.Circles.{circle}
use Rattle.yang_faults.specs.DefaultFaults.{bad_defaults}
use Rattle.yang_faults.specs.Fields.{key_names}
use Rattle.yang_faults.specs.Tests.{Tests}
use Rattle.yang_faults.specs.declared.kinds.Kind.{Kind}
use Rattle.yang_faults.specs.declared.kinds.Kind.TheVariants.{TableList, FixedContainer, NamedType, TextType, NumberType, EnumerationType, LeafrefType, UnionType, PlainType, UnknownType}

-- a text and a number may be restricted, and nothing else that typedefs lead to
abbrev pub restricted_kind : Base → Kind
restricted_kind Text = TextType
restricted_kind (Number bounds) = NumberType
restricted_kind _ = PlainType

-- a type without a base may hold what a text or a number may
abbrev pub kind_of_base : Option Base → Kind
kind_of_base None = UnknownType
kind_of_base (Some base) = restricted_kind base

-- an enumeration, a leafref and a union hold what they are made of where they are named themselves
abbrev pub type_kind : Meaning → Option Base → Kind
type_kind (Ends Enumeration) base = EnumerationType
type_kind (Ends Leafref) base = LeafrefType
type_kind (Ends Union) base = UnionType
type_kind meaning base = kind_of_base base

-- what kind a statement of a module is by its argument
abbrev pub settle : List Module → ℕ → Kind → Declaration → Kind
settle modules m NamedType d =
    type_kind (type_meaning modules m (argument d)) (base_of modules m (argument d))
settle modules m kind d = kind

-- what is wrong with a type statement of a kind by its name and its restrictions
abbrev pub type_faults : List Module → Tests → ℕ → ℕ → Kind → Declaration → List Fault
type_faults modules tests file m UnknownType d =
    unknown_type modules file m d
    ++ (bad_patterns tests.is_pattern file d ++ bad_bounds modules file m d)
type_faults modules tests file m TextType d =
    bad_patterns tests.is_pattern file d ++ bad_bounds modules file m d
type_faults modules tests file m NumberType d = bad_bounds modules file m d
type_faults modules tests file m LeafrefType d = wrong_paths modules file m d
type_faults modules tests file m kind d = []

-- and by the circle that it is on
abbrev pub all_type_faults : List Module → Tests → ℕ → ℕ → Kind → Declaration → List Fault
all_type_faults modules tests file m kind d =
    circle (tests.is_on_circle modules) file m d ++ type_faults modules tests file m kind d

-- what is wrong with a statement of a module by what the names in it stand for
abbrev pub named_faults : List Module → Tests → ℕ → ℕ → Kind → Declaration → List Fault
named_faults modules tests file m UnknownType d =
    all_type_faults modules tests file m UnknownType d
named_faults modules tests file m TextType d = all_type_faults modules tests file m TextType d
named_faults modules tests file m NumberType d = all_type_faults modules tests file m NumberType d
named_faults modules tests file m EnumerationType d =
    all_type_faults modules tests file m EnumerationType d
named_faults modules tests file m LeafrefType d =
    all_type_faults modules tests file m LeafrefType d
named_faults modules tests file m UnionType d = all_type_faults modules tests file m UnionType d
named_faults modules tests file m PlainType d = all_type_faults modules tests file m PlainType d
named_faults modules tests file m TableList d =
    bad_defaults modules tests file m (key_names (block d)) (block d)
named_faults modules tests file m FixedContainer d =
    bad_defaults modules tests file m [] (block d)
named_faults modules tests file m kind d = []
