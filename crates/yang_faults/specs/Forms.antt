-- What the argument of each kind of statement is (RFC 7950, section 7, in a profile).
use Rattle.std.specs.Prelude.{ℕ, ◌&&◌, ◌||◌, not, Bool, true, List, codes}
use Rattle.std.specs.Str.{bytes_eq}
use Rattle.yang_scope.specs.Bases.{is_built_in_type}
use Rattle.yang_scope.specs.Identifiers.{is_identifier}
use Rattle.yang_faults.specs.declared.kinds.Kind.{Kind}
use Rattle.yang_faults.specs.declared.kinds.Kind.TheVariants.{File, Module, YangVersion, Word, Prefix, Import, Revision, Typedef, ModuleContainer, TableContainer, TableList, FixedContainer, Key, Leaf, LeafList, Mandatory, Must, Enum, Path, Bounds, Pattern, NamedType, TextType, NumberType, EnumerationType, LeafrefType, UnionType, PlainType, UnknownType}

-- RFC 7950, section 7.1.2
abbrev pub is_version : List ℕ → Bool
is_version s = bytes_eq s (codes "1") || bytes_eq s (codes "1.1")

-- RFC 7950, section 7.6.5
abbrev pub is_truth : List ℕ → Bool
is_truth s = bytes_eq s (codes "true") || bytes_eq s (codes "false")

-- any text where nothing else is said
abbrev pub is_form : Kind → List ℕ → Bool
is_form File s = true
is_form Module s = is_identifier s
is_form YangVersion s = is_version s
is_form Word s = true
is_form Prefix s = is_identifier s
is_form Import s = true
is_form Revision s = true
is_form Typedef s = is_identifier s && not (is_built_in_type s)
is_form ModuleContainer s = is_identifier s
is_form TableContainer s = is_identifier s
is_form TableList s = is_identifier s
is_form FixedContainer s = is_identifier s
is_form Key s = true
is_form Leaf s = is_identifier s
is_form LeafList s = is_identifier s
is_form Mandatory s = is_truth s
is_form Must s = true
is_form Enum s = true
is_form Path s = true
is_form Bounds s = true
is_form Pattern s = true
is_form NamedType s = true
is_form TextType s = true
is_form NumberType s = true
is_form EnumerationType s = true
is_form LeafrefType s = true
is_form UnionType s = true
is_form PlainType s = true
is_form UnknownType s = true
