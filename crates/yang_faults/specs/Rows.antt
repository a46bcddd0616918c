-- The table of statements (RFC 7950, section 7, in a profile).
use Rattle.std.specs.Prelude.{ℕ, Bool, true, false, ◌&&◌, List, [], ◌∷◌, Option, Some, None, codes, if◌then◌else◌}
use Rattle.std.specs.List.{find, list_any}
use Rattle.std.specs.Str.{bytes_eq}
use Rattle.yang_faults.specs.declared.kinds.Kind.{Kind}
use Rattle.yang_faults.specs.declared.kinds.Kind.TheVariants.{File, Module, YangVersion, Word, Prefix, Import, Revision, Typedef, ModuleContainer, TableContainer, TableList, FixedContainer, Key, Leaf, LeafList, Mandatory, Must, Enum, Path, Bounds, Pattern, NamedType, TextType, NumberType, EnumerationType, LeafrefType, UnionType, PlainType, UnknownType}

-- a statement that may stand in another one: its keyword, whether it may stand there once at most,
-- and its kind
pub record Allowed : Type 0 where
  pub keyword : List ℕ
  pub single : Bool
  pub kind : Kind

abbrev any : List ℕ → Kind → Allowed
any keyword kind = record { keyword = keyword; single = false; kind = kind }

abbrev one : List ℕ → Kind → Allowed
one keyword kind = record { keyword = keyword; single = true; kind = kind }

-- what each kind may hold, remarks apart
abbrev pub row : Kind → List Allowed
row File =
    one (codes "module") Module
    ∷ []
row Module =
    one (codes "yang-version") YangVersion
    ∷ one (codes "namespace") Word
    ∷ one (codes "prefix") Prefix
    ∷ any (codes "import") Import
    ∷ any (codes "revision") Revision
    ∷ any (codes "typedef") Typedef
    ∷ one (codes "container") ModuleContainer
    ∷ []
row YangVersion = []
row Word = []
row Prefix = []
row Import =
    one (codes "prefix") Prefix
    ∷ one (codes "revision-date") Word
    ∷ []
row Revision = []
row Typedef =
    one (codes "type") NamedType
    ∷ []
row ModuleContainer =
    any (codes "container") TableContainer
    ∷ []
row TableContainer =
    any (codes "list") TableList
    ∷ any (codes "container") FixedContainer
    ∷ []
row TableList =
    one (codes "key") Key
    ∷ any (codes "leaf") Leaf
    ∷ any (codes "leaf-list") LeafList
    ∷ any (codes "must") Must
    ∷ []
row FixedContainer =
    any (codes "leaf") Leaf
    ∷ any (codes "leaf-list") LeafList
    ∷ any (codes "must") Must
    ∷ []
row Key = []
row Leaf =
    one (codes "type") NamedType
    ∷ one (codes "mandatory") Mandatory
    ∷ one (codes "default") Word
    ∷ any (codes "must") Must
    ∷ []
row LeafList =
    one (codes "type") NamedType
    ∷ []
row Mandatory = []
row Must = []
row Enum =
    one (codes "value") Word
    ∷ []
row Path = []
row Bounds = []
row Pattern = []
row NamedType = []
row TextType =
    one (codes "length") Bounds
    ∷ any (codes "pattern") Pattern
    ∷ []
row NumberType =
    one (codes "range") Bounds
    ∷ []
row EnumerationType =
    any (codes "enum") Enum
    ∷ []
row LeafrefType =
    one (codes "path") Path
    ∷ []
row UnionType =
    any (codes "type") NamedType
    ∷ []
row PlainType = []
row UnknownType =
    one (codes "length") Bounds
    ∷ any (codes "pattern") Pattern
    ∷ one (codes "range") Bounds
    ∷ []

-- the remarks, which are ignored
abbrev pub remarks : List (List ℕ)
remarks =
    codes "description"
    ∷ codes "reference"
    ∷ codes "organization"
    ∷ codes "contact"
    ∷ codes "status"
    ∷ codes "units"
    ∷ codes "ordered-by"
    ∷ codes "error-message"
    ∷ codes "error-app-tag"
    ∷ []

-- a remark's keyword
abbrev pub is_remark : List ℕ → Bool
is_remark keyword = list_any (λ remark. bytes_eq remark keyword) remarks

-- where remarks may stand
abbrev pub holds_remarks : Kind → Bool
holds_remarks File = false
holds_remarks Module = true
holds_remarks YangVersion = false
holds_remarks Word = false
holds_remarks Prefix = false
holds_remarks Import = true
holds_remarks Revision = true
holds_remarks Typedef = true
holds_remarks ModuleContainer = true
holds_remarks TableContainer = true
holds_remarks TableList = true
holds_remarks FixedContainer = true
holds_remarks Key = false
holds_remarks Leaf = true
holds_remarks LeafList = true
holds_remarks Mandatory = false
holds_remarks Must = true
holds_remarks Enum = true
holds_remarks Path = false
holds_remarks Bounds = true
holds_remarks Pattern = true
holds_remarks NamedType = false
holds_remarks TextType = false
holds_remarks NumberType = false
holds_remarks EnumerationType = false
holds_remarks LeafrefType = false
holds_remarks UnionType = false
holds_remarks PlainType = false
holds_remarks UnknownType = false

-- the keywords of which one has to stand there
abbrev pub needs : Kind → List (List (List ℕ))
needs File = []
needs Module = (codes "namespace" ∷ []) ∷ (codes "prefix" ∷ []) ∷ (codes "container" ∷ []) ∷ []
needs YangVersion = []
needs Word = []
needs Prefix = []
needs Import = (codes "prefix" ∷ []) ∷ []
needs Revision = []
needs Typedef = (codes "type" ∷ []) ∷ []
needs ModuleContainer = (codes "container" ∷ []) ∷ []
needs TableContainer = (codes "list" ∷ codes "container" ∷ []) ∷ []
needs TableList = (codes "key" ∷ []) ∷ []
needs FixedContainer = []
needs Key = []
needs Leaf = (codes "type" ∷ []) ∷ []
needs LeafList = (codes "type" ∷ []) ∷ []
needs Mandatory = []
needs Must = []
needs Enum = []
needs Path = []
needs Bounds = []
needs Pattern = []
needs NamedType = []
needs TextType = []
needs NumberType = []
needs EnumerationType = (codes "enum" ∷ []) ∷ []
needs LeafrefType = (codes "path" ∷ []) ∷ []
needs UnionType = (codes "type" ∷ []) ∷ []
needs PlainType = []
needs UnknownType = []

-- the keywords of statements that give names, of which none may be given twice
abbrev pub givers : Kind → List (List (List ℕ))
givers File = []
givers Module = (codes "typedef" ∷ []) ∷ []
givers YangVersion = []
givers Word = []
givers Prefix = []
givers Import = []
givers Revision = []
givers Typedef = []
givers ModuleContainer = (codes "container" ∷ []) ∷ []
givers TableContainer = (codes "list" ∷ codes "container" ∷ []) ∷ []
givers TableList = (codes "leaf" ∷ codes "leaf-list" ∷ []) ∷ []
givers FixedContainer = (codes "leaf" ∷ codes "leaf-list" ∷ []) ∷ []
givers Key = []
givers Leaf = []
givers LeafList = []
givers Mandatory = []
givers Must = []
givers Enum = []
givers Path = []
givers Bounds = []
givers Pattern = []
givers NamedType = []
givers TextType = []
givers NumberType = []
givers EnumerationType = (codes "enum" ∷ []) ∷ []
givers LeafrefType = []
givers UnionType = []
givers PlainType = []
givers UnknownType = []

-- the kind of the entry found, or else of a remark
abbrev pub kind_found : Option Allowed → Bool → Option Kind
kind_found (Some e) remark = Some e.kind
kind_found None remark = if remark then Some Word else None

-- the kind of a statement with that keyword, where it may stand there
abbrev pub kind_below : Kind → List ℕ → Option Kind
kind_below kind keyword =
    kind_found (find (λ e. bytes_eq keyword e.keyword) (row kind))
    (holds_remarks kind && is_remark keyword)
