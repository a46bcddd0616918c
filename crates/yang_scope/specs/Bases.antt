-- The types that are built in (RFC 7950, section 9; RFC 6991), in a profile.
use Rattle.std.specs.Prelude.{ℕ, ◌-◌, ◌^◌, ℤ, pos, negsuc, Bool, List, [], ◌∷◌, Option, Some, None, codes, option_map, if◌then◌else◌}
use Rattle.std.specs.List.{list_any}
use Rattle.std.specs.Str.{bytes_eq}
use Rattle.yang_types.specs.declared.types.Bounds.{Bounds}
use Rattle.yang_types.specs.declared.types.Builtin.{Builtin}
use Rattle.yang_types.specs.declared.types.Builtin.TheVariants.{Ipv4Address, Ipv6Address, IpAddress, Ipv4Prefix, Ipv6Prefix, IpPrefix, MacAddress}
use Rattle.yang_scope.specs.declared.bases.Base.{Base}
use Rattle.yang_scope.specs.declared.bases.Base.TheVariants.{Text, Number, Enumeration, Truth, Leafref, Union}

-- the names of RFC 7950, section 9, in the profile or not
abbrev pub built_in_types : List (List ℕ)
built_in_types =
    codes "binary" ∷ codes "bits" ∷ codes "boolean" ∷ codes "decimal64" ∷ codes "empty"
    ∷ codes "enumeration" ∷ codes "identityref" ∷ codes "instance-identifier"
    ∷ codes "int8" ∷ codes "int16" ∷ codes "int32" ∷ codes "int64"
    ∷ codes "leafref" ∷ codes "string"
    ∷ codes "uint8" ∷ codes "uint16" ∷ codes "uint32" ∷ codes "uint64"
    ∷ codes "union" ∷ []

-- no typedef may have such a name
abbrev pub is_built_in_type : List ℕ → Bool
is_built_in_type s = list_any (λ t. bytes_eq t s) built_in_types

abbrev within : ℤ → ℤ → Option Bounds
within low high = Some (record { low = low; high = high })

-- from the number below the negated greatest one to that
abbrev signed_up_to : ℕ → Option Bounds
signed_up_to greatest = within (negsuc greatest) (pos greatest)

-- from zero on
abbrev up_to : ℕ → Option Bounds
up_to greatest = within (pos 0) (pos greatest)

-- the integer types (RFC 7950, section 9.2)
abbrev pub integers_named : List ℕ → Option Bounds
integers_named s =
    if bytes_eq s (codes "int8") then signed_up_to (2 ^ 7 - 1)
    else if bytes_eq s (codes "int16") then signed_up_to (2 ^ 15 - 1)
    else if bytes_eq s (codes "int32") then signed_up_to (2 ^ 31 - 1)
    else if bytes_eq s (codes "int64") then signed_up_to (2 ^ 63 - 1)
    else if bytes_eq s (codes "uint8") then up_to (2 ^ 8 - 1)
    else if bytes_eq s (codes "uint16") then up_to (2 ^ 16 - 1)
    else if bytes_eq s (codes "uint32") then up_to (2 ^ 32 - 1)
    else if bytes_eq s (codes "uint64") then up_to (2 ^ 64 - 1)
    else None

-- the built-in types of the profile
abbrev pub base_named : List ℕ → Option Base
base_named s =
    if bytes_eq s (codes "string") then Some Text
    else if bytes_eq s (codes "enumeration") then Some Enumeration
    else if bytes_eq s (codes "boolean") then Some Truth
    else if bytes_eq s (codes "leafref") then Some Leafref
    else if bytes_eq s (codes "union") then Some Union
    else option_map Number (integers_named s)

-- the types of the module `ietf-inet-types` (RFC 6991, section 4)
abbrev pub inet_named : List ℕ → Option Builtin
inet_named s =
    if bytes_eq s (codes "ipv4-address") then Some Ipv4Address
    else if bytes_eq s (codes "ipv6-address") then Some Ipv6Address
    else if bytes_eq s (codes "ip-address") then Some IpAddress
    else if bytes_eq s (codes "ipv4-prefix") then Some Ipv4Prefix
    else if bytes_eq s (codes "ipv6-prefix") then Some Ipv6Prefix
    else if bytes_eq s (codes "ip-prefix") then Some IpPrefix
    else None

-- the type of the module `ietf-yang-types` (RFC 6991, section 3)
abbrev pub yang_named : List ℕ → Option Builtin
yang_named s = if bytes_eq s (codes "mac-address") then Some MacAddress else None
