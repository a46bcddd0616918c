-- Addresses, prefixes and MAC addresses (RFC 6991, sections 3 and 4, without zones and without IPv4
-- addresses within IPv6 ones).
use Rattle.std.specs.Prelude.{◌≡◌, ◌⊎◌, ℕ, ◌+◌, ◌≤◌, List, [], ◌∷◌, ◌++◌, length, All}
use Rattle.std.specs.List.{join_with_byte}
use Rattle.std.specs.Char.{IsAsciiHexdigit}
use Rattle.host_core.specs.Characters.{colon, full_stop, slash}
use Rattle.yang_types.specs.declared.types.Builtin.{Builtin}
use Rattle.yang_types.specs.declared.types.Builtin.TheVariants.{Ipv4Address, Ipv6Address, IpAddress, Ipv4Prefix, Ipv6Prefix, IpPrefix, MacAddress}
use Rattle.yang_types.specs.Numbers.{IsDecimal, decimal, IsPlainNumber}

-- so many parts, each of which is a P, joined by a character
abbrev pub AreJoined : (List ℕ → Type 0) → ℕ → ℕ → List ℕ → Type 0
AreJoined P separator count s =
    (parts : List (List ℕ)) × (length parts ≡ count) × All P parts
    × (s ≡ join_with_byte separator parts)

-- the greatest number of eight bits
abbrev pub greatest_octet : ℕ
greatest_octet = 255

-- the bits of an IPv4 address
abbrev pub ipv4_bits : ℕ
ipv4_bits = 32

-- the bits of an IPv6 address
abbrev pub ipv6_bits : ℕ
ipv6_bits = 128

-- the least number of three digits
abbrev pub three_digits : ℕ
three_digits = 100

-- a number 0 to 255 without leading zeros
abbrev pub IsOctet : List ℕ → Type 0
IsOctet s = IsPlainNumber greatest_octet s

-- one to four hexadecimal digits
abbrev pub IsGroup : List ℕ → Type 0
IsGroup s = All IsAsciiHexdigit s × (1 ≤ length s) × (length s ≤ 4)

-- two hexadecimal digits
abbrev pub IsPair : List ℕ → Type 0
IsPair s = All IsAsciiHexdigit s × (length s ≡ 2)

-- four numbers joined by dots
abbrev pub IsIpv4Address : List ℕ → Type 0
IsIpv4Address s = AreJoined IsOctet full_stop 4 s

-- `::`
abbrev pub double_colon : List ℕ
double_colon = colon ∷ colon ∷ []

-- at most seven groups, with one double colon for the groups of zero that are left out
abbrev pub IsShortened : List ℕ → Type 0
IsShortened s =
    (m : ℕ) × (n : ℕ) × (left : List ℕ) × (right : List ℕ)
    × (m + n ≤ 7) × AreJoined IsGroup colon m left × AreJoined IsGroup colon n right
    × (s ≡ left ++ (double_colon ++ right))

-- eight groups joined by colons, or fewer round a double colon (RFC 4291, section 2.2)
abbrev pub IsIpv6Address : List ℕ → Type 0
IsIpv6Address s = AreJoined IsGroup colon 8 s ⊎ IsShortened s

-- 0 to 32 without leading zeros
abbrev pub IsIpv4Length : List ℕ → Type 0
IsIpv4Length s = IsPlainNumber ipv4_bits s

-- one digit, any two digits, or 100 to 128
abbrev pub IsIpv6Length : List ℕ → Type 0
IsIpv6Length s =
    IsDecimal s
    × ((length s ≤ 2) ⊎ ((length s ≡ 3) × (three_digits ≤ decimal s) × (decimal s ≤ ipv6_bits)))

-- an address, a slash and a length
abbrev pub IsPrefixOf : (List ℕ → Type 0) → (List ℕ → Type 0) → List ℕ → Type 0
IsPrefixOf IsAddress IsLength s =
    (address : List ℕ) × (prefix_length : List ℕ)
    × IsAddress address × IsLength prefix_length × (s ≡ address ++ slash ∷ prefix_length)

-- such as 10.0.0.0/8
abbrev pub IsIpv4Prefix : List ℕ → Type 0
IsIpv4Prefix s = IsPrefixOf IsIpv4Address IsIpv4Length s

-- such as 2001:db8::/32
abbrev pub IsIpv6Prefix : List ℕ → Type 0
IsIpv6Prefix s = IsPrefixOf IsIpv6Address IsIpv6Length s

-- six pairs joined by colons
abbrev pub IsMacAddress : List ℕ → Type 0
IsMacAddress s = AreJoined IsPair colon 6 s

-- the grammar of each name
abbrev pub IsBuiltin : Builtin → List ℕ → Type 0
IsBuiltin Ipv4Address s = IsIpv4Address s
IsBuiltin Ipv6Address s = IsIpv6Address s
IsBuiltin IpAddress s = IsIpv4Address s ⊎ IsIpv6Address s
IsBuiltin Ipv4Prefix s = IsIpv4Prefix s
IsBuiltin Ipv6Prefix s = IsIpv6Prefix s
IsBuiltin IpPrefix s = IsIpv4Prefix s ⊎ IsIpv6Prefix s
IsBuiltin MacAddress s = IsMacAddress s
