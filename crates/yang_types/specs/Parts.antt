-- The parts of an address, by their kinds.
use Rattle.std.specs.Prelude.{◌≡◌, ℕ, List}
use Rattle.host_core.specs.Characters.{colon, full_stop}
use Rattle.yang_types.specs.declared.addresses.Part.{Part}
use Rattle.yang_types.specs.declared.addresses.Part.TheVariants.{Octet, Group, Pair}
use Rattle.yang_types.specs.Addresses.{AreJoined, IsOctet, IsGroup, IsPair}

-- the grammar of each kind
abbrev pub IsPart : Part → List ℕ → Type 0
IsPart Octet s = IsOctet s
IsPart Group s = IsGroup s
IsPart Pair s = IsPair s

-- the character that joins them
abbrev pub separator_of : Part → ℕ
separator_of Octet = full_stop
separator_of Group = colon
separator_of Pair = colon

-- so many parts of one kind, joined
abbrev pub ArePartsOf : Part → ℕ → List ℕ → Type 0
ArePartsOf part count s = AreJoined (IsPart part) (separator_of part) count s

-- the text is count parts, and no other number of them
abbrev pub IsCountOf : Part → List ℕ → ℕ → Type 0
IsCountOf part s count = ArePartsOf part count s × ((n : ℕ) → ArePartsOf part n s → n ≡ count)
