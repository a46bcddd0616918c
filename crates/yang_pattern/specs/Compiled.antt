-- What a compiled pattern keeps.
use Rattle.std.specs.Prelude.{ℕ, ◌↔◌, List, chars, string_bytes}
use Rattle.yang_pattern.specs.declared.patterns.Pattern.TheInside.{Inside}
use Rattle.yang_pattern.specs.Symbols.{reads_token}
use Rattle.yang_pattern.specs.Machine.{machine_of, Takes}
use Rattle.yang_pattern.specs.Pattern.{Branches, Matches}
use Rattle.yang_pattern.specs.Language.{SpellsWithin}

-- the machine takes what the pattern of the text matches
abbrev pub IsCompiled : Inside → Type 0
IsCompiled p =
    (bs : Branches) × SpellsWithin (chars (string_bytes p.text)) bs
    × ((u : List ℕ) → Takes (machine_of (reads_token p.tokens.items) p.whole) u ↔ Matches bs u)
