-- Documents whose JSON text reads back: texts are UTF-8, and the names of each map rise.
use Rattle.std.specs.Prelude.{IsUtf8}
use Rattle.conf_doc.specs.Document.{Document, text, list, object, Items, no_items, item, Members, no_members, member, pairs}
use Rattle.conf_doc.specs.Pairs.{IsRising}

abbrev mutual
  -- its texts are UTF-8, and the names of each map rise
  pub IsSound : Document → Type 0
  IsSound (text s) = IsUtf8 s
  IsSound (list ds) = AreSoundItems ds
  IsSound (object ms) = IsRising (pairs ms) × AreSoundMembers ms

  -- each item is
  pub AreSoundItems : Items → Type 0
  AreSoundItems no_items = Unit {0}
  AreSoundItems (item d ds) = IsSound d × AreSoundItems ds

  -- each name is UTF-8, and each document is
  pub AreSoundMembers : Members → Type 0
  AreSoundMembers no_members = Unit {0}
  AreSoundMembers (member k d ms) = IsUtf8 k × IsSound d × AreSoundMembers ms
