-- Whether two documents are equal; that it is equality is a law. Maps are sorted by name, so the
-- order of their members plays no part (RFC 6902, section 4.6).
use Rattle.std.specs.Prelude.{Bool, true, false, ◌&&◌, nat_eq}
use Rattle.std.specs.Cmp.Lexicographic.{pointwise}
use Rattle.conf_doc.specs.Document.{Document, text, list, object, Items, no_items, item, Members, no_members, member}

abbrev mutual
  -- whether two documents are equal
  pub same : Document → Document → Bool
  same (text s) (text t) = pointwise nat_eq s t
  same (text s) (list es) = false
  same (text s) (object ns) = false
  same (list ds) (text t) = false
  same (list ds) (list es) = same_items ds es
  same (list ds) (object ns) = false
  same (object ms) (text t) = false
  same (object ms) (list es) = false
  same (object ms) (object ns) = same_members ms ns

  -- the same of items
  pub same_items : Items → Items → Bool
  same_items no_items no_items = true
  same_items no_items (item e es) = false
  same_items (item d ds) no_items = false
  same_items (item d ds) (item e es) = same d e && same_items ds es

  -- the same of members
  pub same_members : Members → Members → Bool
  same_members no_members no_members = true
  same_members no_members (member l e ns) = false
  same_members (member k d ms) no_members = false
  same_members (member k d ms) (member l e ns) =
      pointwise nat_eq k l && (same d e && same_members ms ns)
