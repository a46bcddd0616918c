-- The edits of operations: at one node, and at the end of a path.
use Rattle.std.specs.Prelude.{◌≡◌, ℕ, List, Option, Some, None, Result, Ok}
use Rattle.conf_doc.specs.Document.{Document}
use Rattle.conf_doc.specs.Trees.{document}
use Rattle.conf_doc.specs.declared.trees.Tree.{Tree}
use Rattle.conf_doc.specs.declared.trees.Tree.TheVariants.{List as Listed}
use Rattle.patch_core.specs.Apply.{with_below, without_below, with_new, edit_there, after_add, after_remove, after_replace}
use Rattle.patch_core.specs.Operation.{Tokens}
use Rattle.patch_core.specs.declared.errors.FailWhy.{FailWhy}
use Rattle.patch_core.specs.declared.node_edits.Change.{Change}
use Rattle.patch_core.specs.declared.node_edits.Edit.{Edit}
use Rattle.patch_core.specs.declared.node_edits.Edit.TheVariants.{Add, Remove, Replace}

-- the node without what the token names
abbrev pub remove_below : List ℕ → Document → Result Document FailWhy
remove_below token d = edit_there without_below token d

-- the node with another document in its place
abbrev pub replace_below : List ℕ → Document → Document → Result Document FailWhy
replace_below token v d = edit_there (λ last node. with_below last v node) token d

-- the node after an edit of what the token names
abbrev pub edit_below : Edit → List ℕ → Document → Result Document FailWhy
edit_below (Add t) token d = with_new token (document t) d
edit_below Remove token d = remove_below token d
edit_below (Replace t) token d = replace_below token (document t) d

-- the document after an edit of what a path leads to
abbrev pub after_edit : Edit → Tokens → Document → Result Document FailWhy
after_edit (Add t) path d = after_add path (document t) d
after_edit Remove path d = after_remove path d
after_edit (Replace t) path d = after_replace path (document t) d

-- there was this document
abbrev pub IsTaken : Option Tree → Result Document FailWhy → Type 0
IsTaken None there = ⊥
IsTaken (Some t) there = there ≡ Ok (document t)

-- a remove and a replace hand out what was there
abbrev pub HandsOut : Edit → Option Tree → Result Document FailWhy → Type 0
HandsOut (Add t) out there = Unit {0}
HandsOut Remove out there = IsTaken out there
HandsOut (Replace t) out there = IsTaken out there

-- a list into which an item came, and nothing else changed
abbrev pub grown_list : List Document → Change
grown_list ds = record { tree = Listed ds; out = None; name_in = 0; name_out = 0 }
