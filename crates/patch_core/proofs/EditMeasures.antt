-- Edits of one node, and edits farther below it, measured.
use Rattle.std.specs.Prelude.{◌≡◌, ℕ, suc, List, [], ◌∷◌, ◌++◌, length, slice_get, slice_set, insert, remove as removed_at, Option, Some, None}
use Rattle.std.proofs.Common.{refl, ap, arith}
use Rattle.conf_doc.specs.Document.{Document, list, object, items_of, members_of, weight, depth}
use Rattle.conf_doc.specs.Pairs.{IsRising, find, put, without}
use Rattle.conf_doc.specs.Trees.{document}
use Rattle.conf_doc.specs.declared.trees.Tree.{Tree}
use Rattle.conf_doc.specs.declared.trees.Tree.TheVariants.{List as Listed, Map}
use Rattle.patch_core.specs.Gaps.{IsGap, fill}
use Rattle.patch_core.specs.Measures.{IsMeasured}
use Rattle.patch_core.specs.declared.gaps.Gap.{Gap}
use Rattle.patch_core.specs.declared.node_edits.Edit.{Edit}
use Rattle.patch_core.specs.declared.node_edits.Edit.TheVariants.{Add, Remove, Replace}
use Rattle.patch_core.specs.declared.node_edits.Change.{Change}
use Rattle.patch_core.proofs.Measures.{weight_in, weight_of, depth_in, depth_of, weight-set, depth-set, weight-insert, depth-insert, weight-push, depth-push, weight-removed, depth-removed, weight-put_there, weight-put_new, depth-put, weight-without, depth-without}

abbrev listed : List Document → Option Tree → Change
listed ds out = record { tree = Listed ds; out = out; name_in = 0; name_out = 0 }

abbrev of_pairs : List (List ℕ × Document) → Option Tree → ℕ → ℕ → Change
of_pairs ms out name_in name_out = record { tree = Map ms; out = out; name_in = name_in; name_out = name_out }

pub measured_insert : (value : Tree) (ds es : List Document) (i : ℕ) → es ≡ insert ds i (document value) → IsMeasured (Add value) (listed es None) 1 (list (items_of ds))
measured_insert value ds es i is = record {
  balances = omega (arith, ap weight_in is, weight-insert ds i (document value));
  names = refl;
  part = omega arith;
  deep = omega (arith, ap depth_in is, depth-insert ds i (document value));
  reaches = omega (arith, ap depth_in is, depth-insert ds i (document value));
}

pub measured_push : (value : Tree) (ds es : List Document) → es ≡ ds ++ document value ∷ [] → IsMeasured (Add value) (listed es None) 1 (list (items_of ds))
measured_push value ds es is = record {
  balances = omega (arith, ap weight_in is, weight-push ds (document value));
  names = refl;
  part = omega arith;
  deep = omega (arith, ap depth_in is, depth-push ds (document value));
  reaches = omega (arith, ap depth_in is, depth-push ds (document value));
}

pub measured_removed_item : (gone : Tree) (ds es : List Document) (i : ℕ) → slice_get ds i ≡ Some (document gone) → es ≡ removed_at ds i → IsMeasured Remove (listed es (Some gone)) 1 (list (items_of ds))
measured_removed_item gone ds es i there is = record {
  balances = omega (arith, ap weight_in is, weight-removed ds i (document gone) there);
  names = refl;
  part = omega (arith, weight-removed ds i (document gone) there);
  deep = omega (arith, ap depth_in is, depth-removed ds i (document gone) there);
  reaches = omega arith;
}

pub measured_replaced_item : (value gone : Tree) (ds es : List Document) (i : ℕ) → slice_get ds i ≡ Some (document gone) → es ≡ slice_set ds i (document value) → IsMeasured (Replace value) (listed es (Some gone)) 1 (list (items_of ds))
measured_replaced_item value gone ds es i there is =
    let changes = depth-set ds i (document gone) (document value) there in
    record {
      balances = omega (arith, ap weight_in is, weight-set ds i (document gone) (document value) there);
      names = tt;
      part = omega (arith, weight-removed ds i (document gone) there);
      deep = omega (arith, ap depth_in is, changes.0);
      reaches = omega (arith, ap depth_in is, changes.1);
    }

pub measured_added_there : (token : List ℕ) (value gone : Tree) (ms ns : List (List ℕ × Document)) → IsRising ms → find token ms ≡ Some (document gone) → ns ≡ put token (document value) ms → IsMeasured (Add value) (of_pairs ns (Some gone) 0 0) 1 (object (members_of ms))
measured_added_there token value gone ms ns rising there is =
    let changes = depth-put token (document value) ms in
    record {
      balances = omega (arith, ap weight_of is, weight-put_there token (document gone) (document value) ms rising there);
      names = refl;
      part = omega (arith, weight-without token (document gone) ms rising there);
      deep = omega (arith, ap depth_of is, changes.0);
      reaches = omega (arith, ap depth_of is, changes.1);
    }

pub measured_replaced_member : (token : List ℕ) (value gone : Tree) (ms ns : List (List ℕ × Document)) → IsRising ms → find token ms ≡ Some (document gone) → ns ≡ put token (document value) ms → IsMeasured (Replace value) (of_pairs ns (Some gone) 0 0) 1 (object (members_of ms))
measured_replaced_member token value gone ms ns rising there is =
    let added = measured_added_there token value gone ms ns rising there is in
    record { balances = added.balances; names = tt; part = added.part; deep = added.deep; reaches = added.reaches }

pub measured_added_new : (token : List ℕ) (value : Tree) (ms ns : List (List ℕ × Document)) (len : ℕ) → len ≡ length token → find token ms ≡ None → ns ≡ put token (document value) ms → IsMeasured (Add value) (of_pairs ns None len 0) 1 (object (members_of ms))
measured_added_new token value ms ns len counts none is =
    let changes = depth-put token (document value) ms in
    record {
      balances = omega (arith, ap weight_of is, weight-put_new token (document value) ms none);
      names = refl;
      part = omega arith;
      deep = omega (arith, ap depth_of is, changes.0);
      reaches = omega (arith, ap depth_of is, changes.1);
    }

pub measured_removed_member : (token : List ℕ) (gone : Tree) (ms ns : List (List ℕ × Document)) (len : ℕ) → len ≡ length token → IsRising ms → find token ms ≡ Some (document gone) → ns ≡ without token ms → IsMeasured Remove (of_pairs ns (Some gone) 0 len) 1 (object (members_of ms))
measured_removed_member token gone ms ns len counts rising there is = record {
  balances = omega (arith, ap weight_of is, weight-without token (document gone) ms rising there);
  names = refl;
  part = omega (arith, weight-without token (document gone) ms rising there);
  deep = omega (arith, ap depth_of is, depth-without token ms);
  reaches = omega arith;
}

-- the node whose child was edit_below
pub measured_above : (edit : Edit) (e : Change) (t : Tree) (gap : Gap) (token : List ℕ) (node child : Document) (n m : ℕ) → m ≡ suc n → IsGap gap token node child → IsMeasured edit e n child → document t ≡ fill gap token (document e.tree)
    → IsMeasured edit (record { tree = t; out = e.out; name_in = e.name_in; name_out = e.name_out }) m node
measured_above (Add v) e t gap token node child n m more there under is = record {
  balances = omega (arith, ap weight is, there.weighs (document e.tree), under.balances);
  names = under.names;
  part = omega (arith, there.part, under.part);
  deep = omega (arith, ap depth is, there.deep (document e.tree), there.below, under.deep);
  reaches = omega (arith, ap depth is, there.reaches (document e.tree), under.reaches);
}
measured_above Remove e t gap token node child n m more there under is = record {
  balances = omega (arith, ap weight is, there.weighs (document e.tree), under.balances);
  names = under.names;
  part = omega (arith, there.part, under.part);
  deep = omega (arith, ap depth is, there.deep (document e.tree), there.below, under.deep);
  reaches = omega arith;
}
measured_above (Replace v) e t gap token node child n m more there under is = record {
  balances = omega (arith, ap weight is, there.weighs (document e.tree), under.balances);
  names = under.names;
  part = omega (arith, there.part, under.part);
  deep = omega (arith, ap depth is, there.deep (document e.tree), there.below, under.deep);
  reaches = omega (arith, ap depth is, there.reaches (document e.tree), under.reaches);
}
