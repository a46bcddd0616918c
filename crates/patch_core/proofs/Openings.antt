-- A node with a child taken out has a gap where the token leads.
use Rattle.std.specs.Prelude.{◌≡◌, ℕ, ◌<◌, List, length, slice_get, slice_set, Some}
use Rattle.std.proofs.Common.{sym, ap, ◌∙◌, arith, subst}
use Rattle.std.proofs.lemmas.List.{length-set}
use Rattle.conf_doc.specs.Document.{Document, list, object, items_of, members_of}
use Rattle.conf_doc.specs.Pairs.{IsRising, find, put}
use Rattle.patch_core.specs.Indexes.{index, list_token}
use Rattle.patch_core.specs.Gaps.{IsGap}
use Rattle.patch_core.specs.declared.gaps.Gap.TheVariants.{Item, Member}
use Rattle.patch_core.proofs.Measures.{weight_in, weight_of, depth_in, depth_of, weight-set, weight-removed, weight-put_there, weight-without, depth-set, depth-put, depth_there}
use Rattle.patch_core.proofs.Nodes.{with_below_item, with_below_member, set_again, put_again, find_put, is_some_here}

pub gap_of_item : (token : List ℕ) (ds es : List Document) (i : ℕ) (h c : Document) → list_token token ≡ index i → i < length ds → es ≡ slice_set ds i h → slice_get ds i ≡ Some c → IsGap (Item es i) token (list (items_of ds)) c
gap_of_item token ds es i h c e within is there =
    subst (λ (fs : List Document). IsGap (Item fs i) token (list (items_of ds)) c) (sym is) (record {
      closes = omega (arith, length-set ds i h, within);
      fills = λ d. ap (λ (fs : List Document). list (items_of fs)) (set_again ds i h d) ∙ sym (with_below_item token d ds i e);
      weighs = λ d. omega (arith, weight-set ds i c d there, ap weight_in (set_again ds i h d));
      part = omega (arith, weight-set ds i c c there, weight-removed ds i c there);
      deep = λ d. omega (arith, (depth-set ds i c d there).0, ap depth_in (set_again ds i h d));
      reaches = λ d. omega (arith, (depth-set ds i c d there).1, ap depth_in (set_again ds i h d));
      below = omega (arith, (depth-set ds i c c there).2);
    })

pub gap_of_member : (token : List ℕ) (ms ns : List (List ℕ × Document)) (h c : Document) → ns ≡ put token h ms → IsRising ms → find token ms ≡ Some c → IsGap (Member ns) token (object (members_of ms)) c
gap_of_member token ms ns h c is rising there =
    subst (λ (fs : List (List ℕ × Document)). IsGap (Member fs) token (object (members_of ms)) c) (sym is) (record {
      closes = is_some_here (find token (put token h ms)) h (find_put token h ms);
      fills = λ d. ap (λ (fs : List (List ℕ × Document)). object (members_of fs)) (put_again token h d ms) ∙ sym (with_below_member token d ms);
      weighs = λ d. omega (arith, weight-put_there token c d ms rising there, ap weight_of (put_again token h d ms));
      part = omega (arith, weight-without token c ms rising there);
      deep = λ d. omega (arith, (depth-put token d ms).0, ap depth_of (put_again token h d ms));
      reaches = λ d. omega (arith, (depth-put token d ms).1, ap depth_of (put_again token h d ms));
      below = omega (arith, depth_there token c ms there);
    })
