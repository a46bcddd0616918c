use Rattle.std.proofs.Common.{ℕ, List, [], ◌∷◌, ◌++◌, map, ap, sym, ◌∙◌, subst, append-nil}
use Rattle.conf_doc.specs.Document.{Document, object, members_of}
use Rattle.conf_doc.specs.Pairs.{IsRising}
use Rattle.conf_doc.specs.Shared.{pair_of, pairs_of}
use Rattle.conf_doc.specs.Trees.{named_document}
use Rattle.conf_doc.proofs.Lists.{map-append, none_left, one_moved}
use Rattle.conf_doc.proofs.Names.{rising-map}
use Rattle.conf_doc.proofs.taking.take_parts.Goals as goal

pub loop-pair-init : goal.loop-pair-init
loop-pair-init g c =
    let f : List ℕ × g.row.X.Denot → List ℕ × Document = λ p. (p.0, g.X.Written.as_document p.1) in
    (λ i. map named_document (c.in_ok-members.ensures.items i) ++ map f (pairs_of (c.into_iter-pair-iterator.ensures.into_iter_gives.0 i)))
    ∙ ap (map f) c.into_pairs-pair-items.ensures.pairs

pub loop-pair-preserved : goal.loop-pair-preserved
loop-pair-preserved g c =
    let F = g.X.Written.as_document in
    let pushed = ap (map named_document) c.in_ok-push.ensures.items ∙ map-append named_document _ _ ∙ ap (λ m. map named_document c.loop-pair.members.items ++ m ∷ []) (λ j. (c.in_ok-member.ensures.name j, c.in_ok-member.ensures.tree j)) in
    one_moved (λ p. (p.0, F p.1)) _ _ _ _ _ (pair_of c.in-Some.pair) c.loop-pair.invariant (ap pairs_of c.in-Some.ensures.steps.0) pushed

pub from_sorted-requires : goal.from_sorted-requires
from_sorted-requires g c =
    let F = g.X.Written.as_document in
    let none = none_left _ _ c.loop-pair.pair-iterator.rest.ok.0 c.in-None.ensures.steps.0 in
    let all = sym (append-nil _) ∙ ap (λ rs. map named_document c.loop-pair.members.items ++ map (λ p. (p.0, F p.1)) (pairs_of rs)) (sym none) ∙ c.loop-pair.invariant in
    subst IsRising (sym all) (rising-map F c.args.parts c.into_pairs-pair-items.ensures.shaped.rising)

pub returns : goal.returns
returns g c =
    let F = g.X.Written.as_document in
    let none = none_left _ _ c.loop-pair.pair-iterator.rest.ok.0 c.in-None.ensures.steps.0 in
    let all = sym (append-nil _) ∙ ap (λ rs. map named_document c.loop-pair.members.items ++ map (λ p. (p.0, F p.1)) (pairs_of rs)) (sym none) ∙ c.loop-pair.invariant in
    ap (λ ms. object (members_of ms)) (c.from_sorted.ensures ∙ all)
