use Rattle.std.proofs.Common.{◌≡◌, ◌==◌, ℕ, not, List, [], ◌∷◌, ◌++◌, length, ap, ◌∙◌, sym, lit<, Bor}
use Rattle.std.proofs.lemmas.Iterator.Consumers.{YieldsList-at, YieldsList-end}
use Rattle.std.proofs.lemmas.Iterator.Splits.{YieldsList-from_str_split}
use Rattle.std.proofs.lemmas.List.{map-append}
use Rattle.std.proofs.lemmas.List.Elements.{filter-append}
use Rattle.yang_faults.specs.Keys.{non_empty}
use Rattle.yang_scope.specs.Pieces.{texts}
use Rattle.yang_faults.proofs.keys.names_in.Goals as goal

-- one more name
one_more : (done : List (List ℕ)) (before : List (Bor (List ℕ))) (name : Bor (List ℕ)) (now : List (List ℕ))
    → done ≡ non_empty (texts before) → now ≡ done ++ non_empty (name.now ∷ []) → now ≡ non_empty (texts (before ++ name ∷ []))
one_more done before name now so grows =
    grows
    ∙ ap (λ (ns : List (List ℕ)). ns ++ non_empty (name.now ∷ [])) so
    ∙ sym (filter-append (λ n. not (length n == 0)) (texts before) (name.now ∷ []))
    ∙ ap non_empty (sym (map-append (λ (n : Bor (List ℕ)). n.now) before (name ∷ [])))

pub loop-name-preserved : goal.loop-name-preserved
loop-name-preserved c = (tt, tt, one_more _ c.loop-name.yielded c.in-Some.name _ c.loop-name.invariant.2 c.in_ok-push_name.ensures)

pub returns : goal.returns
returns c =
    let s = c.split-name-items.ensures in
    let parts = YieldsList-at c.into_iter-name-iterator.ensures.into_iter_gives (YieldsList-from_str_split 32 c.args.key.now (lit< tt) s.text s.has_more s.pattern) in
    let end = YieldsList-end parts c.loop-name.yielded _ c.loop-name.yielded_by _ _ c.in-None.is c.next.ensures.steps in
    c.loop-name.invariant.2 ∙ ap non_empty end.0
