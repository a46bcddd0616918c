use Rattle.std.proofs.Common.{refl, ap, ◌∙◌, subst}
use Rattle.conf_doc.specs.Indexes.{IsAt, IsGap}
use Rattle.conf_doc.specs.Shared.{pair_of, pairs_of}
use Rattle.conf_doc.proofs.Edits.{insert_seen, set_seen}
use Rattle.conf_doc.proofs.sorted.put_pair.Goals as goal

pub returns-in-Ok : goal.returns-in-Ok
returns-in-Ok g c =
    let name = c.as_str.ensures.text ∙ ap (λ p. p.0) c.as_ref.ensures in
    set_seen pair_of _ _ _ _ c.deref.ensures.value c.args.pair.value.1 c.args.pair c.requires (subst (λ n. IsAt (pairs_of c.deref.result.now) n c.in-Ok.i) name c.in-Ok.ensures.found) refl

pub returns-in_ok-insert-in-Err : goal.returns-in_ok-insert-in-Err
returns-in_ok-insert-in-Err g c =
    let name = c.as_str.ensures.text ∙ ap (λ p. p.0) c.as_ref.ensures in
    ap pairs_of c.in_ok-insert-in-Err.ensures.items
    ∙ insert_seen pair_of _ _ _ _ c.deref.ensures.value c.args.pair.value.1 c.args.pair (subst (λ n. IsGap (pairs_of c.deref.result.now) n c.in-Err.i) name c.in-Err.ensures.absent) refl
