use Rattle.std.proofs.Common.{None, Some, ap, position, subst, sym, ◌∙◌, ◌≡◌}
use Rattle.std.proofs.lemmas.Result.{on_err_weaker, on_ok_weaker}
use Rattle.conf_check.specs.Wants.{want_of}
use Rattle.ref_index.specs.PlaceMaps.{PutsIn, is_for}
use Rattle.ref_index.specs.Places.{with_place}
use Rattle.ref_index.specs.Referrers.{place_of}
use Rattle.ref_index.proofs.LeafGroups.{add_group, change_group, keep_group}
use Rattle.ref_index.proofs.groups.put_in.Goals as goal

pub returns-in-Some-clause-ok : goal.returns-in-Some-clause-ok
returns-in-Some-clause-ok c = on_ok_weaker c.put.result
    (λ e. change_group (want_of c.args.at.now.want).target c.args.groups.now.items (with_place (place_of c.args.at.now)) c.in-Some.i c.index_mut.result.now
    c.put.new.self
    (subst (λ gs. position (is_for (want_of c.args.at.now.want).target) gs ≡ Some c.in-Some.i) c.as_slice.ensures.value (sym c.in-Some.ensures))
    (c.put.ensures.target ∙ ap (λ g. g.target) c.index_mut.ensures.value)
    (e ∙ ap (λ g. with_place (place_of c.args.at.now) g.places.items) c.index_mut.ensures.value))
    c.put.ensures.ok

pub returns-in-Some-clause-err : goal.returns-in-Some-clause-err
returns-in-Some-clause-err c = on_err_weaker c.put.result
    (λ e. keep_group (want_of c.args.at.now.want).target c.args.groups.now.items (λ ps. ps) c.in-Some.i c.index_mut.result.now
    c.put.new.self
    (subst (λ gs. position (is_for (want_of c.args.at.now.want).target) gs ≡ Some c.in-Some.i) c.as_slice.ensures.value (sym c.in-Some.ensures))
    (c.put.ensures.target ∙ ap (λ g. g.target) c.index_mut.ensures.value)
    (e ∙ ap (λ g. g.places.items) c.index_mut.ensures.value))
    c.put.ensures.err

pub returns-in_ok-push-in-None-clause-ok : goal.returns-in_ok-push-in-None-clause-ok
returns-in_ok-push-in-None-clause-ok c =
    subst (PutsIn c.args.at.now c.args.groups.now.items) (sym c.in_ok-push-in-None.ensures.items)
    (add_group (want_of c.args.at.now.want).target c.args.groups.now.items (with_place (place_of c.args.at.now)) c.in_ok-group-in-None.group
    (subst (λ gs. position (is_for (want_of c.args.at.now.want).target) gs ≡ None) c.as_slice.ensures.value (sym c.in-None.ensures))
    c.in_ok-group-in-None.ensures.target c.in_ok-group-in-None.ensures.places)
