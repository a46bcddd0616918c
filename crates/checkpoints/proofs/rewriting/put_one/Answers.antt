use Rattle.std.proofs.Common.{◌≡◌, ◌∙◌, ℕ, List, option_map, subst}
use Rattle.std.proofs.lemmas.Result.{on_err_weaker, on_ok_weaker}
use Rattle.conf_store.specs.Changes.{Changes}
use Rattle.conf_store.specs.Puts.{IsPutOrNot, after_put}
use Rattle.checkpoints.specs.Names.{point_file}
use Rattle.checkpoints.specs.Rewrites.{rewrite_view}
use Rattle.checkpoints.proofs.FileRewrites.{changes_anew, leaves_anew, settles_anew}
use Rattle.checkpoints.proofs.Moments.{AtAnyMoment}
use Rattle.checkpoints.proofs.rewriting.put_one.Goals as goal

pub returns-clause-ok : goal.returns-clause-ok
returns-clause-ok g c =
    let rewrite = c.at-rewrite.result.now in
    let new = rewrite_view rewrite in
    let old = g.H.Host.told c.args.host.now in
    let after = g.H.Host.told c.put_file.new.host in
    on_ok_weaker c.put_file.result
    (λ told. settles_anew c.args.migration.now c.args.i new c.at-rewrite.ensures old after c.requires.due
    (subst (λ (b : List ℕ). after ≡ option_map (after_put (point_file new.0) b) old) c.deref.ensures.value
    (subst (λ (q : List ℕ). after ≡ option_map (after_put q c.deref.result.now) old) (c.as_str.ensures.text ∙ rewrite.named) told)))
    c.put_file.ensures.ok

pub returns-clause-err : goal.returns-clause-err
returns-clause-err g c =
    let rewrite = c.at-rewrite.result.now in
    let new = rewrite_view rewrite in
    let old = g.H.Host.told c.args.host.now in
    let after = g.H.Host.told c.put_file.new.host in
    on_err_weaker c.put_file.result
    (λ changes. changes_anew c.args.migration.now c.args.i new c.at-rewrite.ensures old after c.requires.due
    (subst (λ (b : List ℕ). Changes (IsPutOrNot (point_file new.0) b) old after) c.deref.ensures.value
    (subst (λ (q : List ℕ). Changes (IsPutOrNot q c.deref.result.now) old after) (c.as_str.ensures.text ∙ rewrite.named) changes)))
    c.put_file.ensures.err

pub returns-clause-any_moment : goal.returns-clause-any_moment
returns-clause-any_moment g c =
    let rewrite = c.at-rewrite.result.now in
    let new = rewrite_view rewrite in
    let old = g.H.Host.told c.args.host.now in
    leaves_anew c.args.migration.now c.args.i new c.at-rewrite.ensures g.H.Host.moment g.H.Host.left_since c.args.host.now c.put_file.new.host old c.requires.due
    (subst (λ (b : List ℕ). AtAnyMoment g.H.Host.moment g.H.Host.left_since (IsPutOrNot (point_file new.0) b) old c.args.host.now c.put_file.new.host) c.deref.ensures.value
    (subst (λ (q : List ℕ). AtAnyMoment g.H.Host.moment g.H.Host.left_since (IsPutOrNot q c.deref.result.now) old c.args.host.now c.put_file.new.host)
    (c.as_str.ensures.text ∙ rewrite.named) c.put_file.ensures.any_moment))
