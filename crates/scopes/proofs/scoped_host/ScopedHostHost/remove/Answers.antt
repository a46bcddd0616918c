use Rattle.std.proofs.Common.{None, inl, refl, ◌∙◌}
use Rattle.std.proofs.lemmas.Result.{on_ok_weaker, on_err_weaker}
use Rattle.host_core.specs.State.{with_file, after_listing}
use Rattle.scopes.proofs.Changes.{can_move, either, lists_or_not, seen_with, shows_list, told_by}
use Rattle.scopes.proofs.Keeping.{keeps_listing, one_stays}
use Rattle.scopes.proofs.Time.{elapses_now}
use Rattle.scopes.specs.Views.{KeepsOthers}
use Rattle.scopes.proofs.scoped_host.ScopedHostHost.remove.Goals as goal

pub remove-requires-clause-ready : goal.remove-requires-clause-ready
remove-requires-clause-ready g c =
    can_move c.args.self.now.scope c.as_str.result.now c.args.name.now (c.as_str.ensures.value ∙ c.file_name-file.ensures) (g.H.Host.told c.args.self.now.host.now) c.requires.ready

pub returns-clause-ok : goal.returns-clause-ok
returns-clause-ok g c =
    let scope = c.args.self.now.scope in
    let is = c.as_str.ensures.value ∙ c.file_name-file.ensures in
    let inner = with_file c.as_str.result.now None in
    let outer = with_file c.args.name.now None in
    on_ok_weaker c.remove.result
    (told_by scope (after_listing inner) (after_listing outer)
    (shows_list scope inner outer (seen_with scope c.as_str.result.now c.args.name.now is None))
    (g.H.Host.told c.args.self.now.host.now) (g.H.Host.told c.remove.new.self))
    c.remove.ensures.ok

pub returns-clause-err : goal.returns-clause-err
returns-clause-err g c =
    let scope = c.args.self.now.scope in
    let is = c.as_str.ensures.value ∙ c.file_name-file.ensures in
    let inner = with_file c.as_str.result.now None in
    let outer = with_file c.args.name.now None in
    on_err_weaker c.remove.result
    (lists_or_not scope inner outer (seen_with scope c.as_str.result.now c.args.name.now is None)
    (g.H.Host.told c.args.self.now.host.now) (g.H.Host.told c.remove.new.self))
    c.remove.ensures.err

pub returns-clause-time : goal.returns-clause-time
returns-clause-time g c =
    let time = elapses_now g.H.Host.moment g.H.Host.left_since c.args.self.now.scope c.args.self.now.host.now c.remove.new.self (g.H.Host.told c.remove.new.self) c.remove.ensures.time in
    record { later = time.later; nothing_else = time.nothing_else; keeps = time.keeps }

pub returns-clause-goes : goal.returns-clause-goes
returns-clause-goes g c =
    let scope = c.args.self.now.scope in
    let is = c.as_str.ensures.value ∙ c.file_name-file.ensures in
    let inner = with_file c.as_str.result.now None in
    let each = one_stays scope c.as_str.result.now c.args.name.now is None in
    let host = g.H.Host in
    let old = c.args.self.now.host.now in
    let new = c.remove.new.self in (
      refl,
      refl,
      c.remove.ensures.goes,
      either {P = KeepsOthers host.told host.moment host.left_since scope old new} c.remove.result c.remove.ensures.ok c.remove.ensures.err
          (λ ok. keeps_listing scope host.told host.moment host.left_since old new inner each (inl ok) c.remove.ensures.time)
          (λ err. keeps_listing scope host.told host.moment host.left_since old new inner each err c.remove.ensures.time),
    )
