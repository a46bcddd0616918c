use Rattle.std.proofs.Common.{inl, refl, ◌∙◌}
use Rattle.std.proofs.lemmas.Result.{on_ok_weaker, on_err_weaker}
use Rattle.host_core.specs.State.{rename, after_listing}
use Rattle.scopes.proofs.Changes.{can_move, either, lists_or_not, seen_move, shows_list, told_by}
use Rattle.scopes.proofs.Keeping.{keeps_listing, move_stays}
use Rattle.scopes.proofs.Time.{elapses_now}
use Rattle.scopes.specs.Views.{KeepsOthers}
use Rattle.scopes.proofs.scoped_host.ScopedHostHost.rename.Goals as goal

pub rename-requires-clause-ready : goal.rename-requires-clause-ready
rename-requires-clause-ready g c =
    can_move c.args.self.now.scope c.as_str.result.now c.args.from.now (c.as_str.ensures.value ∙ c.file_name-from.ensures) (g.H.Host.told c.args.self.now.host.now) c.requires.ready

pub returns-clause-ok : goal.returns-clause-ok
returns-clause-ok g c =
    let scope = c.args.self.now.scope in
    let is_from = c.as_str.ensures.value ∙ c.file_name-from.ensures in
    let is_to = c.as_str-2.ensures.value ∙ c.file_name-to.ensures in
    let inner = rename c.as_str.result.now c.as_str-2.result.now in
    let outer = rename c.args.from.now c.args.to.now in
    on_ok_weaker c.rename.result
    (told_by scope (after_listing inner) (after_listing outer)
    (shows_list scope inner outer (seen_move scope c.as_str.result.now c.as_str-2.result.now c.args.from.now c.args.to.now is_from is_to))
    (g.H.Host.told c.args.self.now.host.now) (g.H.Host.told c.rename.new.self))
    c.rename.ensures.ok

pub returns-clause-err : goal.returns-clause-err
returns-clause-err g c =
    let scope = c.args.self.now.scope in
    let is_from = c.as_str.ensures.value ∙ c.file_name-from.ensures in
    let is_to = c.as_str-2.ensures.value ∙ c.file_name-to.ensures in
    let inner = rename c.as_str.result.now c.as_str-2.result.now in
    let outer = rename c.args.from.now c.args.to.now in
    on_err_weaker c.rename.result
    (lists_or_not scope inner outer
    (seen_move scope c.as_str.result.now c.as_str-2.result.now c.args.from.now c.args.to.now is_from is_to)
    (g.H.Host.told c.args.self.now.host.now) (g.H.Host.told c.rename.new.self))
    c.rename.ensures.err

pub returns-clause-time : goal.returns-clause-time
returns-clause-time g c =
    let time = elapses_now g.H.Host.moment g.H.Host.left_since c.args.self.now.scope c.args.self.now.host.now c.rename.new.self (g.H.Host.told c.rename.new.self) c.rename.ensures.time in
    record { later = time.later; nothing_else = time.nothing_else; keeps = time.keeps }

pub returns-clause-goes : goal.returns-clause-goes
returns-clause-goes g c =
    let scope = c.args.self.now.scope in
    let is_from = c.as_str.ensures.value ∙ c.file_name-from.ensures in
    let is_to = c.as_str-2.ensures.value ∙ c.file_name-to.ensures in
    let inner = rename c.as_str.result.now c.as_str-2.result.now in
    let each = move_stays scope c.as_str.result.now c.as_str-2.result.now c.args.from.now c.args.to.now is_from is_to in
    let host = g.H.Host in
    let old = c.args.self.now.host.now in
    let new = c.rename.new.self in (
      refl,
      refl,
      c.rename.ensures.goes,
      either {P = KeepsOthers host.told host.moment host.left_since scope old new} c.rename.result c.rename.ensures.ok c.rename.ensures.err
          (λ ok. keeps_listing scope host.told host.moment host.left_since old new inner each (inl ok) c.rename.ensures.time)
          (λ err. keeps_listing scope host.told host.moment host.left_since old new inner each err c.rename.ensures.time),
    )
