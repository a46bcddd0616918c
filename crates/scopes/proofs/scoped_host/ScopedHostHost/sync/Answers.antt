use Rattle.std.proofs.Common.{refl, ◌∙◌}
use Rattle.std.proofs.lemmas.Result.{on_err_weaker}
use Rattle.host_core.specs.State.{settled, dirty, with_pending}
use Rattle.scopes.proofs.Changes.{can_write, either, shows_soil, told_by}
use Rattle.scopes.proofs.Keeping.{keeps_now, settle_stays, soil_stays}
use Rattle.scopes.proofs.Time.{elapses_now}
use Rattle.scopes.specs.Views.{KeepsOthers}
use Rattle.scopes.proofs.scoped_host.ScopedHostHost.sync.Goals as goal

pub sync-requires-clause-ready : goal.sync-requires-clause-ready
sync-requires-clause-ready g c =
    can_write c.args.self.now.scope c.as_str.result.now c.args.name.now (c.as_str.ensures.value ∙ c.file_name-file.ensures) (g.H.Host.told c.args.self.now.host.now) c.requires.ready

pub returns-clause-err : goal.returns-clause-err
returns-clause-err g c =
    let file = c.as_str.result.now in
    let plain = c.args.name.now in
    let is = c.as_str.ensures.value ∙ c.file_name-file.ensures in
    on_err_weaker c.sync.result
    (told_by c.args.self.now.scope (with_pending (dirty file)) (with_pending (dirty plain)) (shows_soil c.args.self.now.scope file plain is) (g.H.Host.told c.args.self.now.host.now) (g.H.Host.told c.sync.new.self))
    c.sync.ensures.err

pub returns-clause-time : goal.returns-clause-time
returns-clause-time g c =
    let time = elapses_now g.H.Host.moment g.H.Host.left_since c.args.self.now.scope c.args.self.now.host.now c.sync.new.self (g.H.Host.told c.sync.new.self) c.sync.ensures.time in
    record { later = time.later; nothing_else = time.nothing_else; keeps = time.keeps }

pub returns-clause-goes : goal.returns-clause-goes
returns-clause-goes g c =
    let file = c.as_str.result.now in
    let is = c.as_str.ensures.value ∙ c.file_name-file.ensures in
    let scope = c.args.self.now.scope in
    let host = g.H.Host in
    let old = c.args.self.now.host.now in
    let new = c.sync.new.self in (
      refl,
      refl,
      c.sync.ensures.goes,
      either {P = KeepsOthers host.told host.moment host.left_since scope old new} c.sync.result c.sync.ensures.ok c.sync.ensures.err
          (λ ok. keeps_now scope host.told host.moment host.left_since old new (with_pending settled) (settle_stays scope) ok c.sync.ensures.time)
          (λ err. keeps_now scope host.told host.moment host.left_since old new (with_pending (dirty file)) (soil_stays scope file c.args.name.now is) err c.sync.ensures.time),
    )
