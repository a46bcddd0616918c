use Rattle.std.proofs.Common.{refl}
use Rattle.host_core.specs.State.{after_restart}
use Rattle.scopes.proofs.Changes.{either}
use Rattle.scopes.proofs.Keeping.{keeps_now, keeps_same, restart_stays}
use Rattle.scopes.proofs.Time.{elapses_now}
use Rattle.scopes.specs.Views.{KeepsOthers}
use Rattle.scopes.proofs.scoped_host.ScopedHostHost.restart.Goals as goal

pub returns-clause-time : goal.returns-clause-time
returns-clause-time g c =
    let time = elapses_now g.H.Host.moment g.H.Host.left_since c.args.self.now.scope c.args.self.now.host.now c.restart.new.self (g.H.Host.told c.restart.new.self) c.restart.ensures.time in
    record { later = time.later; nothing_else = time.nothing_else; keeps = time.keeps }

pub returns-clause-goes : goal.returns-clause-goes
returns-clause-goes g c =
    let scope = c.args.self.now.scope in
    let host = g.H.Host in
    let old = c.args.self.now.host.now in
    let new = c.restart.new.self in (
      refl,
      refl,
      c.restart.ensures.goes,
      either {P = KeepsOthers host.told host.moment host.left_since scope old new} c.restart.result c.restart.ensures.ok c.restart.ensures.err
          (λ ok. keeps_now scope host.told host.moment host.left_since old new (after_restart c.args.service.now) (restart_stays scope c.args.service.now) ok c.restart.ensures.time)
          (λ err. keeps_same scope host.told host.moment host.left_since old new err c.restart.ensures.time),
    )
