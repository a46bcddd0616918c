use Rattle.std.proofs.Common.{refl}
use Rattle.scopes.proofs.Keeping.{keeps_same}
use Rattle.scopes.proofs.Time.{elapses_now}
use Rattle.scopes.proofs.scoped_host.ScopedHostHost.input.Goals as goal

pub returns-clause-time : goal.returns-clause-time
returns-clause-time g c =
    let time = elapses_now g.H.Host.moment g.H.Host.left_since c.args.self.now.scope c.args.self.now.host.now c.input.new.self (g.H.Host.told c.input.new.self) c.input.ensures.time in
    record { later = time.later; nothing_else = time.nothing_else; keeps = time.keeps }

pub returns-clause-goes : goal.returns-clause-goes
returns-clause-goes g c =
    let host = g.H.Host in (
      refl,
      refl,
      c.input.ensures.goes,
      keeps_same c.args.self.now.scope host.told host.moment host.left_since c.args.self.now.host.now c.input.new.self c.input.ensures.told c.input.ensures.time,
    )
