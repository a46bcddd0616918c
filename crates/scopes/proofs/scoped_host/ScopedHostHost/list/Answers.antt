use Rattle.std.proofs.Common.{refl}
use Rattle.scopes.proofs.Keeping.{keeps_same}
use Rattle.scopes.proofs.ListedNames.{listing_seen}
use Rattle.scopes.proofs.Time.{elapses_now}
use Rattle.scopes.proofs.scoped_host.ScopedHostHost.list.Goals as goal

pub returns-clause-found : goal.returns-clause-found
returns-clause-found g c =
    listing_seen c.args.self.now.scope (g.H.Host.told c.args.self.now.host.now) c.list-listed.result c.plain_names.result c.list-listed.ensures.found c.plain_names.ensures.names

pub returns-clause-cause : goal.returns-clause-cause
returns-clause-cause g c = λ failed. c.list-listed.ensures.cause (c.plain_names.ensures.fault failed)

pub returns-clause-time : goal.returns-clause-time
returns-clause-time g c =
    let time = elapses_now g.H.Host.moment g.H.Host.left_since c.args.self.now.scope c.args.self.now.host.now c.list-listed.new.self (g.H.Host.told c.list-listed.new.self) c.list-listed.ensures.time in
    record { later = time.later; nothing_else = time.nothing_else; keeps = time.keeps }

pub returns-clause-goes : goal.returns-clause-goes
returns-clause-goes g c =
    let host = g.H.Host in (
      refl,
      refl,
      c.list-listed.ensures.goes,
      keeps_same c.args.self.now.scope host.told host.moment host.left_since c.args.self.now.host.now c.list-listed.new.self c.list-listed.ensures.told c.list-listed.ensures.time,
    )
