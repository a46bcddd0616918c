use Rattle.std.proofs.Common.{refl, ◌∙◌}
use Rattle.scopes.proofs.Changes.{read_found}
use Rattle.scopes.proofs.Keeping.{keeps_same}
use Rattle.scopes.proofs.Time.{elapses_now}
use Rattle.scopes.proofs.scoped_host.ScopedHostHost.read.Goals as goal

pub returns-clause-found : goal.returns-clause-found
returns-clause-found g c =
    read_found c.args.self.now.scope c.as_str.result.now c.args.name.now (c.as_str.ensures.value ∙ c.file_name-file.ensures) c.read.result (g.H.Host.told c.args.self.now.host.now) c.read.ensures.found

pub returns-clause-time : goal.returns-clause-time
returns-clause-time g c =
    let time = elapses_now g.H.Host.moment g.H.Host.left_since c.args.self.now.scope c.args.self.now.host.now c.read.new.self (g.H.Host.told c.read.new.self) c.read.ensures.time in
    record { later = time.later; nothing_else = time.nothing_else; keeps = time.keeps }

pub returns-clause-goes : goal.returns-clause-goes
returns-clause-goes g c =
    let host = g.H.Host in (
      refl,
      refl,
      c.read.ensures.goes,
      keeps_same c.args.self.now.scope host.told host.moment host.left_since c.args.self.now.host.now c.read.new.self c.read.ensures.told c.read.ensures.time,
    )
