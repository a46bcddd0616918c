-- Settling a view: nothing is done where nothing is pending, or the folder is settled.
use Rattle.std.proofs.Common.{◌≡◌, true, arith, inl, refl, rules}
use Rattle.host_core.specs.State.{settled, with_pending}
use Rattle.scopes.proofs.Changes.{either, settled_host, settles_itself}
use Rattle.scopes.proofs.Keeping.{keeps_now, keeps_same, settle_stays}
use Rattle.scopes.proofs.Time.{elapses_now}
use Rattle.scopes.specs.Laws.{keeps_itself}
use Rattle.scopes.specs.Views.{KeepsOthers}
use Rattle.scopes.proofs.scoped_host.ScopedHostHost.settle.Goals as goal

-- nothing is pending
pub returns-then-self-clause-ok : goal.returns-then-self-clause-ok
returns-then-self-clause-ok g c =
    let is : c.args.self.now.is_settled ≡ true = search rules in
    settles_itself c.args.self.now.scope (g.H.Host.told c.args.self.now.host.now)
    (settled_host (g.H.Host.told c.args.self.now.host.now) (c.args.self.now.clean is))

pub returns-then-self-clause-time : goal.returns-then-self-clause-time
returns-then-self-clause-time g c =
    record { later = omega arith; nothing_else = λ t left le since. inl since; keeps = λ t left le since. since }

pub returns-then-self-clause-goes : goal.returns-then-self-clause-goes
returns-then-self-clause-goes g c =
    let host = g.H.Host in
    let self = c.args.self.now in (
      refl,
      refl,
      g.met.H.Host.begins self.host.now,
      keeps_itself host.told host.moment host.left_since self.scope self.host.now,
    )

-- the folder is settled
pub returns-clause-time : goal.returns-clause-time
returns-clause-time g c =
    let time = elapses_now g.H.Host.moment g.H.Host.left_since c.args.self.now.scope c.args.self.now.host.now
    c.settle.new.self (g.H.Host.told c.settle.new.self) c.settle.ensures.time in
    record { later = time.later; nothing_else = time.nothing_else; keeps = time.keeps }

pub returns-clause-goes : goal.returns-clause-goes
returns-clause-goes g c =
    let scope = c.args.self.now.scope in
    let host = g.H.Host in
    let old = c.args.self.now.host.now in
    let new = c.settle.new.self in (
      refl,
      refl,
      c.settle.ensures.goes,
      either {P = KeepsOthers host.told host.moment host.left_since scope old new} c.settle.result c.settle.ensures.ok
          c.settle.ensures.err
          (λ ok. keeps_now scope host.told host.moment host.left_since old new (with_pending settled) (settle_stays scope) ok c.settle.ensures.time)
          (λ err. keeps_same scope host.told host.moment host.left_since old new err c.settle.ensures.time),
    )
