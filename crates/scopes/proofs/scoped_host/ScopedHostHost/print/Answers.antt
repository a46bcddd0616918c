use Rattle.std.proofs.Common.{[], refl, sym}
use Rattle.std.proofs.lemmas.List.{append-nil}
use Rattle.std.proofs.lemmas.Result.{on_ok_weaker}
use Rattle.scopes.proofs.Changes.{either}
use Rattle.scopes.proofs.Keeping.{keeps_print}
use Rattle.scopes.proofs.Time.{elapses_print, passes_print}
use Rattle.scopes.specs.Views.{KeepsOthers}
use Rattle.scopes.proofs.scoped_host.ScopedHostHost.print.Goals as goal

pub returns-clause-time : goal.returns-clause-time
returns-clause-time g c =
    let old = c.args.self.now.host.now in
    let time = elapses_print g.H.Host.moment g.H.Host.left_since c.args.self.now.scope old c.print.new.self c.args.bytes.now (g.H.Host.told old) c.print.ensures.time in
    record { later = time.later; nothing_else = time.nothing_else; keeps = time.keeps }

pub returns-clause-fronts : goal.returns-clause-fronts
returns-clause-fronts g c =
    let old = c.args.self.now.host.now in
    on_ok_weaker c.print.result
    (passes_print g.H.Host.moment g.H.Host.left_since c.args.self.now.scope old c.print.new.self c.args.bytes.now (g.H.Host.told old))
    c.print.ensures.fronts

pub returns-clause-goes : goal.returns-clause-goes
returns-clause-goes g c =
    let scope = c.args.self.now.scope in
    let bytes = c.args.bytes.now in
    let host = g.H.Host in
    let old = c.args.self.now.host.now in
    let new = c.print.new.self in (
      refl,
      refl,
      c.print.ensures.goes,
      either {P = KeepsOthers host.told host.moment host.left_since scope old new} c.print.result c.print.ensures.ok c.print.ensures.err
          (λ ok. keeps_print scope host.told host.moment host.left_since old new bytes (bytes, [], sym (append-nil bytes), ok) c.print.ensures.time)
          (λ err. keeps_print scope host.told host.moment host.left_since old new bytes err c.print.ensures.time),
    )
