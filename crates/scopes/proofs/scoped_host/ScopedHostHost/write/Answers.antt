use Rattle.std.proofs.Common.{Some, refl, ◌∙◌}
use Rattle.std.proofs.lemmas.Result.{on_ok_weaker, on_err_weaker}
use Rattle.host_core.specs.State.{after_write}
use Rattle.scopes.proofs.Changes.{can_write, either, shows_write, told_by}
use Rattle.scopes.proofs.Keeping.{keeps_now, write_stays}
use Rattle.scopes.proofs.Time.{elapses_now}
use Rattle.scopes.specs.Views.{KeepsOthers}
use Rattle.scopes.proofs.scoped_host.ScopedHostHost.write.Goals as goal

pub write-requires-clause-ready : goal.write-requires-clause-ready
write-requires-clause-ready g c =
    can_write c.args.self.now.scope c.as_str.result.now c.args.name.now (c.as_str.ensures.value ∙ c.file_name-file.ensures) (g.H.Host.told c.args.self.now.host.now) c.requires.ready

pub returns-clause-ok : goal.returns-clause-ok
returns-clause-ok g c =
    let file = c.as_str.result.now in
    let plain = c.args.name.now in
    let is = c.as_str.ensures.value ∙ c.file_name-file.ensures in
    let content = Some c.args.bytes.now in
    on_ok_weaker c.write.result
    (told_by c.args.self.now.scope (after_write file content) (after_write plain content) (shows_write c.args.self.now.scope file plain is content) (g.H.Host.told c.args.self.now.host.now) (g.H.Host.told c.write.new.self))
    c.write.ensures.ok

pub returns-clause-err : goal.returns-clause-err
returns-clause-err g c =
    let file = c.as_str.result.now in
    let plain = c.args.name.now in
    let is = c.as_str.ensures.value ∙ c.file_name-file.ensures in
    on_err_weaker c.write.result
    (λ left. (left.0, told_by c.args.self.now.scope (after_write file left.0) (after_write plain left.0) (shows_write c.args.self.now.scope file plain is left.0) (g.H.Host.told c.args.self.now.host.now) (g.H.Host.told c.write.new.self) left.1))
    c.write.ensures.err

pub returns-clause-time : goal.returns-clause-time
returns-clause-time g c =
    let time = elapses_now g.H.Host.moment g.H.Host.left_since c.args.self.now.scope c.args.self.now.host.now c.write.new.self (g.H.Host.told c.write.new.self) c.write.ensures.time in
    record { later = time.later; nothing_else = time.nothing_else; keeps = time.keeps }

pub returns-clause-goes : goal.returns-clause-goes
returns-clause-goes g c =
    let file = c.as_str.result.now in
    let is = c.as_str.ensures.value ∙ c.file_name-file.ensures in
    let scope = c.args.self.now.scope in
    let host = g.H.Host in
    let old = c.args.self.now.host.now in
    let new = c.write.new.self in (
      refl,
      refl,
      c.write.ensures.goes,
      either {P = KeepsOthers host.told host.moment host.left_since scope old new} c.write.result c.write.ensures.ok c.write.ensures.err
          (λ ok. keeps_now scope host.told host.moment host.left_since old new (after_write file (Some c.args.bytes.now)) (write_stays scope file c.args.name.now is (Some c.args.bytes.now)) ok c.write.ensures.time)
          (λ err. keeps_now scope host.told host.moment host.left_since old new (after_write file err.0) (write_stays scope file c.args.name.now is err.0) err.1 c.write.ensures.time),
    )
