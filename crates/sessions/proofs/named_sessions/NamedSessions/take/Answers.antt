use Rattle.std.proofs.Common.{None, Some, ap, subst, ◌∙◌}
use Rattle.std.specs.Prelude.{IsSome}
use Rattle.std.specs.FinMap as finmap
use Rattle.sessions.specs.Worlds.{Session}
use Rattle.sessions.proofs.NamedEntries.{found, sessions_in-remove}
use Rattle.sessions.proofs.named_sessions.NamedSessions.take.Goals as goal

none_is_none : IsSome {T = Session} None → ⊥
none_is_none e = cc

pub unreachable-requires : goal.unreachable-requires
unreachable-requires c =
    none_is_none (subst IsSome (found c.self.inside.entries c.args.self.now c.args.name.now None c.self.view_is c.in-None.ensures.value) c.requires)

pub returns-clause-session : goal.returns-clause-session
returns-clause-session c =
    found c.self.inside.entries c.args.self.now c.args.name.now (Some c.in-Some.session) c.self.view_is c.in-Some.ensures.value

pub returns-clause-after : goal.returns-clause-after
returns-clause-after c =
    sessions_in-remove c.self.inside.entries c.remove.new.self c.args.name.now c.remove.ensures.updates
    ∙ ap (λ m. finmap.remove m c.args.name.now) c.self.view_is
