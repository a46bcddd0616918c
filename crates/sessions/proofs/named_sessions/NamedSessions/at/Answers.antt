use Rattle.std.proofs.Common.{None, Some, subst}
use Rattle.std.specs.Prelude.{IsSome}
use Rattle.sessions.specs.Worlds.{Session}
use Rattle.sessions.proofs.NamedEntries.{found}
use Rattle.sessions.proofs.named_sessions.NamedSessions.at.Goals as goal

none_is_none : IsSome {T = Session} None → ⊥
none_is_none e = cc

pub unreachable-requires : goal.unreachable-requires
unreachable-requires c =
    none_is_none (subst IsSome (found c.self.inside.entries c.args.self.now c.args.name.now None c.self.view_is c.in-None.ensures.value) c.requires)

pub returns : goal.returns
returns c = found c.self.inside.entries c.args.self.now c.args.name.now (Some c.in-Some.session.now) c.self.view_is c.in-Some.ensures.value
