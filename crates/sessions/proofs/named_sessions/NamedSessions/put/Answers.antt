use Rattle.std.proofs.Common.{◌∙◌}
use Rattle.std.specs.Prelude.{string_bytes}
use Rattle.std.specs.FinMap as finmap
use Rattle.sessions.proofs.NamedEntries.{sessions_in-insert}
use Rattle.sessions.proofs.named_sessions.NamedSessions.put.Goals as goal

pub returns-clause-ok : goal.returns-clause-ok
returns-clause-ok c =
    sessions_in-insert c.self.inside.entries c.insert.new.self (string_bytes c.into_string.result) c.args.session c.in_ok-insert.ensures.updates
    ∙ (λ i. finmap.insert (c.self.view_is i) (c.into_string.ensures i) c.args.session)
