use Rattle.std.proofs.Common.{◌≡◌, Bor, Option, None, Some, refl, sym, ap, ◌∙◌}
use Rattle.std.specs.Prelude.{is_some}
use Rattle.std.specs.Option.{option_copied}
use Rattle.std.specs.FinMap as finmap
use Rattle.sessions.specs.Worlds.{Session}
use Rattle.sessions.proofs.NamedEntries.{found}
use Rattle.sessions.proofs.named_sessions.NamedSessions.knows.Goals as goal

is_some-copied : (o : Option (Bor Session)) → is_some (option_copied o) ≡ is_some o
is_some-copied None = refl
is_some-copied (Some s) = refl

pub returns : goal.returns
returns c =
    let same : is_some (finmap.get c.args.self.now c.args.name.now) ≡ c.is_some.result =
    ap is_some (found c.self.inside.entries c.args.self.now c.args.name.now (option_copied c.get.result) c.self.view_is c.get.ensures.value)
    ∙ is_some-copied c.get.result ∙ sym c.is_some.ensures in
    (λ told. same ∙ told, λ there. sym same ∙ there)
