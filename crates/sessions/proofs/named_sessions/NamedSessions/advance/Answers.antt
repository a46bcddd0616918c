use Rattle.std.proofs.Common.{rules, ◌≡◌, ◌<◌, length, None, Option, Some, IfSome, subst, sym, ◌∙◌}
use Rattle.std.specs.Prelude.{IsSomeAnd}
use Rattle.std.specs.FinMap as finmap
use Rattle.sessions.specs.Named.{after_move, sessions_in}
use Rattle.sessions.specs.Worlds.{Session}
use Rattle.sessions.proofs.NamedEntries.{found, sessions_in-insert}
use Rattle.sessions.proofs.named_sessions.NamedSessions.advance.Goals as goal

abbrev HasRest : Option Session → Type 0
HasRest o = IsSomeAnd o (λ s. 0 < length s.rest)

pub unreachable-requires : goal.unreachable-requires
unreachable-requires c =
    subst HasRest (found c.self.inside.entries c.args.self.now c.args.name.now None c.self.view_is c.in-None.ensures.value) c.requires

pub advance-requires : goal.advance-requires
advance-requires c =
    subst HasRest (found c.self.inside.entries c.args.self.now c.args.name.now (Some c.in-Some.session.now) c.self.view_is c.in-Some.ensures.value) c.requires

pub returns : goal.returns
returns c =
    let there : finmap.get c.args.self.now c.args.name.now ≡ Some c.in-Some.session.now =
    found c.self.inside.entries c.args.self.now c.args.name.now (Some c.in-Some.session.now) c.self.view_is c.in-Some.ensures.value in
    let new = c.get_mut.follows.lender c.advance.new.self in
    let is : sessions_in new.entries ≡ finmap.insert c.args.self.now c.args.name.now (after_move c.args.seen c.in-Some.session.now) =
    sessions_in-insert c.self.inside.entries new c.args.name.now c.advance.new.self
    ((c.get_mut.follows.holds c.advance.new.self).3 (search rules))
    ∙ (λ i. finmap.insert (c.self.view_is i) c.args.name.now (c.advance.ensures i)) in
    let P : Option Session → Type 0 = λ o. IfSome o (λ s. sessions_in new.entries ≡ finmap.insert c.args.self.now c.args.name.now (after_move c.args.seen s)) in
    subst P (sym there) is
