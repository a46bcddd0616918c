use Rattle.std.proofs.Common.{ap, sym, ◌∙◌, List}
use Rattle.std.proofs.lemmas.List.{drop-drop}
use Rattle.move_core.specs.declared.moves.Move.{Move}
use Rattle.sessions.specs.Named.{after_move}
use Rattle.sessions.specs.Worlds.{Session}
use Rattle.sessions.proofs.session.LiveSession.advance.Goals as goal

pub returns : goal.returns
returns c =
    let with_rest : List Move → Session = λ rest. record { goal = c.self.inside.goal; seen = c.args.seen; rest = rest } in
    ap with_rest (sym (drop-drop 1 c.self.inside.committed c.self.inside.plan))
    ∙ ap (after_move c.args.seen) c.self.view_is
