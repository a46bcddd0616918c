use Rattle.std.proofs.Common.{inl, inr, refl, ◌∙◌}
use Rattle.move_lists.proofs.MoveMaps.{known, put, unknown}
use Rattle.move_lists.proofs.reaches.Reach.note.Goals as goal
use Rattle.move_lists.proofs.reaches.Reach.note.Goals.{then-contains_key-via-then-contains_key, then-contains_key-via-else-contains_key+then-contains_key-2}

pub returns-then-contains_key : goal.returns-then-contains_key
returns-then-contains_key c =
    inl (
      elim c.then-contains_key.branch [
        | then-contains_key-via-then-contains_key w ↦
            inl (known _ c.args.beside.now c.args.mv c.contains_key.result c.contains_key.ensures c.beside.view_is w.if-contains_key.true)
        | then-contains_key-via-else-contains_key+then-contains_key-2 w ↦
            inr (known _ c.args.self.now c.args.mv w.contains_key-else-contains_key.result w.contains_key-else-contains_key.ensures c.self.view_is w.if-contains_key-2.true)
      ],
      refl,
    )

pub returns : goal.returns
returns c =
    let beside = unknown _ c.args.beside.now c.args.mv c.contains_key.result c.contains_key.ensures c.beside.view_is c.if-contains_key.false in
    let here = unknown _ c.args.self.now c.args.mv c.contains_key-else-contains_key.result c.contains_key-else-contains_key.ensures c.self.view_is c.if-contains_key-2.false in
    inr ((beside, here), c.in_ok-insert.ensures.entries ∙ put _ c.args.self.now c.args.mv c.args.depth c.self.view_is here)
