use Rattle.plan_search.proofs.planning.KitMovesExpanding.try_move.Goals as goal

pub step-requires : goal.step-requires
step-requires g c =
    let s = c.args.self.now in
    c.listed_moves_are_defined.ensures.listed s.ctx.now c.args.cur.now s.goal.now c.args.mv.now c.len-tables.ensures.formed c.requires.listed

pub keep_rules-requires-clause-next : goal.keep_rules-requires-clause-next
keep_rules-requires-clause-next g c =
    let s = c.args.self.now in
    record {
      defined = c.listed_moves_are_defined.ensures.listed s.ctx.now c.args.cur.now s.goal.now c.args.mv.now c.len-tables.ensures.formed c.requires.listed;
      is = c.in_ok-next.ensures.step;
    }
