use Rattle.std.proofs.Common.{◌-◌, ◌+◌, ◌<◌, reverse, refl, ap, ◌∙◌, arith}
use Rattle.std.proofs.lemmas.List.{reverse-reverse}
use Rattle.plan_search.specs.Problems.{part_count}
use Rattle.plan_search.proofs.Frames.{some_top, top_filled}
use Rattle.plan_search.proofs.stacks.Stack.refill.Goals as goal

pub returns-clause-spots : goal.returns-clause-spots
returns-clause-spots c =
    let len = c.len-last.ensures in
    let some = some_top (λ s. s.parts < part_count) c.args.self.now.frames.items c.requires in
    top_filled c.args.self.now.frames.items c.index_mut-frame.result.now
    (record {
      config = c.index_mut-frame.result.now.config;
      parts = c.index_mut-frame.result.now.parts + 1;
      rest = c.reverse.new.self;
    }) (c.len-last.result - 1) c.args.moves.items
    (omega (arith, len, some)) c.index_mut-frame.ensures.value refl refl
    (ap reverse c.reverse.ensures.items ∙ reverse-reverse c.args.moves.items)
