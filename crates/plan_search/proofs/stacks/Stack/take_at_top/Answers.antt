use Rattle.std.proofs.Common.{◌-◌, take, ap, refl, ◌∙◌, arith}
use Rattle.std.proofs.lemmas.List.{length-map, length-reverse}
use Rattle.plan_search.proofs.Frames.{top_taken}
use Rattle.plan_search.proofs.stacks.Stack.take_at_top.Goals as goal

pub returns-clause-spots : goal.returns-clause-spots
returns-clause-spots c =
    let len = c.len-last.ensures in
    let some = simp (length-map, length-reverse) at c.requires in
    top_taken c.args.self.now.frames.items c.index_mut.result.now
    (record {
      config = c.index_mut.result.now.config;
      parts = c.index_mut.result.now.parts;
      rest = c.pop.new.self;
    }) (c.len-last.result - 1) c.pop.result
    (omega (arith, len, some)) c.index_mut.ensures.value refl refl c.pop.ensures.items
    (λ none.
    let k = rw none at c.pop.ensures.cases in
    c.pop.ensures.rest ∙ ap (λ n. take (n - 1) c.index_mut.result.now.rest.items) k.0)
