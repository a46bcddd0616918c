use Rattle.std.proofs.Common.{◌≡◌}
use Rattle.move_gen.specs.Given.{move_for}
use Rattle.move_gen.proofs.ListGrowth.{gives_some, some_none}
use Rattle.move_gen.proofs.giving.give.Goals as goal

pub returns-in_err-push : goal.returns-in_err-push
returns-in_err-push c =
    gives_some (λ g. g ≡ move_for c.args.mv c.args.place c.args.class) c.from_residual.result c.args.out.now.items c.push.new.self.items c.from_residual.ensures.0
    (some_none (λ g. g ≡ move_for c.args.mv c.args.place c.args.class) c.args.out.now.items c.push.new.self.items c.in_err-push.ensures.items)
