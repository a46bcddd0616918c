use Rattle.move_rules.specs.Dependencies.{place_of}
use Rattle.move_rules.proofs.Dependencies.{at_itself}
use Rattle.move_rules.proofs.no_dependency.is_at.Goals as goal

pub returns-then-is_at_or_below : goal.returns-then-is_at_or_below
returns-then-is_at_or_below c =
    at_itself c.args.place.now (place_of c.args.at.now) c.len.result c.names_count.result c.len.ensures.len c.names_count.ensures
    (c.is_at_or_below.ensures.0 c.if-is_at_or_below.true)
