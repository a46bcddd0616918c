use Rattle.std.proofs.Common.{◌≡◌, true, rules, ◌∙◌}
use Rattle.checkpoints.specs.Names.{is_good_name}
use Rattle.checkpoints.proofs.PointMaps.{point_found}
use Rattle.checkpoints.proofs.reading.read_point.Goals as goal

pub returns-clause-point : goal.returns-clause-point
returns-clause-point g c =
    let good : is_good_name c.args.name.now ≡ true = search rules in
    point_found (g.H.Host.told c.args.host.now) c.args.name.now c.as_str.result.now c.in_ok-found.found good
    (c.as_str.ensures.text ∙ c.in_ok-file.ensures.file) c.in_ok-found.ensures.found
