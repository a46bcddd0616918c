use Rattle.std.proofs.Common.{◌≡◌, ◌∙◌, ℕ, List, length, ap, option_map, subst, arith}
use Rattle.std.proofs.lemmas.List.{length-map}
use Rattle.host_core.specs.Crashes.{Elapses, MayLeaveInPrint}
use Rattle.host_core.specs.State.{PrintsPart, printed}
use Rattle.checkpoints.specs.Migrations.{NewFile}
use Rattle.checkpoints.specs.MigrationLines.{migrated_line}
use Rattle.checkpoints.proofs.PutFiles.{item_there, line_there}
use Rattle.checkpoints.proofs.MigrationSteps.{print_stops, telling, tells}
use Rattle.checkpoints.proofs.migration_steps.tell_next.Goals as goal

pub at-requires : goal.at-requires
at-requires g c =
    let long : length c.args.lines.now ≡ length c.args.migration.now =
    ap (λ (xs : List (List ℕ)). length xs) c.requires.lines ∙ length-map c.args.migration.now (λ (new : NewFile). migrated_line new.0) in
    omega (arith, long)

pub returns-in-Ok-clause-ok : goal.returns-in-Ok-clause-ok
returns-in-Ok-clause-ok g c =
    let here = item_there c.args.migration.now c.args.k c.requires.within in
    let line = c.as_bytes.ensures.value ∙ c.as_str.ensures.text ∙ line_there c.args.migration.now c.args.k here.0 here.1 c.args.lines.now c.at.result.now c.requires.lines c.at.ensures in
    let old = g.H.Host.told c.args.host.now in
    let new = g.H.Host.told c.print.new.self in
    λ began at.
    tells c.args.migration.now c.args.k here.0 here.1 began old new at (subst (λ (b : List ℕ). new ≡ option_map (printed b) old) line c.in-Ok.ensures.ok)

pub returns-in-Ok-clause-any_moment : goal.returns-in-Ok-clause-any_moment
returns-in-Ok-clause-any_moment g c =
    let here = item_there c.args.migration.now c.args.k c.requires.within in
    let line = c.as_bytes.ensures.value ∙ c.as_str.ensures.text ∙ line_there c.args.migration.now c.args.k here.0 here.1 c.args.lines.now c.at.result.now c.requires.lines c.at.ensures in
    let old = g.H.Host.told c.args.host.now in
    λ began at.
    telling c.args.migration.now c.args.k here.0 here.1 g.H.Host.moment g.H.Host.left_since began old c.args.host.now c.print.new.self at
    (λ left since. g.met.H.Host.only_now c.args.host.now left since)
    (subst (λ (b : List ℕ). Elapses g.H.Host.moment g.H.Host.left_since c.args.host.now c.print.new.self (MayLeaveInPrint b old)) line c.print.ensures.time)

pub returns-in-Err-clause-err : goal.returns-in-Err-clause-err
returns-in-Err-clause-err g c =
    let here = item_there c.args.migration.now c.args.k c.requires.within in
    let line = c.as_bytes.ensures.value ∙ c.as_str.ensures.text ∙ line_there c.args.migration.now c.args.k here.0 here.1 c.args.lines.now c.at.result.now c.requires.lines c.at.ensures in
    let old = g.H.Host.told c.args.host.now in
    let new = g.H.Host.told c.print.new.self in
    λ began at.
    print_stops c.args.migration.now c.args.k here.0 here.1 began old new at (subst (λ (b : List ℕ). PrintsPart b old new) line c.in-Err.ensures.err)

pub returns-in-Err-clause-any_moment : goal.returns-in-Err-clause-any_moment
returns-in-Err-clause-any_moment g c =
    let here = item_there c.args.migration.now c.args.k c.requires.within in
    let line = c.as_bytes.ensures.value ∙ c.as_str.ensures.text ∙ line_there c.args.migration.now c.args.k here.0 here.1 c.args.lines.now c.at.result.now c.requires.lines c.at.ensures in
    let old = g.H.Host.told c.args.host.now in
    λ began at.
    telling c.args.migration.now c.args.k here.0 here.1 g.H.Host.moment g.H.Host.left_since began old c.args.host.now c.print.new.self at
    (λ left since. g.met.H.Host.only_now c.args.host.now left since)
    (subst (λ (b : List ℕ). Elapses g.H.Host.moment g.H.Host.left_since c.args.host.now c.print.new.self (MayLeaveInPrint b old)) line c.print.ensures.time)
