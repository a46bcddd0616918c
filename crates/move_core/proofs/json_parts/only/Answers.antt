use Rattle.std.proofs.Common.{sym, ◌∙◌, map}
use Rattle.serde_json.specs.View.{members_view}
use Rattle.move_core.specs.RulesFile.{has_only}
use Rattle.move_core.proofs.Listing.{has_only-keys, or_fails-true, or_fails-false}
use Rattle.move_core.proofs.json_parts.only.Goals as goal

pub returns-then-has_only : goal.returns-then-has_only
returns-then-has_only c =
    or_fails-true c.args.why (has_only (map (λ n. n.now) c.args.names.now)) (members_view c.args.members.now.entries)
    (sym (has_only-keys c.args.names.now c.args.members.now.entries) ∙ sym c.has_only.ensures ∙ c.if-has_only.true)

pub returns-else-has_only : goal.returns-else-has_only
returns-else-has_only c =
    or_fails-false c.args.why (has_only (map (λ n. n.now) c.args.names.now)) (members_view c.args.members.now.entries)
    (sym (has_only-keys c.args.names.now c.args.members.now.entries) ∙ sym c.has_only.ensures ∙ c.if-has_only.false)
