use Rattle.std.proofs.Common.{◌≡◌, List, ℕ, true, ◌∙◌, sym, ap, subst}
use Rattle.std.specs.Prelude.{All}
use Rattle.checkpoints.specs.Names.{is_good_name}
use Rattle.checkpoints.specs.Reads.{names_in}
use Rattle.checkpoints.proofs.Sorting.{good_names, lists_all}
use Rattle.checkpoints.proofs.listing.names.Goals as goal

pub returns-in_ok-list_names-in-Ok-clause-answer : goal.returns-in_ok-list_names-in-Ok-clause-answer
returns-in_ok-list_names-in-Ok-clause-answer g c =
    lists_all (g.H.Host.told c.args.host.now) c.in-Ok.files c.in_ok-list_names-in-Ok.field-0 c.in-Ok.ensures.found
    (c.in_ok-list_names-in-Ok.ensures ∙ c.in_ok-gather_names-in-Ok.ensures ∙ ap names_in c.items.ensures)

pub returns-in_ok-list_names-in-Ok-clause-good : goal.returns-in_ok-list_names-in-Ok-clause-good
returns-in_ok-list_names-in-Ok-clause-good g c =
    subst (All (λ (n : List ℕ). is_good_name n ≡ true)) (sym (c.in_ok-list_names-in-Ok.ensures ∙ c.in_ok-gather_names-in-Ok.ensures))
    (good_names c.items.result.now)
