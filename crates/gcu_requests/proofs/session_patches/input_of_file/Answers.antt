use Rattle.std.proofs.Common.{ℕ, List, [], ◌∷◌, ◌++◌, ap, ◌∙◌}
use Rattle.gcu_requests.proofs.SessionFinding.{is_last, is_on}
use Rattle.gcu_requests.proofs.session_patches.input_of_file.Goals as goal

pub returns-clause-found : goal.returns-clause-found
returns-clause-found g c =
    let all = c.in_ok-push.ensures.ok ∙ ap (λ (p : List ℕ). c.args.found ++ (p, c.in_ok-patch.patch) ∷ [])
    c.in_ok-copy.ensures in
    is_last c.args.found c.push.new.self c.args.path.now c.in_ok-patch.patch all

pub returns-clause-goes_on : goal.returns-clause-goes_on
returns-clause-goes_on g c =
    let all = c.in_ok-push.ensures.ok ∙ ap (λ (p : List ℕ). c.args.found ++ (p, c.in_ok-patch.patch) ∷ [])
    c.in_ok-copy.ensures in
    is_on c.args.found c.push.new.self c.args.path.now c.in_ok-patch.patch all
