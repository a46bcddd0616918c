use Rattle.std.proofs.Common.{ℕ, List, ◌≡◌, ◌≤◌, ◌-◌, [], ◌∷◌, ◌++◌, length, take, drop, get_or, subst, ap, ◌∙◌, arith}
use Rattle.std.proofs.lemmas.List.{take_all}
use Rattle.gcu_inputs.specs.ModelFiles.{files_asked}
use Rattle.gcu_inputs.specs.Preparing.{Finds}
use Rattle.gcu_inputs.proofs.ModelTexts.{file_read}
use Rattle.gcu_inputs.proofs.model_files.+input_files.Goals as goal

-- the first path and the others
first_and_others : (d : List ℕ) (ps : List (List ℕ)) → 1 ≤ length ps
    → get_or ps 0 d ∷ take (length ps - 1) (drop 1 ps) ≡ ps
first_and_others d [] some = absurd (omega (arith, some))
first_and_others d (x ∷ ps) some = ap (λ qs. x ∷ qs) (take_all (length (x ∷ ps) - 1) ps (omega arith))

pub returns-in_ok-push-in-len1-up-clause-answer : goal.returns-in_ok-push-in-len1-up-clause-answer
returns-in_ok-push-in-len1-up-clause-answer g t c =
    let told = g.H.Host.told c.args.host.now in
    let rest = take (length c.args.paths.now - 1) (drop 1 c.args.paths.now) in
    let found = c.in_ok-push-in-len1-up.ensures.ok
    ∙ ap (λ p. c.args.found ++ (p, c.in_ok-bytes-in-len1-up.bytes) ∷ []) c.in_ok-copy-in-len1-up.ensures in
    subst (λ ps. Finds told (λ files. files) c.input_files.result (files_asked c.args.found ps))
    (ap (λ p. p ∷ rest) c.path-item.is ∙ first_and_others c.path-item.result c.args.paths.now c.in-len1-up.len_at_least)
    (file_read told c.args.found c.path-item.result c.in_ok-bytes-in-len1-up.bytes rest c.input_files.result
    c.in_ok-bytes-in-len1-up.ensures.answer
    (subst (λ f. Finds told (λ files. files) c.input_files.result (files_asked f rest)) found
    (rw c.in_ok-bytes-in-len1-up.ensures.reads.state at c.input_files.ensures.answer)))
