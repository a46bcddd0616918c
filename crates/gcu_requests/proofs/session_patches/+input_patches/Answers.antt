use Rattle.std.proofs.Common.{List, ◌≡◌, ◌≤◌, ◌-◌, [], ◌∷◌, length, take, drop, get_or, subst, ap, ◌∙◌, arith}
use Rattle.std.proofs.lemmas.List.{take_all}
use Rattle.gcu_words.specs.declared.script_lines.ScriptLine.{ScriptLine}
use Rattle.gcu_inputs.specs.Preparing.{Finds}
use Rattle.gcu_requests.specs.ReadScripts.{patched_all}
use Rattle.gcu_requests.specs.SessionsAsked.{patches_asked}
use Rattle.gcu_requests.proofs.SessionFinding.{line_found}
use Rattle.gcu_requests.proofs.session_patches.+input_patches.Goals as goal

-- the first line and the others
first_and_others : (d : ScriptLine) (ls : List ScriptLine) → 1 ≤ length ls
    → get_or ls 0 d ∷ take (length ls - 1) (drop 1 ls) ≡ ls
first_and_others d [] some = absurd (omega (arith, some))
first_and_others d (l ∷ ls) some =
    ap (λ (ks : List ScriptLine). l ∷ ks) (take_all (length (l ∷ ls) - 1) ls (omega arith))

pub returns-in_ok-more-in-len1-up-clause-answer : goal.returns-in_ok-more-in-len1-up-clause-answer
returns-in_ok-more-in-len1-up-clause-answer g t c =
    let told = g.H.Host.told c.args.host.now in
    let rest = take (length c.args.lines.now - 1) (drop 1 c.args.lines.now) in
    subst (λ (ls : List ScriptLine). Finds told patched_all
    c.input_patches.result (patches_asked (patched_all c.args.found) ls))
    (ap (λ (l : ScriptLine). l ∷ rest) c.line-item.is ∙
    first_and_others c.line-item.result c.args.lines.now c.in-len1-up.len_at_least)
    (line_found told c.args.found c.in_ok-more-in-len1-up.more c.line-item.result rest c.input_patches.result
    c.in_ok-more-in-len1-up.ensures.answer
    (rw c.in_ok-more-in-len1-up.ensures.reads.state at c.input_patches.ensures.answer))
