use Rattle.std.proofs.Common.{ℕ, List, ◌≡◌, ◌≤◌, ◌-◌, [], ◌∷◌, ◌++◌, length, take, drop, get_or, subst, ap, ◌∙◌, arith, OnOk}
use Rattle.std.proofs.lemmas.List.{take_all}
use Rattle.gcu_requests.specs.ReadScripts.{patched_all}
use Rattle.gcu_words.specs.declared.script_lines.ScriptLine.{ScriptLine}
use Rattle.operators.specs.Replies.{reply_line}
use Rattle.operators.specs.Runs.{AreTold}
use Rattle.operators.proofs.ScriptRuns.{told_on}
use Rattle.operators.proofs.lines.+run_lines.Goals as goal

-- the first line and the others
first_and_others : (d : ScriptLine) (ls : List ScriptLine) → 1 ≤ length ls
    → get_or ls 0 d ∷ take (length ls - 1) (drop 1 ls) ≡ ls
first_and_others d [] some = absurd (omega (arith, some))
first_and_others d (l ∷ ls) some =
    ap (λ (ks : List ScriptLine). l ∷ ks) (take_all (length (l ∷ ls) - 1) ls (omega arith))

pub returns-in_ok-write_reply-in-len1-up-clause-told : goal.returns-in_ok-write_reply-in-len1-up-clause-told
returns-in_ok-write_reply-in-len1-up-clause-told g t c =
    let line = c.line-item.result in
    let reply = c.in_ok-reply-in-len1-up.reply in
    let rest = take (length c.args.lines.now - 1) (drop 1 c.args.lines.now) in
    let told = c.in_ok-write_reply-in-len1-up.ensures ∙ ap (λ (n : List ℕ). c.args.text.now.items ++ reply_line n
    reply) c.name_of.ensures in
    subst
    (λ (ls : List ScriptLine). OnOk c.run_lines.result (AreTold (patched_all c.args.patches.now) c.args.budget ls
    c.args.world.now c.args.text.now.items c.run_lines.new.world
    c.run_lines.new.text.items))
    (ap (λ (l : ScriptLine). l ∷ rest) c.line-item.is ∙ first_and_others line
    c.args.lines.now c.in-len1-up.len_at_least)
    (told_on (patched_all c.args.patches.now) c.args.budget c.run_lines.result line rest reply
    c.args.world.now c.turn.new.world c.run_lines.new.world
    c.args.text.now.items c.write_reply.new.text.items c.run_lines.new.text.items c.in_ok-reply-in-len1-up.ensures.turn
    told c.run_lines.ensures.told)
