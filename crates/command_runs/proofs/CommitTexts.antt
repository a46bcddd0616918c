-- What operators are told tells the moves of their commits.
use Rattle.std.proofs.Common.{◌≡◌, ◌∙◌, inl, inr, ℕ, List, [], ◌∷◌, ◌++◌, length, refl, sym, ap, subst, append_assoc, append-nil, Option, Some, None}
use Rattle.std.proofs.lemmas.List.{length-map, map-append}
use Rattle.conf_doc.specs.declared.configuration.Config.{Config}
use Rattle.move_core.specs.Contexts.{IsValidIn, rulebook}
use Rattle.move_core.specs.declared.moves.Move.{Move}
use Rattle.operators.specs.Replies.{commits_line, reply_line}
use Rattle.operators.specs.Runs.{IsOperated, IsRunOf, IsTurnOf, reply_lines}
use Rattle.gcu_words.specs.Scripts.{AreNamed, name_of}
use Rattle.gcu_words.specs.declared.script_lines.ScriptLine.{ScriptLine}
use Rattle.gcu_words.specs.declared.script_lines.ScriptLine.TheVariants.{Begin, Step, Retarget, End}
use Rattle.sessions.specs.Runs.{moves_of}
use Rattle.sessions.specs.Turns.{Aim, IsBegin, IsEnd, IsNext, IsRetarget, IsStep, Refusal, Towards}
use Rattle.sessions.specs.Worlds.{IsKept, Leads, Session, WorldState, opened, session_of}
use Rattle.sessions.specs.declared.commits.Commit.{Commit}
use Rattle.sessions.specs.declared.replies.Reply.{Reply}
use Rattle.sessions.specs.declared.replies.Reply.TheVariants.{Applied, Began, Ended, Exists, Idle, Moved, Refused, Retargeted, Unknown}
use Rattle.gcu_requests.specs.Request.{Operating, Patched}
use Rattle.command_runs.specs.Works.{FitTheirPlaces, HaveNames, Told, committed, moves_told, told_lines, told_text}
use Rattle.command_runs.proofs.Fitting.{commits_fit}
use Rattle.command_runs.proofs.WorkOutputs.{AreToldBy}

-- scripts keep what every world keeps
abbrev pub KeepsWorlds : Type 0
KeepsWorlds = (p : Operating) (text : List ℕ) (after : WorldState) → IsValidIn p.ctx p.start → IsOperated p text after
    → IsKept after

-- ---- a turn

-- the moves after a turn: those before it, and the one that is committed
abbrev Adds : WorldState → Reply → WorldState → Type 0
Adds w reply next = moves_of next.commits ≡ moves_of w.commits ++ committed reply []

-- nothing is committed
still : (w next : WorldState) (reply told : Reply) → reply ≡ told → next.commits ≡ w.commits → committed told [] ≡ []
    → Adds w reply next
still w next reply told is same none =
    ap moves_of same ∙ sym (append-nil (moves_of w.commits)) ∙ ap (λ (ms : List Move). moves_of w.commits ++ ms)
    (sym none)
    ∙ ap (λ (r : Reply). moves_of w.commits ++ committed r []) (sym is)

commits_of : {w next : WorldState} → next ≡ w → next.commits ≡ w.commits
commits_of e = ap (λ (v : WorldState). v.commits) e

module _ (w : WorldState) (name : List ℕ) (reply : Reply) (next : WorldState) where
  begin_adds : (aim : Aim) (found : Option Session) → IsBegin w name aim found reply next → Adds w reply next
  begin_adds aim (Some s) turn = still w next reply Exists turn.0 (commits_of turn.1) refl
  begin_adds (Refusal number) None turn = still w next reply (Refused number) turn.0 (commits_of turn.1) refl
  begin_adds (Towards goal plan) None turn = still w next reply (Began (length plan)) turn.1 (commits_of turn.2) refl

  next_adds : (goal : Config) (rest : List Move) → IsNext w name goal rest reply next → Adds w reply next
  next_adds goal [] turn = still w next reply Idle turn.0 (commits_of turn.1) refl
  next_adds goal (m ∷ rest) turn =
      ap (λ (v : WorldState). moves_of v.commits) turn.1
      ∙ map-append (λ (k : Commit). k.mv) w.commits (record { name = name; goal = goal; mv = m } ∷ [])
      ∙ ap (λ (r : Reply). moves_of w.commits ++ committed r []) (sym turn.0)

  step_adds : (found : Option Session) → IsStep w name found reply next → Adds w reply next
  step_adds None turn = still w next reply Unknown turn.0 (commits_of turn.1) refl
  step_adds (Some s) (inl turn) =
      still w next reply (Moved s.seen (length w.commits)) turn.1.0 (commits_of turn.1.1) refl
  step_adds (Some s) (inr turn) = next_adds s.goal s.rest turn.1

  retarget_adds : (aim : Aim) (found : Option Session) → IsRetarget w name aim found reply next → Adds w reply next
  retarget_adds aim None turn = still w next reply Unknown turn.0 (commits_of turn.1) refl
  retarget_adds (Refusal number) (Some s) turn = still w next reply (Refused number) turn.0 (commits_of turn.1) refl
  retarget_adds (Towards goal plan) (Some s) turn =
      still w next reply (Retargeted (length plan)) turn.1 (commits_of turn.2) refl

  end_adds : (found : Option Session) → IsEnd w name found reply next → Adds w reply next
  end_adds None turn = still w next reply Unknown turn.0 (commits_of turn.1) refl
  end_adds (Some s) turn = still w next reply (Ended turn.0) turn.2 (commits_of turn.3) refl

turn_adds : (patches : List Patched) (budget : ℕ) (w next : WorldState) (line : ScriptLine) (reply : Reply)
    → IsTurnOf patches budget w line reply next → Adds w reply next
turn_adds patches budget w next (Begin name file) reply turn =
    begin_adds w name reply next turn.0 (session_of name w) turn.2
turn_adds patches budget w next (Step name) reply turn = step_adds w name reply next (session_of name w) turn
turn_adds patches budget w next (Retarget name file) reply turn =
    retarget_adds w name reply next turn.0 (session_of name w) turn.2
turn_adds patches budget w next (End name) reply turn = end_adds w name reply next (session_of name w) turn

-- ---- all lines

-- the operator of each line, and what he is told
abbrev told_of : List ScriptLine → List Reply → List Told
told_of (line ∷ lines) (reply ∷ replies) = (name_of line, reply) ∷ told_of lines replies
told_of lines replies = []

told_named : (lines : List ScriptLine) (replies : List Reply) → AreNamed lines → HaveNames (told_of lines replies)
told_named [] replies named = tt
told_named (line ∷ lines) [] named = tt
told_named (line ∷ lines) (reply ∷ replies) named = (named.0, told_named lines replies named.1)

lines_told : (lines : List ScriptLine) (replies : List Reply)
    → reply_lines lines replies ≡ told_lines (told_of lines replies)
lines_told [] replies = refl
lines_told (line ∷ lines) [] = refl
lines_told (line ∷ lines) (reply ∷ replies) =
    ap (λ (t : List ℕ). reply_line (name_of line) reply ++ t) (lines_told lines replies)

-- the one that is committed stands before the others
committed_first : (r : Reply) (ms : List Move) → committed r [] ++ ms ≡ committed r ms
committed_first (Applied m) ms = refl
committed_first other ms = refl

run_adds : (patches : List Patched) (budget : ℕ) (w after : WorldState) (lines : List ScriptLine)
    (replies : List Reply) → IsRunOf patches budget w lines replies after
    → moves_of after.commits ≡ moves_of w.commits ++ moves_told (told_of lines replies)
run_adds patches budget w after [] [] is =
    ap (λ (v : WorldState). moves_of v.commits) is ∙ sym (append-nil (moves_of w.commits))
run_adds patches budget w after [] (reply ∷ replies) never = absurd never
run_adds patches budget w after (line ∷ lines) [] never = absurd never
run_adds patches budget w after (line ∷ lines) (reply ∷ replies) (next, turn, run) =
    let others = moves_told (told_of lines replies) in
    run_adds patches budget next after lines replies run
    ∙ ap (λ (ms : List Move). ms ++ others) (turn_adds patches budget w next line reply turn)
    ∙ append_assoc (moves_of w.commits) (committed reply []) others
    ∙ ap (λ (ms : List Move). moves_of w.commits ++ ms) (committed_first reply others)

-- ---- the whole

-- what operators commit is told by what they are told
pub operated_told : KeepsWorlds → (p : Operating) (ms : List Move) (text : List ℕ) (after : WorldState)
    → AreNamed p.lines → IsValidIn p.ctx p.start
    → IsOperated p text after → ms ≡ moves_of after.commits → AreToldBy ms text
operated_told keeps p ms text after named valid is moves =
    inr (told, told_named p.lines is.0 named, moves ∙ same, subst FitTheirPlaces (sym moves) fit, text_is)
  where
    told : List Told
    told = told_of p.lines is.0

    same : moves_of after.commits ≡ moves_told told
    same = run_adds p.patches p.budget (opened p.ctx p.start) after p.lines is.0 is.1

    count : length after.commits ≡ length (moves_told told)
    count = sym (length-map after.commits (λ (k : Commit). k.mv)) ∙ ap (λ (ns : List Move). length ns) same

    text_is : text ≡ told_text told
    text_is =
        is.2 ∙ ap (λ (t : List ℕ). t ++ commits_line (length after.commits)) (lines_told p.lines is.0)
        ∙ ap (λ (n : ℕ). told_lines told ++ commits_line n) count

    leads : Leads (rulebook after.ctx) after.opening after.commits after.config
    leads = (keeps p text after valid is).leads

    fit : FitTheirPlaces (moves_of after.commits)
    fit = commits_fit after.ctx after.opening after.commits after.config leads
