-- What operators are told of a run, and the goals for which their moves are allowed.
use Rattle.std.proofs.Common.{◌≡◌, ◌≤◌, inl, inr, ℕ, suc, List, [], ◌∷◌, ◌++◌, append_assoc, append-nil, map, length, Bool, true, false, cond, arith, refl, sym, ap, ◌∙◌, subst, Option, Some, None, IsNone, IsSome, Ok}
use Rattle.std.specs.Prelude.{⊤, if◌then◌else◌}
use Rattle.std.proofs.lemmas.List.{map-append}
use Rattle.std.proofs.lemmas.List.Concat.{flat_map-cons}
use Rattle.std.specs.List.{flat_map}
use Rattle.std.specs.Cmp.Lexicographic.{bytes_decides, nat_list_cmp_total}
use Rattle.std.specs.FinMap as finmap
use Rattle.std.specs.FinMap.{FinMap, empty, get, insert, remove}
use Rattle.std.specs.Ordering.{is_eq}
use Rattle.std.specs.declared.cmp.Ordering.{Ordering}
use Rattle.std.specs.declared.cmp.Ordering.TheVariants.{Less, Equal, Greater}
use Rattle.host_core.specs.Names.{name_cmp}
use Rattle.host_core.specs.State.{State}
use Rattle.conf_doc.specs.declared.configuration.Config.{Config}
use Rattle.move_core.specs.Contexts.{IsValidIn, rulebook}
use Rattle.move_core.specs.Plans.{IsAllowed, IsPlan}
use Rattle.move_core.specs.declared.contexts.Ctx.{Ctx}
use Rattle.move_core.specs.declared.moves.Move.{Move}
use Rattle.patch_core.specs.Operation.{Operation}
use Rattle.gcu_words.specs.Scripts.{name_of}
use Rattle.gcu_words.specs.Words.{is_word}
use Rattle.gcu_words.specs.declared.script_lines.ScriptLine.{ScriptLine}
use Rattle.gcu_words.specs.declared.script_lines.ScriptLine.TheVariants.{Begin, Step, Retarget, End}
use Rattle.gcu_inputs.specs.PatchAsked.{patch_asked}
use Rattle.gcu_requests.specs.Request.{Patched}
use Rattle.gcu_requests.specs.SessionsAsked.{aim_asked, file_of, line_asked, patch_at, patches_asked, unread_asked}
use Rattle.operators.specs.Replies.{reply_line}
use Rattle.operators.specs.Runs.{IsAimOf, IsRunOf, IsTurnOf, reply_lines}
use Rattle.operators.proofs.ScriptRuns.{turn_is}
use Rattle.sessions.specs.Runs.{moves_of}
use Rattle.sessions.specs.Turns.{Aim, IsBegin, IsEnd, IsNext, IsRetarget, IsStep, Refusal, Towards, with_aim, with_commit, without_session}
use Rattle.sessions.specs.Worlds.{IsKept, IsOnCourse, Session, WorldState, opened, session_of}
use Rattle.sessions.specs.declared.commits.Commit.{Commit}
use Rattle.sessions.specs.declared.replies.Reply.{Reply}
use Rattle.sessions.specs.declared.replies.Reply.TheVariants.{Applied, Began, Ended, Exists, Idle, Moved, Refused, Retargeted, Unknown}
use Rattle.sessions.proofs.RunInvariants.{run_goes_on, turn_keeps}
use Rattle.sessions.proofs.WorldInvariants.{opened_is_kept}
use Rattle.gcu_engine.specs.Folder.{HoldsPatch}
use Rattle.gcu_engine.specs.Headline.{AreCommitted}
use Rattle.gcu_engine.proofs.Contents.{patch_makes}

-- ---- what is told

-- the name of each line, with what is told on it
abbrev pub names_told : List ScriptLine → List Reply → List (List ℕ × Reply)
names_told (line ∷ lines) (reply ∷ replies) = (name_of line, reply) ∷ names_told lines replies
names_told lines replies = []

pub lines_are : (lines : List ScriptLine) (replies : List Reply)
    → reply_lines lines replies ≡ flat_map (λ t. reply_line t.0 t.1) (names_told lines replies)
lines_are [] replies = refl
lines_are (line ∷ lines) [] = refl
lines_are (line ∷ lines) (reply ∷ replies) =
    ap (λ (t : List ℕ). reply_line (name_of line) reply ++ t) (lines_are lines replies)
    ∙ sym (flat_map-cons (λ (t : List ℕ × Reply). reply_line t.0 t.1) (name_of line, reply) (names_told lines replies))

-- ---- the patches that a script names

module _ (s : State) where
  -- each was found in an input
  abbrev pub AreHeld : List Patched → Type 0
  AreHeld [] = ⊤
  AreHeld (p ∷ ps) = (patch_asked p.0 s).Gives (Ok p.1) × AreHeld ps

  held_more : (ps : List Patched) (path : List ℕ) (ops : List Operation) → AreHeld ps
      → (patch_asked path s).Gives (Ok ops) → AreHeld (ps ++ (path, ops) ∷ [])
  held_more [] path ops held given = (given, tt)
  held_more (p ∷ ps) path ops held given = (held.0, held_more ps path ops held.1 given)

  held_at : (ps : List Patched) → AreHeld ps → (file : List ℕ) (ops : List Operation) → patch_at file ps ≡ Some ops
      → (patch_asked file s).Gives (Ok ops)
  held_at [] held file ops e = absurd cc
  held_at (p ∷ ps) held file ops e = by (is_word p.0 file) refl (held_at ps held.1 file ops) e
    where
      by : (b : Bool) → is_word p.0 file ≡ b → (patch_at file ps ≡ Some ops → (patch_asked file s).Gives (Ok ops))
          → (if b then Some p.1 else patch_at file ps) ≡ Some ops
          → (patch_asked file s).Gives (Ok ops)
      by true is others e =
          let same : p.1 ≡ ops = cc in
          subst (λ (x : List Operation). (patch_asked file s).Gives (Ok x)) same
          (subst (λ (q : List ℕ). (patch_asked q s).Gives (Ok p.1)) ((bytes_decides p.0 file).0 is) held.0)
      by false is others e = others e

  unread_held : (found : List Patched) (path : List ℕ) (o : Option (List Operation)) (more : List Patched)
      → AreHeld found → (unread_asked found path o s).Gives (Ok more) → AreHeld more
  unread_held found path (Some ops) more held e = let same : found ≡ more = cc in subst AreHeld same held
  unread_held found path None more held (inl never) = absurd never
  unread_held found path None more held (inr (ops, given, e)) =
      let same : found ++ (path, ops) ∷ [] ≡ more = cc in subst AreHeld same (held_more found path ops held given)

  line_held : (found : List Patched) (o : Option (List ℕ)) (more : List Patched) → AreHeld found
      → (line_asked found o s).Gives (Ok more) → AreHeld more
  line_held found None more held e = let same : found ≡ more = cc in subst AreHeld same held
  line_held found (Some path) more held h = unread_held found path (patch_at path found) more held h

  pub lines_held : (found : List Patched) (lines : List ScriptLine) (ps : List Patched) → AreHeld found
      → (patches_asked found lines s).Gives (Ok ps) → AreHeld ps
  lines_held found [] ps held e = let same : found ≡ ps = cc in subst AreHeld same held
  lines_held found (line ∷ lines) ps held (inl never) = absurd never
  lines_held found (line ∷ lines) ps held (inr (more, given, rest)) =
      lines_held more lines ps (line_held found (file_of line) more held given) rest

-- a goal is what its patch makes of the configuration then
aim_holds : (s : State) (patches : List Patched) (budget : ℕ) (ctx : Ctx) (file : List ℕ) (now goal : Config)
    (plan : List Move) → AreHeld s patches
    → IsAimOf patches budget ctx file now (Towards goal plan) → HoldsPatch s.inputs file now goal
aim_holds s patches budget ctx file now goal plan held (ops, at, inl never) = absurd never
aim_holds s patches budget ctx file now goal plan held (ops, at, inr (found, given, planned)) =
    subst (HoldsPatch s.inputs file now) (sym planned.0) (makes found given)
  where
    makes : (made : Config) → (aim_asked ctx ops now).Gives (Ok made) → HoldsPatch s.inputs file now made
    makes made (inl never) = absurd never
    makes made (inr (g, e, inl never)) = absurd never
    makes made (inr (g, e, inr (u, same, inl never))) = absurd never
    makes made (inr (g, e, inr (u, same, inr (v, keys, (valid, is))))) =
        subst (HoldsPatch s.inputs file now) (sym is)
        (patch_makes file now s g ops (held_at s patches held file ops at) e)

-- ---- goals by the names of sessions

some_is : (x y : Session) → Some x ≡ Some y → x ≡ y
some_is x y e = cc

-- each session has its goal there
abbrev Tracks : FinMap name_cmp Config → WorldState → Type 0
Tracks goals w = (name : List ℕ) (x : Session) → session_of name w ≡ Some x → get goals name ≡ Some x.goal

module _ (goals : FinMap name_cmp Config) (w : WorldState) (tracks : Tracks goals w) (name : List ℕ) where
  tracks_aim : (goal : Config) (plan : List Move) → Tracks (insert goals name goal) (with_aim w name goal plan)
  tracks_aim goal plan q t found =
      finmap.get-insert nat_list_cmp_total goals name goal q
      ∙ by (is_eq (name_cmp q name)) (sym (finmap.get-insert nat_list_cmp_total w.sessions name aimed q) ∙ found)
    where
      aimed : Session
      aimed = record { goal = goal; seen = length w.commits; rest = plan }

      by : (b : Bool) → cond b (Some aimed) (get w.sessions q) ≡ Some t → cond b (Some goal) (get goals q) ≡ Some t.goal
      by true e = ap (λ (y : Session). Some y.goal) (some_is aimed t e)
      by false e = tracks q t e

  tracks_commit : (x : Session) → session_of name w ≡ Some x → (m : Move) (rest : List Move)
      → Tracks goals (with_commit w name x.goal m rest)
  tracks_commit x there m rest q t found =
      by (name_cmp q name) refl (sym (finmap.get-insert nat_list_cmp_total w.sessions name next q) ∙ found)
    where
      next : Session
      next = record { goal = x.goal; seen = suc (length w.commits); rest = rest }

      by : (r : Ordering) → name_cmp q name ≡ r → cond (is_eq r) (Some next) (get w.sessions q) ≡ Some t
          → get goals q ≡ Some t.goal
      by Less e h = tracks q t h
      by Equal e h = sym (finmap.get_tied nat_list_cmp_total goals q name e) ∙ tracks name x there
          ∙ ap (λ (y : Session). Some y.goal) (some_is next t h)
      by Greater e h = tracks q t h

  tracks_end : Tracks (remove goals name) (without_session w name)
  tracks_end q t found =
      finmap.get-remove nat_list_cmp_total goals name q
      ∙ by (is_eq (name_cmp q name)) (sym (finmap.get-remove nat_list_cmp_total w.sessions name q) ∙ found)
    where
      by : (b : Bool) → cond b None (get w.sessions q) ≡ Some t → cond b None (get goals q) ≡ Some t.goal
      by true e = absurd cc
      by false e = tracks q t e

-- ---- a line

module _ (s : State) (ctx : Ctx) (total : List Move) where
  -- what is told from there on, and what is committed, behind what was committed before
  abbrev Rest : List (List ℕ × Reply) → Config → FinMap name_cmp Config → List Move → Type 0
  Rest told now goals before = (ms : List Move) × AreCommitted ctx s now goals told ms × (total ≡ before ++ ms)

  module _ (patches : List Patched) (budget : ℕ) (held : AreHeld s patches) (w next : WorldState) (same : w.ctx ≡ ctx)
      (kept : IsKept w) (goals : FinMap name_cmp Config) (tracks : Tracks goals w)
      (name : List ℕ) (told : List (List ℕ × Reply)) (on : (after : FinMap name_cmp Config) → Tracks after next
      → Rest told next.config after (moves_of next.commits)) where
    -- all goes on where nothing is changed
    stays : next ≡ w → Rest told w.config goals (moves_of w.commits)
    stays e = subst (λ (v : WorldState). Rest told v.config goals (moves_of v.commits)) e
        (on goals (subst (Tracks goals) (sym e) tracks))

    -- behind a reply
    abbrev Behind : Reply → Type 0
    Behind reply = Rest ((name, reply) ∷ told) w.config goals (moves_of w.commits)

    aimed_goes : (goal : Config) (plan : List Move) → next ≡ with_aim w name goal plan
        → Rest told w.config (insert goals name goal) (moves_of w.commits)
    aimed_goes goal plan e =
        subst (λ (v : WorldState). Rest told v.config (insert goals name goal) (moves_of v.commits)) e
        (on (insert goals name goal) (subst (Tracks (insert goals name goal)) (sym e)
        (tracks_aim goals w tracks name goal plan)))

    begin_goes : (file : List ℕ) (aim : Aim) (reply : Reply) (o : Option Session)
        → (IsNone o → IsAimOf patches budget w.ctx file w.config aim)
        → IsBegin w name aim o reply next → Behind reply
    begin_goes file aim reply (Some x) is turn = subst Behind (sym turn.0) (stays turn.1)
    begin_goes file (Refusal number) reply None is turn = subst Behind (sym turn.0) (stays turn.1)
    begin_goes file (Towards goal plan) reply None is turn =
        let more = aimed_goes goal plan turn.2 in
        subst Behind (sym turn.1) (
          more.0,
          (file, goal, aim_holds s patches budget w.ctx file w.config goal plan held (is refl), more.1),
          more.2,
        )

    retarget_goes : (file : List ℕ) (aim : Aim) (reply : Reply) (o : Option Session)
        → (IsSome o → IsAimOf patches budget w.ctx file w.config aim)
        → IsRetarget w name aim o reply next → Behind reply
    retarget_goes file aim reply None is turn = subst Behind (sym turn.0) (stays turn.1)
    retarget_goes file (Refusal number) reply (Some x) is turn = subst Behind (sym turn.0) (stays turn.1)
    retarget_goes file (Towards goal plan) reply (Some x) is turn =
        let more = aimed_goes goal plan turn.2 in
        subst Behind (sym turn.1) (
          more.0,
          (file, goal, aim_holds s patches budget w.ctx file w.config goal plan held (is refl), more.1),
          more.2,
        )

    next_goes : (x : Session) → session_of name w ≡ Some x → length w.commits ≤ x.seen → (moves : List Move)
        → x.rest ≡ moves → (reply : Reply)
        → IsNext w name x.goal moves reply next → Behind reply
    next_goes x there seen [] is reply turn = subst Behind (sym turn.0) (stays turn.1)
    next_goes x there seen (m ∷ moves) is reply turn =
        let course : IsOnCourse w x = kept.courses name x there in
        let below = course.seen in
        let all : x.seen ≡ length w.commits = omega (arith, below, seen) in
        let plan : IsPlan (rulebook w.ctx)
        w.config x.goal (m ∷ moves) =
        subst (λ (ms : List Move). IsPlan (rulebook w.ctx) w.config x.goal ms) is (course.plan all) in
        let allowed : IsAllowed (rulebook ctx)
        x.goal w.config m = subst (λ (k : Ctx). IsAllowed (rulebook k) x.goal w.config m) same plan.0 in
        let after : WorldState = with_commit w name x.goal m moves in
        let more = subst (λ (v : WorldState). Rest told v.config goals (moves_of v.commits))
        turn.1 (on goals (subst (Tracks goals) (sym turn.1) (tracks_commit goals w tracks name x there m moves)))
        in
        let committed : moves_of after.commits ≡ moves_of w.commits ++ m ∷ [] = map-append (λ (k : Commit). k.mv)
        w.commits (record { name = name; goal = x.goal; mv = m } ∷ []) in
        subst Behind (sym turn.0) (
          m ∷ more.0,
          (x.goal, more.0, tracks name x there, refl, allowed, more.1),
          more.2 ∙ ap (λ (ms : List Move). ms ++ more.0) committed ∙ append_assoc (moves_of w.commits) (m ∷ []) more.0,
        )

    step_goes : (o : Option Session) → session_of name w ≡ o → (reply : Reply) → IsStep w name o reply next
        → Behind reply
    step_goes None there reply turn = subst Behind (sym turn.0) (stays turn.1)
    step_goes (Some x) there reply (inl (less, turn)) = subst Behind (sym turn.0) (stays turn.1)
    step_goes (Some x) there reply (inr (seen, turn)) = next_goes x there seen x.rest refl reply turn

    end_goes : (o : Option Session) → (reply : Reply) → IsEnd w name o reply next → Behind reply
    end_goes None reply turn = subst Behind (sym turn.0) (stays turn.1)
    end_goes (Some x) reply turn =
        subst Behind (sym turn.2)
        (subst (λ (v : WorldState). Rest told v.config (remove goals name) (moves_of v.commits)) turn.3
        (on (remove goals name) (subst (Tracks (remove goals name)) (sym turn.3) (tracks_end goals w tracks name))))

  -- ---- all lines

  module _ (patches : List Patched) (budget : ℕ) (held : AreHeld s patches) where
    line_goes : (line : ScriptLine) (w next : WorldState) → w.ctx ≡ ctx → IsKept w → (goals : FinMap name_cmp Config)
        → Tracks goals w → (reply : Reply) → IsTurnOf patches budget w line reply next
        → (told : List (List ℕ × Reply))
        → ((after : FinMap name_cmp Config) → Tracks after next → Rest told next.config after (moves_of next.commits))
        → Rest ((name_of line, reply) ∷ told) w.config goals (moves_of w.commits)
    line_goes (Begin name file) w next same kept goals tracks reply turn told on =
        begin_goes patches budget held w next same kept goals tracks name told on file turn.0 reply (session_of name w)
        turn.1 turn.2
    line_goes (Step name) w next same kept goals tracks reply turn told on =
        step_goes patches budget held w next same kept goals tracks name told on (session_of name w) refl reply turn
    line_goes (Retarget name file) w next same kept goals tracks reply turn told on =
        retarget_goes patches budget held w next same kept goals tracks name told on file turn.0 reply
        (session_of name w) turn.1 turn.2
    line_goes (End name) w next same kept goals tracks reply turn told on =
        end_goes patches budget held w next same kept goals tracks name told on (session_of name w) reply turn

    lines_go : (w after : WorldState) (lines : List ScriptLine) (replies : List Reply)
        → total ≡ moves_of after.commits → w.ctx ≡ ctx → IsKept w
        → (goals : FinMap name_cmp Config) → Tracks goals w → IsRunOf patches budget w lines replies after
        → Rest (names_told lines replies) w.config goals (moves_of w.commits)
    lines_go w after [] [] whole same kept goals tracks run =
        ([], refl, whole ∙ ap (λ (v : WorldState). moves_of v.commits) run ∙ sym (append-nil (moves_of w.commits)))
    lines_go w after [] (reply ∷ replies) whole same kept goals tracks never = absurd never
    lines_go w after (line ∷ lines) [] whole same kept goals tracks never = absurd never
    lines_go w after (line ∷ lines) (reply ∷ replies) whole same kept goals tracks (next, turn, run) =
        let one = turn_is patches budget w next line reply turn in
        let goes = run_goes_on w next ((one.0, reply) ∷ []) (next, one.1, refl) in
        line_goes line w next same kept goals tracks reply turn (names_told lines replies)
        (λ more track. lines_go next after lines replies whole (goes.ctx ∙ same)
        (turn_keeps w one.0 reply next kept one.1) more track run)

-- ---- a whole script

none_tracked : (ctx : Ctx) (start : Config) → Tracks empty (opened ctx start)
none_tracked ctx start name x found = let none : None ≡ Some x = sym (finmap.get-empty name_cmp name) ∙ found in
    absurd cc

-- the moves that are committed are those that are told, each allowed for the goal of its session
pub run_commits : (s : State) (ctx : Ctx) (start : Config) (patches : List Patched) (budget : ℕ)
    (lines : List ScriptLine) (replies : List Reply) (after : WorldState)
    → IsValidIn ctx start → AreHeld s patches → IsRunOf patches budget (opened ctx start) lines replies after
    → AreCommitted ctx s start empty (names_told lines replies) (moves_of after.commits)
run_commits s ctx start patches budget lines replies after valid held run =
    let all = lines_go s ctx (moves_of after.commits) patches budget held (opened ctx start) after lines replies refl
    refl (opened_is_kept ctx start valid) empty (none_tracked ctx start) run in
    subst (AreCommitted ctx s start empty (names_told lines replies)) (sym all.2) all.1
