-- What every world keeps is kept by what becomes of it.
use Rattle.std.proofs.Common.{◌≡◌, ℕ, ◌+◌, arith, Bool, true, false, cond, List, [], ◌∷◌, ◌++◌, drop, length, length-append, Option, Some, None, IfSome, refl, sym, ap, ◌∙◌, subst}
use Rattle.std.specs.Prelude.{IsSomeAnd}
use Rattle.std.specs.Ordering.{eq_by_cmp}
use Rattle.std.specs.Cmp.Lexicographic.{nat_list_cmp_total}
use Rattle.std.specs.FinMap as finmap
use Rattle.std.specs.FinMap.{get, insert}
use Rattle.host_core.specs.Names.{name_cmp}
use Rattle.conf_doc.specs.declared.configuration.Config.{Config}
use Rattle.move_core.specs.Contexts.{IsValidIn, rulebook}
use Rattle.move_core.specs.Plans.{IsAllowed, IsPlan}
use Rattle.move_core.specs.declared.contexts.Ctx.{Ctx}
use Rattle.move_core.specs.declared.moves.Move.{Move}
use Rattle.sessions.specs.Worlds.{IsKept, IsOnCourse, Session, WorldState, opened, session_of}
use Rattle.sessions.specs.Named.{IsNextOf}
use Rattle.sessions.specs.Turns.{with_aim, with_commit, without_session}
use Rattle.sessions.specs.declared.commits.Commit.{Commit}
use Rattle.sessions.proofs.CommitWays.{Leads-push}

some_is : (s t : Session) → Some s ≡ Some t → s ≡ t
some_is s t e = cc

no_session : (s : Session) → None ≡ Some s → ⊥
no_session s e = cc

-- of a session that is found where one was put at a name: it is that one, or it was there
put_or_there : (P : Session → Type 0) (w : WorldState) (name q : List ℕ) (s t : Session)
    → P s → (session_of q w ≡ Some t → P t)
    → get (insert w.sessions name s) q ≡ Some t → P t
put_or_there P w name q s t here there found =
    by (eq_by_cmp name_cmp q name) (sym (finmap.get-insert nat_list_cmp_total w.sessions name s q) ∙ found)
  where
    by : (b : Bool) → cond b (Some s) (session_of q w) ≡ Some t → P t
    by true e = subst P (some_is s t e) here
    by false e = there e

-- a world in which nothing has happened
pub opened_is_kept : (ctx : Ctx) (c : Config) → IsValidIn ctx c → IsKept (opened ctx c)
opened_is_kept ctx c valid = record {
  valid = valid;
  leads = refl;
  courses = λ name s found. absurd (no_session s (sym (finmap.get-empty name_cmp name) ∙ found));
}

-- a session that gets an aim
pub with_aim_is_kept : (w : WorldState) (name : List ℕ) (goal : Config) (plan : List Move)
    → IsKept w → IsPlan (rulebook w.ctx) w.config goal plan → IsKept (with_aim w name goal plan)
with_aim_is_kept w name goal plan kept is_plan = record {
  valid = kept.valid;
  leads = kept.leads;
  courses = λ q t found.
      let P : Session → Type 0 = λ s. IsOnCourse (with_aim w name goal plan) s in
      put_or_there P w name q _ t
      (record { seen = omega arith; plan = λ _. is_plan })
      (λ there. let was : IsOnCourse w t = kept.courses q t there in record { seen = was.seen; plan = was.plan })
      found;
}

-- a move that is committed
pub with_commit_is_kept : (w : WorldState) (name : List ℕ) (goal : Config) (m : Move) (rest : List Move)
    → IsKept w → IsPlan (rulebook w.ctx) w.config goal (m ∷ rest) → IsKept (with_commit w name goal m rest)
with_commit_is_kept w name goal m rest kept is_plan =
    let k : Commit = record { name = name; goal = goal; mv = m } in
    let more : length (w.commits ++ k ∷ []) ≡ length w.commits + 1 = length-append w.commits (k ∷ []) in
    record {
      valid = kept.valid;
      leads = Leads-push (rulebook w.ctx) w.opening w.commits k w.config kept.leads is_plan.0;
      courses = λ q t found.
          let P : Session → Type 0 = λ s. IsOnCourse (with_commit w name goal m rest) s in
          put_or_there P w name q _ t
          (record { seen = omega arith; plan = λ _. is_plan.1 })
          (λ there.
          let was : IsOnCourse w t = kept.courses q t there in
          let below = was.seen in
          record { seen = omega arith; plan = λ all. absurd (omega arith) })
          found;
    }

-- a session that ends
pub without_session_is_kept : (w : WorldState) (name : List ℕ) → IsKept w → IsKept (without_session w name)
without_session_is_kept w name kept = record {
  valid = kept.valid;
  leads = kept.leads;
  courses = λ q t found. by q t (eq_by_cmp name_cmp q name) (sym (finmap.get-remove nat_list_cmp_total w.sessions name q) ∙ found);
}
  where
    by : (q : List ℕ) (t : Session) (b : Bool) → cond b None (session_of q w) ≡ Some t → IsOnCourse (without_session w name) t
    by q t true e = absurd cc
    by q t false e = let was : IsOnCourse w t = kept.courses q t e in record { seen = was.seen; plan = was.plan }

-- the next move of a session is the first of a plan
next_plan : (w : WorldState) (name : List ℕ) (k : Commit) (s : Session) → IsKept w → session_of name w ≡ Some s
    → (next : IsNextOf k (length w.commits) s) → IsPlan (rulebook w.ctx) w.config s.goal (k.mv ∷ next.rest)
next_plan w name k s kept there next =
    let course : IsOnCourse w s = kept.courses name s there in
    let below = course.seen in
    let above = next.seen in
    let all : s.seen ≡ length w.commits = omega arith in
    let P : List Move → Type 0 = λ ms. IsPlan (rulebook w.ctx) w.config s.goal ms in
    subst P next.moves (course.plan all)

-- so it is allowed towards some goal
pub next_is_allowed : (w : WorldState) (name : List ℕ) (k : Commit) → IsKept w
    → IsSomeAnd (session_of name w) (IsNextOf k (length w.commits))
    → (goal : Config) × IsAllowed (rulebook w.ctx) goal w.config k.mv
next_is_allowed w name k kept next = by (session_of name w) refl next
  where
    by : (found : Option Session) → session_of name w ≡ found → IsSomeAnd found (IsNextOf k (length w.commits))
        → (goal : Config) × IsAllowed (rulebook w.ctx) goal w.config k.mv
    by None there next = absurd next
    by (Some s) there next = (s.goal, (next_plan w name k s kept there next).0)

-- and the world with it committed is kept
pub next_is_kept : (w : WorldState) (name : List ℕ) (k : Commit) (after : WorldState) → IsKept w
    → IsSomeAnd (session_of name w) (IsNextOf k (length w.commits))
    → IfSome (session_of name w) (λ s. after ≡ with_commit w name s.goal k.mv (drop 1 s.rest))
    → IsKept after
next_is_kept w name k after kept next is = by (session_of name w) refl next is
  where
    by : (found : Option Session) → session_of name w ≡ found → IsSomeAnd found (IsNextOf k (length w.commits))
        → IfSome found (λ s. after ≡ with_commit w name s.goal k.mv (drop 1 s.rest)) → IsKept after
    by None there next is = absurd next
    by (Some s) there next is =
        let is_plan = next_plan w name k s kept there next in
        let rest : drop 1 s.rest ≡ next.rest = ap (λ (ms : List Move). drop 1 ms) next.moves in
        let Q : List Move → Type 0 = λ ms. IsKept (with_commit w name s.goal k.mv ms) in
        subst IsKept (sym is) (subst Q (sym rest) (with_commit_is_kept w name s.goal k.mv next.rest kept is_plan))
