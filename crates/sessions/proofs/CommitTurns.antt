-- Which turn of a run made which commit.
use Rattle.std.proofs.Common.{◌≡◌, ℕ, zero, suc, ◌<◌, ◌≤◌, ◌⊎◌, inl, inr, arith, List, [], ◌∷◌, ◌++◌, length, Some, None, refl, sym, ap, ◌∙◌}
use Rattle.std.specs.Prelude.{slice_get}
use Rattle.std.proofs.lemmas.Bool.{cases_lt}
use Rattle.std.proofs.lemmas.Option.{slice_get_past}
use Rattle.sessions.specs.Runs.{IsMadeBy, IsRun, Turn}
use Rattle.sessions.specs.Turns.{Step, IsTurn}
use Rattle.sessions.specs.Worlds.{WorldState, session_of}
use Rattle.sessions.specs.declared.commits.Commit.{Commit}
use Rattle.sessions.specs.declared.replies.Reply.TheVariants.{Applied}
use Rattle.sessions.proofs.RunInvariants.{GoesOn, run_goes_on}
use Rattle.sessions.proofs.TurnResults.{of_turn}

-- what stands at the end of a list with one item more
at_end : (ks : List Commit) (j : Commit) (i : ℕ) (k : Commit) → length ks ≤ i → slice_get (ks ++ j ∷ []) i ≡ Some k
    → (i ≡ length ks) × (j ≡ k)
at_end [] j zero k above there = (refl, cc)
at_end [] j (suc i) k above there = absurd cc
at_end (l ∷ ks) j zero k above there = absurd (omega arith)
at_end (l ∷ ks) j (suc i) k above there =
    let rest : (i ≡ length ks) × (j ≡ k) = at_end ks j i k (omega arith) there in
    (ap suc rest.0, rest.1)

-- what stands in the first of two lists
in_first : (ks js : List Commit) (i : ℕ) (k : Commit) → i < length ks → slice_get (ks ++ js) i ≡ Some k
    → slice_get ks i ≡ Some k
in_first [] js i k below there = absurd (omega arith)
in_first (l ∷ ks) js zero k below there = there
in_first (l ∷ ks) js (suc i) k below there = in_first ks js i k (omega arith) there

-- no commit stands behind the last
none_past : (ks : List Commit) (i : ℕ) (k : Commit) → length ks ≤ i → slice_get ks i ≡ Some k → ⊥
none_past ks i k above there = let none : slice_get ks i ≡ None = slice_get_past ks i above in cc

module _ (w : WorldState) (t : Turn) (ts : List Turn) (i : ℕ) (k : Commit) where
  -- the commit stands behind those of w
  abbrev Stands : WorldState → Type 0
  Stands next = length w.commits ≤ i → slice_get next.commits i ≡ Some k → IsMadeBy w (t ∷ ts) i k

  -- made by the first turn
  by_first : (next : WorldState) → IsTurn w t.0 t.1 next → Stands next
  by_first next turn = of_turn Stands w t.1 next t.0 (record {
    same = λ above there. absurd (none_past w.commits i k above there);
    aimed = λ name goal plan is_plan above there. absurd (none_past w.commits i k above there);
    committed = λ name s m rest commit above there.
        let last : (i ≡ length w.commits) × (record { name = name; goal = s.goal; mv = m } ≡ k) =
        at_end w.commits (record { name = name; goal = s.goal; mv = m }) i k above there in
        record {
          before = [];
          behind = ts;
          turns_are =
              (λ j. ((commit.event_is ∙ ap (λ (c : Commit). Step c.name) last.1) j, (commit.reply_is ∙ ap (λ (c : Commit). Applied c.mv) last.1) j) ∷ ts);
          at = w;
          run = refl;
          count = sym last.0;
          session = s;
          there = ap (λ (c : Commit). session_of c.name w) (sym last.1) ∙ commit.there;
          goal = ap (λ (c : Commit). c.goal) last.1;
        };
    ended = λ name above there. absurd (none_past w.commits i k above there);
  }) turn

-- each commit behind those of the first world was made by a step of the run
pub commits_made : (w after : WorldState) (turns : List Turn) (i : ℕ) (k : Commit)
    → IsRun w turns after → length w.commits ≤ i → slice_get after.commits i ≡ Some k → IsMadeBy w turns i k
commits_made w after [] i k run above there =
    absurd (none_past w.commits i k above (ap (λ (v : WorldState). slice_get v.commits i) (sym run) ∙ there))
commits_made w after (t ∷ ts) i k run above there =
    by (cases_lt i (length run.0.commits)) (λ high. commits_made run.0 after ts i k run.2 high there)
  where
    by : (i < length run.0.commits) ⊎ (length run.0.commits ≤ i) → (length run.0.commits ≤ i → IsMadeBy run.0 ts i k)
        → IsMadeBy w (t ∷ ts) i k
    by (inl below) later =
        let others : GoesOn run.0 after = run_goes_on run.0 after ts run.2 in
        by_first w t ts i k run.0 run.1 above
        (in_first run.0.commits others.more i k below (ap (λ (ks : List Commit). slice_get ks i) (sym others.commits) ∙ there))
    by (inr high) later =
        let made : IsMadeBy run.0 ts i k = later high in
        record {
          before = t ∷ made.before;
          behind = made.behind;
          turns_are = ap (λ (us : List Turn). t ∷ us) made.turns_are;
          at = made.at;
          run = (run.0, run.1, made.run);
          count = made.count;
          session = made.session;
          there = made.there;
          goal = made.goal;
        }
