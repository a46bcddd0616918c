-- A world with a commit more, by its parts.
use Rattle.std.proofs.Common.{◌≡◌, ℕ, suc, arith, List, [], ◌∷◌, ◌++◌, drop, length, length-append, Option, Some, None, IfSome, ap, ◌∙◌}
use Rattle.std.specs.Prelude.{IsSomeAnd}
use Rattle.std.specs.FinMap.{insert}
use Rattle.conf_doc.specs.declared.configuration.Config.{Config}
use Rattle.move_core.specs.Moves.{step}
use Rattle.sessions.specs.Named.{IsNextOf, after_move}
use Rattle.sessions.specs.Turns.{with_commit}
use Rattle.sessions.specs.Worlds.{Session, Sessions, WorldState, session_of}
use Rattle.sessions.specs.declared.commits.Commit.{Commit}

module _ (w : WorldState) (name : List ℕ) (k : Commit) (config : Config) (commits : List Commit) (sessions : Sessions) (seen : ℕ) where
  -- the configuration after the move, one commit more, and the session gone on to its next move
  pub committed : config ≡ step w.config k.mv → commits ≡ w.commits ++ k ∷ [] → seen ≡ length commits → k.name ≡ name
      → IfSome (session_of name w) (λ s. sessions ≡ insert w.sessions name (after_move seen s))
      → IsSomeAnd (session_of name w) (IsNextOf k (length w.commits))
      → IfSome (session_of name w) (λ s.
      record { ctx = w.ctx; opening = w.opening; config = config; commits = commits; sessions = sessions }
      ≡ with_commit w name s.goal k.mv (drop 1 s.rest))
  committed config_is commits_are seen_is named sessions_are next = by (session_of name w) sessions_are next
    where
      by : (found : Option Session) → IfSome found (λ s. sessions ≡ insert w.sessions name (after_move seen s))
          → IsSomeAnd found (IsNextOf k (length w.commits))
          → IfSome found (λ s.
          record { ctx = w.ctx; opening = w.opening; config = config; commits = commits; sessions = sessions }
          ≡ with_commit w name s.goal k.mv (drop 1 s.rest))
      by None are next = tt
      by (Some s) are next =
          let k_is : k ≡ record { name = name; goal = s.goal; mv = k.mv } =
          λ i. record { name = named i; goal = next.goal i; mv = k.mv } in
          let more : length commits ≡ suc (length w.commits) =
          omega (arith, ap length commits_are, length-append w.commits (k ∷ [])) in
          let with_seen : ℕ → Sessions =
          λ n. insert w.sessions name (record { goal = s.goal; seen = n; rest = drop 1 s.rest }) in
          λ i. record {
            ctx = w.ctx;
            opening = w.opening;
            config = config_is i;
            commits = (commits_are ∙ ap (λ (j : Commit). w.commits ++ j ∷ []) k_is) i;
            sessions = (are ∙ ap with_seen (seen_is ∙ more)) i;
          }
