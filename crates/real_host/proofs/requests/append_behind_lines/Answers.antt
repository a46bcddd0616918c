use Rattle.std.proofs.Common.{[], ◌∷◌, ◌++◌, ap, ◌∙◌}
use Rattle.std.specs.Prelude.{option_map}
use Rattle.host_core.specs.Characters.{line_feed}
use Rattle.real_host.proofs.Appending.{told_twice, after_error}
use Rattle.real_host.proofs.requests.append_behind_lines.Goals as goal
use Rattle.real_host.proofs.requests.append_behind_lines.Goals.{then-is_open_end+in_ok-append, else-is_open_end}

-- the end of the incomplete line, where there is one, and a front of the line
pub returns-clause-err : goal.returns-clause-err
returns-clause-err g c =
    elim c.if-is_open_end.branch [
      | then-is_open_end+in_ok-append w ↦
          after_error c.append-2.result c.append-2.ensures.err (λ e. (
            line_feed ∷ e.0,
            told_twice _ _ _ (line_feed ∷ []) e.0 (w.in_ok-append.ensures.ok ∙ ap (option_map (λ all. all ++ line_feed ∷ [])) c.last.ensures.told) (rw (← w.log-is) e.1),
          ))
      | else-is_open_end w ↦
          after_error c.append-2.result c.append-2.ensures.err (λ e. (
            e.0,
            e.1 ∙ ap (λ log. option_map (λ all. all ++ e.0) (g.L.Log.told log)) w.log-is ∙ ap (option_map (λ all. all ++ e.0)) c.last.ensures.told,
          ))
    ]
