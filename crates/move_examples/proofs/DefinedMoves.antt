-- Listed moves are defined where they are listed.
use Rattle.std.proofs.Common.{List, All, subst, sym}
use Rattle.std.proofs.lemmas.List.Elements.{All-map, All-weaker}
use Rattle.conf_doc.specs.declared.configuration.Config.{Config}
use Rattle.move_core.specs.Contexts.{rulebook}
use Rattle.move_core.specs.Listed.{AreListed, IsListed, IsRanked}
use Rattle.move_core.specs.Moves.{IsDefined}
use Rattle.move_core.specs.declared.contexts.Ctx.{Ctx}
use Rattle.move_core.specs.declared.moves.Move.{Move}
use Rattle.move_core.specs.declared.moves.Ranked.{Ranked}

-- so are those of the whole list, where each listed one is
pub all_defined : (ctx : Ctx) (start cur goal : Config) (ms : List Move)
    → ((m : Move) → IsListed (rulebook ctx) cur goal m → IsDefined cur m)
    → AreListed (rulebook ctx) start cur goal ms → All (IsDefined cur) ms
all_defined ctx start cur goal ms defined are =
    subst (All (IsDefined cur)) (sym are.2)
    (All-map (IsDefined cur) (λ r. r.mv) are.0
    (All-weaker (IsRanked (rulebook ctx) start cur goal) (λ r. IsDefined cur r.mv)
    (λ r is. defined r.mv (listed r is)) are.0 are.1.each))
  where
    listed : (r : Ranked) → IsRanked (rulebook ctx) start cur goal r → IsListed (rulebook ctx) cur goal r.mv
    listed r is =
        record {
          first = is.ends.first;
          depth = r.depth;
          generated = is.ends.generated;
          leads = is.ends.leads;
        }
