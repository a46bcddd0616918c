-- Which of some generated moves comes first of those that aren't restoring.
use Rattle.std.specs.Prelude.{◌≡◌, ◌≢◌, false, List, Option, None, Some, All}
use Rattle.std.specs.List.{Contains}
use Rattle.std.specs.declared.cmp.Ordering.TheVariants.{Less, Greater}
use Rattle.conf_doc.specs.declared.configuration.Config.{Config}
use Rattle.move_core.specs.Generated.{IsRestoring}
use Rattle.move_core.specs.ListedOrder.{listed_cmp}
use Rattle.move_core.specs.declared.moves.Generated.{Generated}
use Rattle.move_core.specs.declared.moves.Ranked.{Ranked}
use Rattle.move_lists.specs.Ranking.{lone_tier}

-- a generated move alone that isn't restoring, with its rank
abbrev pub lone : Generated → Ranked
lone g = record { tier = lone_tier false; depth = 0; class = g.class; mv = g.mv }

-- it comes before the one that was found, where one was
abbrev pub MayLead : Option Generated → Generated → Type 0
MayLead None g = Unit {0}
MayLead (Some f) g = listed_cmp (lone g) (lone f) ≡ Less

-- it isn't restoring, and of those that aren't none comes before it
pub record IsLeast (start goal : Config) (gs : List Generated) (f : Generated) : Type 0 where
  pub there : Contains gs f
  pub other : ¬ IsRestoring start goal f
  pub least :
      (g : Generated) → Contains gs g → ¬ IsRestoring start goal g
      → listed_cmp (lone f) (lone g) ≢ Greater

-- the first one that isn't restoring is that one, or there is none
abbrev pub LeadsAmong : Config → Config → List Generated → Option Generated → Type 0
LeadsAmong start goal gs None = All (IsRestoring start goal) gs
LeadsAmong start goal gs (Some f) = IsLeast start goal gs f
