use Rattle.std.proofs.Common.{refl}
use Rattle.std.proofs.lemmas.Bool.{false≢true}
use Rattle.conf_check.proofs.TableShapes.{belongs_here, belongs_nowhere}
use Rattle.conf_check.proofs.acceptance.is_of_shape.Goals as goal

pub returns-in-Some : goal.returns-in-Some
returns-in-Some c =
    belongs_here c.args.models.now c.args.key.now c.args.want.now.table.now c.args.want.now.table.now refl
    c.list_of.result c.in-Some.shape c.args.want.now.shape c.in-Some.is c.list_of.ensures

pub returns-in-None : goal.returns-in-None
returns-in-None c = (
  λ e. absurd (false≢true e),
  λ b. absurd (belongs_nowhere c.args.models.now c.args.key.now c.args.want.now.table.now c.args.want.now.table.now refl
      c.list_of.result c.args.want.now.shape c.in-None.is c.list_of.ensures b),
)
