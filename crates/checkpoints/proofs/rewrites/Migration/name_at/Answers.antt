use Rattle.std.proofs.Common.{ℕ, List, Some, sym, ap, ◌∙◌, option_map}
use Rattle.std.proofs.lemmas.Option.{slice_get-map}
use Rattle.checkpoints.specs.Migrations.{NewFile}
use Rattle.checkpoints.proofs.rewrites.Migration.name_at.Goals as goal

pub returns : goal.returns
returns c =
    slice_get-map (λ (n : NewFile). n.0) c.args.self.now c.args.i
    ∙ ap (option_map (λ (n : NewFile). n.0)) c.at.ensures
    ∙ ap (λ (name : List ℕ). Some name) (sym c.as_str.ensures.text)
