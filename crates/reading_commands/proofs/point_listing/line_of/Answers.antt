use Rattle.std.proofs.Common.{◌≡◌, IfOk, string_bytes, Option, sym, subst, ℕ, append_assoc}
use Rattle.std.proofs.lemmas.Result.{IfOk-weaker}
use Rattle.command_answers.specs.PointLines.{named_number}
use Rattle.reading_commands.proofs.point_listing.line_of.Goals as goal

pub returns-in-Some : goal.returns-in-Some
returns-in-Some c =
    subst (λ (o : Option ℕ). IfOk c.format.result (λ t. string_bytes t ≡ named_number (c.args.numbered.now.name, o)))
    (sym c.in-Some.is)
    (IfOk-weaker c.format.result _ _ (λ s h. let g = rw c.as_str-name.ensures.text at h in
    simp append_assoc g) c.format.ensures.ok)

pub returns-in-None : goal.returns-in-None
returns-in-None c =
    subst (λ (o : Option ℕ). IfOk c.format-in-None.result (λ t. string_bytes t
    ≡ named_number (c.args.numbered.now.name, o)))
    (sym c.in-None.is)
    (IfOk-weaker c.format-in-None.result _ _ (λ s h. let g = rw c.as_str-name.ensures.text at h in
    simp append_assoc g) c.format-in-None.ensures.ok)
