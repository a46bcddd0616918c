use Rattle.std.proofs.Common.{ℕ, subst, sym}
use Rattle.std.proofs.lemmas.Bool.Decides.{Decides-eqb}
use Rattle.yang_types.specs.Parts.{ArePartsOf}
use Rattle.yang_types.proofs.addresses.has_parts.Goals as goal

pub returns-in-Some : goal.returns-in-Some
returns-in-Some c =
    let Q : ℕ → Type 0 = λ m. ArePartsOf c.args.part m c.args.text.now in
    let same = Decides-eqb c.in-Some.found c.args.count in
    (λ e. subst Q (same.0 e) c.in-Some.ensures.1.0, λ h. same.1 (sym (c.in-Some.ensures.1.1 c.args.count h)))
