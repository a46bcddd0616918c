use Rattle.std.proofs.Common.{◌≡◌, ℕ, zero, suc, List, [], ◌∷◌, map, slice_get, Some, refl, sym, ap, ◌∙◌, subst}
use Rattle.std.proofs.lemmas.Option.{none-some}
use Rattle.yang_scope.specs.declared.faults.Fault.{Fault}
use Rattle.yang_model.specs.Answers.{IfFault, IsLeastFaultOf}
use Rattle.yang_model.specs.declared.errors.ModelError.{ModelError}
use Rattle.gcu_inputs.specs.ModelFiles.{Text}
use Rattle.gcu_inputs.proofs.models.models_of.Goals as goal

-- the path of the text at a place
path_at : (texts : List Text) (i : ℕ) (text : Text) → slice_get texts i ≡ Some text
    → slice_get (map (λ (t : Text). t.0) texts) i ≡ Some text.0
path_at [] i text is = absurd (none-some text is)
path_at (t ∷ texts) zero text is = let same : t ≡ text = cc in ap (λ (u : Text). Some u.0) same
path_at (t ∷ texts) (suc i) text is = path_at texts i text is

pub returns-in_ok-copy-in-Err-Fault-clause-answer :
    goal.returns-in_ok-copy-in-Err-Fault-clause-answer
returns-in_ok-copy-in-Err-Fault-clause-answer c =
    let texts = c.args.texts.now in
    let fault : Fault = record { file = c.in-Err-Fault.file; line = c.in-Err-Fault.line; why = c.in-Err-Fault.why } in
    record {
      fault = fault;
      least =
          subst (λ (ts : List Text). IsLeastFaultOf (map (λ (t : Text). t.1) ts) fault) c.items.ensures
          (subst (λ (e : ModelError). IfFault e (IsLeastFaultOf (map (λ (t : Text). t.1) c.items.result.now))) c.in-Err-Fault.field-0-is
          c.in-Err-Fault.ensures.fault);
      path = c.in_ok-copy-in-Err-Fault.field-0;
      at =
          path_at texts c.in-Err-Fault.file c.at.result.now c.at.ensures
          ∙ ap Some (sym c.in_ok-copy-in-Err-Fault.ensures);
      told = refl;
    }
