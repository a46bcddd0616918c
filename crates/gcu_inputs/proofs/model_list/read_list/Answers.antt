-- The list of files: its lines, or the bytes that are no text.
use Rattle.std.proofs.Common.{◌≡◌, ℕ, Bool, List, Result, Err, ap, refl, ◌∙◌, sym, length, map, arith, subst, true, false, Bor, if◌then◌else◌}
use Rattle.std.proofs.lemmas.List.{length-map}
use Rattle.std.proofs.lemmas.Str.{IsUtf8-from_is_utf8, is_utf8-from_IsUtf8}
use Rattle.std.specs.Str.{is_utf8, IsUtf8}
use Rattle.std.specs.Str.Lines.{lines}
use Rattle.host_core.specs.Answers.{Gives}
use Rattle.yang_text.specs.Errors.{text_fault}
use Rattle.yang_text.specs.declared.errors.ModelWhy.TheVariants.{NotUtf8}
use Rattle.yang_text.specs.declared.faults.Fault.{Fault}
use Rattle.gcu_inputs.specs.ModelList.{named_from, named_in, paths_within, paths_of, fault_on}
use Rattle.gcu_inputs.proofs.ModelPaths.{length-lines}
use Rattle.gcu_inputs.proofs.model_list.read_list.Goals as goal

not_utf8 : (bs : List ℕ) (b : Bool) → is_utf8 bs ≡ b → ¬ IsUtf8 bs → is_utf8 bs ≡ false
not_utf8 bs true is not = absurd (not (IsUtf8-from_is_utf8 bs is))
not_utf8 bs false is not = is

-- what a list that is UTF-8 gives
utf8_paths : (bs : List ℕ) → IsUtf8 bs → paths_within (named_in bs) ≡ paths_of bs
utf8_paths bs utf8 =
    sym (ap (λ b. if b then paths_within (named_in bs) else Err (fault_on NotUtf8 1)) (is_utf8-from_IsUtf8 bs utf8))

pub paths_on-requires : goal.paths_on-requires
paths_on-requires c =
    let found = c.deref.ensures.value in
    let count = length-map c.deref.result.now (λ (l : Bor (List ℕ)). l.now) in
    let same = ap length (ap (map (λ (l : Bor (List ℕ)). l.now)) found ∙ c.in_ok-lines_of-in-Ok.ensures) in
    let most = length-lines c.in-Ok.text.now in
    let text = ap length c.in-Ok.ensures.cases.0 in
    let few = c.requires in
    record { few = omega (arith, count, same, most, text, few) }

pub returns-in_ok-lines_of-in-Ok : goal.returns-in_ok-lines_of-in-Ok
returns-in_ok-lines_of-in-Ok c =
    let found = ap (map (λ (l : Bor (List ℕ)). l.now)) c.deref.ensures.value ∙ c.in_ok-lines_of-in-Ok.ensures in
    record {
      paths =
          subst (λ (r : Result (List (List ℕ)) Fault). Gives (λ names. names) text_fault c.paths_on.result r)
          (ap (λ ls. paths_within (named_from 1 ls)) (found ∙ ap lines c.in-Ok.ensures.cases.0)
          ∙ utf8_paths c.args.bytes.now c.in-Ok.ensures.cases.1)
          c.paths_on.ensures.paths;
      few = c.paths_on.ensures.few;
    }

pub returns-in-Err : goal.returns-in-Err
returns-in-Err c =
    let bs = c.args.bytes.now in
    record {
      paths =
          ap (λ b. if b then paths_within (named_in bs) else Err (fault_on NotUtf8 1))
          (not_utf8 bs (is_utf8 bs) refl c.in-Err.ensures.cases.0);
      few = tt;
    }
