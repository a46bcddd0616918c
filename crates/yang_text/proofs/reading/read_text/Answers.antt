use Rattle.std.proofs.Common.{◌≡◌, ◌∙◌, sym, subst, ap, List, Result, None}
use Rattle.host_core.specs.Answers.{Gives}
use Rattle.yang_text.specs.Building.{built}
use Rattle.yang_text.specs.Errors.{text_fault}
use Rattle.yang_text.specs.Declarations.{Declaration}
use Rattle.yang_text.specs.Faults.{faults_from}
use Rattle.yang_text.specs.declared.errors.ModelWhy.TheVariants.{NotUtf8}
use Rattle.yang_text.specs.declared.faults.Fault.{Fault}
use Rattle.yang_text.specs.declared.faults.Phase.TheVariants.{Due}
use Rattle.yang_text.proofs.Readings.{utf8_none, utf8_some, fault_read, none_read, some_least}
use Rattle.yang_text.proofs.reading.read_text.Goals as goal

pub returns-in-Some : goal.returns-in-Some
returns-in-Some c =
    fault_read c.args.bytes.now c.deref.result.now None c.in-Some.fault c.tell.result (c.deref.ensures.value ∙ c.in_ok-tokens.ensures.tokens) (utf8_none _ c.in-Ok.ensures.cases.1) c.in-Some.ensures c.tell.ensures

pub returns-in-Ok : goal.returns-in-Ok
returns-in-Ok c =
    let same : c.deref-in-None.result.now ≡ c.deref.result.now = c.deref-in-None.ensures.value ∙ sym c.deref.ensures.value in
    subst (λ (r : Result (List Declaration) Fault). Gives (λ ss. ss) text_fault c.read_statements.result r)
    (ap (λ text. built text c.deref-in-None.result.now) c.in-Ok.ensures.cases.0 ∙ ap (λ ts. built c.args.bytes.now ts) same
    ∙ none_read c.args.bytes.now c.deref.result.now (c.deref.ensures.value ∙ c.in_ok-tokens.ensures.tokens) c.in-Ok.ensures.cases.1 c.in-None.ensures)
    c.read_statements.ensures

pub returns-in-Some-least_fault : goal.returns-in-Some-least_fault
returns-in-Some-least_fault c =
    fault_read c.args.bytes.now c.deref-in-Err.result.now _ c.in-Some-least_fault.fault c.tell-in-Some-least_fault.result (c.deref-in-Err.ensures.value ∙ c.in_ok-tokens.ensures.tokens)
    (utf8_some c.args.bytes.now c.valid_up_to.result c.line_at.result c.in-Err.ensures.cases.0 (c.valid_up_to.ensures ∙ c.in-Err.ensures.valid_len) c.line_at.ensures) c.in-Some-least_fault.ensures c.tell-in-Some-least_fault.ensures

pub returns : goal.returns
returns c = absurd (some_least (record { line = c.line_at.result; why = NotUtf8 }) (faults_from c.args.bytes.now Due 0 c.deref-in-Err.result.now) c.in-None-least_fault.ensures)
