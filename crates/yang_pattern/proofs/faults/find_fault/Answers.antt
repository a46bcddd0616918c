use Rattle.std.proofs.Common.{◌≡◌, ℕ, ◌+◌, List, [], ◌∷◌, ◌++◌, sym, subst, rules, arith}
use Rattle.std.specs.Bool.{⊤}
use Rattle.std.specs.Str.Iter.{chars_rest}
use Rattle.std.proofs.lemmas.Option.{MatchOption-at_some}
use Rattle.std.proofs.lemmas.Result.{IfOk-from_err}
use Rattle.yang_pattern.specs.declared.faults.Scan.{Scan}
use Rattle.yang_pattern.specs.Errors.{IsFaultFree}
use Rattle.yang_pattern.specs.Scans.{IsScanned}
use Rattle.yang_pattern.proofs.Scanning.{IsAt, begin_at, next_at, next_within, whole_free}
use Rattle.yang_pattern.proofs.faults.find_fault.Goals as goal

pub loop-c-init : goal.loop-c-init
loop-c-init c =
    let all : chars_rest c.into_iter-c-iterator.result ≡ c.args.text.now = first_of (cc, search rules) in
    begin_at c.args.text.now (chars_rest c.into_iter-c-iterator.result) c.new-scan.result all c.utf8.text c.new-scan.ensures

pub returns-in-None-2 : goal.returns-in-None-2
returns-in-None-2 c =
    whole_free c.args.text.now (chars_rest c.loop-c.c-iterator) c.loop-c.at c.loop-c.whole c.last_whole-whole.result c.loop-c.scan c.loop-c.invariant c.last_whole-whole.ensures

pub loop-c-preserved : goal.loop-c-preserved
loop-c-preserved c =
    let text = c.args.text.now in
    let scan = c.loop-c.scan in
    let d = c.in-Some.c in
    let place = c.last_whole-whole.result in
    let next = c.in-Some-2.next in
    let rest = chars_rest c.loop-c.c-iterator in
    let behind = chars_rest c.next.new.self in
    let Q : Scan → Type 0 = λ after. (cs : List ℕ) → IsScanned cs scan → IsScanned (cs ++ d ∷ []) after in
    let more = MatchOption-at_some ⊤ Q next c.in-Some-2.is c.in_ok-with.ensures in
    let free = whole_free text rest c.loop-c.at c.loop-c.whole place scan c.loop-c.invariant c.last_whole-whole.ensures in
    subst (λ n. IsAt text behind (c.loop-c.at + n) place next) (sym c.len_utf8-at.ensures.value)
    (next_at text rest behind c.loop-c.at c.loop-c.whole place d scan next c.loop-c.invariant free c.in-Some.ensures.steps.0 more)

pub returns : goal.returns
returns c =
    whole_free c.args.text.now (chars_rest c.loop-c.c-iterator) c.loop-c.at c.loop-c.whole c.last_whole.result c.loop-c.scan c.loop-c.invariant c.last_whole.ensures

pub returns-in_err-with : goal.returns-in_err-with
returns-in_err-with c = IfOk-from_err c.from_residual.result (IsFaultFree c.args.text.now) c.from_residual.ensures.0

pub overflow_add-at : goal.overflow_add-at
overflow_add-at c =
    let within = next_within c.args.text.now (chars_rest c.loop-c.c-iterator) (chars_rest c.next.new.self) c.loop-c.at c.loop-c.whole c.in-Some.c c.loop-c.scan c.loop-c.invariant c.in-Some.ensures.steps.0 in
    let width = c.len_utf8-at.ensures.value in
    omega arith
