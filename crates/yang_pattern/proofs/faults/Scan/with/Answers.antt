use Rattle.std.proofs.Common.{◌≡◌, ◌∙◌, sym, ℕ, List, [], ◌∷◌, ◌++◌, Option, Some, IfSome, false, arith}
use Rattle.std.proofs.lemmas.Option.{IfSome_then}
use Rattle.std.proofs.lemmas.Result.{IfOk-weaker}
use Rattle.yang_pattern.specs.declared.faults.Scan.{Scan}
use Rattle.yang_pattern.specs.Letters.{letter_of}
use Rattle.yang_pattern.specs.Scans.{IsScanned, IsScanBehind}
use Rattle.yang_pattern.proofs.Scanning.{scanned_letter}
use Rattle.yang_pattern.proofs.faults.Scan.with.Goals as goal
use Rattle.yang_pattern.proofs.faults.Scan.with.Goals.{else-c-eq92-via-then-c-eq92+else-not-after_backslash, else-c-eq92-via-else-c-eq92}

pub returns-in-Some : goal.returns-in-Some
returns-in-Some c =
    let scan = c.args.self in
    let l = c.in-Some.letter in
    let here : letter_of scan.after_backslash c.args.c ≡ Some l = sym c.letter_of.ensures ∙ c.in-Some.is in
    let other : c.args.c ≡ 92 → scan.after_backslash ≡ false → ⊥ =
    λ e h. elim c.else-c-eq92.branch [
      | else-c-eq92-via-then-c-eq92+else-not-after_backslash w ↦ (first_of (cc, grind arith))
      | else-c-eq92-via-else-c-eq92 w ↦ absurd (w.if-c-eq92.false e)
    ] in
    let P : Option Scan → Type 0 = λ found. IfSome found (IsScanBehind scan.mode scan.standing l) in
    let Q : Option Scan → Type 0 = λ found. IfSome found (λ next. (cs : List ℕ) → IsScanned cs scan → IsScanned (cs ++ c.args.c ∷ []) next) in
    IfOk-weaker c.with_letter.result P Q
    (λ found h. IfSome_then found h (λ next behind cs is. scanned_letter cs c.args.c scan.after_backslash scan.mode scan.standing l next other here behind is))
    c.with_letter.ensures
