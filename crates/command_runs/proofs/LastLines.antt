-- The last line of an answer begins neither as a plan does, nor as an acknowledgement, nor as what operators are told.
use Rattle.std.proofs.Common.{◌≡◌, ℕ, List, [], ◌++◌, sym, subst, arith}
use Rattle.std.specs.Prelude.{codes, decimal}
use Rattle.gcu_output.specs.Lines.{last_line, line_feed, number, numbered_line, quoted, said, service_line, space}
use Rattle.gcu_output.specs.declared.outcomes.Outcome.{Outcome}
use Rattle.gcu_output.specs.declared.outcomes.Outcome.TheVariants.{Done, PrintFault, ServiceFault}
use Rattle.command_runs.proofs.Acknowledgements as acked
use Rattle.command_runs.proofs.Acknowledgements.{Quiet, silent}
use Rattle.command_runs.proofs.CompactTexts.{heads}
use Rattle.command_runs.proofs.OtherTexts.{number_has_no_told, one_word_has_no_told}
use Rattle.command_runs.proofs.OperatorTexts.{HasNoTold}
use Rattle.command_runs.proofs.SessionLines.{decimal_is_low, low_more}

pub last_line_is_quiet : (e : Outcome) → Quiet (last_line e)
last_line_is_quiet Done = acked.other 100 _ (omega arith) (omega arith)
last_line_is_quiet (PrintFault step) = silent
last_line_is_quiet other = acked.other 114 _ (omega arith) (omega arith)

numbered_has_no_told : (n : ℕ) (rest : List ℕ) → HasNoTold (numbered_line n rest)
numbered_has_no_told n rest =
    number_has_no_told (codes "refused")
    (omega arith, (omega arith, (omega arith, (omega arith, (omega arith, (omega arith, (omega arith, tt)))))))
    (λ e. let h = heads 99 114 _ _ e in omega (arith, h))
    (((decimal n ++ space) ++ rest) ++ line_feed)
    (low_more ((decimal n ++ space) ++ rest) line_feed
    (low_more (decimal n ++ space) rest (low_more (decimal n) space (decimal_is_low n))))

pub last_line_has_no_told : (e : Outcome) → HasNoTold (last_line e)
last_line_has_no_told Done =
    one_word_has_no_told (last_line Done) (omega arith, (omega arith, (omega arith, (omega arith, (omega arith, tt)))))
last_line_has_no_told (PrintFault step) = one_word_has_no_told [] tt
last_line_has_no_told other = numbered_has_no_told (number other) (said other)

-- ---- ends of an output

-- a text that begins in none of these ways
abbrev pub IsPlain : List ℕ → Type 0
IsPlain text = Quiet text × HasNoTold text

pub last_is_plain : (e : Outcome) (text : List ℕ) → text ≡ last_line e → IsPlain text
last_is_plain e text is = subst IsPlain (sym is) (last_line_is_quiet e, last_line_has_no_told e)

pub service_is_plain : (step service : ℕ) (name text : List ℕ) → text ≡ service_line step service name → IsPlain text
service_is_plain step service name text is =
    subst IsPlain (sym is) (
      acked.other 114 _ (omega arith) (omega arith),
      numbered_has_no_told (number (ServiceFault step service))
          ((said (ServiceFault step service) ++ space) ++ quoted name),
    )
