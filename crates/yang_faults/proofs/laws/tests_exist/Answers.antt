use Rattle.yang_faults.proofs.laws.tests_exist.Goals as goal

pub returns : goal.returns
returns c =
    let patterns = c.patterns_are_decided.ensures in
    let texts = c.texts_are_decided.ensures in
    let circles = c.circles_are_decided.ensures in (
      record { is_pattern = patterns.test; accepts = λ t. (texts t).test; is_on_circle = λ modules. (circles modules).test },
      record {
        patterns = record { decides = patterns.tells };
        texts = record { decides = λ t. (texts t).tells };
        circles = λ modules. record { decides = (circles modules).tells };
      },
    )
