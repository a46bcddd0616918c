use Rattle.std.proofs.Common.{rules, ◌≢◌, get_or}
use Rattle.std.proofs.lemmas.Str.Pattern.{starts_char}
use Rattle.yang_types.proofs.NumberLemmas.{length_refused}
use Rattle.yang_types.proofs.addresses.is_ipv6_length.Goals as goal

pub returns-in-Err : goal.returns-in-Err
returns-in-Err c =
    let plain : get_or c.args.text.now 0 0 ≢ 43 = search (rules, starts_char) in
    (λ t. absurd (cc), λ h. absurd (length_refused c.args.text.now c.in-Err.field-0 plain c.in-Err.ensures.value.0 h))
