use Rattle.std.proofs.Common.{inl, inr}
use Rattle.std.proofs.lemmas.Str.Pattern.{split_text_parts}
use Rattle.yang_types.specs.Addresses.{double_colon}
use Rattle.yang_types.proofs.DoubleColons.{not_shortened, shortened_fails, shortened_decided}
use Rattle.yang_types.proofs.addresses.is_ipv6_address.Goals as goal

pub returns-in-None : goal.returns-in-None
returns-in-None c =
    let none = rw c.in-None.is at (split_text_parts double_colon c.args.text.now c.split_once.result c.split_once.ensures.cases) in
    (λ h. inl (c.has_parts.ensures.0 h), λ h. elim h [ inl full ↦ c.has_parts.ensures.1 full | inr short ↦ absurd (not_shortened c.args.text.now none short) ])

pub returns-in-None-count_parts : goal.returns-in-None-count_parts
returns-in-None-count_parts c =
    let cut = rw c.in-Some.is at (split_text_parts double_colon c.args.text.now c.split_once.result c.split_once.ensures.cases) in
    (λ f. absurd (cc), λ h. absurd (shortened_fails c.args.text.now c.in-Some.left.now c.in-Some.right.now cut c.in-None-count_parts.ensures h))

pub returns-in-Some-count_parts : goal.returns-in-Some-count_parts
returns-in-Some-count_parts c =
    let cut = rw c.in-Some.is at (split_text_parts double_colon c.args.text.now c.split_once.result c.split_once.ensures.cases) in
    let e = c.in-Some-count_parts.ensures in
    rw c.is_some.ensures (shortened_decided c.args.text.now c.in-Some.left.now c.in-Some.right.now cut c.in-Some-count_parts.count e.0 e.1 c.count_parts-in-Some-count_parts.result c.count_parts-in-Some-count_parts.ensures)
