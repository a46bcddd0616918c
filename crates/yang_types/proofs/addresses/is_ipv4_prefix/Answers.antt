use Rattle.yang_types.specs.Addresses.{IsIpv4Address, IsIpv4Length}
use Rattle.yang_types.proofs.Prefixes.{prefix_cut, ipv4_lacks}
use Rattle.yang_types.proofs.addresses.is_ipv4_prefix.Goals as goal

pub returns-in-None : goal.returns-in-None
returns-in-None c =
    let none = rw c.in-None.is at (prefix_cut IsIpv4Address IsIpv4Length ipv4_lacks c.args.text.now c.split_once.result c.split_once.ensures.cases) in
    (λ f. absurd (cc), λ h. absurd (none h))

pub returns-then-is_ipv4_address : goal.returns-then-is_ipv4_address
returns-then-is_ipv4_address c =
    let both = rw c.in-Some.is at (prefix_cut IsIpv4Address IsIpv4Length ipv4_lacks c.args.text.now c.split_once.result c.split_once.ensures.cases) in
    (λ h. both.1 (c.is_ipv4_address.ensures.0 c.if-is_ipv4_address.true, c.is_plain_number.ensures.0 h), λ h. c.is_plain_number.ensures.1 (both.0 h).1)

pub returns-else-is_ipv4_address : goal.returns-else-is_ipv4_address
returns-else-is_ipv4_address c =
    let both = rw c.in-Some.is at (prefix_cut IsIpv4Address IsIpv4Length ipv4_lacks c.args.text.now c.split_once.result c.split_once.ensures.cases) in
    (λ h. absurd (cc), λ h. c.is_ipv4_address.ensures.1 (both.0 h).0)
