use Rattle.std.proofs.Common.{append_assoc}
use Rattle.std.proofs.lemmas.Result.{IfOk-weaker}
use Rattle.gcu_demo.proofs.rows.member_key.Goals as goal

pub returns : goal.returns
returns c =
    IfOk-weaker c.format.result _ _
    (λ s h. simp append_assoc (simp (append_assoc, c.in_ok-vlan.ensures, c.in_ok-port.ensures, c.vlan_of.ensures.vlan) at h)) c.format.ensures.ok
