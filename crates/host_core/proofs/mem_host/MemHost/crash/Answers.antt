use Rattle.std.proofs.Common.{ap, sym, subst, ◌∙◌}
use Rattle.host_core.specs.Crashes.{Image}
use Rattle.host_core.specs.Picks.{picked}
use Rattle.host_core.proofs.PickedImages.{picked_image}
use Rattle.host_core.proofs.mem_host.MemHost.crash.Goals as goal

pub returns-clause-image : goal.returns-clause-image
returns-clause-image c =
    let pick = c.args.pick.now in
    let s = c.args.self.state in
    subst (λ f. Image s.pending s.files f)
    (sym (ap (λ h. h.state.files) c.in_ok-begin_again.ensures ∙ ap (λ m. picked pick m.state.pending m.state.files) c.self.view_is))
    (picked_image pick s.pending s.files)
