use Rattle.std.proofs.Common.{ℕ, Bool}
use Rattle.std.proofs.lemmas.Result.{IfOk-weaker}
use Rattle.yang_pattern.specs.declared.frames.Frame.{Frame}
use Rattle.yang_pattern.specs.Pattern.{Atom, group}
use Rattle.yang_pattern.specs.Parts.{IsAtomPart}
use Rattle.yang_pattern.specs.Reading.{Opened, IsFrame, with_atom, close}
use Rattle.yang_pattern.proofs.frames.Frame.with_group.Goals as goal

pub returns : goal.returns
returns c =
    let outer = c.args.self in
    let inner = c.args.inner in
    let atom = c.in_ok-atom.atom in
    let P : Frame → Type 0 = λ f. (r : ℕ → ℕ → Bool) (o : Opened) (a : Atom) → IsFrame r outer o → IsAtomPart r atom a → IsFrame r f (with_atom o a) in
    let Q : Frame → Type 0 = λ f. (r : ℕ → ℕ → Bool) (o p : Opened) → IsFrame r outer o → IsFrame r inner p → IsFrame r f (with_atom o (group (close p))) in
    IfOk-weaker c.with_atom.result P Q (λ f h r o p is there. h r o (group (close p)) is (c.in_ok-atom.ensures r p there)) c.with_atom.ensures
