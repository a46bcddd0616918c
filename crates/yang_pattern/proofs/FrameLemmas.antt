-- Frames and what they stand for, by cases.
use Rattle.std.proofs.Common.{◌≡◌, ◌<◌, ◌≤◌, ℕ, suc, Bool, List, [], ◌∷◌, ◌++◌, reverse, Option, Some, None, refl, sym, ap, ◌∙◌, subst, IsSomeAnd, length, arith}
use Rattle.std.proofs.lemmas.List.{reverse-append, length-reverse}
use Rattle.std.proofs.lemmas.Bool.{le-ltb, lt-ltb}
use Rattle.yang_pattern.specs.declared.symbols.Quantifier.{Quantifier}
use Rattle.yang_pattern.specs.declared.parts.Part.{Part}
use Rattle.yang_pattern.specs.declared.frames.Frame.{Frame}
use Rattle.yang_pattern.specs.declared.frames.Reader.{Reader}
use Rattle.yang_pattern.specs.Pattern.{Branches, Branch, times, Atom, followed, group}
use Rattle.yang_pattern.specs.Parts.{IsPatternPart, IsBranchPart, IsAtomPart}
use Rattle.yang_pattern.specs.Reading.{Opened, Progress, join_branches, quantify, fresh, with_atom, close, enter, leave, finish, AreChoices, IsLast, IsFrame, AreFrames, IsReader}

pub joined_none : (r : ℕ → ℕ → Bool) (cs : Option Part) (os : Option Branches) (part : Part) (b : Branch) → cs ≡ None → AreChoices r cs os → IsBranchPart r part b
    → IsPatternPart r part (join_branches os b)
joined_none r cs None part b e h is = is
joined_none r cs (Some bs) part b e h is = absurd (subst (λ (x : Option Part). AreChoices r x (Some bs)) e h)

pub quantified_some : (r : ℕ → ℕ → Bool) (last : Option Part) (atom : Part) (choices : Option Part) (part : Part) (os : Option Branches) (b : Branch) (a : Option Atom) (q : Quantifier)
    → last ≡ Some atom → AreChoices r choices os → IsLast r last a → ((d : Atom) → IsAtomPart r atom d → IsBranchPart r part (followed b (times d q)))
    → IsSomeAnd (quantify os b q a) (λ n. IsFrame r (record { choices = choices; branch = part; last = None }) n)
quantified_some r last atom choices part os b None q e c h more = absurd (subst (λ (x : Option Part). IsLast r x None) e h)
quantified_some r last atom choices part os b (Some d) q e c h more =
    record { choices = c; branch = more d (subst (λ (x : Option Part). IsLast r x (Some d)) e h); last = tt }

pub frames_length : (r : ℕ → ℕ → Bool) (fs : List Frame) (os : List Opened) → AreFrames r fs os → length fs ≡ length os
frames_length r [] [] h = refl
frames_length r [] (o ∷ os) h = absurd h
frames_length r (f ∷ fs) [] h = absurd h
frames_length r (f ∷ fs) (o ∷ os) h = ap suc (frames_length r fs os h.1)

pub stack_length : (r : ℕ → ℕ → Bool) (fs : List Frame) (os : List Opened) → AreFrames r (reverse fs) os → length fs ≡ length os
stack_length r fs os h = sym (length-reverse fs) ∙ frames_length r (reverse fs) os h

pub enter_full : (s : Progress) → 32 ≤ length s.outer → enter s ≡ None
enter_full s h = rw (le-ltb (length s.outer) 32 h) refl

pub enter_room : (s : Progress) → length s.outer < 32 → enter s ≡ Some (record { current = fresh; outer = s.current ∷ s.outer })
enter_room s h = rw (lt-ltb (length s.outer) 32 h) refl

pub stack_push : (r : ℕ → ℕ → Bool) (fs new : List Frame) (f : Frame) (os : List Opened) (o : Opened) → new ≡ fs ++ f ∷ [] → IsFrame r f o → AreFrames r (reverse fs) os
    → AreFrames r (reverse new) (o ∷ os)
stack_push r fs new f os o e is h = rw (e, reverse-append fs (f ∷ [])) (is, h)

pub finish_open : (r : ℕ → ℕ → Bool) (fs : List Frame) (os : List Opened) (o : Opened) → (length fs ≡ 0 → ⊥) → AreFrames r (reverse fs) os → finish o os ≡ None
finish_open r fs [] o full h = absurd (full (stack_length r fs [] h))
finish_open r fs (p ∷ os) o full h = refl

pub leave_none : (r : ℕ → ℕ → Bool) (fs : List Frame) (os : List Opened) (o : Opened) → length fs ≡ 0 → AreFrames r (reverse fs) os → leave o os ≡ None
leave_none r fs [] o none h = refl
leave_none r fs (p ∷ os) o none h = absurd (omega (arith, none, stack_length r fs (p ∷ os) h))

pub leave_some : (r : ℕ → ℕ → Bool) (fs : List Frame) (os : List Opened) (o : Opened) (frame : Frame) (reader : Reader) → fs ≡ reader.outer.items ++ frame ∷ []
    → ((p : Opened) → IsFrame r frame p → IsFrame r reader.current (with_atom p (group (close o)))) → AreFrames r (reverse fs) os
    → IsSomeAnd (leave o os) (λ n. IsReader r reader n)
leave_some r fs [] o frame reader e more h =
    absurd (subst (λ xs. AreFrames r xs []) (ap reverse e ∙ reverse-append reader.outer.items (frame ∷ [])) h)
leave_some r fs (p ∷ os) o frame reader e more h =
    let (f, outer) = subst (λ xs. AreFrames r xs (p ∷ os)) (ap reverse e ∙ reverse-append reader.outer.items (frame ∷ [])) h in
    record { current = more p f; outer = outer }
