-- Calls that are made again where a signal interrupts them.
use Rattle.std.specs.Prelude.{◌≡◌, ℕ, zero, suc, ◌+◌, Result, IsErrAnd}
use Rattle.std.specs.IoError.{error_kind}
use Rattle.std.specs.declared.io.Error.{Error}
use Rattle.std.specs.declared.io.ErrorKind.TheVariants.{Interrupted}

-- a signal interrupted the call
abbrev pub IsInterrupted : {T : Type 0} → Result T Error → Type 0
IsInterrupted answer = IsErrAnd answer (λ e. error_kind e ≡ Interrupted)

module _ {C T : Type 0} (step : C → Result T Error → C → Type 0) where
  -- so many calls, one after another, were interrupted
  abbrev pub AreInterrupted : ℕ → C → C → Type 0
  AreInterrupted zero call now = call ≡ now
  AreInterrupted (suc n) call now =
      (mid : C) × (answer : Result T Error)
      × AreInterrupted n call mid × step mid answer now × IsInterrupted answer

  -- The answer of the call after those that were interrupted; it is an interruption only at the last turn.
  pub record AnswersInTurns (turns : ℕ) (call : C) (answer : Result T Error) : Type 0 where
    pub earlier : ℕ
    pub now : C
    pub last : C
    pub interrupted : AreInterrupted earlier call now
    pub answers : step now answer last
    pub ends : IsInterrupted answer → earlier + 1 ≡ turns
