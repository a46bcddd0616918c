-- The stages of a fold, of a host that may not tell its state.
use Rattle.std.proofs.Common.{◌≡◌, ℕ, true, false, List, [], Option, Some, None, Ok, refl, sym, ap, ◌∙◌, subst, option_map}
use Rattle.std.specs.Prelude.{IfSome, IsSome}
use Rattle.host_core.specs.State.{CanMove, Files, State, rename}
use Rattle.conf_store.specs.Changes.{IsSettled, Settles}
use Rattle.conf_store.specs.Clearing.{IsClearing, IsDone, IsDoneOrNot, KeepsRest}
use Rattle.conf_store.specs.Files.{config_file, folded_file, step_names}
use Rattle.conf_store.specs.Folds.{IsBegun, IsFolded, KeepsStored, StandsFor}
use Rattle.conf_store.specs.Puts.{IsPutOrNot, after_put, put}
use Rattle.conf_store.specs.Stored.{config_in}
use Rattle.conf_store.specs.declared.loaded.Stored.{Stored}
use Rattle.conf_store.proofs.FoldResults.{begun_put, begun_there, is_folded, keeps_clearing, keeps_ending, keeps_put, still_folded}

module _ (what : Stored) (bytes : List ℕ) (holds : config_in bytes ≡ Ok what.config) where
  pub put_keeps : (o : Option State) → IfSome o (λ s. StandsFor what s.files)
      → IfSome o (λ s. (g : Files) → IsPutOrNot folded_file bytes s.files g → KeepsStored s.files g)
  put_keeps None stands = tt
  put_keeps (Some s) stands = λ g. keeps_put bytes what.config holds s.files g stands.config

  pub put_begins : (o n : Option State) → IfSome o (λ s. StandsFor what s.files) → what.folded ≡ false
      → n ≡ option_map (after_put folded_file bytes) o → Settles (IsBegun bytes) o n
  put_begins None n stands isnt e = e
  put_begins (Some s) n stands isnt e =
      (put folded_file bytes s.files, e, begun_put bytes what.config holds s.files _ stands.config (stands.folded ∙ isnt) refl)

  pub there_begins : (o : Option State) → IfSome o IsSettled → IfSome o (λ s. StandsFor what s.files) → what.folded ≡ true
      → Settles (IsBegun bytes) o o
  there_begins None clean stands a_step = refl
  there_begins (Some s) clean stands a_step =
      (s.files, ap (λ p. Some (record s { pending = p })) clean, begun_there bytes s.files (stands.folded ∙ a_step))

  -- the steps to be taken away
  pub steps_to_take : (o : Option State) → IfSome o (λ s. StandsFor what s.files)
      → IfSome o (λ s. (g : Files) → IsBegun bytes s.files g → step_names g ≡ what.steps)
  steps_to_take None stands = tt
  steps_to_take (Some s) stands = λ g begun. begun.steps ∙ stands.steps

-- a fold that is begun, and its steps taken away
pub record Cleared (bytes : List ℕ) (before after : Files) : Type 0 where
  pub start : Files
  pub begun : IsBegun bytes before start
  pub clearing : IsClearing [] start after

module _ (bytes : List ℕ) where
  pub clears : (o : Option State) → IfSome o (λ s. (f g : Files) → IsBegun bytes s.files f → IsClearing [] f g → Cleared bytes s.files g)
  clears None = tt
  clears (Some s) = λ f g begun clearing. record { start = f; begun = begun; clearing = clearing }

  pub taking : (o : Option State) → IfSome o (λ s. (f g : Files) → IsBegun bytes s.files f → KeepsRest f g → KeepsStored s.files g)
  taking None = tt
  taking (Some s) = λ f g begun rest. keeps_clearing bytes s.files f begun g rest

  pub may_end : (o n : Option State) → Settles (Cleared bytes) o n → IfSome n (CanMove folded_file)
  may_end None n ends = subst (λ m. IfSome m (CanMove folded_file)) (sym ends) tt
  may_end (Some s) n ends =
      let cleared = ends.2 in
      subst (λ m. IfSome m (CanMove folded_file)) (sym ends.1)
      (refl, subst (λ (found : Option (List ℕ)). IsSome found) (sym (still_folded bytes s.files cleared.start cleared.begun ends.0 cleared.clearing.rest)) refl)

  pub ending : (o : Option State) → IfSome o (λ s. (f g : Files) → Cleared bytes s.files f
      → IsDoneOrNot (rename folded_file config_file) f g → KeepsStored s.files g)
  ending None = tt
  ending (Some s) = λ f g cleared either. keeps_ending bytes s.files cleared.start cleared.begun f g cleared.clearing either

  pub ends : (o : Option State) → IfSome o (λ s. (f g : Files) → Cleared bytes s.files f
      → IsDone (rename folded_file config_file) f g → IsFolded bytes s.files g)
  ends None = tt
  ends (Some s) = λ f g cleared done. is_folded bytes s.files cleared.start cleared.begun f g cleared.clearing done
