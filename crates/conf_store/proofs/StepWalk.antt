-- The walk from one step file to the next, of a host that may not tell its state.
use Rattle.std.proofs.Common.{◌≡◌, ◌<◌, ◌≤◌, ℕ, suc, ◌+◌, ◌-◌, List, Option, Some, None, Ok, IfSome, sym, ap, ◌∙◌, subst, arith}
use Rattle.std.specs.FinMap.{get}
use Rattle.host_core.specs.Answers.{◌>>=◌, FailsAs}
use Rattle.host_core.specs.State.{Files, State}
use Rattle.conf_doc.specs.Document.{Document}
use Rattle.conf_store.specs.Files.{last_step, step_name}
use Rattle.conf_store.specs.Reads.{load_fault}
use Rattle.conf_store.specs.Walk.{document_after_all, document_after_file, documents_after, unless_missing}
use Rattle.conf_store.specs.declared.errors.LoadError.{LoadError}
use Rattle.conf_store.proofs.Finds.{HasFile, fails_on, ok_same}

pub within_steps : (n : ℕ) → n < 1000000 → n ≤ last_step
unfolding last_step
within_steps n below = omega (arith, below)

pub behind_steps : (n : ℕ) → n ≡ 1000000 → n ≡ last_step + 1
unfolding last_step
behind_steps n at = omega (arith, at)

one_less : (n : ℕ) → n ≤ last_step → last_step + 1 - n ≡ suc (last_step + 1 - (n + 1))
one_less n within = omega (arith, within)

-- what is left of the walk where the file of the number at hand is this
at_file : (files : Files) (n : ℕ) (found : Option (List ℕ)) (d : Document) → n ≤ last_step → get files (step_name n) ≡ found
    → documents_after (last_step + 1 - n) n files d ≡ unless_missing found n (documents_after (last_step + 1 - (n + 1)) (n + 1) files) d
at_file files n found d within is =
    ap (λ (more : ℕ). documents_after more n files d) (one_less n within)
    ∙ ap (λ (x : Option (List ℕ)). unless_missing x n (documents_after (last_step + 1 - (n + 1)) (n + 1) files) d) is

-- the walk from the start goes on from the document at the number at hand
abbrev pub GoesOnAt : Document → ℕ → Document → State → Type 0
GoesOnAt start n d s = document_after_all s.files start ≡ documents_after (last_step + 1 - n) n s.files d

pub walk_begins : (o : Option State) (start : Document) → IfSome o (GoesOnAt start 1 start)
walk_begins None start = tt
walk_begins (Some s) start = let same : last_step ≡ last_step + 1 - 1 = omega arith in ap (λ (more : ℕ). documents_after more 1 s.files start) same

module _ (o : Option State) (start d : Document) (n : ℕ) where
  pub walk_next : (bytes : List ℕ) (left : Document) → n ≤ last_step → IfSome o (GoesOnAt start n d) → IfSome o (HasFile (step_name n) (Some bytes))
      → document_after_file n bytes d ≡ Ok left → IfSome o (GoesOnAt start (n + 1) left)
  walk_next bytes left within so_far has is = by o so_far has
    where
      by : (o : Option State) → IfSome o (GoesOnAt start n d) → IfSome o (HasFile (step_name n) (Some bytes)) → IfSome o (GoesOnAt start (n + 1) left)
      by None so_far has = tt
      by (Some s) so_far has =
          so_far ∙ at_file s.files n (Some bytes) d within (ok_same _ _ has)
          ∙ ap (λ r. r >>= documents_after (last_step + 1 - (n + 1)) (n + 1) s.files) is

  pub walk_fails : (bytes : List ℕ) (e : LoadError) → n ≤ last_step → IfSome o (GoesOnAt start n d) → IfSome o (HasFile (step_name n) (Some bytes))
      → FailsAs (load_fault e) (document_after_file n bytes d) → IfSome o (λ s. FailsAs (load_fault e) (document_after_all s.files start))
  walk_fails bytes e within so_far has fails = by o so_far has
    where
      by : (o : Option State) → IfSome o (GoesOnAt start n d) → IfSome o (HasFile (step_name n) (Some bytes)) → IfSome o (λ s. FailsAs (load_fault e) (document_after_all s.files start))
      by None so_far has = tt
      by (Some s) so_far has =
          subst (λ r. FailsAs (load_fault e) r) (sym (so_far ∙ at_file s.files n (Some bytes) d within (ok_same _ _ has)))
          (fails_on (load_fault e) (document_after_file n bytes d) (documents_after (last_step + 1 - (n + 1)) (n + 1) s.files) fails)

  pub walk_missing : n ≤ last_step → IfSome o (GoesOnAt start n d) → IfSome o (HasFile (step_name n) None) → IfSome o (λ s. document_after_all s.files start ≡ Ok d)
  walk_missing within so_far has = by o so_far has
    where
      by : (o : Option State) → IfSome o (GoesOnAt start n d) → IfSome o (HasFile (step_name n) None) → IfSome o (λ s. document_after_all s.files start ≡ Ok d)
      by None so_far has = tt
      by (Some s) so_far has = so_far ∙ at_file s.files n None d within (ok_same _ _ has)

  pub walk_ends : n ≡ last_step + 1 → IfSome o (GoesOnAt start n d) → IfSome o (λ s. document_after_all s.files start ≡ Ok d)
  walk_ends at so_far = by o so_far
    where
      by : (o : Option State) → IfSome o (GoesOnAt start n d) → IfSome o (λ s. document_after_all s.files start ≡ Ok d)
      by None so_far = tt
      by (Some s) so_far = let none : last_step + 1 - n ≡ 0 = omega (arith, at) in so_far ∙ ap (λ (more : ℕ). documents_after more n s.files d) none
