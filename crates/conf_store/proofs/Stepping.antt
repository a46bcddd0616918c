-- What files stand for with the next step file besides.
use Rattle.std.proofs.Common.{◌≡◌, ◌<◌, ◌≤◌, inl, inr, ⊎_elim, ℕ, zero, suc, ◌+◌, List, Option, Some, None, Result, Ok, Err, IfSome, IsSome, option_map, get_or, refl, sym, ap, ◌∙◌, subst, arith}
use Rattle.std.proofs.lemmas.Bool.{cases_lt}
use Rattle.std.specs.FinMap.{get}
use Rattle.host_core.specs.Answers.{◌>>=◌}
use Rattle.host_core.specs.State.{Files, State, with_file}
use Rattle.conf_doc.specs.Configuration.{tree}
use Rattle.conf_doc.specs.Document.{Document}
use Rattle.conf_doc.specs.Shaping.{configuration}
use Rattle.conf_doc.specs.declared.configuration.Config.{Config}
use Rattle.patch_core.specs.Apply.{apply_plain, result_of}
use Rattle.patch_core.specs.declared.errors.ApplyError.{ApplyError}
use Rattle.patch_core.specs.declared.errors.ApplyError.TheVariants.{Failed}
use Rattle.patch_core.specs.declared.errors.FailWhy.{FailWhy}
use Rattle.conf_store.specs.Changes.{Settles}
use Rattle.conf_store.specs.Files.{config_file, folded_file, last_step, scratch, step_name}
use Rattle.conf_store.specs.Puts.{IsPutOrNot, IsSame, after_put, put}
use Rattle.conf_store.specs.Steps.{CanStep, IsNextStep, IsStep, IsStepPut, IsStepPutOrNot, IsStepped}
use Rattle.conf_store.specs.Stored.{after_all_steps, after_step, after_steps, config_in, or_none, or_unfolded, or_why, stored, unless_missing}
use Rattle.conf_store.specs.declared.errors.StoredWhy.{StoredWhy}
use Rattle.conf_store.specs.declared.errors.StoredWhy.TheVariants.{BadStep, NoFile}
use Rattle.conf_store.proofs.Digits.{names_same}
use Rattle.conf_store.proofs.FileMaps.{get_other, get_there, gone_twice}
use Rattle.conf_store.proofs.FoldResults.{config_not_scratch, ends_there, folded_not_scratch, no_steps, same_stored, seen, step_not_scratch}

-- ---- one step more

-- a name of a step file is none that begins in another way
step_not_folded : (n : ℕ) → folded_file ≡ step_name n → ⊥
step_not_folded n e = let first : 99 ≡ 115 = ap (λ (l : List ℕ). get_or l 0 0) e in omega (arith, first)

step_not_config : (n : ℕ) → config_file ≡ step_name n → ⊥
step_not_config n e = let first : 99 ≡ 115 = ap (λ (l : List ℕ). get_or l 0 0) e in omega (arith, first)

module _ (files : Files) (name bytes : List ℕ) (next : IsNextStep name files) where
  abbrev at : ℕ
  at = next.number

  abbrev stepped : Files
  stepped = with_file (step_name at) (Some bytes) files

  here : get stepped (step_name at) ≡ Some bytes
  here = get_there (step_name at) (Some bytes) files

  other : (n : ℕ) → n ≤ last_step → (n ≡ at → ⊥) → get stepped (step_name n) ≡ get files (step_name n)
  other n small apart = get_other (step_name at) (Some bytes) files (step_name n) (λ e. apart (names_same n at small next.last e))

  -- behind it there is none
  none_behind : (more : ℕ) (c : Config) → at + suc more ≡ last_step + 1 → after_steps more (at + 1) stepped c ≡ Ok c
  none_behind zero c long = refl
  none_behind (suc more) c long =
      no_steps (suc more) (at + 1) stepped c
      (other (at + 1) (omega (arith, long)) (λ e. omega (arith, e)) ∙ next.missing (at + 1) (omega arith) (omega (arith, long)))

  at_number : (more : ℕ) (c : Config) → at + suc more ≡ last_step + 1 → after_steps (suc more) at stepped c ≡ after_step at bytes c
  at_number more c long =
      ap (λ (found : Option (List ℕ)). unless_missing found at (after_steps more (at + 1) stepped) c) here
      ∙ ends_there (after_step at bytes c) (after_steps more (at + 1) stepped) (λ d. none_behind more d long)

  before_it : (more : ℕ) (c : Config) → at + suc more ≡ last_step + 1 → after_steps (suc more) at files c ≡ Ok c
  before_it more c long = no_steps (suc more) at files c (next.missing at (omega arith) (omega (arith, long)))

  one_more : (more n : ℕ) (c : Config) → n + more ≡ last_step + 1 → 1 ≤ n → n ≤ at
      → after_steps more n stepped c ≡ (after_steps more n files c >>= after_step at bytes)
  one_more zero n c long first low = absurd (omega (arith, long, low, next.last))
  one_more (suc more) n c long first low =
      ⊎_elim (λ below. earlier below (λ d. one_more more (n + 1) d (omega (arith, long)) (omega (arith, first)) (omega (arith, below)))) (λ high. now (omega (arith, high, low))) (cases_lt n at)
    where
      now : n ≡ at → after_steps (suc more) n stepped c ≡ (after_steps (suc more) n files c >>= after_step at bytes)
      now e =
          subst (λ m. after_steps (suc more) m stepped c ≡ (after_steps (suc more) m files c >>= after_step at bytes)) (sym e)
          (at_number more c (omega (arith, long, e)) ∙ sym (ap (λ (r : Result Config StoredWhy). r >>= after_step at bytes) (before_it more c (omega (arith, long, e)))))

      passed_at : ((d : Config) → after_steps more (n + 1) stepped d ≡ (after_steps more (n + 1) files d >>= after_step at bytes))
          → (r : Result Config StoredWhy) → (r >>= after_steps more (n + 1) stepped) ≡ (r >>= after_steps more (n + 1) files >>= after_step at bytes)
      passed_at later (Err why) = refl
      passed_at later (Ok d) = later d

      found_there : n < at → ((d : Config) → after_steps more (n + 1) stepped d ≡ (after_steps more (n + 1) files d >>= after_step at bytes))
          → (o : Option (List ℕ)) → get files (step_name n) ≡ o → IsSome o
          → after_steps (suc more) n stepped c ≡ (after_steps (suc more) n files c >>= after_step at bytes)
      found_there below later None is some = absurd cc
      found_there below later (Some b) is some =
          ap (λ (found : Option (List ℕ)). unless_missing found n (after_steps more (n + 1) stepped) c) (other n (omega (arith, below, next.last)) (λ e. omega (arith, e, below)) ∙ is)
          ∙ passed_at later (after_step n b c)
          ∙ sym (ap (λ (found : Option (List ℕ)). unless_missing found n (after_steps more (n + 1) files) c >>= after_step at bytes) is)

      earlier : n < at → ((d : Config) → after_steps more (n + 1) stepped d ≡ (after_steps more (n + 1) files d >>= after_step at bytes))
          → after_steps (suc more) n stepped c ≡ (after_steps (suc more) n files c >>= after_step at bytes)
      earlier below later = found_there below later (get files (step_name n)) refl (next.there n first below)

  in_config : (r : Result Config StoredWhy) → (r >>= after_steps last_step 1 stepped) ≡ (r >>= after_steps last_step 1 files >>= after_step at bytes)
  in_config (Err why) = refl
  in_config (Ok c) = one_more last_step 1 c (omega arith) (omega arith) next.first

  in_file : (found : Option (List ℕ)) → (or_none NoFile found >>= λ b. config_in b >>= after_steps last_step 1 stepped)
      ≡ ((or_none NoFile found >>= λ b. config_in b >>= after_steps last_step 1 files) >>= after_step at bytes)
  in_file None = refl
  in_file (Some b) = in_config (config_in b)

  -- what the files with the step file stand for
  stands_stepped : get files folded_file ≡ None → stored stepped ≡ (stored files >>= after_step at bytes)
  stands_stepped unfolded =
      ap (λ (found : Option (List ℕ)). or_unfolded found (after_all_steps stepped))
      (get_other (step_name at) (Some bytes) files folded_file (step_not_folded at) ∙ unfolded)
      ∙ ap (λ (found : Option (List ℕ)). or_none NoFile found >>= λ b. config_in b >>= λ c. after_steps last_step 1 stepped c)
      (get_other (step_name at) (Some bytes) files config_file (step_not_config at))
      ∙ in_file (get files config_file)
      ∙ ap (λ (found : Option (List ℕ)). or_unfolded found (after_all_steps files) >>= after_step at bytes) (sym unfolded)

-- what a step makes of a configuration
step_leads : (n : ℕ) (bytes : List ℕ) (before after : Config) → IsStep bytes before after → after_step n bytes before ≡ Ok after
step_leads n bytes before after step =
    ap (λ r. or_why (BadStep n) r >>= λ ops. or_why (BadStep n) (apply_plain ops (tree before)) >>= λ d. or_why (BadStep n) (configuration d)) step.holds
    ∙ applied (result_of step.op (tree before)) step.leads
  where
    failed : Result Document FailWhy → Result Document ApplyError
    failed (Ok d) = Ok d
    failed (Err why) = Err (Failed 0 why)

    applied : (r : Result Document FailWhy) → r ≡ Ok step.left → (or_why (BadStep n) (failed r >>= λ d. Ok d) >>= λ d. or_why (BadStep n) (configuration d)) ≡ Ok after
    applied r e =
        ap (λ (x : Result Document FailWhy). or_why (BadStep n) (failed x >>= λ d. Ok d) >>= λ d. or_why (BadStep n) (configuration d)) e
        ∙ ap (or_why (BadStep n)) step.shaped

-- ---- the step file put

module _ (name bytes : List ℕ) (files : Files) (can : CanStep name bytes files) where
  -- the files with it stand for the configuration after it
  with_step : stored (with_file name (Some bytes) files) ≡ Ok can.next
  with_step =
      ap (λ (q : List ℕ). stored (with_file q (Some bytes) files)) can.next_step.named
      ∙ stands_stepped files name bytes can.next_step can.unfolded
      ∙ ap (λ (r : Result Config StoredWhy). r >>= after_step can.next_step.number bytes) can.stood
      ∙ step_leads can.next_step.number bytes can.start can.next can.step

  same_without : (f g : Files) → IsSame f g → stored g ≡ stored f
  same_without f g same = same_stored f g (seen f g same folded_file folded_not_scratch) (seen f g same config_file config_not_scratch) (λ n. seen f g same (step_name n) (step_not_scratch n))

  is_stepped : (g : Files) → IsSame (with_file name (Some bytes) files) g → IsStepped bytes files g
  is_stepped g same = record {
    start = can.start;
    stood = can.stood;
    next = can.next;
    step = can.step;
    stands = same_without (with_file name (Some bytes) files) g same ∙ with_step;
  }

  pub put_or_not : (g : Files) → IsPutOrNot name bytes files g → IsStepPutOrNot name bytes files g
  put_or_not g either = record {
    files = either;
    stands = ⊎_elim (λ same. inl (same_without files g same)) (λ same. inr (is_stepped g same)) either;
  }

  pub is_put : IsStepPut name bytes files (put name bytes files)
  is_put = record { files = refl; stepped = is_stepped (put name bytes files) (gone_twice scratch name (Some bytes) files) }

module _ (name bytes : List ℕ) where
  pub puts_or_not : (o : Option State) → IfSome o (λ s. CanStep name bytes s.files)
      → IfSome o (λ s. (g : Files) → IsPutOrNot name bytes s.files g → IsStepPutOrNot name bytes s.files g)
  puts_or_not None can = tt
  puts_or_not (Some s) can = λ g either. put_or_not name bytes s.files can g either

  pub puts : (o n : Option State) → IfSome o (λ s. CanStep name bytes s.files) → n ≡ option_map (after_put name bytes) o
      → Settles (IsStepPut name bytes) o n
  puts None n can e = e
  puts (Some s) n can e = (put name bytes s.files, e, is_put name bytes s.files can)
