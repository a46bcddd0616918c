-- How many step files were walked over, of a host that may not tell its state.
use Rattle.std.proofs.Common.{◌≡◌, ◌≤◌, ℕ, suc, ◌+◌, ◌-◌, List, Option, Some, None, IfSome, if◌then◌else◌, is_some, sym, ap, ◌∙◌, arith}
use Rattle.std.specs.FinMap.{get}
use Rattle.host_core.specs.State.{Files, State}
use Rattle.conf_store.specs.Applied.{applied, steps_there}
use Rattle.conf_store.specs.Files.{folded_file, last_step, step_name}
use Rattle.conf_store.proofs.Finds.{HasFile, ok_same}

-- so many steps there are as stand before the number at hand and from it on
abbrev pub CountsAt : ℕ → State → Type 0
CountsAt n s = suc (steps_there last_step 1 s.files) ≡ n + steps_there (last_step + 1 - n) n s.files

one_less : (n : ℕ) → n ≤ last_step → last_step + 1 - n ≡ suc (last_step + 1 - (n + 1))
one_less n within = omega (arith, within)

-- how many are there from a number on, where the file of that number is this
at_file : (files : Files) (n : ℕ) (found : Option (List ℕ)) → n ≤ last_step → get files (step_name n) ≡ found
    → steps_there (last_step + 1 - n) n files ≡ (if is_some found then suc (steps_there (last_step + 1 - (n + 1)) (n + 1) files) else 0)
at_file files n found within is =
    ap (λ (more : ℕ). steps_there more n files) (one_less n within)
    ∙ ap (λ (x : Option (List ℕ)). if is_some x then suc (steps_there (last_step + 1 - (n + 1)) (n + 1) files) else 0) is

pub count_begins : (o : Option State) → IfSome o (CountsAt 1)
count_begins None = tt
count_begins (Some s) =
    let same : last_step ≡ last_step + 1 - 1 = omega arith in
    let here = ap (λ (more : ℕ). steps_there more 1 s.files) same in
    omega (arith, here)

pub count_next : (o : Option State) (n : ℕ) (bytes : List ℕ) → n ≤ last_step → IfSome o (CountsAt n)
    → IfSome o (HasFile (step_name n) (Some bytes)) → IfSome o (CountsAt (n + 1))
count_next None n bytes within so_far has = tt
count_next (Some s) n bytes within so_far has =
    let here = at_file s.files n (Some bytes) within (ok_same _ _ has) in
    omega (arith, so_far, here)

pub count_missing : (o : Option State) (n k : ℕ) → suc k ≡ n → n ≤ last_step → IfSome o (CountsAt n)
    → IfSome o (HasFile (step_name n) None) → IfSome o (λ s. k ≡ steps_there last_step 1 s.files)
count_missing None n k before within so_far has = tt
count_missing (Some s) n k before within so_far has =
    let here = at_file s.files n None within (ok_same _ _ has) in
    omega (arith, so_far, here, before)

pub is_last : (k : ℕ) → k ≡ 999999 → k ≡ last_step
unfolding last_step
is_last k is = is

pub count_ends : (o : Option State) (n k : ℕ) → k ≡ last_step → n ≡ last_step + 1 → IfSome o (CountsAt n)
    → IfSome o (λ s. k ≡ steps_there last_step 1 s.files)
count_ends None n k last at so_far = tt
count_ends (Some s) n k last at so_far =
    let none : last_step + 1 - n ≡ 0 = omega (arith, at) in
    let here = ap (λ (more : ℕ). steps_there more n s.files) none in
    omega (arith, so_far, here, at, last)

-- ---- the folder

pub none_applied : (o : Option State) (bytes : List ℕ) → IfSome o (HasFile folded_file (Some bytes)) → IfSome o (λ s. 0 ≡ applied s.files)
none_applied None bytes has = tt
none_applied (Some s) bytes has =
    ap (λ (x : Option (List ℕ)). if is_some x then 0 else steps_there last_step 1 s.files) (sym (ok_same _ _ has))

pub all_applied : (o : Option State) (k : ℕ) → IfSome o (HasFile folded_file None) → IfSome o (λ s. k ≡ steps_there last_step 1 s.files) → IfSome o (λ s. k ≡ applied s.files)
all_applied None k has is = tt
all_applied (Some s) k has is =
    is ∙ ap (λ (x : Option (List ℕ)). if is_some x then 0 else steps_there last_step 1 s.files) (sym (ok_same _ _ has))
