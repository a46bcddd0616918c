-- What the parts of a load find, of a host that may not tell its state.
use Rattle.std.proofs.Common.{◌≡◌, ℕ, true, false, Bool, Global, List, Option, Some, None, Result, Ok, Err, IfSome, Vec, option_map, is_ok, is_some, refl, sym, ap, ◌∙◌, subst}
use Rattle.std.specs.FinMap.{get}
use Rattle.host_core.specs.Answers.{◌>>=◌, FailsAs, Gives}
use Rattle.host_core.specs.State.{Files, State}
use Rattle.conf_doc.specs.Document.{Document}
use Rattle.conf_doc.specs.Reading.{Way, document_of, json}
use Rattle.conf_doc.specs.Shaping.{configuration}
use Rattle.conf_doc.specs.Trees.{document}
use Rattle.conf_doc.specs.declared.configuration.Config.{Config}
use Rattle.conf_doc.specs.declared.trees.Tree.{Tree}
use Rattle.conf_store.specs.Applied.{applied}
use Rattle.conf_store.specs.Files.{config_file, folded_file, last_step, step_names}
use Rattle.conf_store.specs.Loads.{CountsSteps, IsStoredTree, Loads, LoadsTree, LoadsWhat}
use Rattle.conf_store.specs.Reads.{FoundIn, load_fault}
use Rattle.conf_store.specs.Shapes.{is_config}
use Rattle.conf_store.specs.Stored.{after_all_steps, after_steps, config_in, or_none, or_unfolded as config_or, or_why, stored}
use Rattle.conf_store.specs.Walk.{document_after_all, document_found, document_stepped, document_stored, or_unfolded, shaped, shaped_in, stepped_tree}
use Rattle.conf_store.specs.declared.errors.LoadError.{LoadError}
use Rattle.conf_store.specs.declared.errors.LoadError.TheVariants.{Bad, Disk, Memory}
use Rattle.conf_store.specs.declared.errors.StoredWhy.{StoredWhy}
use Rattle.conf_store.specs.declared.errors.StoredWhy.TheVariants.{BadJson, BadKind, BadShape, NoFile}
use Rattle.conf_store.specs.declared.loaded.Stored.{Stored}
use Rattle.conf_store.proofs.Shaping.{config_back, ok_config}
use Rattle.conf_store.proofs.Walking.{alike, config_of}

-- an answer that is found
abbrev pub ok_of : {A : Type 0} → A → Result A StoredWhy
ok_of a = Ok a

-- a document, and whether it is the folded file's
abbrev folded_with : Bool → Document → Result (Document × Bool) StoredWhy
folded_with b d = Ok (d, b)

-- ---- faults

-- a fault stays one behind what follows
pub fails_on : {A B : Type 0} (o : Option StoredWhy) (r : Result A StoredWhy) (f : A → Result B StoredWhy) → FailsAs o r → FailsAs o (r >>= f)
fails_on None r f h = tt
fails_on (Some why) r f h = ap (λ x. x >>= f) h

-- ---- shapes

is_shaped : (why : StoredWhy) (d : Document) (r : Result Config Way) → is_ok r ≡ true → (or_why why r >>= λ _. Ok d) ≡ Ok d
is_shaped why d (Ok c) is = refl
is_shaped why d (Err way) is = absurd cc

not_shaped : (why : StoredWhy) (d : Document) (r : Result Config Way) → is_ok r ≡ false → (or_why why r >>= λ _. Ok d) ≡ Err why
not_shaped why d (Ok c) is = absurd cc
not_shaped why d (Err way) is = refl

pub shaped_ok : (why : StoredWhy) (d : Document) → is_config d ≡ true → shaped why d ≡ Ok d
shaped_ok why d is = is_shaped why d (configuration d) (sym (ok_config d) ∙ is)

pub shaped_err : (why : StoredWhy) (d : Document) → is_config d ≡ false → shaped why d ≡ Err why
shaped_err why d isnt = not_shaped why d (configuration d) (sym (ok_config d) ∙ isnt)

-- ---- the one file and the steps

module _ (files : Files) where
  shaped_walk : (d : Document) (r : Result Config Way) → configuration d ≡ r
      → (or_why BadShape r >>= after_steps last_step 1 files) ≡ ((or_why BadShape r >>= λ _. Ok d) >>= document_after_all files >>= config_of)
  shaped_walk d (Ok c) is = alike last_step 1 files d c is
  shaped_walk d (Err way) is = refl

  document_walk : (r : Result Document Way)
      → ((or_why BadKind r >>= λ d. or_why BadShape (configuration d)) >>= after_steps last_step 1 files)
      ≡ (or_why BadKind r >>= shaped BadShape >>= document_after_all files >>= config_of)
  document_walk (Ok d) = shaped_walk d (configuration d) refl
  document_walk (Err way) = refl

  value_walk : {V : Type 0} (f : V → Result Document Way) (o : Option V)
      → ((or_none BadJson o >>= λ v. or_why BadKind (f v) >>= λ d. or_why BadShape (configuration d)) >>= after_steps last_step 1 files)
      ≡ ((or_none BadJson o >>= λ v. or_why BadKind (f v)) >>= shaped BadShape >>= document_after_all files >>= config_of)
  value_walk f None = refl
  value_walk f (Some v) = document_walk (f v)

  -- what is found in the file is walked through
  bytes_walk : (bytes : List ℕ) → (config_in bytes >>= after_steps last_step 1 files) ≡ (shaped_in bytes >>= document_after_all files >>= config_of)
  bytes_walk bytes = value_walk document_of (json bytes)

  file_walk : (found : Option (List ℕ))
      → (or_none NoFile found >>= λ bytes. config_in bytes >>= λ c. after_steps last_step 1 files c)
      ≡ ((or_none NoFile found >>= λ bytes. shaped_in bytes >>= document_after_all files) >>= config_of)
  file_walk None = refl
  file_walk (Some bytes) = bytes_walk bytes

pub ok_same : {A : Type 0} (a b : A) → ok_of a ≡ ok_of b → a ≡ b
ok_same a b e = cc

-- the file that a step of a load has read
abbrev pub HasFile : List ℕ → Option (List ℕ) → State → Type 0
HasFile name found s = ok_of (get s.files name) ≡ ok_of found

-- what the file holds, and what the steps make of it
module _ (files : Files) where
  stepped : (found : Option (List ℕ)) → get files config_file ≡ found
      → document_stepped files ≡ (or_none NoFile found >>= λ bytes. shaped_in bytes >>= document_after_all files)
  stepped found is = ap (λ (x : Option (List ℕ)). or_none NoFile x >>= λ bytes. shaped_in bytes >>= document_after_all files) is

pub no_config : (o : Option State) → IfSome o (HasFile config_file None) → IfSome o (λ s. document_stepped s.files ≡ Err NoFile)
no_config None h = tt
no_config (Some s) h = stepped s.files None (ok_same _ _ h)

pub bad_config : (o : Option State) (bytes : List ℕ) (e : LoadError) → IfSome o (HasFile config_file (Some bytes))
    → FailsAs (load_fault e) (shaped_in bytes) → IfSome o (λ s. FailsAs (load_fault e) (document_stepped s.files))
bad_config None bytes e h fails = tt
bad_config (Some s) bytes e h fails =
    subst (λ r. FailsAs (load_fault e) r) (sym (stepped s.files (Some bytes) (ok_same _ _ h)))
    (fails_on (load_fault e) _ (document_after_all s.files) fails)

pub all_steps : (o : Option State) (bytes : List ℕ) (d : Document) (r : Result (Tree × ℕ) LoadError) → IfSome o (HasFile config_file (Some bytes))
    → shaped_in bytes ≡ Ok d → IfSome o (λ s. Gives stepped_tree load_fault r (document_after_all s.files d))
    → IfSome o (λ s. Gives stepped_tree load_fault r (document_stepped s.files))
all_steps None bytes d r h is gives = tt
all_steps (Some s) bytes d r h is gives =
    subst (λ x. Gives stepped_tree load_fault r x) (sym (stepped s.files (Some bytes) (ok_same _ _ h) ∙ ap (λ x. x >>= document_after_all s.files) is)) gives

-- ---- the folder

folded_is : (files : Files) (bytes : List ℕ) → get files folded_file ≡ Some bytes → document_found files ≡ (shaped_in bytes >>= folded_with true)
folded_is files bytes is =
    ap (λ (found : Option (List ℕ)). or_unfolded found (document_stepped files) >>= folded_with (is_some found)) is

unfolded_is : (files : Files) → get files folded_file ≡ None → document_found files ≡ (document_stepped files >>= folded_with false)
unfolded_is files is =
    ap (λ (found : Option (List ℕ)). or_unfolded found (document_stepped files) >>= folded_with (is_some found)) is

pub folded_found : (o : Option State) (bytes : List ℕ) (d : Document) → IfSome o (HasFile folded_file (Some bytes)) → shaped_in bytes ≡ Ok d
    → IfSome o (λ s. document_found s.files ≡ Ok (d, true))
folded_found None bytes d h is = tt
folded_found (Some s) bytes d h is = folded_is s.files bytes (ok_same _ _ h) ∙ ap (λ r. r >>= folded_with true) is

pub folded_bad : (o : Option State) (bytes : List ℕ) (e : LoadError) → IfSome o (HasFile folded_file (Some bytes)) → FailsAs (load_fault e) (shaped_in bytes)
    → IfSome o (λ s. FailsAs (load_fault e) (document_found s.files))
folded_bad None bytes e h fails = tt
folded_bad (Some s) bytes e h fails =
    subst (λ r. FailsAs (load_fault e) r) (sym (folded_is s.files bytes (ok_same _ _ h))) (fails_on (load_fault e) _ (folded_with true) fails)

pub unfolded_found : (o : Option State) (d : Document) → IfSome o (HasFile folded_file None) → IfSome o (λ s. document_stepped s.files ≡ Ok d)
    → IfSome o (λ s. document_found s.files ≡ Ok (d, false))
unfolded_found None d h is = tt
unfolded_found (Some s) d h is = unfolded_is s.files (ok_same _ _ h) ∙ ap (λ r. r >>= folded_with false) is

pub unfolded_bad : (o : Option State) (e : LoadError) → IfSome o (HasFile folded_file None) → IfSome o (λ s. FailsAs (load_fault e) (document_stepped s.files))
    → IfSome o (λ s. FailsAs (load_fault e) (document_found s.files))
unfolded_bad None e h fails = tt
unfolded_bad (Some s) e h fails =
    subst (λ r. FailsAs (load_fault e) r) (sym (unfolded_is s.files (ok_same _ _ h))) (fails_on (load_fault e) _ (folded_with false) fails)

-- ---- the configuration of a document

-- a file's configuration is that of its document
config_read : (bytes : List ℕ) → config_in bytes ≡ (shaped_in bytes >>= config_of)
config_read bytes = value_read document_of (json bytes)
  where
    shaped_read : (d : Document) (r : Result Config Way) → configuration d ≡ r → or_why BadShape r ≡ ((or_why BadShape r >>= λ _. Ok d) >>= config_of)
    shaped_read d (Ok c) is = ap (or_why BadShape) (sym is)
    shaped_read d (Err way) is = refl

    document_read : (r : Result Document Way) → (or_why BadKind r >>= λ d. or_why BadShape (configuration d)) ≡ (or_why BadKind r >>= shaped BadShape >>= config_of)
    document_read (Ok d) = shaped_read d (configuration d) refl
    document_read (Err way) = refl

    value_read : {V : Type 0} (f : V → Result Document Way) (o : Option V)
        → (or_none BadJson o >>= λ v. or_why BadKind (f v) >>= λ d. or_why BadShape (configuration d))
        ≡ ((or_none BadJson o >>= λ v. or_why BadKind (f v)) >>= shaped BadShape >>= config_of)
    value_read f None = refl
    value_read f (Some v) = document_read (f v)

-- so is what the files stand for
stored_is : (files : Files) → stored files ≡ (document_stored files >>= config_of)
stored_is files = by (get files folded_file)
  where
    by : (found : Option (List ℕ)) → config_or found (after_all_steps files) ≡ (or_unfolded found (document_stepped files) >>= config_of)
    by None = file_walk files (get files config_file)
    by (Some bytes) = config_read bytes

-- ---- faults of the first call

-- a fault of the first call is one of the whole
pub file_fails : {A : Type 0} (o : Option State) (name : List ℕ) (e : LoadError) (answer : Files → Result A StoredWhy)
    → IfSome o (λ s. FailsAs (load_fault e) (ok_of (get s.files name))) → IfSome o (λ s. FailsAs (load_fault e) (answer s.files))
file_fails None name e answer fails = tt
file_fails (Some s) name (Bad why) answer fails = absurd cc
file_fails (Some s) name Disk answer fails = tt
file_fails (Some s) name Memory answer fails = tt

-- ---- the whole

-- a document that was found is the stored one
stored_as : (files : Files) (d : Document) (folded : Bool) → document_found files ≡ Ok (d, folded)
    → (stored files ≡ config_of d) × (is_some (get files folded_file) ≡ folded)
stored_as files d folded is = by (document_stored files) refl is
  where
    by : (r : Result Document StoredWhy) → document_stored files ≡ r → (r >>= folded_with (is_some (get files folded_file))) ≡ Ok (d, folded)
        → (stored files ≡ config_of d) × (is_some (get files folded_file) ≡ folded)
    by (Err why) at e = absurd cc
    by (Ok x) at e =
        let pair : (x, is_some (get files folded_file)) ≡ (d, folded) = cc in
        let same : x ≡ d = ap (λ (p : Document × Bool). p.0) pair in
        (stored_is files ∙ ap (λ r. r >>= config_of) at ∙ ap config_of same, ap (λ (p : Document × Bool). p.1) pair)

-- a fault is that of the stored one
not_stored : (files : Files) (why : StoredWhy) → document_found files ≡ Err why → stored files ≡ Err why
not_stored files why is = by (document_stored files) refl is
  where
    by : (r : Result Document StoredWhy) → document_stored files ≡ r → (r >>= folded_with (is_some (get files folded_file))) ≡ Err why → stored files ≡ Err why
    by (Ok x) at e = absurd cc
    by (Err other) at e =
        let same : other ≡ why = cc in
        stored_is files ∙ ap (λ r. r >>= config_of) at ∙ ap (λ (w : StoredWhy). Err w) same

-- a document of a configuration's shape is shaped as one
is_shape : (files : Files) (d : Document) → is_config d ≡ true → stored files ≡ config_of d → IsStoredTree files d
is_shape files d shape stands = by (configuration d) refl (sym (ok_config d) ∙ shape)
  where
    by : (r : Result Config Way) → configuration d ≡ r → is_ok r ≡ true → IsStoredTree files d
    by (Ok c) at is = record { config = c; stands = stands ∙ ap (or_why BadShape) at; same = sym (config_back d c at); shaped = at }
    by (Err way) at is = absurd cc

pub loads_tree : (o : Option State) (t : Tree) (folded : Bool) → is_config (document t) ≡ true
    → IfSome o (λ s. document_found s.files ≡ Ok (document t, folded)) → IfSome o (λ s. LoadsTree s.files (Ok t))
loads_tree None t folded shape is = tt
loads_tree (Some s) t folded shape is = is_shape s.files (document t) shape (stored_as s.files (document t) folded is).0

pub loads_count : (o : Option State) (t : Tree) (folded : Bool) (count : ℕ) → is_config (document t) ≡ true
    → IfSome o (λ s. document_found s.files ≡ Ok (document t, folded)) → IfSome o (λ s. count ≡ applied s.files) → IfSome o (λ s. CountsSteps s.files (Ok count))
loads_count None t folded count shape is counted = tt
loads_count (Some s) t folded count shape is counted =
    let found = is_shape s.files (document t) shape (stored_as s.files (document t) folded is).0 in
    record { config = found.config; stands = found.stands; steps = counted }

pub loads : (o : Option State) (what : Stored) (d : Document) → IfSome o (λ s. document_found s.files ≡ Ok (d, what.folded))
    → config_of d ≡ Ok what.config → IfSome o (λ s. ok_of (step_names s.files) ≡ Ok what.steps) → IfSome o (λ s. Loads s.files (Ok what))
loads None what d is shaped steps = tt
loads (Some s) what d is shaped steps =
    let found = stored_as s.files d what.folded is in
    record { config = found.0 ∙ shaped; steps = ok_same _ _ steps; folded = found.1 }

pub loads_not : {A : Type 0} (o : Option State) (e : LoadError) (Passes : Files → A → Type 0) → IfSome o (λ s. FailsAs (load_fault e) (document_found s.files))
    → IfSome o (λ s. LoadsWhat (Passes s.files) s.files (Err e))
loads_not None e Passes fails = tt
loads_not (Some s) Disk Passes fails = tt
loads_not (Some s) Memory Passes fails = tt
loads_not (Some s) (Bad why) Passes fails = not_stored s.files why fails

-- a shape that isn't a configuration's isn't that of the stored one
pub loads_shape_not : (o : Option State) (d : Document) (folded : Bool) (e : LoadError) → IfSome o (λ s. document_found s.files ≡ Ok (d, folded))
    → FailsAs (load_fault e) (config_of d) → IfSome o (λ s. Loads s.files (Err e))
loads_shape_not None d folded e is fails = tt
loads_shape_not (Some s) d folded Disk is fails = tt
loads_shape_not (Some s) d folded Memory is fails = tt
loads_shape_not (Some s) d folded (Bad why) is fails = (stored_as s.files d folded is).0 ∙ fails

pub loads_no_list : (o : Option State) (e : LoadError) → IfSome o (λ s. FailsAs (load_fault e) (ok_of (step_names s.files))) → IfSome o (λ s. Loads s.files (Err e))
loads_no_list None e fails = tt
loads_no_list (Some s) (Bad why) fails = absurd cc
loads_no_list (Some s) Disk fails = tt
loads_no_list (Some s) Memory fails = tt

-- ---- names given by a text

-- what is found at a name is found at the same one
pub named_found : {X : Type 0} (o : Option State) (view : X → Option (List ℕ)) (r : Result X LoadError) (given name : List ℕ) → given ≡ name
    → FoundIn o view (λ files. Ok (get files given)) r → FoundIn o view (λ files. Ok (get files name)) r
named_found o view r given name same found = subst (λ (q : List ℕ). FoundIn o view (λ files. Ok (get files q)) r) same found

-- ---- files that were read

-- the bytes of a file, as a list
abbrev pub items_in : Option (Vec ℕ Global) → Option (List ℕ)
items_in = option_map (λ (b : Vec ℕ Global). b.items)

-- what was read from a host that tells the same as an earlier one
pub has_file : (o p : Option State) → p ≡ o → (name : List ℕ) (r x : Option (Vec ℕ Global)) → r ≡ x
    → IfSome p (λ s. ok_of (get s.files name) ≡ ok_of (items_in r)) → IfSome o (HasFile name (items_in x))
has_file o p same name r x is found =
    subst (λ q. IfSome q (HasFile name (items_in x))) same (subst (λ y. IfSome p (HasFile name (items_in y))) is found)
