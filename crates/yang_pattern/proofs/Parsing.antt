-- Reading tokens gives exactly the patterns that have these tokens.
use Rattle.std.proofs.Common.{◌≡◌, ℕ, zero, suc, ◌+◌, ◌<◌, ◌≤◌, slice_get, get_or, List, [], ◌∷◌, ◌++◌, length, Option, Some, None, option_and_then, refl, sym, ap, ◌∙◌, arith, Bool, IsSomeAnd, append_assoc, append-nil}
use Rattle.std.proofs.lemmas.Bool.{lt-ltb}
use Rattle.yang_pattern.specs.declared.symbols.Token.{Token}
use Rattle.yang_pattern.specs.declared.symbols.Token.TheVariants.{Open, Close, Bar, Times}
use Rattle.yang_pattern.specs.Pattern.{Branches, one, or, Branch, none, followed, once, times, Atom, symbol, group, nesting, branch_nesting, atom_nesting, tokens_of, branch_tokens, atom_tokens}
use Rattle.yang_pattern.specs.Reading.{Opened, Progress, fresh, settle, close, with_atom, read, run, start, IsReader}
use Rattle.yang_pattern.specs.declared.frames.Reader.{Reader}

abbrev at : Opened → List Opened → Progress
at o outer = record { current = o; outer = outer }

-- what is open once a branch is read
abbrev opened_branch : Option Branches → Branch → Opened
opened_branch cs none = record { choices = cs; branch = none; last = None }
opened_branch cs (followed b (once a)) = record { choices = cs; branch = b; last = Some a }
opened_branch cs (followed b (times a q)) = record { choices = cs; branch = followed b (times a q); last = None }

opened_choices : (cs : Option Branches) (b : Branch) → (opened_branch cs b).choices ≡ cs
opened_choices cs none = refl
opened_choices cs (followed b (once a)) = refl
opened_choices cs (followed b (times a q)) = refl

opened_settled : (cs : Option Branches) (b : Branch) → settle (opened_branch cs b).branch (opened_branch cs b).last ≡ b
opened_settled cs none = refl
opened_settled cs (followed b (once a)) = refl
opened_settled cs (followed b (times a q)) = refl

abbrev opened_branches : Branches → Opened
opened_branches (one b) = opened_branch None b
opened_branches (or bs b) = opened_branch (Some bs) b

opened_closed : (bs : Branches) → close (opened_branches bs) ≡ bs
opened_closed (one b) = rw (opened_choices None b, opened_settled None b) refl
opened_closed (or bs b) = rw (opened_choices (Some bs) b, opened_settled (Some bs) b) refl

enter_room : (o : Opened) (outer : List Opened) (ts : List Token) → length outer < 32 → run (Open ∷ ts) (at o outer) ≡ run ts (at fresh (o ∷ outer))
enter_room o outer ts h = rw (lt-ltb (length outer) 32 h) refl

mutual
  read_branches : (bs : Branches) (rest : List Token) (outer : List Opened) → nesting bs + length outer ≤ 32
      → run (tokens_of bs ++ rest) (at fresh outer) ≡ run rest (at (opened_branches bs) outer)
  read_branches (one b) rest outer h = read_branch b rest None outer h
  read_branches (or bs b) rest outer h =
      rw (append_assoc (tokens_of bs) (Bar ∷ branch_tokens b) rest)
      (read_branches bs (Bar ∷ (branch_tokens b ++ rest)) outer (omega arith)
      ∙ (let closes : close (opened_branches bs) ≡ bs = opened_closed bs in
      ap (λ cs. run (branch_tokens b ++ rest) (at (record { choices = Some cs; branch = none; last = None }) outer)) closes
      ∙ read_branch b rest (Some bs) outer (omega arith)))

  read_branch : (b : Branch) (rest : List Token) (cs : Option Branches) (outer : List Opened) → branch_nesting b + length outer ≤ 32
      → run (branch_tokens b ++ rest) (at (record { choices = cs; branch = none; last = None }) outer) ≡ run rest (at (opened_branch cs b) outer)
  read_branch none rest cs outer h = refl
  read_branch (followed b (once a)) rest cs outer h =
      rw (append_assoc (branch_tokens b) (atom_tokens a) rest)
      (read_branch b (atom_tokens a ++ rest) cs outer (omega arith)
      ∙ (read_atom a rest (opened_branch cs b) outer (omega arith)
      ∙ rw (opened_choices cs b, opened_settled cs b) refl))
  read_branch (followed b (times a q)) rest cs outer h =
      rw (append_assoc (branch_tokens b) (atom_tokens a ++ Times q ∷ []) rest, append_assoc (atom_tokens a) (Times q ∷ []) rest)
      (read_branch b (atom_tokens a ++ Times q ∷ rest) cs outer (omega arith)
      ∙ (read_atom a (Times q ∷ rest) (opened_branch cs b) outer (omega arith)
      ∙ rw (opened_choices cs b, opened_settled cs b) refl))

  read_atom : (a : Atom) (rest : List Token) (o : Opened) (outer : List Opened) → atom_nesting a + length outer ≤ 32
      → run (atom_tokens a ++ rest) (at o outer) ≡ run rest (at (with_atom o a) outer)
  read_atom (symbol s) rest o outer h = refl
  read_atom (group bs) rest o outer h =
      rw (append_assoc (tokens_of bs) (Close ∷ []) rest)
      (enter_room o outer (tokens_of bs ++ Close ∷ rest) (omega arith)
      ∙ (read_branches bs (Close ∷ rest) (o ∷ outer) (omega arith)
      ∙ ap (λ cs. run rest (at (with_atom o (group cs)) outer)) (opened_closed bs)))

-- what has these tokens, and isn't nested too deep, is read
pub run_complete : (bs : Branches) → nesting bs ≤ 32 → run (tokens_of bs) start ≡ Some bs
run_complete bs h =
    ap (λ ts. run ts start) (sym (append-nil (tokens_of bs)))
    ∙ (read_branches bs [] [] (omega arith) ∙ ap Some (opened_closed bs))

module _ (r : ℕ → ℕ → Bool) (t : Token) (rest : List Token) (s : Progress) (whole : Option Branches) (is : run (t ∷ rest) s ≡ whole) where
  step_by : (o : Option Progress) (reader : Reader) → option_and_then (λ n. run rest n) o ≡ whole → IsSomeAnd o (λ n. IsReader r reader n) → (n : Progress) × IsReader r reader n × (run rest n ≡ whole)
  step_by None reader e h = absurd h
  step_by (Some n) reader e h = (n, h, e)

  -- the token is read
  pub run_step : (reader : Reader) → IsSomeAnd (read t s) (λ n. IsReader r reader n) → (n : Progress) × IsReader r reader n × (run rest n ≡ whole)
  run_step reader h = step_by (read t s) reader is h

  -- it can't stand here
  pub run_stop : read t s ≡ None → whole ≡ None
  run_stop h = sym is ∙ ap (λ o. option_and_then (λ n. run rest n) o) h

-- the element of a list at a place
pub element_at : {A : Type 0} (xs : List A) (i : ℕ) (d : A) → i < length xs → slice_get xs i ≡ Some (get_or xs i d)
element_at [] i d h = absurd (omega arith)
element_at (x ∷ xs) zero d h = refl
element_at (x ∷ xs) (suc i) d h = element_at xs i d (omega arith)
