-- What is read has the tokens that it was read from, and is nested no deeper than groups were open.
use Rattle.std.proofs.Common.{◌≡◌, ℕ, suc, ◌+◌, ◌<◌, ◌≤◌, List, [], ◌∷◌, ◌++◌, length, Option, Some, None, option_map, option_and_then, refl, sym, ap, ◌∙◌, subst, arith, append_assoc, append-nil, Bool, true, false, cond, ltb}
use Rattle.std.proofs.lemmas.Bool.{ltb-true}
use Rattle.yang_pattern.specs.declared.symbols.Quantifier.{Quantifier}
use Rattle.yang_pattern.specs.declared.symbols.Token.{Token}
use Rattle.yang_pattern.specs.declared.symbols.Token.TheVariants.{Open, Close, Bar, Times, Symbol}
use Rattle.yang_pattern.specs.Pattern.{Branches, Branch, followed, times, Atom, symbol, group, nesting, branch_nesting, atom_nesting, tokens_of, branch_tokens, atom_tokens}
use Rattle.yang_pattern.specs.Reading.{Opened, Progress, fresh, settle, join_branches, close, with_atom, with_bar, quantify, with_times, leave, enter, read, finish, run, start}

abbrev choices_tokens : Option Branches → List Token
choices_tokens None = []
choices_tokens (Some bs) = tokens_of bs ++ Bar ∷ []

abbrev last_tokens : Option Atom → List Token
last_tokens None = []
last_tokens (Some a) = atom_tokens a

abbrev written : Opened → List Token
written o = choices_tokens o.choices ++ (branch_tokens o.branch ++ last_tokens o.last)

abbrev all_written : List Opened → List Token
all_written [] = []
all_written (o ∷ os) = (all_written os ++ written o) ++ Open ∷ []

abbrev so_far : Progress → List Token
so_far s = all_written s.outer ++ written s.current

settled_tokens : (b : Branch) (l : Option Atom) → branch_tokens (settle b l) ≡ branch_tokens b ++ last_tokens l
settled_tokens b None = sym (append-nil (branch_tokens b))
settled_tokens b (Some a) = refl

joined_tokens : (cs : Option Branches) (b : Branch) → tokens_of (join_branches cs b) ≡ choices_tokens cs ++ branch_tokens b
joined_tokens None b = refl
joined_tokens (Some bs) b = sym (append_assoc (tokens_of bs) (Bar ∷ []) (branch_tokens b))

closed_tokens : (o : Opened) → tokens_of (close o) ≡ written o
closed_tokens o = joined_tokens o.choices (settle o.branch o.last) ∙ ap (λ ts. choices_tokens o.choices ++ ts) (settled_tokens o.branch o.last)

atom_written : (o : Opened) (a : Atom) → written (with_atom o a) ≡ written o ++ atom_tokens a
atom_written o a =
    ap (λ ts. choices_tokens o.choices ++ (ts ++ atom_tokens a)) (settled_tokens o.branch o.last)
    ∙ sym (append_assoc (choices_tokens o.choices) (branch_tokens o.branch ++ last_tokens o.last) (atom_tokens a))

bar_written : (o : Opened) → written (with_bar o) ≡ written o ++ Bar ∷ []
bar_written o = append-nil (tokens_of (close o) ++ Bar ∷ []) ∙ ap (λ ts. ts ++ Bar ∷ []) (closed_tokens o)

times_written : (cs : Option Branches) (b : Branch) (q : Quantifier) (l : Option Atom) (n : Opened) → quantify cs b q l ≡ Some n
    → written n ≡ (choices_tokens cs ++ (branch_tokens b ++ last_tokens l)) ++ Times q ∷ []
times_written cs b q None n e = cc e
times_written cs b q (Some a) n e =
    let is : record { choices = cs; branch = followed b (times a q); last = None } ≡ n = cc e in
    subst (λ (o : Opened). written o ≡ (choices_tokens cs ++ (branch_tokens b ++ atom_tokens a)) ++ Times q ∷ []) is
    (simp (append_assoc, append-nil) refl)

leave_written : (o : Opened) (outer : List Opened) (n : Progress) → leave o outer ≡ Some n → so_far n ≡ (all_written outer ++ written o) ++ Close ∷ []
leave_written o [] n e = cc e
leave_written o (p ∷ outer) n e =
    let is : record { current = with_atom p (group (close o)); outer = outer } ≡ n = cc e in
    subst (λ (m : Progress). so_far m ≡ (all_written (p ∷ outer) ++ written o) ++ Close ∷ []) is
    (ap (λ ts. all_written outer ++ ts) (atom_written p (group (close o)) ∙ ap (λ ts. written p ++ Open ∷ (ts ++ Close ∷ [])) (closed_tokens o))
    ∙ simp append_assoc refl)

entered_by : (b : Bool) (m n : Progress) → cond b (Some m) None ≡ Some n → (b ≡ true) × (n ≡ m)
entered_by true m n e = (refl, cc e)
entered_by false m n e = cc e

entered : (s n : Progress) → enter s ≡ Some n → (length s.outer < 32) × (n ≡ record { current = fresh; outer = s.current ∷ s.outer })
entered s n e =
    let parts = entered_by (ltb (length s.outer) 32) (record { current = fresh; outer = s.current ∷ s.outer }) n e in
    (ltb-true (length s.outer) 32 parts.0, parts.1)

pub map_some : {A B : Type 0} (f : A → B) (o : Option A) (y : B) → option_map f o ≡ Some y → (x : A) × (o ≡ Some x) × (y ≡ f x)
map_some f None y e = cc e
map_some f (Some x) y e = (x, refl, cc e)

pub then_some : {A B : Type 0} (f : A → Option B) (o : Option A) (y : B) → option_and_then f o ≡ Some y → (x : A) × (o ≡ Some x) × (f x ≡ Some y)
then_some f None y e = cc e
then_some f (Some x) y e = (x, refl, e)

-- a token more is written
read_written : (t : Token) (s n : Progress) → read t s ≡ Some n → so_far n ≡ so_far s ++ t ∷ []
read_written Open s n e =
    let is = (entered s n e).1 in
    subst (λ (m : Progress). so_far m ≡ so_far s ++ Open ∷ []) (sym is) (append-nil (all_written (s.current ∷ s.outer)))
read_written Close s n e = leave_written s.current s.outer n e
read_written Bar s n e =
    let is : record { current = with_bar s.current; outer = s.outer } ≡ n = cc e in
    subst (λ (m : Progress). so_far m ≡ so_far s ++ Bar ∷ []) is
    (ap (λ ts. all_written s.outer ++ ts) (bar_written s.current) ∙ sym (append_assoc (all_written s.outer) (written s.current) (Bar ∷ [])))
read_written (Times q) s n e =
    let (o, here, is) = map_some (λ o. record { current = o; outer = s.outer }) (with_times s.current q) n e in
    subst (λ (m : Progress). so_far m ≡ so_far s ++ Times q ∷ []) (sym is)
    (ap (λ ts. all_written s.outer ++ ts) (times_written s.current.choices s.current.branch q s.current.last o here) ∙ sym (append_assoc (all_written s.outer) (written s.current) (Times q ∷ [])))
read_written (Symbol y) s n e =
    let is : record { current = with_atom s.current (symbol y); outer = s.outer } ≡ n = cc e in
    subst (λ (m : Progress). so_far m ≡ so_far s ++ Symbol y ∷ []) is
    (ap (λ ts. all_written s.outer ++ ts) (atom_written s.current (symbol y)) ∙ sym (append_assoc (all_written s.outer) (written s.current) (Symbol y ∷ [])))

finish_written : (o : Opened) (outer : List Opened) (bs : Branches) → finish o outer ≡ Some bs → tokens_of bs ≡ all_written outer ++ written o
finish_written o [] bs e =
    let is : close o ≡ bs = cc e in
    subst (λ (x : Branches). tokens_of x ≡ written o) is (closed_tokens o)
finish_written o (p ∷ outer) bs e = cc e

run_written : (ts : List Token) (s : Progress) (bs : Branches) → run ts s ≡ Some bs → tokens_of bs ≡ so_far s ++ ts
run_written [] s bs e = finish_written s.current s.outer bs e ∙ sym (append-nil (so_far s))
run_written (t ∷ ts) s bs e =
    let (n, here, more) = then_some (λ n. run ts n) (read t s) bs e in
    run_written ts n bs more ∙ (ap (λ us. us ++ ts) (read_written t s n here) ∙ append_assoc (so_far s) (t ∷ []) ts)

-- nesting
abbrev choices_nesting : Option Branches → ℕ
choices_nesting None = 0
choices_nesting (Some bs) = nesting bs

abbrev last_nesting : Option Atom → ℕ
last_nesting None = 0
last_nesting (Some a) = atom_nesting a

-- a group with n others round it is not nested too deep
pub record IsShallow (o : Opened) (n : ℕ) : Type 0 where
  pub choices : choices_nesting o.choices + n ≤ 32
  pub branch : branch_nesting o.branch + n ≤ 32
  pub last : last_nesting o.last + n ≤ 32

abbrev AllShallow : List Opened → Type 0
AllShallow [] = Unit {0}
AllShallow (o ∷ os) = IsShallow o (length os) × AllShallow os

abbrev Shallow : Progress → Type 0
Shallow s = IsShallow s.current (length s.outer) × AllShallow s.outer

settled_shallow : (b : Branch) (l : Option Atom) (n : ℕ) → branch_nesting b + n ≤ 32 → last_nesting l + n ≤ 32 → branch_nesting (settle b l) + n ≤ 32
settled_shallow b None n h k = h
settled_shallow b (Some a) n h k = omega arith

joined_shallow : (cs : Option Branches) (b : Branch) (n : ℕ) → choices_nesting cs + n ≤ 32 → branch_nesting b + n ≤ 32 → nesting (join_branches cs b) + n ≤ 32
joined_shallow None b n h k = k
joined_shallow (Some bs) b n h k = omega arith

closed_shallow : (o : Opened) (n : ℕ) → IsShallow o n → nesting (close o) + n ≤ 32
closed_shallow o n h = joined_shallow o.choices (settle o.branch o.last) n h.choices (settled_shallow o.branch o.last n h.branch h.last)

atom_shallow : (o : Opened) (a : Atom) (n : ℕ) → IsShallow o n → atom_nesting a + n ≤ 32 → IsShallow (with_atom o a) n
atom_shallow o a n h k = record { choices = h.choices; branch = settled_shallow o.branch o.last n h.branch h.last; last = k }

times_shallow : (cs : Option Branches) (b : Branch) (q : Quantifier) (l : Option Atom) (m : Opened) (n : ℕ) → quantify cs b q l ≡ Some m
    → choices_nesting cs + n ≤ 32 → branch_nesting b + n ≤ 32 → last_nesting l + n ≤ 32 → IsShallow m n
times_shallow cs b q None m n e h k j = cc e
times_shallow cs b q (Some a) m n e h k j =
    let is : record { choices = cs; branch = followed b (times a q); last = None } ≡ m = cc e in
    subst (λ (o : Opened). IsShallow o n) is (record { choices = h; branch = omega arith; last = omega arith })

leave_shallow : (o : Opened) (outer : List Opened) (n : Progress) → leave o outer ≡ Some n → IsShallow o (length outer) → AllShallow outer → Shallow n
leave_shallow o [] n e h k = cc e
leave_shallow o (p ∷ outer) n e h k =
    let is : record { current = with_atom p (group (close o)); outer = outer } ≡ n = cc e in
    let deep = closed_shallow o (suc (length outer)) h in
    subst Shallow is (atom_shallow p (group (close o)) (length outer) k.0 (omega arith), k.1)

read_shallow : (t : Token) (s n : Progress) → read t s ≡ Some n → Shallow s → Shallow n
read_shallow Open s n e h =
    let (room, is) = entered s n e in
    subst Shallow (sym is) (record { choices = omega arith; branch = omega arith; last = omega arith }, h)
read_shallow Close s n e h = leave_shallow s.current s.outer n e h.0 h.1
read_shallow Bar s n e h =
    let is : record { current = with_bar s.current; outer = s.outer } ≡ n = cc e in
    let room = h.0.choices in
    subst Shallow is (record { choices = closed_shallow s.current (length s.outer) h.0; branch = omega arith; last = omega arith }, h.1)
read_shallow (Times q) s n e h =
    let (o, here, is) = map_some (λ o. record { current = o; outer = s.outer }) (with_times s.current q) n e in
    subst Shallow (sym is) (times_shallow s.current.choices s.current.branch q s.current.last o (length s.outer) here h.0.choices h.0.branch h.0.last, h.1)
read_shallow (Symbol y) s n e h =
    let is : record { current = with_atom s.current (symbol y); outer = s.outer } ≡ n = cc e in
    let room = h.0.choices in
    subst Shallow is (atom_shallow s.current (symbol y) (length s.outer) h.0 (omega arith), h.1)

finish_shallow : (o : Opened) (outer : List Opened) (bs : Branches) → finish o outer ≡ Some bs → IsShallow o (length outer) → nesting bs ≤ 32
finish_shallow o [] bs e h =
    let is : close o ≡ bs = cc e in
    let deep = closed_shallow o 0 h in
    subst (λ (x : Branches). nesting x ≤ 32) is (omega arith)
finish_shallow o (p ∷ outer) bs e h = cc e

run_shallow : (ts : List Token) (s : Progress) (bs : Branches) → run ts s ≡ Some bs → Shallow s → nesting bs ≤ 32
run_shallow [] s bs e h = finish_shallow s.current s.outer bs e h.0
run_shallow (t ∷ ts) s bs e h =
    let (n, here, more) = then_some (λ n. run ts n) (read t s) bs e in
    run_shallow ts n bs more (read_shallow t s n here h)

-- what is read has these tokens, and isn't nested too deep
pub run_sound : (ts : List Token) (bs : Branches) → run ts start ≡ Some bs → (tokens_of bs ≡ ts) × (nesting bs ≤ 32)
run_sound ts bs e = (
  run_written ts start bs e,
  run_shallow ts start bs e (record { choices = omega arith; branch = omega arith; last = omega arith }, tt),
)
