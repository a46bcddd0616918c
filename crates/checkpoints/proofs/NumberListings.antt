-- Checkpoints with their numbers, one by one.
use Rattle.std.proofs.Common.{◌≡◌, ℕ, zero, suc, ◌+◌, ◌<◌, ◌≤◌, List, [], ◌∷◌, ◌++◌, Bool, true, false, max, map, take, take_all, length, get_or, slice_get, Option, Some, None, Result, Ok, Err, IfOk, IfSome, Vec, Global, option_map, eq-eqb, refl, sym, ap, ◌∙◌, subst, arith}
use Rattle.std.proofs.lemmas.Bool.{eqb-true}
use Rattle.std.specs.FinMap.{get}
use Rattle.std.specs.Prelude.{All, ◌==◌}
use Rattle.host_core.specs.State.{State}
use Rattle.conf_doc.proofs.Lists.{map_more, take_more}
use Rattle.conf_doc.specs.declared.configuration.Config.{Config}
use Rattle.checkpoints.specs.Answers.{IsOfSaving, Lists, ListsNumbers, Saves, numbered_view}
use Rattle.checkpoints.specs.Formats.{content, greatest_number, point_text}
use Rattle.checkpoints.specs.Numbers.{greatest, is_full, next_number, numbered_points, with_its_number}
use Rattle.checkpoints.specs.Points.{held, points}
use Rattle.checkpoints.specs.Reads.{IsNextText, IsOfNumbering, TellsFull, greater}
use Rattle.checkpoints.specs.declared.content.Content.{Content}
use Rattle.checkpoints.specs.declared.errors.PointError.{PointError}
use Rattle.checkpoints.specs.declared.errors.PointError.TheVariants.{BadName, Exists, Full, Absent, NotConfig, Disk, Memory}
use Rattle.checkpoints.specs.declared.numbering.Numbered.{Numbered}

-- the greatest of one more
behind : (m : Option ℕ) (k : List ℕ) (g : ℕ) (r : ℕ) (rest all : List (List ℕ × Option ℕ)) → greatest rest ≡ r → greatest all ≡ g → (n : Option ℕ) → r ≡ greater g n
    → greatest ((k, m) ∷ rest) ≡ greater (greatest ((k, m) ∷ all)) n
behind None k g r rest all is was n so_far = is ∙ so_far ∙ ap (λ x. greater x n) (sym was)
behind (Some m) k g r rest all is was None so_far = ap (max m) (is ∙ so_far ∙ sym was)
behind (Some m) k g r rest all is was (Some n) so_far =
    ap (max m) (is ∙ so_far ∙ ap (λ x. max x n) (sym was)) ∙ omega arith

first : (k : List ℕ) (n : Option ℕ) → greatest ((k, n) ∷ []) ≡ greater 0 n
first k None = refl
first k (Some n) = omega arith

pub greatest_more : (ns : List Numbered) (x : Numbered) → greatest (map numbered_view (ns ++ x ∷ [])) ≡ greater (greatest (map numbered_view ns)) x.number
greatest_more [] x = first x.name x.number
greatest_more (y ∷ ns) x =
    behind y.number y.name _ _ (map numbered_view (ns ++ x ∷ [])) (map numbered_view ns) refl refl x.number (greatest_more ns x)

within : {A : Type 0} (xs : List A) (i : ℕ) (x : A) → slice_get xs i ≡ Some x → i < length xs
within [] i x is = absurd cc
within (y ∷ ys) zero x is = omega arith
within (y ∷ ys) (suc i) x is = let rest = within ys i x is in omega arith

item_is : {A : Type 0} (xs : List A) (i : ℕ) (x : A) → slice_get xs i ≡ Some x → get_or xs i x ≡ x
item_is [] i x is = absurd cc
item_is (y ∷ ys) zero x is = cc
item_is (y ∷ ys) (suc i) x is = item_is ys i x is

-- what holds of each name holds of this one
pub of_item : {A : Type 0} (P : A → Type 0) (xs : List A) (i : ℕ) (x : A) → All P xs → slice_get xs i ≡ Some x → P x
of_item P xs i x each is = subst P (item_is xs i x is) (each i x (within xs i x is))

-- none is read yet
pub none_read : (o : Option State) (names : List (List ℕ)) (all : List Numbered) → all ≡ []
    → IfSome o (λ s. map numbered_view all ≡ map (with_its_number s.files) (take 0 names))
none_read None names all none = tt
none_read (Some s) names all none = ap (map numbered_view) none

-- one more is read
pub one_read : (o p : Option State) (names : List (List ℕ)) (i : ℕ) (name : List ℕ) (all new : List Numbered) (n : Numbered) → p ≡ o → slice_get names i ≡ Some name
    → new ≡ all ++ n ∷ []
    → IfSome o (λ s. map numbered_view all ≡ map (with_its_number s.files) (take i names))
    → IfSome p (λ s. numbered_view n ≡ with_its_number s.files name)
    → IfSome o (λ s. map numbered_view new ≡ map (with_its_number s.files) (take (i + 1) names))
one_read None p names i name all new n told is pushed so_far read = tt
one_read (Some s) p names i name all new n told is pushed so_far read =
    let here : numbered_view n ≡ with_its_number s.files name = subst (λ x. IfSome x (λ t. numbered_view n ≡ with_its_number t.files name)) told read in
    map_more numbered_view (with_its_number s.files) all new n (take i names) (take (i + 1) names) name so_far pushed here (take_more names i name is)

-- all are read
pub all_read : (o : Option State) (names : List (List ℕ)) (i : ℕ) (all : List Numbered) → length names ≤ i
    → IfSome o (λ s. map numbered_view all ≡ map (with_its_number s.files) (take i names))
    → IfSome o (λ s. map numbered_view all ≡ map (with_its_number s.files) names)
all_read None names i all end so_far = tt
all_read (Some s) names i all end so_far = so_far ∙ ap (map (with_its_number s.files)) (take_all i names end)

-- the names that were listed, with their numbers
pub numbers_listed : (o p : Option State) → p ≡ o → (names : List (List ℕ)) → IfSome o (λ s. Lists s.files (Ok names)) → (r : Result (List Numbered) PointError)
    → IfOk r (λ ns. IfSome p (λ s. map numbered_view ns ≡ map (with_its_number s.files) names)) → IfSome o (λ s. ListsNumbers s.files r)
numbers_listed None p told names listed r read = tt
numbers_listed (Some s) p told names listed (Err e) read = tt
numbers_listed (Some s) p told names listed (Ok ns) read =
    let here : map numbered_view ns ≡ map (with_its_number s.files) names =
    subst (λ x. IfSome x (λ t. map numbered_view ns ≡ map (with_its_number t.files) names)) told read in
    here ∙ ap (map (with_its_number s.files)) listed

-- ---- the next number

not_eq : (m n : ℕ) → (m ≡ n → ⊥) → (m == n) ≡ false
not_eq m n apart = by (m == n) refl
  where
    by : (b : Bool) → (m == n) ≡ b → (m == n) ≡ false
    by true is = absurd (apart (eqb-true m n is))
    by false isnt = isnt

pub full_is : (o : Option State) (all : List Numbered) (g : ℕ) → IfSome o (λ s. ListsNumbers s.files (Ok all)) → g ≡ greatest (map numbered_view all) → g ≡ greatest_number
    → IfSome o (λ s. is_full s.files ≡ true)
full_is None all g listed is most = tt
full_is (Some s) all g listed is most =
    eq-eqb (greatest (numbered_points s.files)) greatest_number (ap greatest (sym listed) ∙ sym is ∙ most)

pub full_not : (o : Option State) (all : List Numbered) (g : ℕ) → IfSome o (λ s. ListsNumbers s.files (Ok all)) → g ≡ greatest (map numbered_view all) → (g ≡ greatest_number → ⊥)
    → IfSome o (λ s. is_full s.files ≡ false)
full_not None all g listed is less = tt
full_not (Some s) all g listed is less =
    not_eq (greatest (numbered_points s.files)) greatest_number (λ e. less (is ∙ ap greatest listed ∙ e))

pub next_is : (o : Option State) (all : List Numbered) (g : ℕ) → IfSome o (λ s. ListsNumbers s.files (Ok all)) → g ≡ greatest (map numbered_view all)
    → IfSome o (λ s. g + 1 ≡ next_number s.files)
next_is None all g listed is = tt
next_is (Some s) all g listed is =
    let same : g ≡ greatest (numbered_points s.files) = is ∙ ap greatest listed in
    omega arith

-- ---- the text of the next one

pub next_text_is : (o : Option State) (config : Config) (n : ℕ) (bytes : List ℕ) → IfSome o (λ s. n ≡ next_number s.files) → bytes ≡ point_text config n
    → content bytes ≡ Some (record { config = config; number = n }) → IfSome o (λ s. IsNextText config s.files bytes)
next_text_is None config n bytes next is holds = tt
next_text_is (Some s) config n bytes next is holds = record {
  text = is ∙ ap (point_text config) next;
  holds = holds ∙ ap (λ (m : ℕ). let c : Content = record { config = config; number = m } in Some c) next;
}

-- there is none of that name
none_there : (o : Option State) (name : List ℕ) (found : Option (Vec ℕ Global)) → found ≡ None
    → IfSome o (λ s. option_map (λ (b : Vec ℕ Global). held b.items) found ≡ get (points s.files) name) → IfSome o (λ s. get (points s.files) name ≡ None)
none_there None name found none is = tt
none_there (Some s) name found none is = sym is ∙ ap (option_map (λ (b : Vec ℕ Global). held b.items)) none

pub saves_there : {A B : Type 0} (o p : Option State) (name : List ℕ) (found : Option (Vec ℕ Global)) (b : B) (a : A) → found ≡ None
    → IfSome o (λ s. option_map (λ (v : Vec ℕ Global). held v.items) found ≡ get (points s.files) name) → p ≡ o
    → IfSome p (λ s. TellsFull {A = B} s.files (Ok b)) → IfSome o (λ s. Saves {A = A} name s.files (Ok a))
saves_there None p name found b a none is told full = tt
saves_there {B = B} (Some s) p name found b a none is told full =
    (none_there (Some s) name found none is, subst (λ x. IfSome x (λ t. TellsFull {A = B} t.files (Ok b))) told full)

by_error : (A B : Type 0) (s : State) (name : List ℕ) → get (points s.files) name ≡ None → (e : PointError) → IsOfNumbering e → TellsFull {A = B} s.files (Err e) → Saves {A = A} name s.files (Err e)
by_error A B s name none Full of full = (none, full)
by_error A B s name none Disk of full = tt
by_error A B s name none Memory of full = tt
by_error A B s name none BadName of full = absurd of
by_error A B s name none Exists of full = absurd of
by_error A B s name none Absent of full = absurd of
by_error A B s name none NotConfig of full = absurd of

pub saves_not : (A B : Type 0) (o p : Option State) (name : List ℕ) (found : Option (Vec ℕ Global)) (e : PointError) → found ≡ None
    → IfSome o (λ s. option_map (λ (v : Vec ℕ Global). held v.items) found ≡ get (points s.files) name) → p ≡ o → IsOfNumbering e
    → IfSome p (λ s. TellsFull {A = B} s.files (Err e)) → IfSome o (λ s. Saves {A = A} name s.files (Err e))
saves_not A B None p name found e none is told of full = tt
saves_not A B (Some s) p name found e none is told of full =
    by_error A B s name (none_there (Some s) name found none is) e of (subst (λ x. IfSome x (λ t. TellsFull {A = B} t.files (Err e))) told full)

pub of_numbering : (e : PointError) → IsOfNumbering e → IsOfSaving e
of_numbering Full of = tt
of_numbering Disk of = tt
of_numbering Memory of = tt
of_numbering BadName of = absurd of
of_numbering Exists of = absurd of
of_numbering Absent of = absurd of
of_numbering NotConfig of = absurd of
