-- The number of a name in a list of names that grows.
use Rattle.std.proofs.Common.{◌≡◌, ◌<◌, ◌≤◌, ◌+◌, ◌||◌, not, add-zero, take, get_or, ℕ, Bool, true, false, cond, List, [], ◌∷◌, ◌++◌, Option, Some, None, Decides, suc, length, map, option_map, is_some, refl, sym, ap, subst, ◌∙◌, arith}
use Rattle.std.specs.List.{find, list_any, position_or_len}
use Rattle.std.proofs.Math.Seq.{take-length}
use Rattle.std.specs.Str.{bytes_eq}
use Rattle.std.specs.Global.{Global}
use Rattle.std.specs.BTreeMap.{BTreeMap, get_by_text}
use Rattle.std.specs.Prelude.{String}
use Rattle.std.specs.Map.{update}
use Rattle.std.proofs.lemmas.Bool.{false≢true}
use Rattle.std.proofs.lemmas.Bool.Decides.{same_from_decides}
use Rattle.std.proofs.lemmas.List.{append-nil, append_assoc, take_more, length-take-le}
use Rattle.std.proofs.lemmas.Slice.Eq.{bytes_eq-Decides}
use Rattle.yang_scope.specs.NameTables.{IsTableOf}
use Rattle.yang_scope.specs.Statements.{Entry, number_of_name, each_from}

abbrev or_else : {X : Type 0} → Option X → Option X → Option X
or_else None o = o
or_else (Some x) o = Some x

one_step : (b : Bool) (name : List ℕ) (n : ℕ) → option_map (λ (e : Entry). e.1) (cond {A = Option Entry} b (Some (name, n)) None) ≡ cond {A = Option ℕ} b (Some n) None
one_step true name n = refl
one_step false name n = refl

more_step : (b : Bool) (e : Entry) (o p : Option Entry) (r : Option ℕ)
    → option_map (λ (e : Entry). e.1) p ≡ or_else (option_map (λ (e : Entry). e.1) o) r
    → option_map (λ (e : Entry). e.1) (cond {A = Option Entry} b (Some e) p) ≡ or_else (option_map (λ (e : Entry). e.1) (cond {A = Option Entry} b (Some e) o)) r
more_step true e o p r h = refl
more_step false e o p r h = h

number_of_name-push : (q : List ℕ) (entries : List Entry) (name : List ℕ) (n : ℕ)
    → number_of_name q (entries ++ (name, n) ∷ []) ≡ or_else (number_of_name q entries) (cond {A = Option ℕ} (bytes_eq q name) (Some n) None)
number_of_name-push q [] name n = one_step (bytes_eq q name) name n
number_of_name-push q (e ∷ entries) name n =
    more_step (bytes_eq q e.0) e (find (λ (e : Entry). bytes_eq q e.0) entries) (find (λ (e : Entry). bytes_eq q e.0) (entries ++ (name, n) ∷ [])) (cond {A = Option ℕ} (bytes_eq q name) (Some n) None)
    (number_of_name-push q entries name n)

bytes_eq-same : (q name : List ℕ) → bytes_eq q name ≡ true → q ≡ name
bytes_eq-same q name = (bytes_eq-Decides q name).0

pub bytes_eq-swap : (x y : List ℕ) → bytes_eq x y ≡ bytes_eq y x
bytes_eq-swap x y = same_from_decides _ _ (bytes_eq-Decides x y) (swapped x y)
  where
    swapped : (x y : List ℕ) → Decides (bytes_eq y x) (x ≡ y)
    swapped x y = (λ e. sym ((bytes_eq-Decides y x).0 e), λ e. (bytes_eq-Decides y x).1 (sym e))

keeps : (o r : Option ℕ) (b : Bool) → (b ≡ true → is_some o ≡ true) → o ≡ or_else o (cond b r None)
keeps (Some x) r b there = refl
keeps None r true there = absurd (false≢true (there refl))
keeps None r false there = refl

takes : (a b : Bool) (o : Option ℕ) (n : ℕ) → a ≡ b → (b ≡ true → is_some o ≡ false) → cond a (Some n) o ≡ or_else o (cond b (Some n) None)
takes a true (Some x) n same absent = absurd (false≢true (sym (absent refl)))
takes a false (Some x) n same absent = rw same refl
takes a true None n same absent = rw same refl
takes a false None n same absent = rw same refl

-- a name that is there already
pub IsTableOf-again : (numbers : BTreeMap (String Global) ℕ) (entries : List Entry) (name : List ℕ) (n : ℕ)
    → is_some (get_by_text numbers name) ≡ true → IsTableOf numbers entries → IsTableOf numbers (entries ++ (name, n) ∷ [])
IsTableOf-again numbers entries name n there table = record {
  found = λ q.
      table.found q
      ∙ keeps (number_of_name q entries) (Some n) (bytes_eq q name)
      (λ e. ap is_some (sym (table.found q)) ∙ ap (λ m. is_some (get_by_text numbers m)) (bytes_eq-same q name e) ∙ there)
      ∙ sym (number_of_name-push q entries name n);
}

-- a new name
pub IsTableOf-next : (old new : BTreeMap (String Global) ℕ) (entries : List Entry) (name : List ℕ) (n : ℕ)
    → is_some (get_by_text old name) ≡ false → ((q : List ℕ) → get_by_text new q ≡ update bytes_eq (get_by_text old) name (Some n) q)
    → IsTableOf old entries → IsTableOf new (entries ++ (name, n) ∷ [])
IsTableOf-next old new entries name n absent updates table = record {
  found = λ q.
      updates q
      ∙ ap (λ o. cond {A = Option ℕ} (bytes_eq name q) (Some n) o) (table.found q)
      ∙ takes (bytes_eq name q) (bytes_eq q name) (number_of_name q entries) n (bytes_eq-swap name q)
      (λ e. ap is_some (sym (table.found q)) ∙ ap (λ m. is_some (get_by_text old m)) (bytes_eq-same q name e) ∙ absent)
      ∙ sym (number_of_name-push q entries name n);
}

-- nothing more
pub IsTableOf-same : (numbers : BTreeMap (String Global) ℕ) (entries : List Entry) → IsTableOf numbers entries → IsTableOf numbers (entries ++ [])
IsTableOf-same numbers entries table = subst (λ (es : List Entry). IsTableOf numbers es) (sym (append-nil entries)) table

-- what each element gives, for one more element
each_from-push : {X Y : Type 0} (f : ℕ → X → List Y) (place : ℕ) (xs : List X) (x : X)
    → each_from f place (xs ++ x ∷ []) ≡ each_from f place xs ++ f (place + length xs) x
each_from-push f place [] x = append-nil (f place x) ∙ ap (λ n. f n x) (sym (add-zero place))
each_from-push f place (y ∷ xs) x =
    ap (λ ys. f place y ++ ys) (each_from-push f (suc place) xs x)
    ∙ sym (append_assoc (f place y) (each_from f (suc place) xs) (f (suc place + length xs) x))
    ∙ ap (λ n. (f place y ++ each_from f (suc place) xs) ++ f n x) (omega arith)

pub each_from-next : {X Y : Type 0} (f : ℕ → X → List Y) (xs : List X) (i : ℕ) (d : X) → i < length xs
    → each_from f 0 (take (i + 1) xs) ≡ each_from f 0 (take i xs) ++ f i (get_or xs i d)
each_from-next f xs i d within =
    ap (each_from f 0) (take_more xs i d within)
    ∙ each_from-push f 0 (take i xs) (get_or xs i d)
    ∙ ap (λ n. each_from f 0 (take i xs) ++ f n (get_or xs i d)) (omega (arith, length-take-le i xs))

pub each_from-map : {W X Y : Type 0} (f : ℕ → X → List Y) (g : W → X) (place : ℕ) (ws : List W)
    → each_from f place (map g ws) ≡ each_from (λ i w. f i (g w)) place ws
each_from-map f g place [] = refl
each_from-map f g place (w ∷ ws) = ap (λ ys. f place (g w) ++ ys) (each_from-map f g (suc place) ws)

-- one element more
pub IsTableOf-element : {X : Type 0} (f : ℕ → X → List Entry) (numbers : BTreeMap (String Global) ℕ) (xs : List X) (i : ℕ) (x : X) (given : List Entry)
    → i < length xs → get_or xs i x ≡ x → given ≡ f i x
    → IsTableOf numbers (each_from f 0 (take i xs) ++ given) → IsTableOf numbers (each_from f 0 (take (i + 1) xs))
IsTableOf-element f numbers xs i x given within is same table =
    subst (λ (es : List Entry). IsTableOf numbers es)
    (ap (λ es. each_from f 0 (take i xs) ++ es) (same ∙ ap (f i) (sym is)) ∙ sym (each_from-next f xs i x within))
    table

-- what a loop has gone over at its end
pub take_end : {X : Type 0} (i : ℕ) (xs : List X) → length xs ≤ i → i ≤ length xs → take i xs ≡ xs
take_end i xs past within = ap (λ n. take n xs) (omega arith) ∙ take-length xs

any_step : (b rest : Bool) (n m : ℕ) → cond (not b) (1 + n) 0 ≡ suc m → (n ≡ m → rest ≡ false) → (b || rest) ≡ false
any_step true rest n m is then = absurd (omega (arith, is))
any_step false rest n m is then = then (omega (arith, is))

-- what passes nowhere
pub any_none : {X : Type 0} (p : X → Bool) (xs : List X) → position_or_len p xs ≡ length xs → list_any p xs ≡ false
any_none p [] is = refl
any_none p (x ∷ xs) is = any_step (p x) (list_any p xs) (position_or_len p xs) (length xs) is (any_none p xs)
