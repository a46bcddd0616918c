-- What is read of a rules file is what its JSON value says.
use Rattle.std.proofs.Common.{◌≡◌, ◌≢◌, ◌⊎◌, inl, inr, ℕ, zero, suc, ◌+◌, ◌-◌, ◌<◌, ◌≤◌, ◌==◌, ◌&&◌, ◌||◌, List, [], ◌∷◌, length, codes, Bool, true, false, not, if◌then◌else◌, Option, Some, None, Result, Ok, Err, refl, sym, ap, ◌∙◌, subst, arith, decimal, All, nat_eq}
use Rattle.std.proofs.lemmas.Bool.Decides.{Decides-by_and, Decides-eqb, Decides-or, nat_tests}
use Rattle.std.proofs.lemmas.Fmt.{decimal_digit}
use Rattle.std.proofs.lemmas.List.Elements.{All-cons, All-nil}
use Rattle.std.proofs.lemmas.List.Kept.{AllPairs-cons}
use Rattle.std.specs.Bool.{Decides}
use Rattle.std.specs.Char.{is_ascii_alphanumeric}
use Rattle.std.specs.Cmp.{tied_itself}
use Rattle.std.specs.Cmp.Lexicographic.{bytes_decides, nat_list_cmp_total, pointwise, slice_cmp}
use Rattle.std.specs.FinMap as finmap
use Rattle.std.specs.Int.{is_in_range}
use Rattle.std.specs.List.{AllPairs, Contains, list_all, list_any}
use Rattle.std.specs.Option.{MatchOption}
use Rattle.std.specs.Ordering.{is_eq, match_ordering, nat_cmp}
use Rattle.std.specs.declared.cmp.Ordering.{Ordering}
use Rattle.std.specs.declared.cmp.Ordering.TheVariants.{Less, Equal, Greater}
use Rattle.host_core.specs.Answers.{◌>>=◌, map_ok, both}
use Rattle.host_core.specs.Names.{name_cmp}
use Rattle.serde_json.specs.Data.{Data, null, boolean, number, string, array, object, Items, no_items, item, Members, no_members, member}
use Rattle.serde_json.specs.Find.{get_member}
use Rattle.conf_doc.specs.Reading.{json}
use Rattle.move_core.specs.RulesFile as file
use Rattle.move_core.specs.declared.errors.RulesWhy.{RulesWhy}
use Rattle.move_core.specs.declared.errors.RulesWhy.TheVariants as why
use Rattle.move_core.specs.declared.errors.RulesError.{RulesError}
use Rattle.move_core.specs.declared.settings.CreateOnly.{CreateOnly}
use Rattle.move_core.specs.declared.settings.Required.{Required}
use Rattle.move_core.specs.declared.settings.Requiring.{Requiring}
use Rattle.move_core.specs.declared.settings.ServiceTie.{ServiceTie}
use Rattle.move_core.specs.declared.settings.Settings.{Settings}
use Rattle.gcu_engine.specs.JsonValues.{AreItems, IsList, IsName, IsObject, IsText}
use Rattle.gcu_engine.specs.RulesValues.{IsCreateOnly, IsPart, IsRequired, IsRequiring, IsService, IsServiceName, IsSettings}

-- ---- answers

-- where something is made of a value, the value is given
first_of : {A B F : Type 0} (r : Result A F) (f : A → Result B F) (y : B) → (r >>= f) ≡ Ok y
    → (x : A) × (r ≡ Ok x) × (f x ≡ Ok y)
first_of (Ok x) f y e = (x, refl, e)
first_of (Err fault) f y e = absurd cc

goes_on : {A B F : Type 0} (r : Result A F) (f : A → Result B F) (x : A) (y : B) → r ≡ Ok x → f x ≡ Ok y
    → (r >>= f) ≡ Ok y
goes_on r f x y is next = ap (λ q. q >>= f) is ∙ next

one_value : {A F : Type 0} (r : Result A F) (a x : A) → r ≡ Ok a → r ≡ Ok x → a ≡ x
one_value r a x one other = let same : a ≡ x = cc in same

passed : {A : Type 0} (w : RulesWhy) (b : Bool) (a x : A) → file.or_fails w (λ y. b) a ≡ Ok x → (b ≡ true) × (a ≡ x)
passed w true a x e = (refl, one_value _ a x refl e)
passed w false a x e = absurd cc

passes : {A : Type 0} (w : RulesWhy) (b : Bool) (a : A) → b ≡ true → file.or_fails w (λ y. b) a ≡ Ok a
passes w b a e = ap (λ c. file.or_fails w (λ y. c) a) e

and_both : (a b : Bool) → (a && b) ≡ true → (a ≡ true) × (b ≡ true)
and_both true b e = (refl, e)
and_both false b e = absurd cc

both_true : (a b : Bool) → a ≡ true → b ≡ true → (a && b) ≡ true
both_true a b p q = ap (λ c. c && b) p ∙ q

-- ---- what is there

-- something is there, and it is as Is says
abbrev There : {A : Type 0} → (Data → A → Type 0) → Option Data → A → Type 0
There Is o x = (d : Data) × (o ≡ Some d) × Is d x

-- f reads of values what Is says of them
record Reads {A : Type 0} (f : Data → Result A RulesError) (Is : Data → A → Type 0) : Type 0 where
  said : (d : Data) (x : A) → f d ≡ Ok x → Is d x
  read : (d : Data) (x : A) → Is d x → f d ≡ Ok x

-- the same of members
record ReadsMember {A : Type 0} (f : Option Data → Result A RulesError) (Is : Data → A → Type 0) : Type 0 where
  said : (o : Option Data) (x : A) → f o ≡ Ok x → There Is o x
  read : (o : Option Data) (x : A) → There Is o x → f o ≡ Ok x

of_values : {A : Type 0} (f : Option Data → Result A RulesError) (Is : Data → A → Type 0) → ReadsMember f Is
    → Reads (λ d. f (Some d)) Is
of_values {A} f Is reads = record { said = said; read = λ d x h. reads.read (Some d) x (d, refl, h) }
  where
    said : (d : Data) (x : A) → f (Some d) ≡ Ok x → Is d x
    said d x e =
        let (v, is, h) = reads.said (Some d) x e in
        let same : v ≡ d = cc in
        subst (λ u. Is u x) same h

-- ---- texts

text_reads : (w : RulesWhy) → ReadsMember (file.text w) IsText
text_reads w = record { said = said; read = read }
  where
    said : (o : Option Data) (s : List ℕ) → file.text w o ≡ Ok s → There IsText o s
    said None s e = absurd cc
    said (Some null) s e = absurd cc
    said (Some (boolean b)) s e = absurd cc
    said (Some (number n)) s e = absurd cc
    said (Some (string t)) s e = (string t, refl, ap string (one_value _ t s refl e))
    said (Some (array ds)) s e = absurd cc
    said (Some (object ms)) s e = absurd cc

    read : (o : Option Data) (s : List ℕ) → There IsText o s → file.text w o ≡ Ok s
    read o s (d, is, h) = ap (file.text w) (is ∙ ap Some h)

filled : (s : List ℕ) → not (length s == 0) ≡ true → 0 < length s
filled [] e = absurd cc
filled (c ∷ s) e = omega arith

is_filled : (s : List ℕ) → 0 < length s → not (length s == 0) ≡ true
is_filled [] h = absurd (omega arith)
is_filled (c ∷ s) h = grind (arith, nat_tests)

name_reads : (w : RulesWhy) → ReadsMember (file.name w) IsName
name_reads w = record { said = said; read = read }
  where
    said : (o : Option Data) (s : List ℕ) → file.name w o ≡ Ok s → There IsName o s
    said o s e =
        let (t, is, h) = first_of (file.text w o) _ s e in
        let (long, same) = passed w (not (length t == 0)) t s h in
        let (d, there, text) = (text_reads w).said o s (is ∙ ap Ok same) in
        (d, there, (text, subst (λ u. 0 < length u) same (filled t long)))

    read : (o : Option Data) (s : List ℕ) → There IsName o s → file.name w o ≡ Ok s
    read o s (d, there, (text, long)) =
        goes_on (file.text w o) _ s s ((text_reads w).read o s (d, there, text))
        (passes w (not (length s == 0)) s (is_filled s long))

-- ---- lists

both_none : {A : Type 0} (r : Result A RulesError) (s : Result (List A) RulesError)
    → both (λ a as'. a ∷ as') r s ≡ Ok [] → ⊥
both_none (Ok a) (Ok as') e = cc
both_none (Ok a) (Err f) e = cc
both_none (Err f) s e = cc

both_more : {A : Type 0} (r : Result A RulesError) (s : Result (List A) RulesError) (x : A) (xs : List A)
    → both (λ a as'. a ∷ as') r s ≡ Ok (x ∷ xs)
    → (r ≡ Ok x) × (s ≡ Ok xs)
both_more (Ok a) (Ok as') x xs e =
    let one : a ≡ x = cc in
    let rest : as' ≡ xs = cc in
    (ap Ok one, ap Ok rest)
both_more (Ok a) (Err f) x xs e = absurd cc
both_more (Err f) s x xs e = absurd cc

items_said : {A : Type 0} (f : Data → Result A RulesError) (Is : Data → A → Type 0) → Reads f Is
    → (ds : Items) (xs : List A) → file.items f ds ≡ Ok xs → AreItems Is ds xs
items_said f Is reads no_items [] e = tt
items_said f Is reads no_items (x ∷ xs) e = absurd cc
items_said f Is reads (item d ds) [] e = absurd (both_none (f d) (file.items f ds) e)
items_said f Is reads (item d ds) (x ∷ xs) e =
    let (one, rest) = both_more (f d) (file.items f ds) x xs e in
    (reads.said d x one, items_said f Is reads ds xs rest)

items_read : {A : Type 0} (f : Data → Result A RulesError) (Is : Data → A → Type 0) → Reads f Is
    → (ds : Items) (xs : List A) → AreItems Is ds xs → file.items f ds ≡ Ok xs
items_read f Is reads no_items [] are = refl
items_read f Is reads no_items (x ∷ xs) are = absurd are
items_read f Is reads (item d ds) [] are = absurd are
items_read f Is reads (item d ds) (x ∷ xs) (is, are) =
    ap (λ r. both (λ a as'. a ∷ as') r (file.items f ds)) (reads.read d x is)
    ∙ ap (both (λ a as'. a ∷ as') (Ok x)) (items_read f Is reads ds xs are)

list_reads : {A : Type 0} (w : RulesWhy) (f : Data → Result A RulesError) (Is : Data → A → Type 0) → Reads f Is
    → ReadsMember (file.list w f) (IsList Is)
list_reads {A} w f Is reads = record { said = said; read = read }
  where
    said : (o : Option Data) (xs : List A) → file.list w f o ≡ Ok xs → There (IsList Is) o xs
    said None xs e = absurd cc
    said (Some null) xs e = absurd cc
    said (Some (boolean b)) xs e = absurd cc
    said (Some (number n)) xs e = absurd cc
    said (Some (string t)) xs e = absurd cc
    said (Some (array ds)) xs e = (array ds, refl, (ds, refl, items_said f Is reads ds xs e))
    said (Some (object ms)) xs e = absurd cc

    read : (o : Option Data) (xs : List A) → There (IsList Is) o xs → file.list w f o ≡ Ok xs
    read o xs (d, there, (ds, is, are)) = ap (file.list w f) (there ∙ ap Some is) ∙ items_read f Is reads ds xs are

-- a list, or nothing for none
abbrev ListOrNone : {A : Type 0} → (Data → A → Type 0) → Option Data → List A → Type 0
ListOrNone Is o xs = MatchOption o (xs ≡ []) (λ e. IsList Is e xs)

list_or_none_said : {A : Type 0} (w : RulesWhy) (f : Data → Result A RulesError) (Is : Data → A → Type 0) → Reads f Is
    → (o : Option Data) (xs : List A) → file.list_or_none w f o ≡ Ok xs → ListOrNone Is o xs
list_or_none_said w f Is reads None xs e = sym (one_value _ [] xs refl e)
list_or_none_said w f Is reads (Some d) xs e =
    (of_values (file.list w f) (IsList Is) (list_reads w f Is reads)).said d xs e

list_or_none_read : {A : Type 0} (w : RulesWhy) (f : Data → Result A RulesError) (Is : Data → A → Type 0) → Reads f Is
    → (o : Option Data) (xs : List A) → ListOrNone Is o xs → file.list_or_none w f o ≡ Ok xs
list_or_none_read w f Is reads None xs h = ap Ok (sym h)
list_or_none_read w f Is reads (Some d) xs h = (list_reads w f Is reads).read (Some d) xs (d, refl, h)

-- ---- what is among some

any_is : {X : Type 0} (x : X) (test : X → Bool) → ((y : X) → Decides (test y) (y ≡ x)) → (ys : List X)
    → Decides (list_any test ys) (Contains ys x)
any_is {X} x test each ys = (said ys, read ys)
  where
    first : (y : X) (ys : List X) (b : Bool) → Decides b (y ≡ x) → (list_any test ys ≡ true → Contains ys x)
        → (b || list_any test ys) ≡ true → Contains (y ∷ ys) x
    first y ys true decides rest e = (0, omega arith, decides.0 refl)
    first y ys false decides rest e = let (k, within, is) = rest e in (suc k, omega arith, is)

    said : (ys : List X) → list_any test ys ≡ true → Contains ys x
    said [] e = absurd cc
    said (y ∷ ys) e = first y ys (test y) (each y) (said ys) e

    or_true : (b : Bool) → (b || true) ≡ true
    or_true true = refl
    or_true false = refl

    read : (ys : List X) → Contains ys x → list_any test ys ≡ true
    read [] (k, within, is) = absurd (omega arith)
    read (y ∷ ys) (zero, within, is) = ap (λ b. b || list_any test ys) ((each y).1 is)
    read (y ∷ ys) (suc k, within, is) = ap (λ b. test y || b) (read ys (k, omega arith, is)) ∙ or_true (test y)

-- ---- objects

turned : (a b : List ℕ) (r : Bool) → Decides r (a ≡ b) → Decides r (b ≡ a)
turned a b r (one, other) = ((λ e. sym (one e)), λ e. other (sym e))

is_among : (names : List (List ℕ)) (k : List ℕ)
    → Decides (list_any (λ n. pointwise nat_eq k n) names) (Contains names k)
is_among names k = any_is k (λ n. pointwise nat_eq k n) (λ n. turned k n _ (bytes_decides k n)) names

member_found : (r : Ordering) (name k : List ℕ) (d : Data) (o : Option Data) → slice_cmp nat_cmp name k ≡ r
    → match_ordering r o (Some d) o ≢ None
    → (name ≡ k) ⊎ (o ≢ None)
member_found Less name k d o is there = inr there
member_found Equal name k d o is there = inl (finmap.slice_cmp-IsAntisymmetric finmap.nat_cmp-IsAntisymmetric name k is)
member_found Greater name k d o is there = inr there

member_stays : (r : Ordering) (d : Data) (o : Option Data) → o ≢ None → match_ordering r o (Some d) o ≢ None
member_stays Less d o there = there
member_stays Equal d o there = λ none. cc
member_stays Greater d o there = there

same_name : (k : List ℕ) → slice_cmp nat_cmp k k ≡ Equal
same_name k = tied_itself nat_list_cmp_total k

member_here : (k : List ℕ) (d : Data) (ms : Members) → get_member k (member k d ms) ≡ Some d
member_here k d ms = rw (same_name k)

some_is_there : (o : Option Data) (d : Data) → o ≡ Some d → o ≢ None
some_is_there o d is none = cc

only_said : (names : List (List ℕ)) (ms : Members) → file.has_only names ms ≡ true → (name : List ℕ)
    → get_member name ms ≢ None → Contains names name
only_said names no_members e name there = absurd (there refl)
only_said names (member k d ms) e name there =
    let (one, rest) = and_both (list_any (λ n. pointwise nat_eq k n) names) (file.has_only names ms) e in
    elim (member_found (slice_cmp nat_cmp name k) name k d (get_member name ms) refl there) [
      | inl is ↦ subst (Contains names) (sym is) ((is_among names k).0 one)
      | inr later ↦ only_said names ms rest name later
    ]

only_read : (names : List (List ℕ)) (ms : Members)
    → ((name : List ℕ) → get_member name ms ≢ None → Contains names name) → file.has_only names ms ≡ true
only_read names no_members only = refl
only_read names (member k d ms) only =
    both_true (list_any (λ n. pointwise nat_eq k n) names) (file.has_only names ms)
    ((is_among names k).1 (only k (some_is_there _ d (member_here k d ms))))
    (only_read names ms (λ name there. only name (member_stays (slice_cmp nat_cmp name k) d (get_member name ms)
    there)))

-- the value is an object of these members alone
record Holds (names : List (List ℕ)) (d : Data) (ms : Members) : Type 0 where
  is : d ≡ object ms
  only : IsObject names (object ms)

object_said : (w : RulesWhy) (names : List (List ℕ)) (d : Data) (ms : Members) → file.object w names d ≡ Ok ms
    → Holds names d ms
object_said w names null ms e = absurd cc
object_said w names (boolean b) ms e = absurd cc
object_said w names (number n) ms e = absurd cc
object_said w names (string s) ms e = absurd cc
object_said w names (array ds) ms e = absurd cc
object_said w names (object ns) ms e =
    let (only, same) = passed w (file.has_only names ns) ns ms e in
    record {
      is = ap object same;
      only =
          ((ms, refl), only_said names ms (subst (λ m. file.has_only names m ≡ true) same only));
    }

object_read : (w : RulesWhy) (names : List (List ℕ)) (d : Data) (ms : Members) → d ≡ object ms
    → IsObject names (object ms) → file.object w names d ≡ Ok ms
object_read w names d ms is only =
    ap (file.object w names) is ∙ passes w (file.has_only names ms) ms (only_read names ms only.1)

-- ---- create-only fields

create_only_reads : Reads file.create_only IsCreateOnly
create_only_reads = record { said = said; read = read }
  where
    names : Reads (λ d. file.name why.CreateOnly (Some d)) IsName
    names = of_values (file.name why.CreateOnly) IsName (name_reads why.CreateOnly)

    pair_said : (ds : Items) (x : CreateOnly) → file.pair ds ≡ Ok x → AreItems IsName ds (x.table ∷ x.field ∷ [])
    pair_said no_items x e = absurd cc
    pair_said (item t no_items) x e = absurd cc
    pair_said (item t (item f no_items)) x e =
        let (table, one, h) = first_of (file.name why.CreateOnly (Some t)) _ x e in
        let (field, two, is) = first_of (file.name why.CreateOnly (Some f)) _ x h in
        let same = one_value _ _ x refl is in
        subst (λ (y : CreateOnly). AreItems IsName (item t (item f no_items)) (y.table ∷ y.field ∷ [])) same
        (names.said t table one, (names.said f field two, tt))
    pair_said (item t (item f (item g ds))) x e = absurd cc

    said : (d : Data) (x : CreateOnly) → file.create_only d ≡ Ok x → IsCreateOnly d x
    said null x e = absurd cc
    said (boolean b) x e = absurd cc
    said (number n) x e = absurd cc
    said (string s) x e = absurd cc
    said (array ds) x e = (ds, refl, pair_said ds x e)
    said (object ms) x e = absurd cc

    pair_read : (ds : Items) (x : CreateOnly) → AreItems IsName ds (x.table ∷ x.field ∷ []) → file.pair ds ≡ Ok x
    pair_read no_items x are = absurd are
    pair_read (item t no_items) x are = absurd are.1
    pair_read (item t (item f no_items)) x (one, (two, end)) =
        goes_on (file.name why.CreateOnly (Some t)) _ x.table x (names.read t x.table one)
        (goes_on (file.name why.CreateOnly (Some f)) _ x.field x (names.read f x.field two) refl)
    pair_read (item t (item f (item g ds))) x are = absurd are.1.1

    read : (d : Data) (x : CreateOnly) → IsCreateOnly d x → file.create_only d ≡ Ok x
    read d x (ds, is, are) = ap file.create_only is ∙ pair_read ds x are

-- ---- required values

given : {A : Type 0} (w : RulesWhy) (o : Option A) (x : A) → file.or_bad w o ≡ Ok x → o ≡ Some x
given w None x e = absurd cc
given w (Some a) x e = ap Some (one_value _ a x refl e)

in_range : (c : ℕ) → is_in_range 48 55 c ≡ true → (48 ≤ c) × (c ≤ 55)
in_range c e = grind (arith, nat_tests)

is_range : (n : ℕ) → n < 8 → is_in_range 48 55 (48 + n) ≡ true
is_range n small = grind (arith, nat_tests)

digit_said : (b : Bool) (c n : ℕ) → (b ≡ true → (48 ≤ c) × (c ≤ 55)) → (if b then Some (c - 48) else None) ≡ Some n
    → (c ≡ 48 + n) × (n < 8)
digit_said true c n range e =
    let (low, high) = range refl in
    let same : c - 48 ≡ n = cc in
    (omega arith, omega arith)
digit_said false c n range e = absurd cc

number_said : (s : List ℕ) (n : ℕ) → file.part_number s ≡ Some n → (s ≡ decimal n) × (n < 8)
number_said [] n e = absurd cc
number_said (c ∷ []) n e =
    let (is, small) = digit_said (is_in_range 48 55 c) c n (in_range c) e in
    (ap (λ k. k ∷ []) is ∙ sym (decimal_digit n (omega arith)), small)
number_said (c ∷ e ∷ cs) n h = absurd cc

number_read : (n : ℕ) → n < 8 → file.part_number (decimal n) ≡ Some n
number_read n small =
    let same : 48 + n - 48 ≡ n = omega arith in
    ap file.part_number (decimal_digit n (omega arith)) ∙ ap (λ b. if b then Some (48 + n - 48) else None)
    (is_range n small) ∙ ap Some same

part_reads : ReadsMember file.part IsPart
part_reads = record { said = said; read = read }
  where
    said : (o : Option Data) (n : ℕ) → file.part o ≡ Ok n → There IsPart o n
    said o n e =
        let (s, is, h) = first_of (file.text why.Required o) _ n e in
        let (digit, small) = number_said s n (given why.Required (file.part_number s) n h) in
        let (d, there, text) = (text_reads why.Required).said o s is in
        (d, there, (text ∙ ap string digit, small))

    read : (o : Option Data) (n : ℕ) → There IsPart o n → file.part o ≡ Ok n
    read o n (d, there, (text, small)) =
        goes_on (file.text why.Required o) _ (decimal n) n
        ((text_reads why.Required).read o (decimal n) (d, there, text))
        (ap (file.or_bad why.Required) (number_read n small))

-- a name, or nothing for none
abbrev NameOrNone : Option Data → Option (List ℕ) → Type 0
NameOrNone o x = MatchOption x (o ≡ None) (There IsName o)

map_none : {A F : Type 0} (r : Result A F) → map_ok Some r ≡ Ok None → ⊥
map_none (Ok a) e = cc
map_none (Err f) e = cc

map_some : {A F : Type 0} (r : Result A F) (x : A) → map_ok Some r ≡ Ok (Some x) → r ≡ Ok x
map_some (Ok a) x e = let same : a ≡ x = cc in ap Ok same
map_some (Err f) x e = absurd cc

optional_said : (o : Option Data) (x : Option (List ℕ)) → file.optional_name o ≡ Ok x → NameOrNone o x
optional_said None None e = refl
optional_said None (Some s) e = absurd cc
optional_said (Some d) None e = absurd (map_none (file.name why.Required (Some d)) e)
optional_said (Some d) (Some s) e =
    (name_reads why.Required).said (Some d) s (map_some (file.name why.Required (Some d)) s e)

optional_read : (o : Option Data) (x : Option (List ℕ)) → NameOrNone o x → file.optional_name o ≡ Ok x
optional_read None None h = refl
optional_read None (Some s) (d, never, h) = absurd cc
optional_read (Some d) None h = absurd cc
optional_read (Some d) (Some s) h = ap (map_ok Some) ((name_reads why.Required).read (Some d) s h)

requiring_reads : Reads file.requiring IsRequiring
requiring_reads = record { said = said; read = read }
  where
    said : (d : Data) (x : Requiring) → file.requiring d ≡ Ok x → IsRequiring d x
    said d x e =
        let (ms, at, h) = first_of (file.object why.Required file.requiring_names d) _ x e in
        let (table, one, h1) = first_of (file.name why.Required (get_member (codes "table") ms)) _ x h in
        let (part, two, h2) = first_of (file.part (get_member (codes "part") ms)) _ x h1 in
        let (field, three, is) = first_of (file.optional_name (get_member (codes "field") ms)) _ x h2 in
        let holds = object_said why.Required file.requiring_names d ms at in
        subst (λ v. IsRequiring v x) (sym holds.is) (subst (IsRequiring (object ms)) (one_value _ _ x refl is) (record {
          names = holds.only;
          table = (name_reads why.Required).said (get_member (codes "table") ms) table one;
          part = part_reads.said (get_member (codes "part") ms) part two;
          field = optional_said (get_member (codes "field") ms) field three;
        }))

    read : (d : Data) (x : Requiring) → IsRequiring d x → file.requiring d ≡ Ok x
    read d x h =
        let (ms, is) = h.names.0 in
        let at = subst (λ v. IsRequiring v x) is h in
        goes_on (file.object why.Required file.requiring_names d) _ ms x
        (object_read why.Required file.requiring_names d ms is at.names)
        (goes_on (file.name why.Required (get_member (codes "table") ms)) _ x.table x
        ((name_reads why.Required).read (get_member (codes "table") ms) x.table at.table)
        (goes_on (file.part (get_member (codes "part") ms)) _ x.part x
        (part_reads.read (get_member (codes "part") ms) x.part at.part)
        (goes_on (file.optional_name (get_member (codes "field") ms)) _ x.field x
        (optional_read (get_member (codes "field") ms) x.field at.field) refl)))

required_reads : Reads file.required IsRequired
required_reads = record { said = said; read = read }
  where
    lists : ReadsMember (file.list why.Required file.requiring) (IsList IsRequiring)
    lists = list_reads why.Required file.requiring IsRequiring requiring_reads

    said : (d : Data) (x : Required) → file.required d ≡ Ok x → IsRequired d x
    said d x e =
        let (ms, at, h) = first_of (file.object why.Required file.required_names d) _ x e in
        let (table, one, h1) = first_of (file.name why.Required (get_member (codes "table") ms)) _ x h in
        let (field, two, h2) = first_of (file.name why.Required (get_member (codes "field") ms)) _ x h1 in
        let (value, three, h3) = first_of (file.text why.Required (get_member (codes "value") ms)) _ x h2 in
        let (default, four, h4) = first_of (file.text why.Required (get_member (codes "default") ms)) _ x h3 in
        let (places, five, is) = first_of (file.list why.Required file.requiring (get_member (codes "requiring") ms)) _
        x h4 in
        let holds = object_said why.Required file.required_names d ms at in
        subst (λ v. IsRequired v x) (sym holds.is) (subst (IsRequired (object ms)) (one_value _ _ x refl is) (record {
          names = holds.only;
          table = (name_reads why.Required).said (get_member (codes "table") ms) table one;
          field = (name_reads why.Required).said (get_member (codes "field") ms) field two;
          value = (text_reads why.Required).said (get_member (codes "value") ms) value three;
          default = (text_reads why.Required).said (get_member (codes "default") ms) default four;
          requiring = lists.said (get_member (codes "requiring") ms) places five;
        }))

    read : (d : Data) (x : Required) → IsRequired d x → file.required d ≡ Ok x
    read d x h =
        let (ms, is) = h.names.0 in
        let at = subst (λ v. IsRequired v x) is h in
        goes_on (file.object why.Required file.required_names d) _ ms x
        (object_read why.Required file.required_names d ms is at.names)
        (goes_on (file.name why.Required (get_member (codes "table") ms)) _ x.table x
        ((name_reads why.Required).read (get_member (codes "table") ms) x.table at.table)
        (goes_on (file.name why.Required (get_member (codes "field") ms)) _ x.field x
        ((name_reads why.Required).read (get_member (codes "field") ms) x.field at.field)
        (goes_on (file.text why.Required (get_member (codes "value") ms)) _ x.value x
        ((text_reads why.Required).read (get_member (codes "value") ms) x.value at.value)
        (goes_on (file.text why.Required (get_member (codes "default") ms)) _ x.default x
        ((text_reads why.Required).read (get_member (codes "default") ms) x.default at.default)
        (goes_on (file.list why.Required file.requiring (get_member (codes "requiring") ms)) _ x.requiring x
        (lists.read (get_member (codes "requiring") ms) x.requiring at.requiring) refl)))))

-- ---- services

-- the byte may stand in the name of a service
abbrev IsServiceByte : ℕ → Type 0
IsServiceByte c = (is_ascii_alphanumeric c ≡ true) ⊎ Contains (codes "_-") c

service_byte : (c : ℕ) → Decides (file.is_service_byte c) (IsServiceByte c)
service_byte c =
    Decides-or (is_ascii_alphanumeric c) (list_any (λ k. k == c) (codes "_-")) ((λ e. e), λ e. e)
    (any_is c (λ k. k == c) (λ k. Decides-eqb k c) (codes "_-"))

service_bytes : (name : List ℕ) → Decides (list_all file.is_service_byte name) (All IsServiceByte name)
service_bytes name =
    Decides-by_and file.is_service_byte IsServiceByte (list_all file.is_service_byte) service_byte refl (λ c cs. refl)
    name

service_name_reads : ReadsMember file.service_name IsServiceName
service_name_reads = record { said = said; read = read }
  where
    said : (o : Option Data) (s : List ℕ) → file.service_name o ≡ Ok s → There IsServiceName o s
    said o s e =
        let (t, is, h) = first_of (file.name why.Services o) _ s e in
        let (bytes, same) = passed why.Services (list_all file.is_service_byte t) t s h in
        let (d, there, name) = (name_reads why.Services).said o s (is ∙ ap Ok same) in
        (d, there, (name, subst (All IsServiceByte) same ((service_bytes t).0 bytes)))

    read : (o : Option Data) (s : List ℕ) → There IsServiceName o s → file.service_name o ≡ Ok s
    read o s (d, there, (name, all)) =
        goes_on (file.name why.Services o) _ s s ((name_reads why.Services).read o s (d, there, name))
        (passes why.Services (list_all file.is_service_byte s) s ((service_bytes s).1 all))

service_reads : Reads file.service IsService
service_reads = record { said = said; read = read }
  where
    lists : ReadsMember (file.list why.Services file.table_name) (IsList IsName)
    lists = list_reads why.Services file.table_name IsName
        (of_values (file.name why.Services) IsName (name_reads why.Services))

    said : (d : Data) (x : ServiceTie) → file.service d ≡ Ok x → IsService d x
    said d x e =
        let (ms, at, h) = first_of (file.object why.Services (codes "name" ∷ codes "tables" ∷ []) d) _ x e in
        let (own, one, h1) = first_of (file.service_name (get_member (codes "name") ms)) _ x h in
        let (tables, two, is) = first_of (file.list why.Services file.table_name (get_member (codes "tables") ms)) _ x
        h1 in
        let holds = object_said why.Services (codes "name" ∷ codes "tables" ∷ []) d ms at in
        subst (λ v. IsService v x) (sym holds.is) (subst (IsService (object ms)) (one_value _ _ x refl is) (record {
          names = holds.only;
          name = service_name_reads.said (get_member (codes "name") ms) own one;
          tables = lists.said (get_member (codes "tables") ms) tables two;
        }))

    read : (d : Data) (x : ServiceTie) → IsService d x → file.service d ≡ Ok x
    read d x h =
        let (ms, is) = h.names.0 in
        let at = subst (λ v. IsService v x) is h in
        goes_on (file.object why.Services (codes "name" ∷ codes "tables" ∷ []) d) _ ms x
        (object_read why.Services (codes "name" ∷ codes "tables" ∷ []) d ms is at.names)
        (goes_on (file.service_name (get_member (codes "name") ms)) _ x.name x
        (service_name_reads.read (get_member (codes "name") ms) x.name at.name)
        (goes_on (file.list why.Services file.table_name (get_member (codes "tables") ms)) _ x.tables x
        (lists.read (get_member (codes "tables") ms) x.tables at.tables) refl))

-- ---- names that differ

not_true : (b : Bool) → not b ≡ true → b ≡ false
not_true true e = absurd cc
not_true false e = refl

or_neither : (a b : Bool) → (a || b) ≡ false → (a ≡ false) × (b ≡ false)
or_neither true b e = absurd cc
or_neither false b e = (refl, e)

is_its_name : (name : List ℕ) (t : ServiceTie) → name ≡ t.name → file.has_name name t ≡ true
is_its_name name t is = ap (λ n. is_eq (name_cmp t.name n)) is ∙ ap is_eq (same_name t.name)

no_name : (r : Ordering) (name : List ℕ) (t : ServiceTie) → slice_cmp nat_cmp t.name name ≡ r
    → name ≢ t.name → is_eq r ≡ false
no_name Less name t is other = refl
no_name Equal name t is other =
    absurd (other (sym (finmap.slice_cmp-IsAntisymmetric finmap.nat_cmp-IsAntisymmetric t.name name is)))
no_name Greater name t is other = refl

apart : (name : List ℕ) (ts : List ServiceTie) → list_any (file.has_name name) ts ≡ false → All (λ t. name ≢ t.name) ts
apart name [] e = All-nil (λ (t : ServiceTie). name ≢ t.name)
apart name (t ∷ ts) e =
    let (here, rest) = or_neither (file.has_name name t) (list_any (file.has_name name) ts) e in
    All-cons (λ (u : ServiceTie). name ≢ u.name) t ts
    (λ is. let there : file.has_name name t ≡ true = is_its_name name t is in cc) (apart name ts rest)

none_named : (name : List ℕ) (ts : List ServiceTie) → All (λ t. name ≢ t.name) ts
    → list_any (file.has_name name) ts ≡ false
none_named name [] all = refl
none_named name (t ∷ ts) all =
    ap (λ b. b || list_any (file.has_name name) ts) (no_name (slice_cmp nat_cmp t.name name) name t refl
    (all 0 t (omega arith)))
    ∙ none_named name ts (λ k d within. all (suc k) d (omega arith))

differ_said : (ts : List ServiceTie) → file.names_differ ts ≡ true → AllPairs (λ s t. s.name ≢ t.name) ts
differ_said [] e = λ i j d before within. absurd (omega arith)
differ_said (t ∷ ts) e =
    let (here, rest) = and_both (not (list_any (file.has_name t.name) ts)) (file.names_differ ts) e in
    AllPairs-cons (λ (s u : ServiceTie). s.name ≢ u.name) t ts
    (apart t.name ts (not_true (list_any (file.has_name t.name) ts) here)) (differ_said ts rest)

differ_read : (ts : List ServiceTie) → AllPairs (λ s t. s.name ≢ t.name) ts → file.names_differ ts ≡ true
differ_read [] pairs = refl
differ_read (t ∷ ts) pairs =
    both_true (not (list_any (file.has_name t.name) ts)) (file.names_differ ts)
    (ap not (none_named t.name ts (λ k d within. pairs 0 (suc k) d (omega arith) (omega arith))))
    (differ_read ts (λ i j d before within. pairs (suc i) (suc j) d (omega arith) (omega arith)))

-- ---- the file

settings_said : (d : Data) (x : Settings) → file.settings d ≡ Ok x → IsSettings d x
settings_said d x e =
    let (ms, at, h) = first_of (file.object why.Top file.file_names d) _ x e in
    let (fields, one, h1) = first_of (file.list_or_none why.CreateOnly file.create_only
    (get_member (codes "create_only") ms)) _ x h in
    let (values, two, h2) = first_of (file.list_or_none why.Required file.required (get_member (codes "required") ms))
    _ x h1 in
    let (ties, three, is) = first_of (file.services (get_member (codes "services") ms)) _ x h2 in
    let (found, four, h3) = first_of (file.list_or_none why.Services file.service (get_member (codes "services") ms)) _
    ties three in
    let (differ, same) = passed why.Services (file.names_differ found) found ties h3 in
    let holds = object_said why.Top file.file_names d ms at in
    subst (λ v. IsSettings v x) (sym holds.is) (subst (IsSettings (object ms)) (one_value _ _ x refl is) (record {
      names = holds.only;
      create_only = list_or_none_said why.CreateOnly file.create_only IsCreateOnly create_only_reads
          (get_member (codes "create_only") ms) fields one;
      required = list_or_none_said why.Required file.required IsRequired required_reads
          (get_member (codes "required") ms) values two;
      services = list_or_none_said why.Services file.service IsService service_reads (get_member (codes "services") ms)
          ties (four ∙ ap Ok same);
      differ = differ_said ties (subst (λ ts. file.names_differ ts ≡ true) same differ);
    }))

settings_read : (d : Data) (x : Settings) → IsSettings d x → file.settings d ≡ Ok x
settings_read d x h =
    let (ms, is) = h.names.0 in
    let at = subst (λ v. IsSettings v x) is h in
    let ties = list_or_none_read why.Services file.service IsService service_reads (get_member (codes "services") ms)
    x.services at.services in
    goes_on (file.object why.Top file.file_names d) _ ms x (object_read why.Top file.file_names d ms is at.names)
    (goes_on (file.list_or_none why.CreateOnly file.create_only (get_member (codes "create_only") ms)) _ x.create_only x
    (list_or_none_read why.CreateOnly file.create_only IsCreateOnly create_only_reads
    (get_member (codes "create_only") ms) x.create_only at.create_only)
    (goes_on (file.list_or_none why.Required file.required (get_member (codes "required") ms)) _ x.required x
    (list_or_none_read why.Required file.required IsRequired required_reads (get_member (codes "required") ms)
    x.required at.required)
    (goes_on (file.services (get_member (codes "services") ms)) _ x.services x
    (goes_on (file.list_or_none why.Services file.service (get_member (codes "services") ms)) _
    x.services x.services ties
    (passes why.Services (file.names_differ x.services) x.services (differ_read x.services at.differ)))
    refl)))

value_there : (o : Option Data) (d : Data) → file.or_bad_json o ≡ Ok d → o ≡ Some d
value_there None d e = absurd cc
value_there (Some v) d e = ap Some (one_value _ v d refl e)

-- the settings that are read are those that the value says
pub rules_said : (bytes : List ℕ) (settings : Settings) → file.rules bytes ≡ Ok settings
    → (d : Data) × (json bytes ≡ Some d) × IsSettings d settings
rules_said bytes settings e =
    let (d, is, h) = first_of (file.or_bad_json (json bytes)) file.settings settings e in
    (d, value_there (json bytes) d is, settings_said d settings h)

-- the settings that the value says are read
pub rules_read : (bytes : List ℕ) (d : Data) (settings : Settings) → json bytes ≡ Some d → IsSettings d settings
    → file.rules bytes ≡ Ok settings
rules_read bytes d settings is says =
    goes_on (file.or_bad_json (json bytes)) file.settings d settings (ap file.or_bad_json is)
    (settings_read d settings says)
