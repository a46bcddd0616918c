-- Lists of JSON values, item by item.
use Rattle.std.proofs.Common.{◌≡◌, ℕ, ◌+◌, ◌<◌, suc, List, [], ◌∷◌, ◌++◌, length, get_or, drop, map, true, false, Option, Some, None, if◌then◌else◌, Bool, ◌||◌, ◌&&◌, Bor, String, string_bytes, nat_eq, Result, Ok, Err, refl, sym, ap, ◌∙◌, add-one, drop-cons, append_assoc, append-nil, arith}
use Rattle.std.specs.Cmp.Lexicographic.{pointwise}
use Rattle.std.specs.List.{list_all, list_any}
use Rattle.std.specs.Map.{keys_of}
use Rattle.std.specs.declared.alloc.Global.{Global}
use Rattle.host_core.specs.Answers.{FailsAs}
use Rattle.serde_json.specs.Data.{Data}
use Rattle.serde_json.specs.View.{view, items_view, members_view}
use Rattle.serde_json.specs.declared.value.Value.{Value}
use Rattle.host_core.specs.Answers.{both}
use Rattle.conf_doc.specs.Reading.{json_answer}
use Rattle.conf_doc.specs.declared.errors.ReadError.{ReadError}
use Rattle.move_core.specs.Naming.{is_one_of}
use Rattle.move_core.specs.RulesFile.{items, has_only, or_bad_json, or_fails, pair, rules_fault}
use Rattle.move_core.specs.declared.errors.RulesWhy.{RulesWhy}
use Rattle.move_core.specs.declared.errors.RulesWhy.TheVariants.{CreateOnly}
use Rattle.move_core.specs.declared.errors.RulesError.{RulesError}
use Rattle.move_core.specs.declared.errors.RulesError.TheVariants.{BadJson, Bad, Memory}

pub list_any-map : {X Y : Type 0} (p : X → Bool) (h : Y → X) (ys : List Y) → list_any p (map h ys) ≡ list_any (λ y. p (h y)) ys
list_any-map p h [] = refl
list_any-map p h (y ∷ ys) = ap (λ b. p (h y) || b) (list_any-map p h ys)

-- what is left of a list from an index on
pub drop_step : {A : Type 0} (xs : List A) (i : ℕ) (x : A) → i < length xs → x ≡ get_or xs i x → drop i xs ≡ x ∷ drop (i + 1) xs
drop_step xs i x within is = rw add-one (drop-cons xs i x within ∙ ap (λ y. y ∷ drop (suc i) xs) (sym is))

-- items in front of those of the rest
abbrev pub before : {A : Type 0} → List A → Result (List A) RulesError → Result (List A) RulesError
before done (Ok rest) = Ok (done ++ rest)
before done (Err e) = Err e

-- the items of the list are these, and then those of the rest
pub record Walk {A : Type 0} (f : Data → Result A RulesError) (all rest : List Value) (done : List A) : Type 0 where
  pub is : items f (items_view all) ≡ before done (items f (items_view rest))

before-none : {A : Type 0} (r : Result (List A) RulesError) → before [] r ≡ r
before-none (Ok rest) = refl
before-none (Err e) = refl

before-more : {A : Type 0} (done : List A) (a : A) (r : Result (List A) RulesError) → before done (both (λ x xs. x ∷ xs) (Ok a) r) ≡ before (done ++ a ∷ []) r
before-more done a (Ok rest) = ap Ok (sym (append_assoc done (a ∷ []) rest))
before-more done a (Err e) = refl

pub walk_begins : {A : Type 0} (f : Data → Result A RulesError) (all : List Value) → Walk f all all []
walk_begins f all = record { is = sym (before-none (items f (items_view all))) }

pub walk_goes_on : {A : Type 0} (f : Data → Result A RulesError) (all rest more : List Value) (done new : List A) (v : Value) (a : A)
    → Walk f all rest done → rest ≡ v ∷ more → f (view v) ≡ Ok a → new ≡ done ++ a ∷ [] → Walk f all more new
walk_goes_on f all rest more done new v a walk is reads pushed = record {
  is = walk.is ∙ ap (λ vs. before done (items f (items_view vs))) is
      ∙ ap (λ r. before done (both (λ x xs. x ∷ xs) r (items f (items_view more)))) reads
      ∙ before-more done a (items f (items_view more))
      ∙ ap (λ d. before d (items f (items_view more))) (sym pushed);
}

walk_stops : {A : Type 0} (f : Data → Result A RulesError) (all rest more : List Value) (done : List A) (v : Value) (e : RulesError)
    → Walk f all rest done → rest ≡ v ∷ more → f (view v) ≡ Err e → items f (items_view all) ≡ Err e
walk_stops f all rest more done v e walk is fails =
    walk.is ∙ ap (λ vs. before done (items f (items_view vs))) is
    ∙ ap (λ r. before done (both (λ x xs. x ∷ xs) r (items f (items_view more)))) fails

pub walk_fails : {A : Type 0} (f : Data → Result A RulesError) (all rest more : List Value) (done : List A) (v : Value) (e : RulesError)
    → Walk f all rest done → rest ≡ v ∷ more → FailsAs (rules_fault e) (f (view v)) → FailsAs (rules_fault e) (items f (items_view all))
walk_fails f all rest more done v BadJson walk is fails = walk_stops f all rest more done v BadJson walk is fails
walk_fails f all rest more done v (Bad w) walk is fails = walk_stops f all rest more done v (Bad w) walk is fails
walk_fails f all rest more done v Memory walk is fails = tt

pub walk_ends : {A : Type 0} (f : Data → Result A RulesError) (all rest : List Value) (done : List A) → Walk f all rest done → rest ≡ [] → items f (items_view all) ≡ Ok done
walk_ends f all rest done walk is =
    walk.is ∙ ap (λ vs. before done (items f (items_view vs))) is ∙ ap Ok (append-nil done)

-- the keys of an object are all among some names
pub has_only-keys : (names : List (Bor (List ℕ))) (ms : List (String Global × Value)) → list_all (λ k. is_one_of names (string_bytes k)) (keys_of ms) ≡ has_only (map (λ n. n.now) names) (members_view ms)
has_only-keys names [] = refl
has_only-keys names (m ∷ ms) =
    ap (λ b. b && list_all (λ k. is_one_of names (string_bytes k)) (keys_of ms)) (sym (list_any-map (pointwise nat_eq (string_bytes m.0)) (λ n. n.now) names))
    ∙ ap (λ b. list_any (λ n. pointwise nat_eq (string_bytes m.0) n) (map (λ n. n.now) names) && b) (has_only-keys names ms)

-- a list of another length is no pair
pub pair-other : (vs : List Value) → ¬ (length vs ≡ 2) → pair (items_view vs) ≡ Err (Bad CreateOnly)
pair-other [] other = refl
pair-other (v ∷ []) other = refl
pair-other (v ∷ w ∷ []) other = absurd (other refl)
pair-other (v ∷ w ∷ x ∷ vs) other = refl

-- the two items of a pair
pub pair-two : (vs : List Value) (v w : Value) → length vs ≡ 2 → v ≡ get_or vs 0 v → w ≡ get_or vs 1 w → vs ≡ v ∷ w ∷ []
pair-two [] v w two first second = absurd (omega arith)
pair-two (x ∷ []) v w two first second = absurd (omega arith)
pair-two (x ∷ y ∷ []) v w two first second = λ i. sym first i ∷ sym second i ∷ []
pair-two (x ∷ y ∷ z ∷ vs) v w two first second = absurd (omega arith)

pub or_fails-true : {A : Type 0} (w : RulesWhy) (test : A → Bool) (a : A) → test a ≡ true → or_fails w test a ≡ Ok a
or_fails-true w test a passes = ap (λ b. if b then Ok a else Err (Bad w)) passes

pub or_fails-false : {A : Type 0} (w : RulesWhy) (test : A → Bool) (a : A) → test a ≡ false → or_fails w test a ≡ Err (Bad w)
or_fails-false w test a fails = ap (λ b. if b then Ok a else Err (Bad w)) fails

-- a JSON value that was read
pub value_there : (o : Option Data) (d : Data) → json_answer o ≡ Ok d → or_bad_json o ≡ Ok d
value_there None d is = absurd (cc)
value_there (Some e) d is = cc

-- there is none
pub value_none : (o : Option Data) (e : ReadError) → json_answer o ≡ Err e → or_bad_json o ≡ Err BadJson
value_none None e is = refl
value_none (Some d) e is = absurd (cc)
