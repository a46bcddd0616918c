-- What is found by following paths one after another.
use Rattle.std.proofs.Common.{◌≡◌, ◌||◌, not, ℕ, Option, is_none, subst, Bool, true, false, cond, List, [], ◌∷◌, ◌++◌, String, refl, sym, ap, ◌∙◌}
use Rattle.std.specs.Global.{Global}
use Rattle.std.specs.BTreeSet.{BTreeSet, contains_text}
use Rattle.std.specs.List.{flat_map, list_any}
use Rattle.std.specs.Str.{bytes_eq}
use Rattle.std.proofs.lemmas.List.Folds.{list_any-append}
use Rattle.std.proofs.lemmas.List.Concat.{flat_map-append}
use Rattle.std.proofs.lemmas.Bool.Decides.{same_from_decides}
use Rattle.std.proofs.lemmas.Slice.Eq.{bytes_eq-Decides}
use Rattle.yang_scope.specs.Modules.{Module}
use Rattle.yang_must.specs.Findings.{IsSetOf, Gains, Finds, IsFound}
use Rattle.yang_must.specs.Musts.{tables_along}
use Rattle.yang_must.specs.Routes.{Route, route, end_of, spots_along, may_end_at, table_at, names_nothing, ends_badly}
use Rattle.yang_must.specs.Spots.{Spot}
use Rattle.yang_must.specs.declared.aims.Aim.{Aim}
use Rattle.xpath_part.specs.Expression.{Strides}
use Rattle.std.specs.Option.{option_map_or}
use Rattle.std.proofs.lemmas.List.{append-nil}
use Rattle.yang_must.specs.declared.findings.Findings.{Findings}

or_false : (b : Bool) → b ≡ (b || false)
or_false true = refl
or_false false = refl

or_assoc : (a b c : Bool) → ((a || b) || c) ≡ (a || (b || c))
or_assoc true b c = refl
or_assoc false b c = refl

or_swap : (a b c : Bool) → (a || (b || c)) ≡ (a || (c || b))
or_swap true b c = refl
or_swap false true true = refl
or_swap false true false = refl
or_swap false false true = refl
or_swap false false false = refl

or_last : (b a : Bool) → cond b true a ≡ (a || (b || false))
or_last true true = refl
or_last true false = refl
or_last false true = refl
or_last false false = refl

bytes_eq-swap : (x y : List ℕ) → bytes_eq x y ≡ bytes_eq y x
bytes_eq-swap x y = same_from_decides _ _ (bytes_eq-Decides x y) ((λ e. sym ((bytes_eq-Decides y x).0 e)), (λ e. (bytes_eq-Decides y x).1 (sym e)))

-- what passes among two lists, one behind the other
module _ {X : Type 0} (p : X → Bool) (a b c : Bool) (xs ys : List X) (first : b ≡ (a || list_any p xs)) (second : c ≡ (b || list_any p ys)) where
  any-both : c ≡ (a || list_any p (xs ++ ys))
  any-both =
      second ∙ ap (λ o. o || list_any p ys) first ∙ or_assoc a (list_any p xs) (list_any p ys) ∙ ap (λ o. a || o) (sym (list_any-append p xs ys))

  any-swap : c ≡ (a || list_any p (ys ++ xs))
  any-swap =
      second ∙ ap (λ o. o || list_any p ys) first ∙ or_assoc a (list_any p xs) (list_any p ys) ∙ or_swap a (list_any p xs) (list_any p ys)
      ∙ ap (λ o. a || o) (sym (list_any-append p ys xs))

-- ---- sets

abbrev Texts : Type 0
Texts = BTreeSet (String Global)

-- nothing more
pub Gains-none : (set : Texts) → Gains set set []
Gains-none set = record { gains = λ q. or_false (contains_text set q) }

-- a new name
pub Gains-added : (old new : Texts) (name : List ℕ) → ((q : List ℕ) → contains_text new q ≡ cond (bytes_eq name q) true (contains_text old q)) → Gains old new (name ∷ [])
Gains-added old new name updates = record {
  gains = λ q. updates q ∙ ap (λ b. cond b true (contains_text old q)) (bytes_eq-swap name q) ∙ or_last (bytes_eq q name) (contains_text old q);
}

-- a name that is there already
pub Gains-again : (set : Texts) (name : List ℕ) → contains_text set name ≡ true → Gains set set (name ∷ [])
Gains-again set name there = record {
  gains = λ q. by (bytes_eq q name) (contains_text set q) (λ e. ap (contains_text set) ((bytes_eq-Decides q name).0 e) ∙ there);
}
  where
    by : (b a : Bool) → (b ≡ true → a ≡ true) → a ≡ (a || (b || false))
    by true a there = there refl ∙ ap (λ o. o || true) (sym (there refl))
    by false a there = or_false a

pub Gains-both : (a b c : Texts) (xs ys : List (List ℕ)) → Gains a b xs → Gains b c ys → Gains a c (xs ++ ys)
Gains-both a b c xs ys first second = record {
  gains = λ q. any-both (bytes_eq q) (contains_text a q) (contains_text b q) (contains_text c q) xs ys (first.gains q) (second.gains q);
}

Gains-swap : (a b c : Texts) (xs ys : List (List ℕ)) → Gains a b xs → Gains b c ys → Gains a c (ys ++ xs)
Gains-swap a b c xs ys first second = record {
  gains = λ q. any-swap (bytes_eq q) (contains_text a q) (contains_text b q) (contains_text c q) xs ys (first.gains q) (second.gains q);
}

-- ---- findings

module _ (modules : List Module) (m : ℕ) where
  abbrev tables : List Route → List (List ℕ)
  tables rs = flat_map (tables_along modules m) rs

  -- no paths
  pub Finds-none : (f : Findings) → Finds modules m f f []
  Finds-none f = record { unknown = or_false f.unknown; misplaced = or_false f.misplaced; reads = Gains-none f.reads.names }

  -- the paths of two parts, the left one followed first
  pub Finds-both : (a b c : Findings) (rs qs : List Route) → Finds modules m a b rs → Finds modules m b c qs → Finds modules m a c (rs ++ qs)
  Finds-both a b c rs qs first second = record {
    unknown = any-both (names_nothing modules m) a.unknown b.unknown c.unknown rs qs first.unknown second.unknown;
    misplaced = any-both (ends_badly modules m) a.misplaced b.misplaced c.misplaced rs qs first.misplaced second.misplaced;
    reads =
        rw (flat_map-append (tables_along modules m) rs qs)
        (Gains-both a.reads.names b.reads.names c.reads.names (tables rs) (tables qs) first.reads second.reads);
  }

  -- or the right one first
  pub Finds-swap : (a b c : Findings) (rs qs : List Route) → Finds modules m a b qs → Finds modules m b c rs → Finds modules m a c (rs ++ qs)
  Finds-swap a b c rs qs first second = record {
    unknown = any-swap (names_nothing modules m) a.unknown b.unknown c.unknown qs rs first.unknown second.unknown;
    misplaced = any-swap (ends_badly modules m) a.misplaced b.misplaced c.misplaced qs rs first.misplaced second.misplaced;
    reads =
        rw (flat_map-append (tables_along modules m) rs qs)
        (Gains-swap a.reads.names b.reads.names c.reads.names (tables qs) (tables rs) first.reads second.reads);
  }

  -- all, from nothing
  pub Finds-all : (a b : Findings) (rs : List Route) → a.unknown ≡ false → a.misplaced ≡ false → IsSetOf a.reads.names [] → Finds modules m a b rs → IsFound modules m b rs
  Finds-all a b rs known placed empty found = record {
    unknown = found.unknown ∙ ap (λ o. o || list_any (names_nothing modules m) rs) known;
    misplaced = found.misplaced ∙ ap (λ o. o || list_any (ends_badly modules m) rs) placed;
    reads = record { holds = λ q. found.reads.gains q ∙ ap (λ o. o || list_any (bytes_eq q) (tables rs)) (empty.holds q) };
  }

  -- one path: what is found at its end, and the tables on its way
  pub Finds-route :
      (a b : Findings) (aim : Aim) (origin : Spot) (ss : Strides) (end : Option Spot) → end ≡ end_of modules m ss origin
      → b.unknown ≡ (a.unknown || is_none end) → b.misplaced ≡ (a.misplaced || option_map_or (λ spot. not (may_end_at aim spot)) end false)
      → (reads : Texts) → Gains a.reads.names reads (flat_map table_at (spots_along modules m ss origin)) → b.reads.names ≡ reads
      → Finds modules m a b (route aim origin ss ∷ [])
  Finds-route a b aim origin ss end is unknown misplaced reads gains same =
      let along : List (List ℕ) = flat_map table_at (spots_along modules m ss origin) in record {
        unknown = unknown ∙ ap (λ o. a.unknown || is_none o) is ∙ ap (λ o. a.unknown || o) (or_false (is_none (end_of modules m ss origin)));
        misplaced =
            misplaced ∙ ap (λ o. a.misplaced || option_map_or (λ spot. not (may_end_at aim spot)) o false) is
            ∙ ap (λ o. a.misplaced || o) (or_false (option_map_or (λ spot. not (may_end_at aim spot)) (end_of modules m ss origin) false));
        reads =
            subst (λ (names : List (List ℕ)). Gains a.reads.names b.reads.names names) (sym (append-nil along))
            (subst (λ (set : Texts). Gains a.reads.names set along) (sym same) gains);
      }
