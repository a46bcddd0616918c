-- The plain names among the files' names are the names of what a scope shows.
use Rattle.std.proofs.Common.{◌≡◌, ℕ, List, [], ◌∷◌, map, length, Option, Some, None, option_map, Result, Ok, Err, refl, sym, ap, ◌∙◌, arith}
use Rattle.std.specs.BTreeSet.{insert_key}
use Rattle.std.specs.Cmp.Lexicographic.{nat_list_cmp_total}
use Rattle.std.specs.FinMap as finmap
use Rattle.std.specs.FinMap.{empty, entries, from_entries, keys}
use Rattle.std.specs.List.{cons_option, filter_map}
use Rattle.std.specs.Option.{option_map_or}
use Rattle.std.specs.Prelude.{IfOk, IfSome, IsOkAnd}
use Rattle.std.specs.declared.cmp.Ordering.{Ordering}
use Rattle.std.specs.declared.cmp.Ordering.TheVariants.{Less, Equal, Greater}
use Rattle.host_core.specs.Names.{name_cmp}
use Rattle.host_core.specs.State.{State, names}
use Rattle.scopes.specs.Files.{plain_name}
use Rattle.scopes.specs.Listings.{plain_names}
use Rattle.scopes.specs.Views.{seen, shown}
use Rattle.scopes.specs.declared.scope.Scope.{Scope}

-- putting a pair puts its name
put_names : (name bytes : List ℕ) (es : List (List ℕ × List ℕ))
    → map (λ e. e.0) (finmap.put name_cmp name bytes es) ≡ insert_key name_cmp (map (λ e. e.0) es) name
put_names name bytes [] = refl
put_names name bytes (e ∷ es) = by (put_names name bytes es) (name_cmp name e.0) refl
  where
    by : map (λ e. e.0) (finmap.put name_cmp name bytes es) ≡ insert_key name_cmp (map (λ e. e.0) es) name → (r : Ordering) → name_cmp name e.0 ≡ r
        → map (λ e. e.0) (finmap.put name_cmp name bytes (e ∷ es)) ≡ insert_key name_cmp (map (λ e. e.0) (e ∷ es)) name
    by rest Less is = rw is refl
    by rest Equal is = rw is refl
    by rest Greater is = rw is (ap (λ (ns : List (List ℕ)). e.0 ∷ ns) rest)

none_there : (es : List (List ℕ × List ℕ)) → length es ≡ 0 → es ≡ []
none_there [] e = refl
none_there (x ∷ es) e = absurd (omega arith)

no_names : keys (empty {X = List ℕ} {R = name_cmp}) ≡ []
no_names =
    let none : length (entries (empty {X = List ℕ} {R = name_cmp})) ≡ 0 = sym (finmap.len-entries empty) ∙ finmap.len-empty name_cmp (List ℕ) in
    ap (map (λ e. e.0)) (none_there _ none)

walk : (scope : Scope) (es : List (List ℕ × List ℕ))
    → keys (from_entries {R = name_cmp} (filter_map (shown scope) es)) ≡ plain_names scope (map (λ e. e.0) es)
walk scope [] = no_names
walk scope (e ∷ es) = by (walk scope es) (plain_name scope e.0)
  where
    by : keys (from_entries {R = name_cmp} (filter_map (shown scope) es)) ≡ plain_names scope (map (λ e. e.0) es) → (o : Option (List ℕ))
        → keys (from_entries {R = name_cmp} (cons_option (option_map (λ plain. (plain, e.1)) o) (filter_map (shown scope) es)))
        ≡ option_map_or (insert_key name_cmp (plain_names scope (map (λ e. e.0) es))) o (plain_names scope (map (λ e. e.0) es))
    by rest None = rest
    by rest (Some plain) =
        ap (map (λ e. e.0)) (finmap.entries-insert nat_list_cmp_total (from_entries (filter_map (shown scope) es)) plain e.1)
        ∙ put_names plain e.1 (entries (from_entries (filter_map (shown scope) es)))
        ∙ ap (λ (ns : List (List ℕ)). insert_key name_cmp ns plain) rest

lists_seen : (scope : Scope) (o : Option State) (files all : List (List ℕ)) → IfSome o (λ s. files ≡ names s) → all ≡ plain_names scope files
    → IfSome (option_map (seen scope) o) (λ s. all ≡ names s)
lists_seen scope None files all found is = tt
lists_seen scope (Some s) files all found is = is ∙ ap (plain_names scope) found ∙ sym (walk scope (entries s.files))

-- what was listed is all that the scope shows
pub listing_seen : {E F : Type 0} (scope : Scope) (o : Option State) (listed : Result (List (List ℕ)) E) (r : Result (List (List ℕ)) F)
    → IfOk listed (λ files. IfSome o (λ s. files ≡ names s)) → IfOk r (λ all. IsOkAnd listed (λ files. all ≡ plain_names scope files))
    → IfOk r (λ all. IfSome (option_map (seen scope) o) (λ s. all ≡ names s))
listing_seen scope o (Ok files) (Ok all) found is = lists_seen scope o files all found is
listing_seen scope o (Err e) (Ok all) found is = absurd is
listing_seen scope o listed (Err f) found is = tt
