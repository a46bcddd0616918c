-- The names that are read aren't empty.
use Rattle.std.proofs.Common.{◌≡◌, ℕ, ◌==◌, List, [], ◌∷◌, length, Bool, true, false, not, codes, Option, Some, None, option_and_then, Result, Ok, Err, if◌then◌else◌, refl, subst, arith, IfOk, IfSome, All}
use Rattle.std.specs.List.{list_all}
use Rattle.std.proofs.lemmas.List.Elements.{All-cons, All-nil}
use Rattle.std.proofs.lemmas.Result.{IfOk-at_ok}
use Rattle.host_core.specs.Answers.{◌>>=◌, map_ok, both, Gives}
use Rattle.serde_json.specs.Data as values
use Rattle.serde_json.specs.Find.{get_member, as_array}
use Rattle.move_core.specs.Named.{IsName, HasPairNames, HasPlaceNames, HasRequiredNames, HasServiceNames, HasNames}
use Rattle.move_core.specs.RulesFile as file
use Rattle.move_core.specs.declared.errors.RulesWhy.{RulesWhy}
use Rattle.move_core.specs.declared.errors.RulesWhy.TheVariants as why
use Rattle.move_core.specs.declared.errors.RulesError.{RulesError}
use Rattle.move_core.specs.declared.errors.RulesError.TheVariants.{Bad}
use Rattle.move_core.specs.declared.settings.Settings.{Settings}

-- what f makes of a value has P, whatever the value is
skips : {A B F : Type 0} (P : B → Type 0) (r : Result A F) (f : A → Result B F)
    → ((a : A) → IfOk (f a) P) → IfOk (r >>= f) P
skips P (Ok a) f has = has a
skips P (Err e) f has = tt

-- what f makes of a value that has P has Q
takes : {A B F : Type 0} (P : A → Type 0) (Q : B → Type 0) (r : Result A F) (f : A → Result B F)
    → IfOk r P → ((a : A) → P a → IfOk (f a) Q) → IfOk (r >>= f) Q
takes P Q (Ok a) f first has = has a first
takes P Q (Err e) f first has = tt

tested_at : {A : Type 0} (P : A → Type 0) (w : RulesWhy) (a : A) (b : Bool) → (b ≡ true → P a)
    → (r : Result A RulesError) → r ≡ (if b then Ok a else Err (Bad w)) → IfOk r P
tested_at P w a true has (Ok x) is = let same : a ≡ x = cc in subst P same (has refl)
tested_at P w a true has (Err e) is = tt
tested_at P w a false has (Ok x) is = absurd (cc)
tested_at P w a false has (Err e) is = tt

-- what passes a test has P
tested : {A : Type 0} (P : A → Type 0) (w : RulesWhy) (test : A → Bool) (a : A)
    → (test a ≡ true → P a) → IfOk (file.or_fails w test a) P
tested P w test a has = tested_at P w a (test a) has (file.or_fails w test a) refl

filled : (s : List ℕ) → not (length s == 0) ≡ true → IsName s
filled [] passes = absurd (cc)
filled (x ∷ s) passes = omega arith

name_filled : (w : RulesWhy) (o : Option values.Data) → IfOk (file.name w o) IsName
name_filled w o =
    skips IsName (file.text w o) (file.or_fails w (λ s. not (length s == 0)))
    (λ s. tested IsName w (λ s. not (length s == 0)) s (filled s))

-- ---- lists

joined : {A : Type 0} (P : A → Type 0) (r : Result A RulesError) (s : Result (List A) RulesError)
    → IfOk r P → IfOk s (All P) → IfOk (both (λ a as'. a ∷ as') r s) (All P)
joined P (Ok a) (Ok as') first rest = All-cons P a as' first rest
joined P (Ok a) (Err e) first rest = tt
joined P (Err e) s first rest = tt

items_filled : {A : Type 0} (P : A → Type 0) (f : values.Data → Result A RulesError)
    → ((d : values.Data) → IfOk (f d) P) → (ds : values.Items) → IfOk (file.items f ds) (All P)
items_filled P f each values.no_items = All-nil P
items_filled P f each (values.item d ds) =
    joined P (f d) (file.items f ds) (each d) (items_filled P f each ds)

list_filled : {A : Type 0} (P : A → Type 0) (w : RulesWhy) (f : values.Data → Result A RulesError)
    → ((d : values.Data) → IfOk (f d) P) → (o : Option values.Data) → IfOk (file.list w f o) (All P)
list_filled P w f each o =
    skips (All P) (file.or_bad w (option_and_then as_array o)) (file.items f) (items_filled P f each)

list_or_none_filled : {A : Type 0} (P : A → Type 0) (w : RulesWhy) (f : values.Data → Result A RulesError)
    → ((d : values.Data) → IfOk (f d) P) → (o : Option values.Data) → IfOk (file.list_or_none w f o) (All P)
list_or_none_filled P w f each None = All-nil P
list_or_none_filled P w f each (Some d) = list_filled P w f each (Some d)

-- ---- create-only fields

pair_filled : (ds : values.Items) → IfOk (file.pair ds) HasPairNames
pair_filled values.no_items = tt
pair_filled (values.item t values.no_items) = tt
pair_filled (values.item t (values.item f values.no_items)) =
    takes IsName HasPairNames (file.name why.CreateOnly (Some t)) _ (name_filled why.CreateOnly (Some t)) (λ table one.
    takes IsName HasPairNames (file.name why.CreateOnly (Some f)) _ (name_filled why.CreateOnly (Some f)) (λ field two.
    (one, two)))
pair_filled (values.item t (values.item f (values.item g ds))) = tt

create_only_filled : (d : values.Data) → IfOk (file.create_only d) HasPairNames
create_only_filled d = skips HasPairNames (file.or_bad why.CreateOnly (as_array d)) file.pair pair_filled

-- ---- required values

some_filled : (r : Result (List ℕ) RulesError) → IfOk r IsName → IfOk (map_ok Some r) (λ n. IfSome n IsName)
some_filled (Ok s) one = one
some_filled (Err e) one = tt

optional_filled : (o : Option values.Data) → IfOk (file.optional_name o) (λ n. IfSome n IsName)
optional_filled None = tt
optional_filled (Some d) = some_filled (file.name why.Required (Some d)) (name_filled why.Required (Some d))

requiring_filled : (d : values.Data) → IfOk (file.requiring d) HasPlaceNames
requiring_filled d =
    skips HasPlaceNames (file.object why.Required file.requiring_names d) _ (λ ms.
    takes IsName HasPlaceNames (file.name why.Required (get_member (codes "table") ms)) _ (name_filled why.Required (get_member (codes "table") ms)) (λ table one.
    skips HasPlaceNames (file.part (get_member (codes "part") ms)) _ (λ number.
    takes (λ n. IfSome n IsName) HasPlaceNames (file.optional_name (get_member (codes "field") ms)) _ (optional_filled (get_member (codes "field") ms)) (λ field two.
    (one, two)))))

required_filled : (d : values.Data) → IfOk (file.required d) HasRequiredNames
required_filled d =
    skips HasRequiredNames (file.object why.Required file.required_names d) _ (λ ms.
    takes IsName HasRequiredNames (file.name why.Required (get_member (codes "table") ms)) _ (name_filled why.Required (get_member (codes "table") ms)) (λ table one.
    takes IsName HasRequiredNames (file.name why.Required (get_member (codes "field") ms)) _ (name_filled why.Required (get_member (codes "field") ms)) (λ field two.
    skips HasRequiredNames (file.text why.Required (get_member (codes "value") ms)) _ (λ value.
    skips HasRequiredNames (file.text why.Required (get_member (codes "default") ms)) _ (λ default.
    takes (All HasPlaceNames) HasRequiredNames (file.list why.Required file.requiring (get_member (codes "requiring") ms)) _ (list_filled HasPlaceNames why.Required file.requiring requiring_filled (get_member (codes "requiring") ms)) (λ places three.
    (one, two, three)))))))

-- ---- services

service_name_filled : (o : Option values.Data) → IfOk (file.service_name o) IsName
service_name_filled o =
    takes IsName IsName (file.name why.Services o) _ (name_filled why.Services o) (λ own one. tested IsName why.Services (list_all file.is_service_byte) own (λ passes. one))

table_name_filled : (d : values.Data) → IfOk (file.table_name d) IsName
table_name_filled d = name_filled why.Services (Some d)

service_filled : (d : values.Data) → IfOk (file.service d) HasServiceNames
service_filled d =
    skips HasServiceNames (file.object why.Services (codes "name" ∷ codes "tables" ∷ []) d) _ (λ ms.
    takes IsName HasServiceNames (file.service_name (get_member (codes "name") ms)) _ (service_name_filled (get_member (codes "name") ms)) (λ own one.
    takes (All IsName) HasServiceNames (file.list why.Services file.table_name (get_member (codes "tables") ms)) _ (list_filled IsName why.Services file.table_name table_name_filled (get_member (codes "tables") ms)) (λ tables two.
    (one, two))))

services_filled : (o : Option values.Data) → IfOk (file.services o) (All HasServiceNames)
services_filled o =
    takes (All HasServiceNames) (All HasServiceNames) (file.list_or_none why.Services file.service o) _ (list_or_none_filled HasServiceNames why.Services file.service service_filled o)
    (λ ties all. tested (All HasServiceNames) why.Services file.names_differ ties (λ passes. all))

-- ---- the file

settings_filled : (d : values.Data) → IfOk (file.settings d) HasNames
settings_filled d =
    skips HasNames (file.object why.Top file.file_names d) _ (λ ms.
    takes (All HasPairNames) HasNames (file.list_or_none why.CreateOnly file.create_only (get_member (codes "create_only") ms)) _ (list_or_none_filled HasPairNames why.CreateOnly file.create_only create_only_filled (get_member (codes "create_only") ms)) (λ fields one.
    takes (All HasRequiredNames) HasNames (file.list_or_none why.Required file.required (get_member (codes "required") ms)) _ (list_or_none_filled HasRequiredNames why.Required file.required required_filled (get_member (codes "required") ms)) (λ places two.
    takes (All HasServiceNames) HasNames (file.services (get_member (codes "services") ms)) _ (services_filled (get_member (codes "services") ms)) (λ ties three.
    (one, two, three)))))

-- the settings that the value of a rules file gives
pub settings_named : (r : Result Settings RulesError) (d : values.Data)
    → Gives (λ s. s) file.rules_fault r (file.settings d) → IfOk r HasNames
settings_named (Ok s) d is = IfOk-at_ok HasNames is (settings_filled d)
settings_named (Err e) d is = tt
