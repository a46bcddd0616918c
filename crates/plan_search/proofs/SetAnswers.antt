-- What a set answers where `==` finds equal what is the same.
use Rattle.std.proofs.Common.{◌≡◌, ◌⊎◌, inl, inr, Bool, true, false, ◌||◌, MatchBool, not, if◌then◌else◌, List, [], ◌∷◌, ◌++◌, refl, sym, ap, subst, ◌∙◌, true≢false}
use Rattle.std.specs.Bool.{Decides}
use Rattle.std.specs.List.{Contains, list_any}
use Rattle.indexmap.specs.IndexSet.{insert_key}
use Rattle.indexmap.proofs.CallerLemmas.{Contains-list_any}
use Rattle.plan_search.proofs.Members.{no_member, member_cases}

-- where the test decides sameness, so does a search by it
module _ {A : Type 0} (E : A → A → Bool) (decides : (x y : A) → Decides (E x y) (x ≡ y)) where
  or_true : (b : Bool) → (b || true) ≡ true
  or_true true = refl
  or_true false = refl

  found : (ks : List A) (x : A) → Contains ks x → list_any (E x) ks ≡ true
  found [] x h = absurd (no_member x h)
  found (k ∷ ks) x h = by (found ks x) (member_cases k ks x h)
    where
      by : (Contains ks x → list_any (E x) ks ≡ true) → (k ≡ x) ⊎ Contains ks x → list_any (E x) (k ∷ ks) ≡ true
      by rest (inl e) = ap (λ b. b || list_any (E x) ks) ((decides x k).1 (sym e))
      by rest (inr r) = ap (λ b. E x k || b) (rest r) ∙ or_true (E x k)

  -- what adding an item says and does
  pub added : (ks now new : List A) (x : A) (is_new : Bool) → ks ≡ now
      → is_new ≡ not (list_any (E x) ks) → new ≡ insert_key E ks x
      → MatchBool is_new (¬ Contains now x × (new ≡ now ++ x ∷ [])) (Contains now x × (new ≡ now))
  added ks now new x is_new view said keys = by (list_any (E x) now) refl
    where
      told : (b : Bool) → list_any (E x) now ≡ b → is_new ≡ not b
      told b e = said ∙ ap (λ l. not (list_any (E x) l)) view ∙ ap not e

      made : (b : Bool) → list_any (E x) now ≡ b → new ≡ (if b then now else now ++ x ∷ [])
      made b e = keys ∙ ap (λ l. insert_key E l x) view ∙ ap (λ c. if c then now else now ++ x ∷ []) e

      by : (b : Bool) → list_any (E x) now ≡ b
          → MatchBool is_new (¬ Contains now x × (new ≡ now ++ x ∷ [])) (Contains now x × (new ≡ now))
      by true e =
          subst (λ b. MatchBool b (¬ Contains now x × (new ≡ now ++ x ∷ [])) (Contains now x × (new ≡ now)))
          (sym (told true e))
          (Contains-list_any E (λ y z same. (decides y z).0 same) now x e, made true e)
      by false e =
          subst (λ b. MatchBool b (¬ Contains now x × (new ≡ now ++ x ∷ [])) (Contains now x × (new ≡ now)))
          (sym (told false e))
          (λ h. true≢false (sym (found now x h) ∙ e), made false e)
