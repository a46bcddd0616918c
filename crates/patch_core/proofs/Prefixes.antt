-- Paths that lead into others.
use Rattle.std.specs.Prelude.{◌≡◌, ℕ, nat_lt, List, [], length}
use Rattle.std.proofs.Common.{sym, ap, ◌∙◌, drop, arith, inl, inr}
use Rattle.std.proofs.lemmas.List.{drop_more, drop_all}
use Rattle.std.proofs.lemmas.Bool.{cases_lt, lt-ltb, le-ltb}
use Rattle.patch_core.specs.Apply.{leads_into}

-- nothing leads into what is not empty
pub none_leads : (n : ℕ) (path : List (List ℕ)) → leads_into [] (drop n path) ≡ nat_lt n (length path)
none_leads n path =
    elim (cases_lt n (length path)) [
      | inl lt ↦ ap (leads_into []) (drop_more path n [] lt) ∙ sym (lt-ltb n (length path) lt)
      | inr le ↦ ap (leads_into []) (drop_all n path le) ∙ sym (le-ltb n (length path) le)
    ]

pub leads_at_end : (from path : List (List ℕ)) (i : ℕ) → i ≡ length from → leads_into (drop i from) (drop i path) ≡ leads_into from path → nat_lt (length from) (length path) ≡ leads_into from path
leads_at_end from path i is e =
    sym (ap (λ (n : ℕ). nat_lt n (length path)) is) ∙ sym (none_leads i path) ∙ ap (λ (xs : List (List ℕ)). leads_into xs (drop i path)) (sym (drop_all i from (omega arith))) ∙ e
