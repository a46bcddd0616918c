-- That words have one right answer: they name one scope, or none, or are a change of several.
use Rattle.std.proofs.Common.{◌≡◌, ◌<◌, inl, inr, ℕ, List, [], ◌∷◌, ◌++◌, Bool, true, false, ◌&&◌, codes, decimal, if◌then◌else◌, Option, Some, None, refl, sym, ap, ◌∙◌, subst, arith}
use Rattle.std.proofs.lemmas.Fmt.{decimal_injective}
use Rattle.host_core.specs.State.{State, settled, with_pending}
use Rattle.scopes.specs.Scopes.{most_asics, scope_name}
use Rattle.scopes.specs.Views.{seen}
use Rattle.scopes.specs.declared.scope.Scope.{Scope}
use Rattle.scopes.specs.declared.scope.Scope.TheVariants.{Asic}
use Rattle.gcu_words.specs.Options.{options}
use Rattle.gcu_words.specs.ScopeForm.{Cut, IsScoped, cut_scope}
use Rattle.gcu_words.specs.ScopesForm.{ScopesForm, scopes_form, scopes_given}
use Rattle.gcu_words.specs.Words.{is_positional, is_word}
use Rattle.gcu_requests.specs.Asked.{asked}
use Rattle.gcu_requests.specs.OneAnswer.{AskedIsOne}
use Rattle.command_answers.specs.ScopeTexts.{plan_scopes_asked}
use Rattle.scope_commands.specs.OneAnswer.{PlansOfScopesAreOne}
use Rattle.gcu_engine.specs.OneAnswer.{RightAnswersAreOne}
use Rattle.gcu_engine.proofs.CommandWords.{first_true, same_word}
use Rattle.gcu_engine.proofs.Scoping.{is_there}

-- ---- one scope

numbers_same : (m n : ℕ) → m < most_asics → n < most_asics → scope_name (Asic m) ≡ scope_name (Asic n) → m ≡ n
numbers_same m n less small names =
    let begin : codes "asic" ++ decimal m ≡ codes "asic" ++ decimal n = names in
    let digits : decimal m ≡ decimal n = cc in
    decimal_injective m n (omega (arith, less)) (omega (arith, small)) digits

same_found : {A : Type 0} (a b : A) (o : Option A) → o ≡ Some a → o ≡ Some b → a ≡ b
same_found a b o is are = cc

-- the option is cut from the words in one way
same_cut : (words : List (List ℕ)) (scope other : Scope) (plain also : List (List ℕ)) → IsScoped words scope plain
    → IsScoped words other also
    → (scope_name scope ≡ scope_name other) × (plain ≡ also)
same_cut words scope other plain also h k =
    let cuts = same_found {A = Cut} (scope_name scope, plain) (scope_name other, also) (cut_scope words) h.cut k.cut in
    (ap (λ (x : Cut). x.0) cuts, ap (λ (x : Cut). x.1) cuts)

same_scope : (words : List (List ℕ)) (scope other : Scope) (plain also : List (List ℕ)) → IsScoped words scope plain
    → IsScoped words other also → scope ≡ other
same_scope words scope other plain also h k =
    let cut = same_cut words scope other plain also h k in
    let names : scope_name (Asic h.number) ≡ scope_name (Asic k.number) = sym (ap scope_name h.is) ∙ cut.0
    ∙ ap scope_name k.is in
    h.is ∙ ap Asic (numbers_same h.number k.number h.is_there k.is_there names) ∙ sym k.is

-- ---- a change of several scopes names none by the option

no_cut : (path : List ℕ) (ws : List (List ℕ)) → cut_scope (codes "apply-scopes" ∷ path ∷ ws) ≡ None
no_cut path [] = refl
no_cut path (a ∷ []) = refl
no_cut path (a ∷ b ∷ []) = refl
no_cut path (a ∷ b ∷ c ∷ []) = refl
no_cut path (a ∷ b ∷ c ∷ d ∷ ws) = refl

change_has_no_cut : (words : List (List ℕ)) (change : ScopesForm) → scopes_form words ≡ Some change
    → cut_scope words ≡ None
change_has_no_cut [] change is = refl
change_has_no_cut (command ∷ []) change is = refl
change_has_no_cut (command ∷ path ∷ ws) change is =
    by (is_word command (codes "apply-scopes") && is_positional path) refl is
  where
    by : (b : Bool) → (is_word command (codes "apply-scopes") && is_positional path) ≡ b
        → (if b then scopes_given path (options ws) else None) ≡ Some change
        → cut_scope (command ∷ path ∷ ws) ≡ None
    by true e given =
        let first : command ≡ codes "apply-scopes" = same_word command (codes "apply-scopes")
        (first_true _ (is_positional path) e) in
        subst (λ (word : List ℕ). cut_scope (word ∷ path ∷ ws) ≡ None) (sym first) (no_cut path ws)
    by false e given = absurd cc

one_or_several : (words : List (List ℕ)) (scope : Scope) (plain : List (List ℕ)) (change : ScopesForm)
    → IsScoped words scope plain → scopes_form words ≡ Some change → ⊥
one_or_several words scope plain change h is =
    is_there {A = Cut} (cut_scope words) (scope_name scope, plain) (sym h.cut) (change_has_no_cut words change is)

-- ---- all words

pub right_one : AskedIsOne → PlansOfScopesAreOne → RightAnswersAreOne
right_one one plans words s r q (inl h) (inl k) = (one words s).same r q h.1 k.1
right_one one plans words s r q (inl h) (inr (inl (scope, plain, is, given))) = absurd (h.0.0 scope plain is)
right_one one plans words s r q (inl h) (inr (inr (change, is, given))) =
    absurd (is_there (scopes_form words) change (sym is) h.0.1)
right_one one plans words s r q (inr (inl (scope, plain, is, given))) (inl k) = absurd (k.0.0 scope plain is)
right_one one plans words s r q (inr (inl (scope, plain, is, given))) (inr (inl (other, also, are, too))) =
    let cut = same_cut words scope other plain also is are in
    let there : (asked plain (seen other (with_pending settled s))).Gives r =
    subst (λ (x : Scope). (asked plain (seen x (with_pending settled s))).Gives r)
    (same_scope words scope other plain also is are) given in
    (one also (seen other (with_pending settled s))).same r q
    (subst (λ (ws : List (List ℕ)). (asked ws (seen other (with_pending settled s))).Gives r) cut.1 there) too
right_one one plans words s r q (inr (inl (scope, plain, is, given))) (inr (inr (change, are, too))) =
    absurd (one_or_several words scope plain change is are)
right_one one plans words s r q (inr (inr (change, is, given))) (inl k) =
    absurd (is_there (scopes_form words) change (sym is) k.0.1)
right_one one plans words s r q (inr (inr (change, is, given))) (inr (inl (scope, plain, are, too))) =
    absurd (one_or_several words scope plain change are is)
right_one one plans words s r q (inr (inr (change, is, given))) (inr (inr (other, are, too))) =
    (plans other.path other.budget (with_pending settled s)).same r q
    (subst (λ (c : ScopesForm). (plan_scopes_asked c.path c.budget (with_pending settled s)).Gives r)
    (same_found change other (scopes_form words) is are) given) too
