-- The operations of a patch and its fault, element by element.
use Rattle.std.specs.Prelude.{◌≡◌, ℕ, zero, suc, ◌+◌, List, [], ◌∷◌, Option, Some, None, IsSome, Result, Ok, Err}
use Rattle.std.proofs.Common.{refl, sym, ap, ◌∙◌, subst, arith}
use Rattle.host_core.specs.Answers.{both}
use Rattle.serde_json.specs.Data.{Data, Items, no_items, item}
use Rattle.patch_core.specs.Elements.{first_fault, operation, or_fault}
use Rattle.patch_core.specs.Operation.{Operation}
use Rattle.patch_core.specs.Reading.{AreOperations, IsFirstFault, at, operations_from}
use Rattle.patch_core.specs.declared.errors.PatchWhy.{PatchWhy}
use Rattle.patch_core.specs.declared.errors.PatchError.{PatchError}
use Rattle.patch_core.specs.declared.errors.PatchError.TheVariants.{BadPatch}

-- what an element and the rest come to
abbrev joined : ℕ → PatchWhy → Option Operation → Result (List Operation) PatchError → Result (List Operation) PatchError
joined i why o rest = both (λ op ops. op ∷ ops) (at i (or_fault why o)) rest

-- ---- operations

first_there : (i : ℕ) (d : Data) (ds : Items) (ops : List Operation) (o : Option Operation) (rest : Result (List Operation) PatchError)
    → operation d ≡ o → ((more : List Operation) → rest ≡ Ok more → AreOperations ds more)
    → joined i (first_fault d) o rest ≡ Ok ops → AreOperations (item d ds) ops
first_there i d ds ops None rest here behind is = absurd (cc)
first_there i d ds ops (Some op) (Err e) here behind is = absurd (cc)
first_there i d ds ops (Some op) (Ok more) here behind is =
    let same : op ∷ more ≡ ops = cc in
    subst (λ (os : List Operation). AreOperations (item d ds) os) same (here, behind more refl)

pub operations_there : (i : ℕ) (ds : Items) (ops : List Operation) → operations_from i ds ≡ Ok ops → AreOperations ds ops
operations_there i no_items [] is = tt
operations_there i no_items (op ∷ ops) is = absurd (cc)
operations_there i (item d ds) ops is = first_there i d ds ops _ _ refl (λ more. operations_there (i + 1) ds more) is

pub operations_are : (i : ℕ) (ds : Items) (ops : List Operation) → AreOperations ds ops → operations_from i ds ≡ Ok ops
operations_are i no_items [] are = refl
operations_are i no_items (op ∷ ops) are = absurd are
operations_are i (item d ds) [] are = absurd are
operations_are i (item d ds) (op ∷ ops) are =
    ap (λ (o : Option Operation). joined i (first_fault d) o (operations_from (i + 1) ds)) are.0
    ∙ ap (joined i (first_fault d) (Some op)) (operations_are (i + 1) ds ops are.1)

-- ---- the first fault

-- it stands at j, counted from i
pub record FaultsAt (i : ℕ) (ds : Items) (j : ℕ) (why : PatchWhy) : Type 0 where
  pub before : ℕ
  pub counts : j ≡ i + before
  pub first : IsFirstFault ds before why

one_more : (i : ℕ) (d : Data) (ds : Items) (j : ℕ) (why : PatchWhy) (op : Operation) → operation d ≡ Some op → FaultsAt (i + 1) ds j why → FaultsAt i (item d ds) j why
one_more i d ds j why op here rest = record {
  before = suc rest.before;
  counts = omega (arith, rest.counts);
  first = (subst (λ (o : Option Operation). IsSome o) (sym here) refl, rest.first);
}

fault_here : (i : ℕ) (d : Data) (ds : Items) (j : ℕ) (why : PatchWhy) (o : Option Operation) (rest : Result (List Operation) PatchError)
    → operation d ≡ o → ((e : PatchError) → rest ≡ Err e → e ≡ BadPatch j why → FaultsAt (i + 1) ds j why)
    → joined i (first_fault d) o rest ≡ Err (BadPatch j why) → FaultsAt i (item d ds) j why
fault_here i d ds j why None rest here behind is =
    let index : i ≡ j = cc in
    let fault : first_fault d ≡ why = cc in
    record { before = zero; counts = omega arith; first = (here, fault) }
fault_here i d ds j why (Some op) (Ok more) here behind is = absurd (cc)
fault_here i d ds j why (Some op) (Err e) here behind is =
    let same : e ≡ BadPatch j why = cc in
    one_more i d ds j why op here (behind e refl same)

pub fault_there : (i : ℕ) (ds : Items) (j : ℕ) (why : PatchWhy) → operations_from i ds ≡ Err (BadPatch j why) → FaultsAt i ds j why
fault_there i no_items j why is = absurd (cc)
fault_there i (item d ds) j why is = fault_here i d ds j why _ _ refl (λ e at_rest same. fault_there (i + 1) ds j why (at_rest ∙ ap Err same)) is

some_there : (o : Option Operation) → IsSome o → (op : Operation) × (o ≡ Some op)
some_there None some = absurd (cc)
some_there (Some op) some = (op, refl)

pub fault_is : (i : ℕ) (ds : Items) (k : ℕ) (why : PatchWhy) → IsFirstFault ds k why → operations_from i ds ≡ Err (BadPatch (i + k) why)
fault_is i no_items k why first = absurd first
fault_is i (item d ds) zero why first =
    let index : i ≡ i + 0 = omega arith in
    ap (λ (o : Option Operation). joined i (first_fault d) o (operations_from (i + 1) ds)) first.0
    ∙ ap (λ (w : PatchWhy). Err (BadPatch i w)) first.1 ∙ ap (λ (n : ℕ). Err (BadPatch n why)) index
fault_is i (item d ds) (suc k) why first =
    let op = some_there (operation d) first.0 in
    let index : i + 1 + k ≡ i + suc k = omega arith in
    ap (λ (o : Option Operation). joined i (first_fault d) o (operations_from (i + 1) ds)) op.1
    ∙ ap (joined i (first_fault d) (Some op.0)) (fault_is (i + 1) ds k why first.1)
    ∙ ap (λ (n : ℕ). Err (BadPatch n why)) index
