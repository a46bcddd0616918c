-- The elements of a patch, read in order.
use Rattle.std.proofs.Common.{◌≡◌, ◌∷◌, ◌++◌, ℕ, zero, suc, ◌+◌, ◌<◌, List, [], length, get_or, take, map, Option, Result, Ok, Err, Some, None, refl, sym, ap, ◌∙◌, arith}
use Rattle.std.specs.List.{enumerate_from}
use Rattle.host_core.specs.Answers.{FailsAs, both}
use Rattle.serde_json.specs.Data.{Data}
use Rattle.serde_json.specs.View.{view, items_view}
use Rattle.serde_json.specs.declared.value.Value.{Value}
use Rattle.conf_doc.specs.Reading.{json_answer}
use Rattle.conf_doc.specs.declared.errors.ReadError.{ReadError}
use Rattle.patch_core.specs.Operation.{Operation}
use Rattle.patch_core.specs.Elements.{element}
use Rattle.patch_core.specs.Reading.{at, operations_from, or_bad_json, patch_fault}
use Rattle.patch_core.specs.declared.errors.PatchError.{PatchError}
use Rattle.patch_core.specs.declared.errors.PatchError.TheVariants.{BadJson, BadPatch, Memory}

abbrev pub read_at : ℕ × Value → Result Operation PatchError
read_at e = at e.0 (element (view e.1))

-- `operations_from`, of elements with their indices
abbrev pub all_read : List (ℕ × Value) → Result (List Operation) PatchError
all_read [] = Ok []
all_read (e ∷ es) = both (λ op ops. op ∷ ops) (read_at e) (all_read es)

pub all_read-enumerate : (i : ℕ) (vs : List Value) → all_read (enumerate_from i vs) ≡ operations_from i (items_view vs)
all_read-enumerate i [] = refl
all_read-enumerate i (v ∷ vs) = ap (both (λ op ops. op ∷ ops) (read_at (i, v))) (all_read-enumerate (i + 1) vs)

first_and_rest : (first : Result Operation PatchError) (rest : Result (List Operation) PatchError) (ops : List Operation) → both (λ op ops. op ∷ ops) first rest ≡ Ok ops
    → (op : Operation) × (more : List Operation) × (first ≡ Ok op) × (rest ≡ Ok more) × (ops ≡ op ∷ more)
first_and_rest (Ok op) (Ok more) ops h = (op, more, refl, refl, cc)
first_and_rest (Ok op) (Err e) ops h = absurd (cc)
first_and_rest (Err e) rest ops h = absurd (cc)

-- one more
pub all_read-push : (es : List (ℕ × Value)) (e : ℕ × Value) (ops : List Operation) (op : Operation) → all_read es ≡ Ok ops → read_at e ≡ Ok op → all_read (es ++ e ∷ []) ≡ Ok (ops ++ op ∷ [])
all_read-push [] e ops op so_far here =
    let none : ops ≡ [] = cc in
    rw (here, none)
all_read-push (first ∷ es) e ops op so_far here =
    let parts = first_and_rest (read_at first) (all_read es) ops so_far in
    ap (both (λ op ops. op ∷ ops) (read_at first)) (all_read-push es e parts.1 op parts.3 here)
    ∙ ap (λ r. both (λ op ops. op ∷ ops) r (Ok (parts.1 ++ op ∷ []))) parts.2 ∙ ap (λ os. Ok (os ++ op ∷ [])) (sym parts.4)

-- the first fault
all_read-fault : (es : List (ℕ × Value)) (n : ℕ) (e : ℕ × Value) (ops : List Operation) (fault : PatchError) → n < length es → e ≡ get_or es n e → all_read (take n es) ≡ Ok ops → read_at e ≡ Err fault → all_read es ≡ Err fault
all_read-fault [] n e ops fault below here before fails = absurd (omega arith)
all_read-fault (first ∷ es) zero e ops fault below here before fails = ap (λ r. both (λ op ops. op ∷ ops) r (all_read es)) (ap read_at (sym here) ∙ fails)
all_read-fault (first ∷ es) (suc n) e ops fault below here before fails =
    let parts = first_and_rest (read_at first) (all_read (take n es)) ops before in
    ap (both (λ op ops. op ∷ ops) (read_at first)) (all_read-fault es n e parts.1 fault (omega arith) here parts.3 fails)
    ∙ ap (λ r. both (λ op ops. op ∷ ops) r (Err fault)) parts.2

pub fails_first : (fault : PatchError) (es : List (ℕ × Value)) (n : ℕ) (e : ℕ × Value) (ops : List Operation) → n < length es → e ≡ get_or es n e → all_read (take n es) ≡ Ok ops
    → FailsAs (patch_fault fault) (read_at e) → FailsAs (patch_fault fault) (all_read es)
fails_first BadJson es n e ops below here before fails = all_read-fault es n e ops BadJson below here before fails
fails_first (BadPatch i why) es n e ops below here before fails = all_read-fault es n e ops (BadPatch i why) below here before fails
fails_first Memory es n e ops below here before fails = tt

-- ---- the JSON value of bytes

pub value_there : (o : Option Data) (d : Data) → json_answer o ≡ Ok d → or_bad_json o ≡ Ok d
value_there None d is = absurd (cc)
value_there (Some e) d is = cc

pub value_none : (o : Option Data) (e : ReadError) → json_answer o ≡ Err e → or_bad_json o ≡ Err BadJson
value_none None e is = refl
value_none (Some d) e is = absurd (cc)

-- ---- a walk over the elements

pairs_same : (es : List (ℕ × Value)) → map (λ p. (p.0, p.1)) es ≡ es
pairs_same [] = refl
pairs_same (e ∷ es) = ap (λ xs. e ∷ xs) (pairs_same es)

pub all_read-pairs : (es all : List (ℕ × Value)) → map (λ p. (p.0, p.1)) es ≡ all → all_read all ≡ all_read es
all_read-pairs es all is = ap all_read (sym is ∙ pairs_same es)
