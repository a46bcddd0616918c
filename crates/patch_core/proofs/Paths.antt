-- Edits of what paths lead to.
use Rattle.std.specs.Prelude.{◌≡◌, ℕ, suc, ◌<◌, ◌≤◌, ◌-◌, List, [], ◌∷◌, length, Option, Some, None, Ok, Err}
use Rattle.std.proofs.Common.{refl, sym, ap, ◌∙◌, get_or, drop, take, arith}
use Rattle.std.proofs.Math.Seq.{take-length}
use Rattle.conf_doc.specs.Document.{Document}
use Rattle.host_core.specs.Answers.{FailsAs}
use Rattle.patch_core.specs.Apply.{below, edit_parent, target, with_below}
use Rattle.patch_core.specs.Edits.{after_edit, edit_below}
use Rattle.patch_core.specs.declared.errors.FailWhy.{FailWhy}
use Rattle.patch_core.specs.declared.errors.FailWhy.TheVariants.{NoParent}
use Rattle.patch_core.specs.declared.node_edits.Edit.{Edit}
use Rattle.patch_core.specs.declared.node_edits.Edit.TheVariants.{Add, Remove, Replace}

pub after_is_edit : (edit : Edit) (token : List ℕ) (rest : List (List ℕ)) (d : Document) → edit_parent (edit_below edit) token rest d ≡ after_edit edit (token ∷ rest) d
after_is_edit (Add t) token rest d = refl
after_is_edit Remove token rest d = refl
after_is_edit (Replace t) token rest d = refl

all_but_first : (first : List ℕ) (rest : List (List ℕ)) → take (length (first ∷ rest) - 1) rest ≡ rest
all_but_first first rest = let n : length (first ∷ rest) - 1 ≡ length rest = omega arith in ap (λ (k : ℕ). take k rest) n ∙ take-length rest

pub edit_is_after : (edit : Edit) (path : List (List ℕ)) (token : List ℕ) (d : Document) → 1 ≤ length path → token ≡ get_or path 0 token → edit_parent (edit_below edit) token (take (length path - 1) (drop 1 path)) d ≡ after_edit edit path d
edit_is_after edit [] token d some is = absurd (omega arith)
edit_is_after edit (first ∷ rest) token d some is =
    ap (λ (t : List ℕ). edit_parent (edit_below edit) t (take (length (first ∷ rest) - 1) rest) d) is ∙ ap (λ (ts : List (List ℕ)). edit_parent (edit_below edit) first ts d) (all_but_first first rest) ∙ after_is_edit edit first rest d

pub one_fewer : (ts : List (List ℕ)) → 1 ≤ length ts → suc (length ts) ≡ suc (suc (length (take (length ts - 1) (drop 1 ts))))
one_fewer [] some = absurd (omega arith)
one_fewer (first ∷ rest) some = omega (arith, ap length (all_but_first first rest))

-- ---- one token, and then the rest

-- the tokens behind the first
abbrev pub behind_first : List (List ℕ) → List (List ℕ)
behind_first ts = take (length ts - 1) (drop 1 ts)

pub first_and_rest : (next : List ℕ) (ts : List (List ℕ)) → 1 ≤ length ts → next ≡ get_or ts 0 next → ts ≡ next ∷ behind_first ts
first_and_rest next [] some is = absurd (omega arith)
first_and_rest next (first ∷ rest) some is = ap (λ (t : List ℕ). t ∷ rest) (sym is) ∙ ap (λ (us : List (List ℕ)). next ∷ us) (sym (all_but_first first rest))

pub no_tokens : (ts : List (List ℕ)) → length ts < 1 → ts ≡ []
no_tokens [] none = refl
no_tokens (first ∷ rest) none = absurd (omega arith)

pub edit_goes_on : (edit : Edit) (token next : List ℕ) (rest ts : List (List ℕ)) (d child new out : Document) → ts ≡ next ∷ rest → below NoParent token d ≡ Ok child → edit_parent (edit_below edit) next rest child ≡ Ok new → out ≡ with_below token new d → edit_parent (edit_below edit) token ts d ≡ Ok out
edit_goes_on edit token next rest ts d child new out are there under is = rw (are, there, under, is) refl

pub edit_stops : (edit : Edit) (token next : List ℕ) (rest ts : List (List ℕ)) (d child : Document) (fault : Option FailWhy) → ts ≡ next ∷ rest → below NoParent token d ≡ Ok child → FailsAs fault (edit_parent (edit_below edit) next rest child) → FailsAs fault (edit_parent (edit_below edit) token ts d)
edit_stops edit token next rest ts d child None are there fails = tt
edit_stops edit token next rest ts d child (Some why) are there fails = rw (are, there, fails) refl

pub edit_misses : (edit : Edit) (token next : List ℕ) (rest ts : List (List ℕ)) (d : Document) (why : FailWhy) → ts ≡ next ∷ rest → below NoParent token d ≡ Err why → edit_parent (edit_below edit) token ts d ≡ Err why
edit_misses edit token next rest ts d why are missing = rw (are, missing) refl

pub target_goes_on : (token next : List ℕ) (rest ts : List (List ℕ)) (d child : Document) → ts ≡ next ∷ rest → below NoParent token d ≡ Ok child → target (next ∷ rest) child ≡ target (token ∷ ts) d
target_goes_on token next rest ts d child are there = rw (are, there) refl
