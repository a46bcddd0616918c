-- Operations that tell by themselves that they leave a configuration one do so.
use Rattle.std.proofs.Common.{◌≡◌, ℕ, zero, suc, ◌+◌, true, false, Bool, cond, List, [], ◌∷◌, Result, Ok, Err, refl, sym, ap, ◌∙◌}
use Rattle.std.proofs.lemmas.Bool.{and_parts}
use Rattle.std.specs.List.{list_all}
use Rattle.host_core.specs.Answers.{◌>>=◌}
use Rattle.conf_doc.specs.Document.{Document}
use Rattle.patch_core.specs.Apply.{NodeEdit, apply_plain, below, edit_parent, edit_there, in_order, result_of, target, with_below, with_new, without_below}
use Rattle.patch_core.specs.Operation.{Operation, Tokens, add, remove, replace, move_to, copy_to, test}
use Rattle.patch_core.specs.Same.{same}
use Rattle.patch_core.specs.declared.errors.ApplyError.{ApplyError}
use Rattle.patch_core.specs.declared.errors.ApplyError.TheVariants.{Failed}
use Rattle.patch_core.specs.declared.errors.FailWhy.{FailWhy}
use Rattle.patch_core.specs.declared.errors.FailWhy.TheVariants.{NoParent, NoTarget, TestFailed}
use Rattle.conf_store.specs.Shapes.{fits_at, is_config, keeps_shape}
use Rattle.conf_store.proofs.Levels.{level_below, level_new, level_with, level_without, may_name, shape_at}

-- the level of the node that all tokens but the last lead to, and the last
abbrev level_of : ℕ → Tokens → ℕ
level_of k [] = k
level_of k (t ∷ rest) = level_of (suc k) rest

abbrev last_of : List ℕ → Tokens → List ℕ
last_of token [] = token
last_of token (t ∷ rest) = last_of t rest

-- an edit that keeps what stands at a level
abbrev Keeps : ℕ → List ℕ → NodeEdit → Type 0
Keeps k token f = (node after : Document) → shape_at k node ≡ true → f token node ≡ Ok after → shape_at k after ≡ true

edit_keeps : (f : NodeEdit) (k : ℕ) (token : List ℕ) (rest : Tokens) (d left : Document) → Keeps (level_of k rest) (last_of token rest) f
    → shape_at k d ≡ true → edit_parent f token rest d ≡ Ok left → shape_at k left ≡ true
edit_keeps f k token [] d left keeps is e = keeps d left is e
edit_keeps f k token (next ∷ rest) d left keeps is e = by (below NoParent token d) refl e (λ child new here. edit_keeps f (suc k) next rest child new keeps here)
  where
    again : (child : Document) → below NoParent token d ≡ Ok child → (r : Result Document FailWhy) → edit_parent f next rest child ≡ r
        → (r >>= λ new. Ok (with_below token new d)) ≡ Ok left
        → ((child new : Document) → shape_at (suc k) child ≡ true → edit_parent f next rest child ≡ Ok new → shape_at (suc k) new ≡ true) → shape_at k left ≡ true
    again child found (Err why) edited e deeper = absurd cc
    again child found (Ok new) edited e deeper =
        let here = level_below k NoParent token d child is found in
        let put : with_below token new d ≡ left = cc in
        ap (shape_at k) (sym put) ∙ level_with k token new d is here.0 (deeper child new here.1 edited)

    by : (r : Result Document FailWhy) → below NoParent token d ≡ r
        → (r >>= λ child. edit_parent f next rest child >>= λ new. Ok (with_below token new d)) ≡ Ok left
        → ((child new : Document) → shape_at (suc k) child ≡ true → edit_parent f next rest child ≡ Ok new → shape_at (suc k) new ≡ true) → shape_at k left ≡ true
    by (Err why) found e deeper = absurd cc
    by (Ok child) found e deeper = again child found (edit_parent f next rest child) refl e deeper

-- ---- the edits

add_keeps : (k : ℕ) (token : List ℕ) (v : Document) → may_name k token ≡ true → shape_at (suc k) v ≡ true → Keeps k token (λ last node. with_new last v node)
add_keeps k token v name fits node after is e = level_new k token v node after is name fits e

there_keeps : (f : List ℕ → Document → Document) (k : ℕ) (token : List ℕ)
    → ((node child : Document) → shape_at k node ≡ true → below NoTarget token node ≡ Ok child → shape_at k (f token node) ≡ true) → Keeps k token (edit_there f)
there_keeps f k token keeps node after is e = by (below NoTarget token node) refl e
  where
    by : (r : Result Document FailWhy) → below NoTarget token node ≡ r → (r >>= λ _. Ok (f token node)) ≡ Ok after → shape_at k after ≡ true
    by (Err why) found e = absurd cc
    by (Ok child) found e = let same : f token node ≡ after = cc in ap (shape_at k) (sym same) ∙ keeps node child is found

replace_keeps : (k : ℕ) (token : List ℕ) (v : Document) → shape_at (suc k) v ≡ true → Keeps k token (edit_there (λ last node. with_below last v node))
replace_keeps k token v fits =
    there_keeps (λ last node. with_below last v node) k token
    (λ node child is found. level_with k token v node is (level_below k NoTarget token node child is found).0 fits)

remove_keeps : (k : ℕ) (token : List ℕ) → Keeps k token (edit_there without_below)
remove_keeps k token = there_keeps without_below k token (λ node child is found. level_without k token node is)

-- ---- operations

-- what fits at the end of a path fits below the node there
fits_below : (token : List ℕ) (rest : Tokens) (v : Document) → fits_at (token ∷ rest) v ≡ true
    → (may_name (level_of zero rest) (last_of token rest) ≡ true) × (shape_at (suc (level_of zero rest)) v ≡ true)
fits_below t [] v fits = and_parts _ _ fits
fits_below t (k ∷ []) v fits = and_parts _ _ fits
fits_below t (k ∷ f ∷ []) v fits = and_parts _ _ fits
fits_below t (k ∷ f ∷ i ∷ []) v fits = (refl, fits)
fits_below t (k ∷ f ∷ i ∷ j ∷ more) v fits = absurd cc

pub keeps : (op : Operation) (d left : Document) → is_config d ≡ true → keeps_shape op ≡ true → result_of op d ≡ Ok left → is_config left ≡ true
keeps (add [] v) d left is fits e = let same : v ≡ left = cc in ap is_config (sym same) ∙ fits
keeps (add (token ∷ rest) v) d left is fits e =
    let below = fits_below token rest v fits in
    edit_keeps (λ last node. with_new last v node) zero token rest d left (add_keeps (level_of zero rest) (last_of token rest) v below.0 below.1) is e
keeps (remove []) d left is fits e = absurd cc
keeps (remove (token ∷ rest)) d left is fits e =
    edit_keeps (edit_there without_below) zero token rest d left (remove_keeps (level_of zero rest) (last_of token rest)) is e
keeps (replace [] v) d left is fits e = let same : v ≡ left = cc in ap is_config (sym same) ∙ fits
keeps (replace (token ∷ rest) v) d left is fits e =
    let below = fits_below token rest v fits in
    edit_keeps (edit_there (λ last node. with_below last v node)) zero token rest d left (replace_keeps (level_of zero rest) (last_of token rest) v below.1) is e
keeps (move_to from path) d left is fits e = absurd cc
keeps (copy_to from path) d left is fits e = absurd cc
keeps (test path v) d left is fits e = by (target path d) e
  where
    told : (b : Bool) → cond b (Ok d) (Err TestFailed) ≡ Ok left → is_config left ≡ true
    told true e = let same : d ≡ left = cc in ap is_config (sym same) ∙ is
    told false e = absurd cc

    by : (r : Result Document FailWhy) → (r >>= λ w. cond (same v w) (Ok d) (Err TestFailed)) ≡ Ok left → is_config left ≡ true
    by (Err why) e = absurd cc
    by (Ok w) e = told (same v w) e

all_keep : (i : ℕ) (ops : List Operation) (d left : Document) → is_config d ≡ true → list_all keeps_shape ops ≡ true
    → in_order result_of i ops d ≡ Ok left → is_config left ≡ true
all_keep i [] d left is all e = let same : d ≡ left = cc in ap is_config (sym same) ∙ is
all_keep i (op ∷ ops) d left is all e = by (result_of op d) refl e (λ next fits. all_keep (i + 1) ops next left fits (and_parts _ _ all).1)
  where
    failed : Result Document FailWhy → Result Document ApplyError
    failed (Ok d) = Ok d
    failed (Err why) = Err (Failed i why)

    by : (r : Result Document FailWhy) → result_of op d ≡ r → (failed r >>= in_order result_of (i + 1) ops) ≡ Ok left
        → ((next : Document) → is_config next ≡ true → in_order result_of (i + 1) ops next ≡ Ok left → is_config left ≡ true) → is_config left ≡ true
    by (Err why) at e behind = absurd cc
    by (Ok next) at e behind = behind next (keeps op d next is (and_parts _ _ all).0 at) e

-- a patch of such operations does so too
pub patch_keeps : (ops : List Operation) (d left : Document) → is_config d ≡ true → list_all keeps_shape ops ≡ true → apply_plain ops d ≡ Ok left → is_config left ≡ true
patch_keeps = all_keep 0
