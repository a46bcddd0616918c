-- The steps of a plan made ready: each leads from one configuration of the plan to the next.
use Rattle.std.proofs.Common.{◌≡◌, ◌<◌, ◌≤◌, ◌⊎◌, inl, inr, ⊎_elim, ℕ, zero, suc, ◌+◌, List, [], ◌∷◌, ◌++◌, length, map, get_or, take, Some, option_map, Result, Ok, Err, refl, sym, ap, ◌∙◌, subst, arith}
use Rattle.std.specs.Prelude.{IfOk, Vec, slice_get}
use Rattle.std.specs.declared.alloc.Global.{Global}
use Rattle.std.proofs.lemmas.List.{map_more}
use Rattle.std.proofs.lemmas.Option.{slice_get-map}
use Rattle.host_core.specs.Answers.{◌>>=◌}
use Rattle.conf_doc.specs.Configuration.{entry_tree, mapping, part_tree, table_tree, tree, value_tree}
use Rattle.conf_doc.specs.Document.{Document, text, depth, items_depth, items_of, members_depth, members_of}
use Rattle.conf_doc.specs.WellFormed.{IsConfig}
use Rattle.conf_doc.specs.declared.configuration.Config.{Config}
use Rattle.conf_doc.specs.declared.configuration.Entry.{Entry}
use Rattle.conf_doc.specs.declared.configuration.Table.{Table}
use Rattle.conf_doc.specs.declared.configuration.Value.{Value}
use Rattle.conf_doc.specs.declared.configuration.Value.TheVariants.{Text, List as Listed}
use Rattle.conf_doc.specs.declared.parts.Part.{Part}
use Rattle.conf_doc.specs.declared.parts.Part.TheVariants as part
use Rattle.conf_doc.proofs.RoundTrip.{config_back}
use Rattle.patch_core.specs.Apply.{apply_plain, result_of}
use Rattle.patch_core.specs.Operation.{Operation}
use Rattle.patch_core.specs.Reading.{patch}
use Rattle.patch_core.specs.Writing.{most_value_levels, patch_file, value_depth}
use Rattle.patch_core.specs.declared.errors.ApplyError.{ApplyError}
use Rattle.patch_core.specs.declared.errors.ApplyError.TheVariants.{Failed}
use Rattle.patch_core.specs.declared.errors.FailWhy.{FailWhy}
use Rattle.conf_store.specs.Files.{step_name}
use Rattle.conf_store.specs.Steps.{IsStep}
use Rattle.move_core.specs.Moves.{IsDefined, step}
use Rattle.move_core.specs.Operations.{op}
use Rattle.move_core.specs.Plans.{conf}
use Rattle.move_core.specs.declared.moves.Move.{Move}
use Rattle.move_core.specs.declared.moves.Move.TheVariants.{Add, Remove, Replace, AddItem, RemoveItem}
use Rattle.move_core.proofs.OperationResults.{plainly}
use Rattle.move_core.specs.declared.settings.ServiceTie.{ServiceTie}
use Rattle.move_core.specs.declared.settings.Settings.{Settings}
use Rattle.change_apply.specs.Change.{AreDefined, name_at, restart_of, step_text}
use Rattle.change_apply.specs.Stages.{first_steps}
use Rattle.change_apply.specs.Work.{AreReady, IsReadyStep}
use Rattle.change_apply.specs.declared.ready.ReadyStep.{ReadyStep}
use Rattle.change_apply.specs.declared.ready.Restart.{Restart}
use Rattle.change_apply.proofs.DueSteps.{get_from_slice}
use Rattle.change_apply.proofs.StepFiles.{conf_start}

-- ---- a move's value nests four levels deep at most

texts_flat : (ts : List (List ℕ)) → items_depth (items_of (map text ts)) ≤ 0
texts_flat [] = omega arith
texts_flat (t ∷ ts) = omega (arith, texts_flat ts)

value_low : (v : Value) → depth (value_tree v) ≤ 1
value_low (Text t) = omega arith
value_low (Listed ts) = omega (arith, texts_flat ts)

each_low : {A : Type 0} (f : A → Document) (n : ℕ) → ((a : A) → depth (f a) ≤ n) → (ps : List (List ℕ × A)) → members_depth (members_of (map (λ p. (p.0, f p.1)) ps)) ≤ n
each_low f n low [] = omega arith
each_low f n low (p ∷ ps) = omega (arith, low p.1, each_low f n low ps)

mapping_low : {A : Type 0} (f : A → Document) (n : ℕ) → ((a : A) → depth (f a) ≤ n) → (ps : List (List ℕ × A)) → depth (mapping f ps) ≤ suc n
mapping_low f n low ps = omega (arith, each_low f n low ps)

entry_low : (e : Entry) → depth (entry_tree e) ≤ 2
entry_low e = mapping_low value_tree 1 value_low e

table_low : (t : Table) → depth (table_tree t) ≤ 3
table_low t = mapping_low entry_tree 2 entry_low t

part_low : (p : Part) → depth (part_tree p) ≤ 3
part_low (part.Table t) = table_low t
part_low (part.Entry e) = omega (arith, entry_low e)
part_low (part.Value v) = omega (arith, value_low v)

pub move_low : (m : Move) → value_depth (op m) ≤ most_value_levels
move_low (Add path p) = omega (arith, part_low p)
move_low (Remove path) = omega arith
move_low (Replace path p) = omega (arith, part_low p)
move_low (AddItem path i item) = omega arith
move_low (RemoveItem path i) = omega arith

-- ---- a step and its move

-- what a patch of one operation makes is what the operation makes
alone : (o : Operation) (d new : Document) → apply_plain (o ∷ []) d ≡ Ok new → result_of o d ≡ Ok new
alone o d new e = by (result_of o d) e
  where
    failed : Result Document FailWhy → Result Document ApplyError
    failed (Ok d) = Ok d
    failed (Err why) = Err (Failed 0 why)

    by : (r : Result Document FailWhy) → (failed r >>= λ d. Ok d) ≡ Ok new → r ≡ Ok new
    by (Ok d) e = let same : d ≡ new = cc in ap (λ (x : Document). Ok x) same
    by (Err why) e = absurd cc

pub is_step : (c : Config) (m : Move) → IsDefined c m → IsConfig (step c m) → patch (step_text m) ≡ Ok (op m ∷ []) → IsStep (step_text m) c (step c m)
is_step c m defined formed reads = record {
  op = op m;
  holds = reads;
  left = tree (step c m);
  leads = alone (op m) (tree c) (tree (step c m)) (plainly c m defined);
  shaped = config_back (step c m) formed;
}

-- ---- a plan

pub defined_at : (c : Config) (ms : List Move) (k : ℕ) (m : Move) → AreDefined c ms → slice_get ms k ≡ Some m → IsConfig (conf c ms k) → IsDefined (conf c ms k) m
defined_at c [] zero m all is = absurd cc
defined_at c [] (suc k) m all is = absurd cc
defined_at c (n ∷ ms) zero m all is = let same : n ≡ m = cc in λ formed. subst (IsDefined c) same (all.0 formed)
defined_at c (n ∷ ms) (suc k) m all is = defined_at (step c n) ms k m all.1 is

pub conf_next : (c : Config) (ms : List Move) (k : ℕ) (m : Move) → slice_get ms k ≡ Some m → conf c ms (suc k) ≡ step (conf c ms k) m
conf_next c [] zero m is = absurd cc
conf_next c [] (suc k) m is = absurd cc
conf_next c (n ∷ ms) zero m is = let same : n ≡ m = cc in conf_start (step c n) ms ∙ ap (step c) same
conf_next c (n ∷ ms) (suc k) m is = conf_next (step c n) ms k m is

-- ---- one step more is ready

last_or_before : {A : Type 0} (xs : List A) (y : A) (i : ℕ) (x : A) → slice_get (xs ++ y ∷ []) i ≡ Some x → (slice_get xs i ≡ Some x) ⊎ ((i ≡ length xs) × (y ≡ x))
last_or_before [] y zero x e = inr (refl, cc)
last_or_before [] y (suc i) x e = absurd cc
last_or_before (z ∷ xs) y zero x e = inl e
last_or_before (z ∷ xs) y (suc i) x e =
    ⊎_elim (λ there. inl there) (λ here. inr (omega (arith, here.0), here.1)) (last_or_before xs y i x e)

pub ready_none : (start : Config) (moves : List Move) → AreReady start moves []
ready_none start moves zero s e = absurd cc
ready_none start moves (suc k) s e = absurd cc

pub ready_more : (start : Config) (moves : List Move) (steps : List ReadyStep) (s : ReadyStep) (k : ℕ) → length steps ≡ k → AreReady start moves steps
    → slice_get moves k ≡ Some s.mv → IsDefined (conf start moves k) s.mv → IsConfig (step (conf start moves k) s.mv) → IsReadyStep k s → AreReady start moves (steps ++ s ∷ [])
ready_more start moves steps s k long so_far is defined formed ready i x e =
    ⊎_elim (so_far i x)
    (λ here.
    let at : i ≡ k = here.0 ∙ long in
    subst (λ y. IsReadyStep i y × IsStep (step_text y.mv) (conf start moves i) (conf start moves (suc i))) here.1
    (subst (λ j. IsReadyStep j s × IsStep (step_text s.mv) (conf start moves j) (conf start moves (suc j))) (sym at)
    (ready, subst (IsStep (step_text s.mv) (conf start moves k)) (sym (conf_next start moves k s.mv is)) (is_step (conf start moves k) s.mv defined formed ready.reads))))
    (last_or_before steps s i x e)

-- ---- what is gathered step by step

one_up : (k : ℕ) → suc k ≡ k + 1
one_up k = omega arith

taken : {A : Type 0} (xs : List A) (k : ℕ) (x : A) → slice_get xs k ≡ Some x → take k xs ++ x ∷ [] ≡ take (suc k) xs
taken [] zero x e = absurd cc
taken [] (suc k) x e = absurd cc
taken (y ∷ xs) zero x e = let same : y ≡ x = cc in ap (λ z. z ∷ []) (sym same)
taken (y ∷ xs) (suc k) x e = ap (λ l. y ∷ l) (taken xs k x e)

pub take_next : {A : Type 0} (xs : List A) (k : ℕ) (x : A) → slice_get xs k ≡ Some x → take k xs ++ x ∷ [] ≡ take (k + 1) xs
take_next xs k x e = taken xs k x e ∙ ap (λ (n : ℕ). take n xs) (one_up k)

map_append : {A B : Type 0} (f : A → B) (xs ys : List A) → map f (xs ++ ys) ≡ map f xs ++ map f ys
map_append f [] ys = refl
map_append f (x ∷ xs) ys = ap (λ l. f x ∷ l) (map_append f xs ys)

pub push_more : {A B : Type 0} (f : A → B) (xs : List A) (x : A) (ys : List B) (k : ℕ) (y : B) → slice_get ys k ≡ Some y → f x ≡ y → map f xs ≡ take k ys
    → map f (xs ++ x ∷ []) ≡ take (k + 1) ys
push_more f xs x ys k y is same so_far =
    map_append f xs (x ∷ []) ∙ ap (λ l. l ++ f x ∷ []) so_far ∙ ap (λ z. take k ys ++ z ∷ []) same ∙ take_next ys k y is

pub first_more : (k : ℕ) (name : List ℕ) → name ≡ step_name (k + 1) → (names : List (List ℕ)) → names ≡ first_steps k → names ++ name ∷ [] ≡ first_steps (k + 1)
first_more k name is names so_far =
    ap (λ (l : List (List ℕ)). l ++ name ∷ []) so_far ∙ ap (λ (n : List ℕ). first_steps k ++ n ∷ []) (is ∙ sym (ap step_name (one_up k))) ∙ ap first_steps (one_up k)

-- ---- restarts

pub named_at : (settings : Settings) (j : ℕ) (tie : ServiceTie) → slice_get settings.services j ≡ Some tie → name_at settings j ≡ tie.name
named_at settings j tie e =
    get_from_slice (map (λ t. t.name) settings.services) j tie.name [] (slice_get-map (λ (t : ServiceTie). t.name) settings.services j ∙ ap (option_map (λ (t : ServiceTie). t.name)) e)

pub restart_is : (settings : Settings) (r : Restart) (j : ℕ) → r.service ≡ j → r.name ≡ name_at settings j → r ≡ restart_of settings j
restart_is settings r j e n = λ i. record { service = e i; name = n i }

pub restart_more : (settings : Settings) (services : List ℕ) (i d : ℕ) → i < length services → (tie : ServiceTie) → slice_get settings.services (get_or services i d) ≡ Some tie
    → (name : List ℕ) → name ≡ tie.name → (restarts : List Restart) → restarts ≡ map (restart_of settings) (take i services)
    → restarts ++ record { service = get_or services i d; name = name } ∷ [] ≡ map (restart_of settings) (take (i + 1) services)
restart_more settings services i d low tie at name is restarts so_far =
    ap (λ (l : List Restart). l ++ record { service = get_or services i d; name = name } ∷ []) so_far
    ∙ ap (λ (n : List ℕ). map (restart_of settings) (take i services) ++ record { service = get_or services i d; name = n } ∷ []) (is ∙ sym (named_at settings (get_or services i d) tie at))
    ∙ sym (map_more (restart_of settings) services i d low)

-- ---- the file of a step

pub reads_of : {E : Type 0} (m : Move) (o : Operation) → o ≡ op m → (r : Result (Vec ℕ Global) E) → IfOk r (λ b. b.items ≡ patch_file (o ∷ []))
    → IfOk r (λ b. value_depth o ≤ most_value_levels → patch b.items ≡ Ok (o ∷ [])) → IfOk r (λ b. patch (step_text m) ≡ Ok (op m ∷ []))
reads_of m o e (Err x) is reads = tt
reads_of m o e (Ok b) is reads =
    subst (λ x. patch (patch_file (x ∷ [])) ≡ Ok (x ∷ [])) e
    (ap patch (sym is) ∙ reads (subst (λ x. value_depth x ≤ most_value_levels) (sym e) (move_low m)))

pub get_to_slice : {A : Type 0} (xs : List A) (k : ℕ) (x : A) → k < length xs → x ≡ get_or xs k x → slice_get xs k ≡ Some x
get_to_slice [] k x low e = absurd (omega (arith, low))
get_to_slice (y ∷ xs) zero x low e = ap (λ z. Some z) (sym e)
get_to_slice (y ∷ xs) (suc k) x low e = get_to_slice xs k x (omega (arith, low)) e
