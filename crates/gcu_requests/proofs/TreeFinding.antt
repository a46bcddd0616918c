-- How what is found as documents makes what a preview finds.
use Rattle.std.proofs.Common.{◌≡◌, inl, inr, ℕ, List, refl, sym, ap, subst, Option, Some, None, Result, Ok, Err, IfErr}
use Rattle.host_core.specs.Answers.{Gives}
use Rattle.host_core.specs.State.{State}
use Rattle.conf_doc.specs.Configuration.{tree}
use Rattle.conf_doc.specs.Document.{Document}
use Rattle.conf_doc.specs.Trees.{document}
use Rattle.conf_doc.specs.declared.configuration.Config.{Config}
use Rattle.conf_doc.specs.declared.trees.Tree.{Tree}
use Rattle.patch_core.specs.Operation.{operations}
use Rattle.patch_core.specs.declared.patches.Patch.{Patch}
use Rattle.gcu_output.specs.declared.outcomes.Outcome.{Outcome}
use Rattle.gcu_output.specs.declared.outcomes.Outcome.TheVariants.{InputFault, DiskFault}
use Rattle.gcu_inputs.specs.PatchAsked.{patch_asked, target}
use Rattle.gcu_inputs.specs.StoredAsked.{stored_asked}
use Rattle.gcu_inputs.specs.Asking.{Asking, follows, ◌>>>◌}
use Rattle.gcu_inputs.specs.Preparing.{FailsIn, Finds, Found, IsGiven, RefusesAlways, StandsIn, refusal}
use Rattle.gcu_requests.specs.Trees.{patched_document, stored_document, target_document, through}
use Rattle.gcu_inputs.proofs.Finding.{first_refused, found_always, then_found}

-- ---- from tree to tree

fails_through : {X Y Z : Type 0} (f : Y → Z) (o : Option Outcome) (first : Asking X) (next : X → Asking Y)
    → FailsIn o (first >>> λ x. through f (next x)) → FailsIn o (through f (first >>> next))
fails_through f None first next h = tt
fails_through f (Some e) first next (inl h) = (Err e, inl h, refl)
fails_through f (Some e) first next (inr (x, is, h)) = (h.0, inr (x, is, h.1), h.2)

stands_through : {X Y Z : Type 0} (f : Y → Z) (e : Outcome) (first : Asking X) (next : X → Asking Y)
    → StandsIn (first >>> λ x. through f (next x)) e → StandsIn (through f (first >>> next)) e
stands_through f InputFault first next h = h
stands_through f (DiskFault step) first next h = h
stands_through f other first next h = tt

-- what is found of the first answer and then of what f makes of the second is found of both
pub found_through : {X Y Z W : Type 0} (f : Y → Z) (view : W → Z) (r : Result W Outcome) (first : Asking X)
    (next : X → Asking Y)
    → Found view r (first >>> λ x. through f (next x)) → Found view r (through f (first >>> next))
found_through f view (Ok w) first next h = by h.gives
  where
    by : IsGiven view (Ok w) (first >>> λ x. through f (next x)) → Found view (Ok w) (through f (first >>> next))
    by (inl never) = absurd never
    by (inr (x, is, g)) = record { gives = (g.0, inr (x, is, g.1), g.2); stands = tt }
found_through f view (Err e) first next h = record {
  gives = fails_through f (refusal e) first next h.gives;
  stands = stands_through f e first next h.stands;
}

-- a document that was found is that of a configuration that is given
pub tree_given : (asking : Asking Config) (d : Document) → (through tree asking).Gives (Ok d)
    → (c : Config) × asking.Gives (Ok c) × (tree c ≡ d)
tree_given asking d (Ok c, h, is) = let same : tree c ≡ d = cc in (c, h, same)
tree_given asking d (Err e, h, is) = absurd cc

-- what f makes of the value doesn't tell of a refusal
pub fails_before : {X Y : Type 0} (f : X → Y) (o : Option Outcome) (asking : Asking X) → FailsIn o (through f asking)
    → FailsIn o asking
fails_before f None asking h = tt
fails_before f (Some e) asking (Ok x, h, is) = absurd cc
fails_before {X = X} f (Some e) asking (Err x, h, is) =
    let same : x ≡ e = cc in subst (λ y. asking.Gives (Err y)) same h

-- ---- the preview

stored_stands : (s : State) (e : Outcome) → StandsIn (stored_document s) e → StandsIn (stored_asked s) e
stored_stands s InputFault h = h
stored_stands s (DiskFault step) h = h
stored_stands s other h = tt

-- nothing is found where the folder stands for no configuration
pub no_stored : (o : Option State) (path : List ℕ) (e : Outcome)
    → Finds {X = Tree} o document (Err e) stored_document → Finds {X = Tree} o document (Err e) (patched_document path)
no_stored None path e h = tt
no_stored (Some s) path e h =
    found_through tree document (Err e) (stored_asked s) _
    (first_refused (λ c. c) document e (stored_asked s) _
    (record { gives = fails_before tree (refusal e) (stored_asked s) h.gives; stands = stored_stands s e h.stands }))

-- what is found at the stored configuration
behind_stored : {W : Type 0} (s : State) (start : Tree) (view : W → Document) (r : Result W Outcome)
    (next : Config → Asking Config)
    → Found document (Ok start) (stored_document s)
    → ((c : Config) → tree c ≡ document start → Found view r (through tree (next c)))
    → Found view r (through tree (stored_asked s >>> next))
behind_stored s start view r next h then =
    let given = tree_given (stored_asked s) (document start) h.gives in
    found_through tree view r (stored_asked s) next
    (then_found (λ c. c) view given.0 r (stored_asked s) _ (record { gives = given.1; stands = tt })
    (then given.0 given.2))

-- nothing is found where there is no patch
pub no_patch : (o : Option State) (path : List ℕ) (start : Tree) (e : Outcome)
    → Finds o document (Ok start) stored_document → Finds o operations (Err e) (patch_asked path)
    → Finds {X = Tree} o document (Err e) (patched_document path)
no_patch None path start e h f = tt
no_patch (Some s) path start e h f =
    behind_stored s start document (Err e) _ h (λ c same.
    found_through tree document (Err e) (patch_asked path s) _
    (first_refused operations document e (patch_asked path s) _ f))

-- the target is what is found where there are a configuration and a patch
pub target_found : (o : Option State) (path : List ℕ) (start : Tree) (patch : Patch) (r : Result Tree Outcome)
    → Finds o document (Ok start) stored_document → Finds o operations (Ok patch) (patch_asked path)
    → Gives document refusal r (target_document (operations patch) (document start)) → IfErr r RefusesAlways
    → Finds o document r (patched_document path)
target_found None path start patch r h f gives always = tt
target_found (Some s) path start patch r h f gives always =
    behind_stored s start document r _ h (λ c same.
    found_through tree document r (patch_asked path s) _
    (then_found operations document patch r (patch_asked path s) _ f
    (found_always document r _ (through tree (follows (target (operations patch) c))) (λ q is. (_, refl, is))
    (subst (Gives document refusal r) (ap (λ d. target_document (operations patch) d) (sym same)) gives) always)))
