-- How what is found of the file of a change under way makes what a command finds behind it.
use Rattle.std.proofs.Common.{ℕ, Global, List, Option, Some, None, Result, Ok, Err, IfErr, Vec, option_map}
use Rattle.host_core.specs.Answers.{Gives}
use Rattle.host_core.specs.State.{State}
use Rattle.conf_doc.specs.Trees.{document}
use Rattle.conf_doc.specs.Configuration.{tree}
use Rattle.conf_doc.specs.declared.trees.Tree.{Tree}
use Rattle.gcu_output.specs.declared.outcomes.Outcome.{Outcome}
use Rattle.gcu_inputs.specs.Asking.{Asking, follows, ◌>>>◌}
use Rattle.gcu_inputs.specs.IntentAsked.{intent_asked, uninterrupted}
use Rattle.gcu_inputs.specs.Preparing.{Finds, RefusesAlways, refusal}
use Rattle.gcu_requests.specs.Asked.{patching_asked}
use Rattle.gcu_requests.specs.Trees.{patched_document, preview_document}
use Rattle.gcu_inputs.proofs.Finding.{first_refused, found_always, then_found}
use Rattle.gcu_requests.proofs.TreeFinding.{found_through}

abbrev self : {X : Type 0} → X → X
self x = x

-- the bytes of a file that was found
abbrev pub items_in : Option (Vec ℕ Global) → Option (List ℕ)
items_in = option_map (λ (b : Vec ℕ Global). b.items)

-- ---- the file

module _ {X Y : Type 0} (view : X → Y) (o : Option State) where
  -- it can't be read
  pub no_intent : (e : Outcome) (next : State → Option (List ℕ) → Asking Y)
      → Finds {X = Option (Vec ℕ Global)} o items_in (Err e) intent_asked
      → Finds {X = X} o view (Err e) (λ s. intent_asked s >>> next s)
  no_intent e next h = by o h
    where
      by : (p : Option State) → Finds {X = Option (Vec ℕ Global)} p items_in (Err e) intent_asked
          → Finds {X = X} p view (Err e) (λ s. intent_asked s >>> next s)
      by None h = tt
      by (Some s) h = first_refused items_in view e (intent_asked s) (next s) h

  -- what follows from its bytes
  pub intent_found : (found : Option (Vec ℕ Global)) (r : Result X Outcome)
      (answer : Option (List ℕ) → Result Y Outcome)
      → Finds o items_in (Ok found) intent_asked → Gives view refusal r (answer (items_in found))
      → IfErr r RefusesAlways
      → Finds o view r (λ s. intent_asked s >>> λ f. follows (answer f))
  intent_found found r answer h gives always = by o h
    where
      by : (p : Option State) → Finds p items_in (Ok found) intent_asked
          → Finds p view r (λ s. intent_asked s >>> λ f. follows (answer f))
      by None h = tt
      by (Some s) h =
          then_found items_in view found r (intent_asked s) _ h
          (found_always view r (answer (items_in found)) _ (λ q same. same) gives always)

-- ---- behind the gate

module _ {X Y : Type 0} (view : X → Y) (o : Option State) (gate : State → Asking (Unit {0}))
    (next : State → Asking Y) where
  -- it is closed
  pub gate_closed : (e : Outcome) → Finds {X = Unit {0}} o self (Err e) gate
      → Finds {X = X} o view (Err e) (λ s. gate s >>> λ u. next s)
  gate_closed e h = by o h
    where
      by : (p : Option State) → Finds {X = Unit {0}} p self (Err e) gate
          → Finds {X = X} p view (Err e) (λ s. gate s >>> λ u. next s)
      by None h = tt
      by (Some s) h = first_refused self view e (gate s) _ h

  -- it is open
  pub gate_open : (r : Result X Outcome) → Finds {X = Unit {0}} o self (Ok tt) gate → Finds o view r next
      → Finds o view r (λ s. gate s >>> λ u. next s)
  gate_open r h f = by o h f
    where
      by : (p : Option State) → Finds {X = Unit {0}} p self (Ok tt) gate → Finds p view r next
          → Finds p view r (λ s. gate s >>> λ u. next s)
      by None h f = tt
      by (Some s) h f = then_found self view tt r (gate s) _ h f

-- ---- the preview

pub preview_closed : (o : Option State) (path : List ℕ) (e : Outcome)
    → Finds {X = Unit {0}} o self (Err e) uninterrupted
    → Finds {X = Tree} o document (Err e) (preview_document path)
preview_closed None path e h = tt
preview_closed (Some s) path e h =
    found_through tree document (Err e) (uninterrupted s) (λ u. patching_asked path s)
    (first_refused self document e (uninterrupted s) _ h)

pub preview_open : (o : Option State) (path : List ℕ) (r : Result Tree Outcome)
    → Finds {X = Unit {0}} o self (Ok tt) uninterrupted
    → Finds o document r (patched_document path) → Finds o document r (preview_document path)
preview_open None path r h f = tt
preview_open (Some s) path r h f =
    found_through tree document r (uninterrupted s) (λ u. patching_asked path s)
    (then_found self document tt r (uninterrupted s) _ h f)
