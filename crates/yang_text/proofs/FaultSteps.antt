-- One token and its fault.
use Rattle.std.proofs.Common.{◌≡◌, ◌≤◌, ◌+◌, ℕ, List, [], ◌∷◌, Option, option_to_list, sym, ap, ◌∙◌, arith}
use Rattle.std.specs.Prelude.{fold}
use Rattle.std.proofs.lemmas.List.Sums.{fold-append}
use Rattle.yang_text.specs.declared.lexing.Token.{Token}
use Rattle.yang_text.specs.declared.faults.Class.{Class}
use Rattle.yang_text.specs.declared.faults.Class.TheVariants.{Name, Plus, Sum, Text, Quote, Semicolon, Open, Close, Bad}
use Rattle.yang_text.specs.declared.faults.Fault.{Fault}
use Rattle.yang_text.specs.declared.faults.Phase.{Phase}
use Rattle.yang_text.specs.Faults.{lower_of, faults_from, fault_at, refusal, phase_after, depth_after, class_of}

pub least_more : (text : List ℕ) (phase : Phase) (depth : ℕ) (t : Token) (ts rest : List Token) (best : Option Fault) → ts ≡ t ∷ rest
    → fold lower_of (fold lower_of best (option_to_list (fault_at t.line (refusal phase depth (class_of text t))))) (faults_from text (phase_after phase (class_of text t)) (depth_after depth (class_of text t)) rest)
    ≡ fold lower_of best (faults_from text phase depth ts)
unfolding faults_from
least_more text phase depth t ts rest best e =
    sym (fold-append lower_of best (option_to_list (fault_at t.line (refusal phase depth (class_of text t)))) (faults_from text (phase_after phase (class_of text t)) (depth_after depth (class_of text t)) rest))
    ∙ ap (λ us. fold lower_of best (faults_from text phase depth us)) (sym e)

-- the same with the names that the reader gives its values
pub least_step : (text : List ℕ) (phase next : Phase) (depth deeper : ℕ) (t : Token) (ts rest : List Token) (class : Class) (best lower whole : Option Fault)
    → ts ≡ t ∷ rest → class ≡ class_of text t → next ≡ phase_after phase class → deeper ≡ depth_after depth class
    → lower ≡ fold lower_of best (option_to_list (fault_at t.line (refusal phase depth class)))
    → fold lower_of best (faults_from text phase depth ts) ≡ whole → fold lower_of lower (faults_from text next deeper rest) ≡ whole
least_step text phase next depth deeper t ts rest class best lower whole split here turns grows told so_far =
    ap (λ f. fold lower_of f (faults_from text next deeper rest)) told
    ∙ ap (λ p. fold lower_of (fold lower_of best (option_to_list (fault_at t.line (refusal phase depth class)))) (faults_from text p deeper rest)) turns
    ∙ ap (λ d. fold lower_of (fold lower_of best (option_to_list (fault_at t.line (refusal phase depth class)))) (faults_from text (phase_after phase class) d rest)) grows
    ∙ ap (λ k. fold lower_of (fold lower_of best (option_to_list (fault_at t.line (refusal phase depth k)))) (faults_from text (phase_after phase k) (depth_after depth k) rest)) here
    ∙ least_more text phase depth t ts rest best split
    ∙ so_far

pub least_end : (text : List ℕ) (phase : Phase) (depth : ℕ) (ts : List Token) (best : Option Fault) → ts ≡ [] → fold lower_of best (faults_from text phase depth ts) ≡ best
unfolding faults_from
least_end text phase depth ts best e = ap (λ us. fold lower_of best (faults_from text phase depth us)) e

pub depth_grows : (depth : ℕ) (class : Class) → depth_after depth class ≤ depth + 1
depth_grows depth Open = omega arith
depth_grows depth Close = omega arith
depth_grows depth Name = omega arith
depth_grows depth Plus = omega arith
depth_grows depth Sum = omega arith
depth_grows depth Text = omega arith
depth_grows depth Quote = omega arith
depth_grows depth Semicolon = omega arith
depth_grows depth Bad = omega arith
