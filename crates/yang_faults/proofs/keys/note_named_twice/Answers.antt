use Rattle.std.proofs.Common.{get_or, ◌≡◌, ℕ, ◌+◌, [], ◌∷◌, ◌++◌, List, map, take, take_all, ap, sym, subst, ◌∙◌, Bor}
use Rattle.std.proofs.lemmas.List.{map-append}
use Rattle.yang_scope.specs.Faults.{least_of}
use Rattle.yang_faults.specs.Duplicates.{Given}
use Rattle.yang_faults.specs.Keys.{name_in_key, named_twice}
use Rattle.yang_scope.specs.Pieces.{texts}
use Rattle.yang_faults.specs.NameSets.{NotesGiven}
use Rattle.yang_faults.proofs.NameSequences.{NotesGiven-none, NotesGiven-append}
use Rattle.yang_faults.proofs.Steps.{map-one_more, get_or-self, no_text}
use Rattle.yang_faults.proofs.keys.note_named_twice.Goals as goal

pub loop-name-init : goal.loop-name-init
loop-name-init c = NotesGiven-none c.args.least.now c.new-set.result

pub loop-name-preserved : goal.loop-name-preserved
loop-name-preserved c =
    let ns = c.args.names.now in
    let i = c.loop-name.name-index in
    let n = get_or ns i no_text in
    let give = name_in_key c.args.file c.args.line in
    let now : Bor (List ℕ) → List ℕ = λ x. x.now in
    let grows : map give (texts (take (i + 1) ns)) ≡ map give (texts (take i ns)) ++ give n.now ∷ [] =
    ap (map give) (map-one_more ns i n c.loop-name-test.true (get_or-self ns i no_text c.loop-name-test.true) now) ∙ map-append give (texts (take i ns)) (n.now ∷ []) in
    let P : List Given → Type 0 = λ gs. NotesGiven c.args.least.now c.note_key_name.new.least c.new-set.result c.note_key_name.new.set gs in
    subst P (sym grows)
    (NotesGiven-append c.args.least.now c.loop-name.least c.note_key_name.new.least c.new-set.result c.loop-name.set c.note_key_name.new.set (map give (texts (take i ns))) (give n.now ∷ [])
    c.loop-name.invariant c.in_ok-note_key_name.ensures)

pub returns : goal.returns
returns c =
    (c.loop-name.invariant [] c.new-set.ensures).0
    ∙ ap (λ (ns : List (Bor (List ℕ))). least_of c.args.least.now (named_twice c.args.file c.args.line (texts ns))) (take_all c.loop-name.name-index c.args.names.now c.loop-name-test.false)
