use Rattle.std.proofs.Common.{◌≡◌, ℕ, ◌+◌, ◌≤◌, ◌<◌, ◌∙◌, sym, ap, subst, length, arith, ◌||◌, IsTrue, ◌↔◌, List}
use Rattle.std.proofs.lemmas.Bool.{false≢true}
use Rattle.std.proofs.lemmas.List.{get_or_read}
use Rattle.yang_pattern.specs.declared.fragments.Place.{Place}
use Rattle.yang_pattern.specs.declared.walks.Reached.{Reached}
use Rattle.yang_pattern.specs.PlaceSets.{contains, place_at, nowhere}
use Rattle.yang_pattern.specs.Machine.{machine_of, From}
use Rattle.yang_pattern.specs.Symbols.{reads_token}
use Rattle.yang_pattern.proofs.Walking.{visited_none, visited_in, visited_out, Visited}
use Rattle.yang_pattern.proofs.walks.step.Goals as goal
use Rattle.yang_pattern.proofs.walks.step.Goals.{then-contains+then-reads_token, else-contains, else-contains-via-then-contains+else-reads_token, else-contains-via-else-contains}

pub loop-number-preserved : goal.loop-number-preserved
loop-number-preserved c =
    let f = c.args.fragment.now in
    let r = reads_token c.args.tokens.now in
    let m = machine_of r f in
    let i = c.loop-number.number in
    let d = c.args.c in
    let old = c.loop-number.reached in
    let next = contains c.args.next.now in
    let items_are : c.deref-place-items.result.now ≡ f.places.items = c.deref-place-items.ensures.value in
    let item : c.place-item.result ≡ place_at f.places.items i =
    get_or_read c.deref-place-items.result.now i c.place-item.result c.loop-number-test.true c.place-item.is nowhere ∙ ap (λ xs. place_at xs i) items_are in
    let unread : r (place_at f.places.items i).token d ≡ r c.place-item.result.token d = ap (λ (x : Place). r x.token d) (sym item) in
    elim c.if-contains.branch [
      | then-contains+then-reads_token w ↦
          let here : IsTrue (next i) = sym c.contains.ensures ∙ w.if-contains.true in
          let read : IsTrue (r (place_at f.places.items i).token d) = unread ∙ (sym w.reads_token.ensures ∙ w.if-reads_token.true) in
          let small : length f.places.items ≤ 1024 = f.small in
          let new_is : (q : ℕ) → q < length f.places.items → contains w.insert_all.new.self q ≡ (contains old.next q || contains (place_at f.places.items i).follow q) =
          λ q h. w.insert_all.ensures q (omega arith) ∙ ap (λ (x : Place). contains old.next q || contains x.follow q) item in
          λ u.
          let more = visited_in m next (contains old.next) old.ended d i c.loop-number.invariant (contains w.insert_all.new.self) new_is here read u in
          let P : Reached → Type 0 = λ x. From m (contains x.next) x.ended u ↔ Visited m next d (i + 1) u in
          subst P (sym w.reached-is)
          (subst (λ (x : Place). From m (contains w.insert_all.new.self) (old.ended || x.last) u ↔ Visited m next d (i + 1) u) (sym item) more)
      | else-contains w ↦
          let unseen : IsTrue (next i) → IsTrue (r (place_at f.places.items i).token d) → ⊥ = elim w.else-contains.branch [
            | else-contains-via-then-contains+else-reads_token v ↦ λ here read. false≢true (sym v.if-reads_token.false ∙ (v.reads_token.ensures ∙ (sym unread ∙ read)))
            | else-contains-via-else-contains v ↦ λ here read. false≢true (sym v.if-contains.false ∙ (c.contains.ensures ∙ here))
          ] in
          λ u.
          let P : Reached → Type 0 = λ x. From m (contains x.next) x.ended u ↔ Visited m next d (i + 1) u in
          subst P (sym w.reached-is) (visited_out m next (contains old.next) old.ended d i c.loop-number.invariant unseen u)
    ]

pub loop-number-init : goal.loop-number-init
loop-number-init c =
    visited_none (machine_of (reads_token c.args.tokens.now) c.args.fragment.now) (contains c.args.next.now) (contains c.new.result) c.args.c c.new.ensures

pub returns : goal.returns
returns c =
    let f = c.args.fragment.now in
    let m = machine_of (reads_token c.args.tokens.now) f in
    let reached = c.loop-number.reached in
    let items_are : c.deref-place-items.result.now ≡ f.places.items = c.deref-place-items.ensures.value in
    let end : c.loop-number.number ≡ length f.places.items = omega (arith, ap (λ (xs : List Place). length xs) items_are) in
    subst (λ n. (u : List ℕ) → From m (contains reached.next) reached.ended u ↔ Visited m (contains c.args.next.now) c.args.c n u) end c.loop-number.invariant
