use Rattle.std.proofs.Common.{◌≡◌, ◌∙◌, ◌++◌, ◌+◌, List, [], ◌∷◌, map, take, inl, inr, sym, ap, subst}
use Rattle.std.specs.Prelude.{Contains}
use Rattle.std.proofs.lemmas.List.{map-append}
use Rattle.std.proofs.lemmas.List.Elements.{Contains-push_cases}
use Rattle.yang_scope.specs.Paths.{Placed}
use Rattle.yang_values.specs.Endless.{known_of, place_of, HasTaste}
use Rattle.yang_values.specs.TypeValues.{type_within}
use Rattle.yang_values.specs.Walks.{placed}
use Rattle.yang_values.specs.declared.endless.Known.{Known}
use Rattle.yang_values.specs.declared.endless.Taste.{Taste}
use Rattle.yang_values.proofs.ReachableTypes.{mapped_more}
use Rattle.yang_values.proofs.KnownTypes.{unchanged}
use Rattle.yang_values.proofs.endless.next_round.Goals as goal

pub loop-entry-preserved : goal.loop-entry-preserved
loop-entry-preserved c =
    let inv = c.loop-entry.invariant in
    let all : List Known = c.args.known.now in
    let i = c.loop-entry.entry-index in
    let w : Known = c.entry-item.result in
    let taste : Taste = c.in_ok-taste.taste in
    let old : List Known = c.loop-entry.more.items in
    let new : Known = record { place = w.place; taste = taste } in
    let pushed : c.push.new.self.items ≡ old ++ new ∷ [] = c.in_ok-push.ensures.items in
    let more : map known_of c.push.new.self.items ≡ map known_of old ++ known_of new ∷ [] = ap (map known_of) pushed ∙ map-append known_of old (new ∷ []) in
    record {
      places =
          ap (map place_of) pushed
          ∙ map-append place_of old (new ∷ [])
          ∙ ap (λ ps. ps ++ place_of new ∷ []) inv.places
          ∙ sym (mapped_more place_of all i w c.loop-entry-test.true c.entry-item.is);
      same = λ kept.
          let still = unchanged c.loop-entry.changed c.is_same_taste-same.result kept in
          let is : taste ≡ w.taste = c.is_same_taste-same.ensures still.1 in
          more
          ∙ ap (λ ks. ks ++ known_of new ∷ []) (inv.same still.0)
          ∙ ap (λ (t : Taste). map known_of (take i all) ++ (placed w.place, t) ∷ []) is
          ∙ sym (mapped_more known_of all i w c.loop-entry-test.true c.entry-item.is);
      right = λ is_pattern decides most right p t there.
          elim (Contains-push_cases (map known_of old) (known_of new) (p, t) (subst (λ (ks : List (Placed × Taste)). Contains ks (p, t)) more there)) [
            | inl m ↦ inv.right is_pattern decides most right p t m
            | inr e ↦
                subst (λ (r : Placed × Taste). HasTaste c.args.text.now (type_within is_pattern c.args.names.now (most + 1) r.0) r.1) e
                (c.in_ok-taste.ensures is_pattern decides most right)
          ];
    }
