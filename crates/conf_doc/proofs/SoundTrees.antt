-- Sound documents, a part at a time.
use Rattle.std.proofs.Common.{◌≡◌, ℕ, List, [], ◌∷◌, ◌++◌, map, IsUtf8, sym, subst}
use Rattle.conf_doc.specs.Document.{Document, items_of, members_of, object}
use Rattle.conf_doc.specs.Pairs.{IsRising}
use Rattle.conf_doc.specs.Sound.{IsSound, AreSoundItems, AreSoundMembers}
use Rattle.conf_doc.proofs.Equalities.{pairs-members_of}

module _ {A : Type 0} (f : A → Document) where
  items_more : (xs : List A) (x : A) → AreSoundItems (items_of (map f xs)) → IsSound (f x) → AreSoundItems (items_of (map f (xs ++ x ∷ [])))
  items_more [] x sound is = (is, tt)
  items_more (y ∷ xs) x sound is = (sound.0, items_more xs x sound.1 is)

  pub sound_items : (xs ys : List A) (x : A) → ys ≡ xs ++ x ∷ [] → AreSoundItems (items_of (map f xs)) → IsSound (f x) → AreSoundItems (items_of (map f ys))
  sound_items xs ys x more sound is = subst (λ zs. AreSoundItems (items_of (map f zs))) (sym more) (items_more xs x sound is)

  members_more : (ps : List (List ℕ × A)) (p : List ℕ × A) → AreSoundMembers (members_of (map (λ q. (q.0, f q.1)) ps)) → IsUtf8 p.0 → IsSound (f p.1) → AreSoundMembers (members_of (map (λ q. (q.0, f q.1)) (ps ++ p ∷ [])))
  members_more [] p sound name is = (name, is, tt)
  members_more (q ∷ ps) p sound name is = (sound.0, sound.1, members_more ps p sound.2 name is)

  pub sound_members : (ps qs : List (List ℕ × A)) (p : List ℕ × A) → qs ≡ ps ++ p ∷ [] → AreSoundMembers (members_of (map (λ q. (q.0, f q.1)) ps)) → IsUtf8 p.0 → IsSound (f p.1) → AreSoundMembers (members_of (map (λ q. (q.0, f q.1)) qs))
  sound_members ps qs p more sound name is = subst (λ rs. AreSoundMembers (members_of (map (λ q. (q.0, f q.1)) rs))) (sym more) (members_more ps p sound name is)

pub sound_object : (ms : List (List ℕ × Document)) → IsRising ms → AreSoundMembers (members_of ms) → IsSound (object (members_of ms))
sound_object ms rising sound = (subst IsRising (sym (pairs-members_of ms)) rising, sound)
