-- The tokens of documents, a part at a time.
use Rattle.std.proofs.Common.{◌≡◌, ℕ, ◌<◌, ◌≤◌, zero, suc, List, [], ◌∷◌, ◌++◌, length, map, get_or, refl, sym, ap, ◌∙◌, append_assoc, append-nil, arith}
use Rattle.json.specs.Token.{Token, begin_array, begin_object, end_array, end_object, key}
use Rattle.json.specs.Tree.{items_tokens, members_tokens}
use Rattle.serde_json.specs.Written.{items_outline, members_outline}
use Rattle.conf_doc.specs.Configuration.{mapping}
use Rattle.conf_doc.specs.Document.{Document, list, items_of, members_of, weight, items_weight, members_weight}
use Rattle.conf_doc.specs.Texts.{document_tokens, item_values, member_values}
use Rattle.conf_doc.specs.Tokens.{opened_items, opened_members}

module _ {A : Type 0} (f : A → Document) where
  items_closed : (xs : List A) → items_tokens (items_outline (item_values (items_of (map f xs)))) ≡ opened_items f xs ++ end_array ∷ []
  items_closed [] = refl
  items_closed (x ∷ xs) = ap (λ ts. document_tokens (f x) ++ ts) (items_closed xs) ∙ sym (append_assoc (document_tokens (f x)) (opened_items f xs) (end_array ∷ []))

  opened_items-more : (xs : List A) (x : A) → opened_items f (xs ++ x ∷ []) ≡ opened_items f xs ++ document_tokens (f x)
  opened_items-more [] x = append-nil (document_tokens (f x))
  opened_items-more (y ∷ xs) x = ap (λ ts. document_tokens (f y) ++ ts) (opened_items-more xs x) ∙ sym (append_assoc (document_tokens (f y)) (opened_items f xs) (document_tokens (f x)))

  members_closed : (ps : List (List ℕ × A)) → members_tokens (members_outline (member_values (members_of (map (λ p. (p.0, f p.1)) ps)))) ≡ opened_members f ps ++ end_object ∷ []
  members_closed [] = refl
  members_closed (p ∷ ps) = ap (λ ts. key p.0 ∷ ts) (ap (λ ts. document_tokens (f p.1) ++ ts) (members_closed ps) ∙ sym (append_assoc (document_tokens (f p.1)) (opened_members f ps) (end_object ∷ [])))

  opened_members-more : (ps : List (List ℕ × A)) (p : List ℕ × A) → opened_members f (ps ++ p ∷ []) ≡ opened_members f ps ++ key p.0 ∷ document_tokens (f p.1)
  opened_members-more [] p = ap (λ ts. key p.0 ∷ ts) (append-nil (document_tokens (f p.1)))
  opened_members-more (q ∷ ps) p = ap (λ ts. key q.0 ∷ ts) (ap (λ ts. document_tokens (f q.1) ++ ts) (opened_members-more ps p) ∙ sym (append_assoc (document_tokens (f q.1)) (opened_members f ps) (key p.0 ∷ document_tokens (f p.1))))

  -- one more item
  pub item_written : (xs ys : List A) (x : A) (start old new : List Token) → ys ≡ xs ++ x ∷ [] → old ≡ start ++ begin_array ∷ opened_items f xs → new ≡ old ++ document_tokens (f x) → new ≡ start ++ begin_array ∷ opened_items f ys
  item_written xs ys x start old new more so_far written =
      written ∙ ap (λ ts. ts ++ document_tokens (f x)) so_far
      ∙ append_assoc start (begin_array ∷ opened_items f xs) (document_tokens (f x))
      ∙ ap (λ ts. start ++ begin_array ∷ ts) (sym (opened_items-more xs x) ∙ ap (opened_items f) (sym more))

  pub items_written : (xs : List A) (start old new : List Token) → old ≡ start ++ begin_array ∷ opened_items f xs → new ≡ old ++ end_array ∷ [] → new ≡ start ++ document_tokens (list (items_of (map f xs)))
  items_written xs start old new so_far written =
      written ∙ ap (λ ts. ts ++ end_array ∷ []) so_far
      ∙ append_assoc start (begin_array ∷ opened_items f xs) (end_array ∷ [])
      ∙ ap (λ ts. start ++ begin_array ∷ ts) (sym (items_closed xs))

  -- one more member
  pub member_written : (ps qs : List (List ℕ × A)) (p : List ℕ × A) (start old new : List Token) → qs ≡ ps ++ p ∷ [] → old ≡ start ++ begin_object ∷ opened_members f ps → new ≡ old ++ key p.0 ∷ document_tokens (f p.1)
      → new ≡ start ++ begin_object ∷ opened_members f qs
  member_written ps qs p start old new more so_far written =
      written ∙ ap (λ ts. ts ++ key p.0 ∷ document_tokens (f p.1)) so_far
      ∙ append_assoc start (begin_object ∷ opened_members f ps) (key p.0 ∷ document_tokens (f p.1))
      ∙ ap (λ ts. start ++ begin_object ∷ ts) (sym (opened_members-more ps p) ∙ ap (opened_members f) (sym more))

  pub members_written : (ps : List (List ℕ × A)) (start old new : List Token) → old ≡ start ++ begin_object ∷ opened_members f ps → new ≡ old ++ end_object ∷ [] → new ≡ start ++ document_tokens (mapping f ps)
  members_written ps start old new so_far written =
      written ∙ ap (λ ts. ts ++ end_object ∷ []) so_far
      ∙ append_assoc start (begin_object ∷ opened_members f ps) (end_object ∷ [])
      ∙ ap (λ ts. start ++ begin_object ∷ ts) (sym (members_closed ps))

-- a part weighs no more than the whole
pub item_lighter : {A : Type 0} (f : A → Document) (xs : List A) (i : ℕ) (x : A) → i < length xs → x ≡ get_or xs i x → weight (f x) ≤ items_weight (items_of (map f xs))
item_lighter f [] i x within is = absurd (omega arith)
item_lighter f (y ∷ xs) zero x within is = let same : weight (f x) ≡ weight (f y) = ap (λ z. weight (f z)) is in omega arith
item_lighter f (y ∷ xs) (suc i) x within is = let rest = item_lighter f xs i x (omega arith) is in omega arith

pub member_lighter : {A : Type 0} (f : A → Document) (ps : List (List ℕ × A)) (i : ℕ) (p : List ℕ × A) → i < length ps → p ≡ get_or ps i p → weight (f p.1) ≤ members_weight (members_of (map (λ p. (p.0, f p.1)) ps))
member_lighter f [] i p within is = absurd (omega arith)
member_lighter f (q ∷ ps) zero p within is = let same : weight (f p.1) ≡ weight (f q.1) = ap (λ z. weight (f z.1)) is in omega arith
member_lighter f (q ∷ ps) (suc i) p within is = let rest = member_lighter f ps i p (omega arith) is in omega arith
