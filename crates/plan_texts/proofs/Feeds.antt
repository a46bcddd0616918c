-- A compact text has no line feed.
use Rattle.std.proofs.Common.{◌≡◌, ◌≢◌, ℕ, zero, suc, ◌<◌, ◌==◌, Bool, true, false, not, ◌&&◌, List, [], ◌∷◌, inl, inr, refl, sym, subst, arith}
use Rattle.std.proofs.lemmas.Bool.{and_parts, cases_lt, cases_eq}
use Rattle.host_core.specs.Characters.{line_feed}
use Rattle.json.specs.Print.{escape_byte, quoted}
use Rattle.json.specs.Print as print
use Rattle.json.proofs.Printed.Strings.{escape_byte_plain}
use Rattle.serde_json.specs.Written.{comma_if, items_text, members_text}
use Rattle.conf_doc.specs.Document.{Document, text, list, object, Items, no_items, item, Members, no_members, member}
use Rattle.conf_doc.specs.Texts.{compact, item_values, member_values}
use Rattle.plan_texts.specs.Lines.{HasNoFeed}
use Rattle.plan_texts.proofs.LineLemmas.{no_feed-append}

abbrev has_none : List ℕ → Bool
has_none [] = true
has_none (x ∷ xs) = not (x == line_feed) && has_none xs

is_other : (x : ℕ) → not (x == line_feed) ≡ true → x ≢ line_feed
is_other x e same = let twice : not (line_feed == line_feed) ≡ true = subst (λ y. not (y == line_feed) ≡ true) same e in absurd cc

tested : (xs : List ℕ) → has_none xs ≡ true → HasNoFeed xs
tested [] e = tt
tested (x ∷ xs) e = let parts = and_parts _ _ e in (is_other x parts.0, tested xs parts.1)

-- ---- what a string has for a byte

abbrev none_below : ℕ → Bool
none_below zero = true
none_below (suc n) = has_none (escape_byte n) && none_below n

each_below : (n : ℕ) → none_below n ≡ true → (x : ℕ) → x < n → has_none (escape_byte x) ≡ true
each_below zero e x h = absurd (omega arith)
each_below (suc n) e x h =
    let parts = and_parts _ _ e in
    elim (cases_eq x n) [ inl same ↦ rw same parts.0 | inr other ↦ each_below n parts.1 x (omega arith) ]

first_ones : none_below 128 ≡ true
unfolding escape_byte
first_ones = refl

no_feed_byte : (x : ℕ) → HasNoFeed (escape_byte x)
no_feed_byte x = elim (cases_lt x 128) [
  | inl small ↦ tested (escape_byte x) (each_below 128 first_ones x small)
  | inr large ↦
      subst HasNoFeed (sym (escape_byte_plain x (λ e. omega arith) (λ e. omega arith) (omega arith))) ((λ e. omega arith), tt)
]

no_feed_escaped : (xs : List ℕ) → HasNoFeed (print.escape xs)
no_feed_escaped [] = tt
no_feed_escaped (x ∷ xs) = no_feed-append (escape_byte x) (print.escape xs) (no_feed_byte x) (no_feed_escaped xs)

no_feed_quoted : (xs : List ℕ) → HasNoFeed (quoted xs)
no_feed_quoted xs = (is_other 34 refl, no_feed-append (print.escape xs) (34 ∷ []) (no_feed_escaped xs) (tested (34 ∷ []) refl))

-- ---- documents

no_feed_comma : (later : Bool) → HasNoFeed (comma_if later)
no_feed_comma true = tested (44 ∷ []) refl
no_feed_comma false = tt

mutual
  -- a document has none in its compact text
  pub no_feed : (d : Document) → HasNoFeed (compact d)
  no_feed (text s) = no_feed_quoted s
  no_feed (list ds) = (is_other 91 refl, no_feed_items false ds)
  no_feed (object ms) = (is_other 123 refl, no_feed_members false ms)

  no_feed_items : (later : Bool) (ds : Items) → HasNoFeed (items_text later (item_values ds))
  no_feed_items later no_items = tested (93 ∷ []) refl
  no_feed_items later (item d ds) =
      no_feed-append (comma_if later) _ (no_feed_comma later) (no_feed-append (compact d) _ (no_feed d) (no_feed_items true ds))

  no_feed_members : (later : Bool) (ms : Members) → HasNoFeed (members_text later (member_values ms))
  no_feed_members later no_members = tested (125 ∷ []) refl
  no_feed_members later (member k d ms) =
      no_feed-append (comma_if later) _ (no_feed_comma later)
      (no_feed-append (quoted k) _ (no_feed_quoted k)
      (is_other 58 refl, no_feed-append (compact d) _ (no_feed d) (no_feed_members true ms)))
