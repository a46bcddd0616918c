-- Indexes and places of items, by the tokens that tell them.
use Rattle.std.proofs.Common.{◌≡◌, ◌≢◌, ℕ, ◌+◌, ◌<◌, List, [], ◌∷◌, ◌++◌, length, take, slice_get, Some, None, Result, Ok, Err, IsUtf8, refl, sym, ap, ◌∙◌, subst, arith, length-append}
use Rattle.std.proofs.lemmas.Fmt.{parse-decimal, IsAscii-decimal}
use Rattle.std.proofs.lemmas.Str.{IsUtf8-from_ascii}
use Rattle.std.specs.Str.Parse.{ParsesUnsigned}
use Rattle.conf_doc.specs.Paths.{IsPath}
use Rattle.conf_doc.specs.WellFormed.{AreTexts}
use Rattle.patch_core.specs.Indexes.{index, list_token}
use Rattle.move_core.specs.Operations.{index_text}
use Rattle.move_core.proofs.IndexTokens.{index_token, written_index}
use Rattle.plan_texts.specs.Items.{IsIndexIn, IsItemIn}
use Rattle.plan_texts.specs.PlanTexts.{index_end}

-- ---- indexes

-- the text of an index is a text
pub index_is_text : (i : ℕ) → i < index_end → IsUtf8 (index_text i)
index_is_text i small = subst IsUtf8 (written_index i small) (IsUtf8-from_ascii _ (IsAscii-decimal i small))

index_told : (i j : ℕ) → index_text i ≡ index_text j → i ≡ j
index_told i j same =
    let tokens : index i ≡ index j = sym (index_token i) ∙ ap list_token same ∙ index_token j in
    let one : i ≡ j = cc in one

not_empty : (q : List (List ℕ)) (y : List ℕ) → [] ≡ q ++ y ∷ [] → ⊥
not_empty [] y e = cc
not_empty (b ∷ q) y e = cc

-- the names of a field and an index are told by all names
last_told : (p q : List (List ℕ)) (x y : List ℕ) → p ++ x ∷ [] ≡ q ++ y ∷ [] → (p ≡ q) × (x ≡ y)
last_told [] [] x y same = let one : x ≡ y = cc in (refl, one)
last_told [] (b ∷ q) x y same = let none : [] ≡ q ++ y ∷ [] = cc in absurd (not_empty q y none)
last_told (a ∷ p) [] x y same = let none : p ++ x ∷ [] ≡ [] = cc in absurd (not_empty p x (sym none))
last_told (a ∷ p) (b ∷ q) x y same =
    let first : a ≡ b = cc in
    let rest : p ++ x ∷ [] ≡ q ++ y ∷ [] = cc in
    let more = last_told p q x y rest in
    (λ i. first i ∷ more.0 i, more.1)

-- a field and an index are told by their names
pub items_told : (p q : List (List ℕ)) (i j : ℕ) → p ++ index_text i ∷ [] ≡ q ++ index_text j ∷ [] → (p ≡ q) × (i ≡ j)
items_told p q i j same =
    let told = last_told p q (index_text i) (index_text j) same in
    (told.0, index_told i j told.1)

module _ {E : Type 0} (token : List ℕ) (r : Result ℕ E) (parsed : ParsesUnsigned 64 10 token r) where
  index_read : (i : ℕ) → i < index_end → token ≡ index_text i → r ≡ Ok i
  index_read i small is = parse-decimal 64 i token r small small (is ∙ sym (written_index i small)) parsed

  -- no number, no index
  pub no_index : (e : E) → r ≡ Err e → IsIndexIn token None
  no_index e err = record { is = tt; all = λ i small is. let ok = index_read i small is in absurd cc }

  -- a number, at most that index
  pub one_index : (n : ℕ) → r ≡ Ok n → IsIndexIn token (Some n)
  one_index n ok = record {
    is = within;
    all = λ i small is. let read = index_read i small is in let same : n ≡ i = cc in ap Some same;
  }
    where
      within : n < index_end
      within = let read = subst (λ (q : Result ℕ E). ParsesUnsigned 64 10 token q) ok parsed in omega (arith, read.0.1, read.1)

-- ---- places of items

-- the three names of a field and what stands behind them
parts : (p : List (List ℕ)) (x : List ℕ) → length p ≡ 3 → (take 3 (p ++ x ∷ []) ≡ p) × (slice_get (p ++ x ∷ []) 3 ≡ Some x)
parts [] x three = absurd (omega (arith, three))
parts (a ∷ []) x three = absurd (omega (arith, three))
parts (a ∷ b ∷ []) x three = absurd (omega (arith, three))
parts (a ∷ b ∷ c ∷ []) x three = (refl, refl)
parts (a ∷ b ∷ c ∷ d ∷ p) x three = absurd (omega (arith, three))

module _ (tokens : List (List ℕ)) where
  -- four tokens are needed
  pub not_four : length tokens ≢ 4 → IsItemIn tokens None
  not_four other = record {
    is = tt;
    all = λ p i path three small is. absurd (other (ap length is ∙ length-append p (index_text i ∷ []) ∙ ap (λ n. n + 1) three));
  }

  module _ (token : List ℕ) (last : slice_get tokens 3 ≡ Some token) where
    names_are : (p : List (List ℕ)) (i : ℕ) → length p ≡ 3 → tokens ≡ p ++ index_text i ∷ [] → (take 3 tokens ≡ p) × (token ≡ index_text i)
    names_are p i three is =
        let cut = parts p (index_text i) three in
        let both : Some token ≡ Some (index_text i) = sym last ∙ ap (λ ts. slice_get ts 3) is ∙ cut.1 in
        let same : token ≡ index_text i = cc in
        (ap (take 3) is ∙ cut.0, same)

    -- the last is no index
    pub no_last : IsIndexIn token None → IsItemIn tokens None
    no_last none = record {
      is = tt;
      all = λ p i path three small is. let found = none.all i small (names_are p i three is).1 in absurd cc;
    }

    module _ (i : ℕ) (index : IsIndexIn token (Some i)) where
      -- the others are no place
      pub no_place : ¬ IsPath (take 3 tokens) → IsItemIn tokens None
      no_place none = record {
        is = tt;
        all = λ p j path three small is. absurd (none (subst IsPath (sym (names_are p j three is).0) path));
      }

      -- the others are a place
      pub item_found : (p : List (List ℕ)) → length tokens ≡ 4 → p ≡ take 3 tokens → IsPath p → AreTexts p → length p ≡ 3 → IsItemIn tokens (Some (p, i))
      item_found p four is path texts three = record {
        is = (four, path, texts, three, index.is);
        all = λ q j at long small same.
            let names = names_are q j long same in
            let found = index.all j small names.1 in
            let indexes : i ≡ j = cc in
            ap (λ (r : List (List ℕ)). Some (r, i)) (is ∙ names.0) ∙ ap (λ n. Some (q, n)) indexes;
      }
