-- Changes at a place, by the number of its names.
use Rattle.std.proofs.Common.{◌≡◌, ℕ, zero, suc, ◌<◌, List, [], ◌∷◌, map, length, get_or, String, Global, string_bytes, slice_get, Option, Some, None, option_map, refl, sym, ap, ◌∙◌, subst, arith}
use Rattle.std.specs.Option.{option_map_or}
use Rattle.std.specs.Bool.{Decides}
use Rattle.std.specs.Cmp.Lexicographic.{bytes_decides, pointwise}
use Rattle.std.specs.String.{string_eq}
use Rattle.std.proofs.lemmas.Bool.{and_from, and_parts}
use Rattle.conf_doc.specs.Changes.{with_part}
use Rattle.conf_doc.specs.Pairs.{change_part, find, put, set_part}
use Rattle.conf_doc.specs.Paths.{HaveLetters}
use Rattle.conf_doc.specs.declared.configuration.Config.{Config}
use Rattle.conf_doc.specs.declared.configuration.Entry.{Entry}
use Rattle.conf_doc.specs.declared.configuration.Table.{Table}
use Rattle.conf_doc.specs.declared.configuration.Value.{Value}
use Rattle.conf_doc.specs.declared.parts.Part.TheVariants as part
use Rattle.conf_doc.proofs.Lists.{length-map, slice_get-map}

same_Some : {A : Type 0} (x y : A) → Some x ≡ Some y → x ≡ y
same_Some x y e = cc

none_more : {A : Type 0} (xs : List A) → length xs ≡ 0 → xs ≡ []
none_more [] e = refl
none_more (x ∷ xs) e = absurd (omega arith)

one : {A : Type 0} (xs : List A) (a : A) → length xs ≡ 1 → slice_get xs 0 ≡ Some a → xs ≡ a ∷ []
one [] a long is = absurd (omega arith)
one (x ∷ xs) a long is = let rest : length xs ≡ 0 = omega arith in λ i. same_Some x a is i ∷ none_more xs rest i

two : {A : Type 0} (xs : List A) (a b : A) → length xs ≡ 2 → slice_get xs 0 ≡ Some a → slice_get xs 1 ≡ Some b → xs ≡ a ∷ b ∷ []
two [] a b long is and = absurd (omega arith)
two (x ∷ xs) a b long is and = let rest : length xs ≡ 1 = omega arith in λ i. same_Some x a is i ∷ one xs b rest and i

three : {A : Type 0} (xs : List A) (a b c : A) → length xs ≡ 3 → slice_get xs 0 ≡ Some a → slice_get xs 1 ≡ Some b → slice_get xs 2 ≡ Some c → xs ≡ a ∷ b ∷ c ∷ []
three [] a b c long is and also = absurd (omega arith)
three (x ∷ xs) a b c long is and also = let rest : length xs ≡ 2 = omega arith in λ i. same_Some x a is i ∷ two xs b c rest and also i

pub table_changed : (c : Config) (ns : List (List ℕ)) (t : List ℕ) (o : Option Table) → length ns ≡ 1 → slice_get ns 0 ≡ Some t → set_part t o c ≡ with_part c ns (option_map part.Table o)
table_changed c ns t None long is = ap (λ ms. with_part c ms None) (sym (one ns t long is))
table_changed c ns t (Some table) long is = ap (λ ms. with_part c ms (Some (part.Table table))) (sym (one ns t long is))

pub entry_changed : (c : Config) (ns : List (List ℕ)) (t k : List ℕ) (o : Option Entry) → length ns ≡ 2 → slice_get ns 0 ≡ Some t → slice_get ns 1 ≡ Some k → change_part t (set_part k o) c ≡ with_part c ns (option_map part.Entry o)
entry_changed c ns t k None long is and = ap (λ ms. with_part c ms None) (sym (two ns t k long is and))
entry_changed c ns t k (Some entry) long is and = ap (λ ms. with_part c ms (Some (part.Entry entry))) (sym (two ns t k long is and))

pub value_changed : (c : Config) (ns : List (List ℕ)) (t k f : List ℕ) (o : Option Value) → length ns ≡ 3 → slice_get ns 0 ≡ Some t → slice_get ns 1 ≡ Some k → slice_get ns 2 ≡ Some f → change_part t (change_part k (set_part f o)) c ≡ with_part c ns (option_map part.Value o)
value_changed c ns t k f None long is and also = ap (λ ms. with_part c ms None) (sym (three ns t k f long is and also))
value_changed c ns t k f (Some v) long is and also = ap (λ ms. with_part c ms (Some (part.Value v))) (sym (three ns t k f long is and also))

-- a part that is found is changed, and none elsewhere
module _ {A : Type 0} (name : List ℕ) (f : A → A) (ps : List (List ℕ × A)) where
  pub found_changed : (a b : A) → Some a ≡ find name ps → b ≡ f a → put name b ps ≡ change_part name f ps
  found_changed a b found is = ap (λ x. put name x ps) is ∙ ap (λ o. option_map_or (λ x. put name (f x) ps) o ps) found

  pub absent_changed : None ≡ find name ps → ps ≡ change_part name f ps
  absent_changed found = ap (λ o. option_map_or (λ x. put name (f x) ps) o ps) found

-- a name of a path has letters
pub letter_at : (ns : List (List ℕ)) (i : ℕ) (n : List ℕ) → HaveLetters ns → slice_get ns i ≡ Some n → 0 < length n
letter_at [] i n named is = cc
letter_at (m ∷ ns) zero n named is = subst (λ k. 0 < length k) (same_Some m n is) named.0
letter_at (m ∷ ns) (suc i) n named is = letter_at ns i n named.1 is

pub letter_read : (xs ds : List (String Global)) (i : ℕ) (x : String Global) → HaveLetters (map string_bytes xs) → ds ≡ xs → i < length (map string_bytes xs) → x ≡ get_or ds i x → 0 < length (string_bytes x)
letter_read xs ds i x named same within is =
    let inside : i < length xs = omega (arith, length-map string_bytes xs) in
    letter_at (map string_bytes xs) i (string_bytes x) named (slice_get-map string_bytes xs i x inside ∙ ap (λ y. Some (string_bytes y)) (sym (is ∙ ap (λ zs. get_or zs i x) same)))

-- lists of texts that compare equal are one list
bytes_alike : (a b : String Global) → Decides (string_eq a b) (string_bytes a ≡ string_bytes b)
bytes_alike a b = bytes_decides (string_bytes a) (string_bytes b)

pub texts_alike : (xs ys : List (String Global)) → Decides (pointwise string_eq xs ys) (map string_bytes xs ≡ map string_bytes ys)
texts_alike [] [] = (λ e. refl, λ e. refl)
texts_alike [] (y ∷ ys) = (λ e. cc, λ e. cc)
texts_alike (x ∷ xs) [] = (λ e. cc, λ e. cc)
texts_alike (x ∷ xs) (y ∷ ys) = (
  λ e i. (bytes_alike x y).0 (and_parts _ _ e).0 i ∷ (texts_alike xs ys).0 (and_parts _ _ e).1 i,
  λ e. let first : string_bytes x ≡ string_bytes y = cc in let rest : map string_bytes xs ≡ map string_bytes ys = cc in and_from _ _ ((bytes_alike x y).1 first) ((texts_alike xs ys).1 rest),
)
