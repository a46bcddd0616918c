-- The tokens of a tree, a part at a time.
use Rattle.std.proofs.Common.{◌≡◌, ℕ, zero, suc, List, [], ◌∷◌, ◌++◌, map, slice_get, Some, refl, ap, ◌∙◌}
use Rattle.json.specs.Token.{Token, begin_array, begin_object, end_array, end_object}
use Rattle.conf_doc.specs.Document.{Document, items_of, list, members_of, object}
use Rattle.conf_doc.specs.Texts.{document_tokens}
use Rattle.conf_doc.specs.Tokens.{opened_items, opened_members}
use Rattle.conf_doc.proofs.Tokens.{items_written, members_written}

-- a document as it is
abbrev pub itself : Document → Document
itself d = d

map_itself : (ds : List Document) → map itself ds ≡ ds
map_itself [] = refl
map_itself (d ∷ ds) = ap (λ (es : List Document). d ∷ es) (map_itself ds)

pairs_itself : (ms : List (List ℕ × Document)) → map (λ m. (m.0, itself m.1)) ms ≡ ms
pairs_itself [] = refl
pairs_itself (m ∷ ms) = ap (λ (ns : List (List ℕ × Document)). m ∷ ns) (pairs_itself ms)

-- all items are written
pub list_written : (ds : List Document) (start old new : List Token)
    → old ≡ start ++ begin_array ∷ opened_items itself ds → new ≡ old ++ end_array ∷ []
    → new ≡ start ++ document_tokens (list (items_of ds))
list_written ds start old new so_far written =
    items_written itself ds start old new so_far written
    ∙ ap (λ es. start ++ document_tokens (list (items_of es))) (map_itself ds)

-- all members are written
pub object_written : (ms : List (List ℕ × Document)) (start old new : List Token)
    → old ≡ start ++ begin_object ∷ opened_members itself ms → new ≡ old ++ end_object ∷ []
    → new ≡ start ++ document_tokens (object (members_of ms))
object_written ms start old new so_far written =
    members_written itself ms start old new so_far written
    ∙ ap (λ ns. start ++ document_tokens (object (members_of ns))) (pairs_itself ms)

-- the member at an index
pub member_at : (ms : List (List ℕ × Document)) (i : ℕ) (name : List ℕ) (d : Document)
    → slice_get (map (λ m. m.0) ms) i ≡ Some name
    → slice_get (map (λ m. m.1) ms) i ≡ Some d → slice_get ms i ≡ Some (name, d)
member_at [] i name d named names = absurd cc
member_at (m ∷ ms) zero name d named names =
    let left : m.0 ≡ name = cc in
    let right : m.1 ≡ d = cc in
    λ j. Some (left j, right j)
member_at (m ∷ ms) (suc i) name d named names = member_at ms i name d named names
