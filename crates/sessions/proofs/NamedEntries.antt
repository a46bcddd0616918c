-- The entries of a map from names to sessions, and the sessions that they give.
use Rattle.std.proofs.Common.{◌≡◌, ℕ, cond, List, [], ◌∷◌, map, Option, Some, None, refl, sym, ap, ◌∙◌, String, string_bytes}
use Rattle.std.specs.declared.alloc.Global.{Global}
use Rattle.std.specs.Ordering.{is_eq, eq_by_cmp, nat_cmp}
use Rattle.std.specs.Cmp.{eq_by_cmp_equiv}
use Rattle.std.specs.Cmp.Lexicographic.{nat_list_cmp_total, slice_cmp}
use Rattle.std.specs.FinMap as finmap
use Rattle.std.specs.FinMap.{get, insert, remove}
use Rattle.std.specs.BTreeMap.{BTreeMap, UpdatesBy, get_by_text, is_at}
use Rattle.std.specs.Map.{lookup}
use Rattle.std.specs.Str.{bytes_eq}
use Rattle.std.specs.String.{string_cmp}
use Rattle.std.proofs.lemmas.Map.Text.{btree_map_updates_text, is_eq-slice_cmp}
use Rattle.host_core.specs.Names.{name_cmp}
use Rattle.sessions.specs.Worlds.{Session, Sessions}
use Rattle.sessions.specs.Named.{named, sessions_in}

-- sessions that answer alike are equal
pub same_sessions : (m n : Sessions) → ((q : List ℕ) → get m q ≡ get n q) → m ≡ n
same_sessions m n alike =
    finmap.same_map nat_list_cmp_total (finmap.slice_cmp-IsAntisymmetric finmap.nat_cmp-IsAntisymmetric) m n alike

find_named : (es : List (String Global × Session)) (q : List ℕ)
    → finmap.find name_cmp q (map named es) ≡ lookup (is_at (λ k. name_cmp q (string_bytes k))) es
find_named [] q = refl
find_named (e ∷ es) q = ap (cond (is_eq (name_cmp q (string_bytes e.0))) (Some e.1)) (find_named es q)

-- a look-up of a session is one in the map
pub get-sessions_in : (es : List (String Global × Session)) (q : List ℕ)
    → get (sessions_in es) q ≡ lookup (is_at (λ k. name_cmp q (string_bytes k))) es
get-sessions_in es q = finmap.get-from_entries nat_list_cmp_total (map named es) q ∙ find_named es q

-- what the map finds is what is found among the sessions
pub found : (m : BTreeMap (String Global) Session) (sessions : Sessions) (name : List ℕ) (o : Option Session)
    → sessions_in m.entries ≡ sessions → o ≡ get_by_text m name → get sessions name ≡ o
found m sessions name o is o_is =
    ap (λ (s : Sessions). get s name) (sym is) ∙ get-sessions_in m.entries name ∙ sym o_is

same_name : (name q : List ℕ) → bytes_eq name q ≡ eq_by_cmp name_cmp q name
same_name name q = sym (is_eq-slice_cmp name q) ∙ (eq_by_cmp_equiv nat_list_cmp_total).symm name q

-- what is found after a change at a name
changed : (m n : BTreeMap (String Global) Session) (name : List ℕ) (w : Option Session)
    → UpdatesBy string_cmp (λ k. slice_cmp nat_cmp name (string_bytes k)) m n w → (q : List ℕ)
    → get (sessions_in n.entries) q ≡ cond (eq_by_cmp name_cmp q name) w (get (sessions_in m.entries) q)
changed m n name w updates q =
    get-sessions_in n.entries q
    ∙ btree_map_updates_text name m n w updates q
    ∙ (λ i. cond (same_name name q i) w (sym (get-sessions_in m.entries q) i))

-- a session put in the map is put among the sessions
pub sessions_in-insert : (m n : BTreeMap (String Global) Session) (name : List ℕ) (s : Session)
    → UpdatesBy string_cmp (λ k. slice_cmp nat_cmp name (string_bytes k)) m n (Some s)
    → sessions_in n.entries ≡ insert (sessions_in m.entries) name s
sessions_in-insert m n name s updates = same_sessions _ _ (λ q.
    changed m n name (Some s) updates q
    ∙ sym (finmap.get-insert nat_list_cmp_total (sessions_in m.entries) name s q))

-- a session taken out of the map is taken from the sessions
pub sessions_in-remove : (m n : BTreeMap (String Global) Session) (name : List ℕ)
    → UpdatesBy string_cmp (λ k. slice_cmp nat_cmp name (string_bytes k)) m n None
    → sessions_in n.entries ≡ remove (sessions_in m.entries) name
sessions_in-remove m n name updates = same_sessions _ _ (λ q.
    changed m n name None updates q
    ∙ sym (finmap.get-remove nat_list_cmp_total (sessions_in m.entries) name q))
