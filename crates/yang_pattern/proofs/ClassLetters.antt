-- Reading the letters of a class gives exactly its items.
use Rattle.std.proofs.Common.{◌≡◌, ◌≢◌, ℕ, ◌≤◌, Bool, true, false, ◌&&◌, ◌||◌, not, eqb, leb, List, [], ◌∷◌, ◌++◌, Some, None, option_map, option_to_list, refl, sym, ap, ◌∙◌, subst, append_assoc, append-nil, inl, inr, ◌⊎◌, arith, IsTrue}
use Rattle.std.proofs.lemmas.Bool.{eq-eqb, eqb-true, ne_eqb, cases_eq, cases_Bool, le-leb, leb-true, true≢false, and_parts, not-true, or_parts}
use Rattle.yang_pattern.specs.declared.letters.Letter.{Letter}
use Rattle.yang_pattern.specs.declared.symbols.Token.{Token}
use Rattle.yang_pattern.specs.declared.symbols.Token.TheVariants.{Symbol}
use Rattle.yang_pattern.specs.declared.classes.Item.{Item}
use Rattle.yang_pattern.specs.declared.classes.Item.TheVariants.{Start, Negated, Done, Bound, Range, Dash}
use Rattle.yang_pattern.specs.declared.tokens.Mode.TheVariants.{Outside, Class}
use Rattle.yang_pattern.specs.declared.tokens.Step.{Step}
use Rattle.yang_pattern.specs.Classes.{dash_at, bound_at, caret_at, close_at, class_with}
use Rattle.yang_pattern.specs.Lexing.{advance, lex}
use Rattle.yang_pattern.specs.Grammar.{plain, IsBound, IsItem, AreItems, dash, dash_range, caret, BeginsWithCaret, IsClass}
use Rattle.yang_pattern.proofs.LexRuns.{lex_quiet, lex_token, lex_first, letter_is}
use Rattle.yang_pattern.proofs.TokenSources.{map_some}

-- the item that an open bound would be
abbrev settle : Item → List (ℕ × ℕ)
settle Start = []
settle Negated = []
settle Done = []
settle (Bound c) = (c, c) ∷ []
settle (Range c) = []
settle Dash = []

-- an item may begin here
abbrev IsReady : Item → Type 0
IsReady Start = Unit {0}
IsReady Negated = Unit {0}
IsReady Done = Unit {0}
IsReady (Bound c) = Unit {0}
IsReady (Range c) = ⊥
IsReady Dash = ⊥

-- some item stands before
abbrev IsLater : Item → Type 0
IsLater Start = ⊥
IsLater Negated = ⊥
IsLater Done = Unit {0}
IsLater (Bound c) = Unit {0}
IsLater (Range c) = Unit {0}
IsLater Dash = Unit {0}

bound_ready : (n : Bool) (rs : List (ℕ × ℕ)) (s : Item) (d : ℕ) → IsReady s → bound_at n rs s d ≡ Some (n, rs ++ settle s, Bound d)
bound_ready n rs Start d h = ap (λ v. Some (n, v, Bound d)) (sym (append-nil rs))
bound_ready n rs Negated d h = ap (λ v. Some (n, v, Bound d)) (sym (append-nil rs))
bound_ready n rs Done d h = ap (λ v. Some (n, v, Bound d)) (sym (append-nil rs))
bound_ready n rs (Bound c) d h = refl
bound_ready n rs (Range c) d h = absurd h
bound_ready n rs Dash d h = absurd h

caret_later : (n : Bool) (rs : List (ℕ × ℕ)) (s : Item) → (s ≡ Start → ⊥) → caret_at n rs s ≡ bound_at n rs s 94
caret_later n rs Start h = absurd (h refl)
caret_later n rs Negated h = refl
caret_later n rs Done h = refl
caret_later n rs (Bound c) h = refl
caret_later n rs (Range c) h = refl
caret_later n rs Dash h = refl

-- a bound that isn't the caret of a negation
with_bound : (n : Bool) (rs : List (ℕ × ℕ)) (s : Item) (e : Bool) (c : ℕ) → IsTrue (e || not (eqb c 45 || eqb c 91 || eqb c 93)) → (s ≡ Start → e ≡ false → c ≡ 94 → ⊥)
    → advance (Class (n, rs, s)) (record { character = c; escaped = e }) ≡ option_map (λ k. record { mode = Class k; token = None }) (bound_at n rs s c)
with_bound n rs s true c h k = rw (and_not (eqb c 93)) refl
  where
    and_not : (b : Bool) → (b && false) ≡ false
    and_not true = refl
    and_not false = refl
with_bound n rs s false c h k =
    let none = not-true (eqb c 45 || eqb c 91 || eqb c 93) h in
    let parts = or_parts (eqb c 45 || eqb c 91) (eqb c 93) none in
    let front = or_parts (eqb c 45) (eqb c 91) parts.0 in
    elim (cases_eq c 94) [
      | inl is ↦ rw (parts.1, front.0, front.1, eq-eqb c 94 is) (ap (λ o. option_map (λ k. record { mode = Class k; token = None }) o) (caret_later n rs s (λ z. k z refl is) ∙ ap (λ d. bound_at n rs s d) (sym is)))
      | inr other ↦ rw (parts.1, front.0, front.1, ne_eqb c 94 other) refl
    ]

bound_step : (n : Bool) (rs : List (ℕ × ℕ)) (s : Item) (l : Letter) (k : Bool × List (ℕ × ℕ) × Item) (ls : List Letter) → IsBound l → (s ≡ Start → l ≡ plain 94 → ⊥) → bound_at n rs s l.character ≡ Some k
    → lex (Class (n, rs, s)) (l ∷ ls) ≡ lex (Class k) ls
bound_step n rs s l k ls h caret e =
    lex_quiet (Class (n, rs, s)) (Class k) l ls
    (with_bound n rs s l.escaped l.character h (λ z f g. caret z (letter_is l 94 g f)) ∙ ap (λ o. option_map (λ k. record { mode = Class k; token = None }) o) e)

-- what is read of one item or more
pub record IsRead (n : Bool) (rs : List (ℕ × ℕ)) (from : Item) (more : List (ℕ × ℕ)) (x rest : List Letter) : Type 0 where
  pub ranges : List (ℕ × ℕ)
  pub item : Item
  pub ready : IsReady item
  pub later : IsLater item
  pub same : ranges ++ settle item ≡ (rs ++ settle from) ++ more
  pub reads : lex (Class (n, rs, from)) (x ++ rest) ≡ lex (Class (n, ranges, item)) rest

item_read : (n : Bool) (rs : List (ℕ × ℕ)) (s : Item) (range : ℕ × ℕ) (x rest : List Letter) → IsReady s → (s ≡ Start → BeginsWithCaret x → ⊥) → IsItem range x → IsRead n rs s (range ∷ []) x rest
item_read n rs s range x rest ready caret (inl (a, e, bound, is)) = record {
  ranges = rs ++ settle s;
  item = Bound a.character;
  ready = tt;
  later = tt;
  same = ap (λ v. (rs ++ settle s) ++ v ∷ []) (sym is);
  reads = ap (λ v. lex (Class (n, rs, s)) (v ++ rest)) e
      ∙ bound_step n rs s a (n, rs ++ settle s, Bound a.character) rest bound (λ z f. caret z (subst BeginsWithCaret (sym e) f)) (bound_ready n rs s a.character ready);
}
item_read n rs s range x rest ready caret (inr (a, b, e, left, right, order, is)) =
    let rs' = rs ++ settle s in
    record {
      ranges = rs' ++ (a.character, b.character) ∷ [];
      item = Done;
      ready = tt;
      later = tt;
      same = append-nil (rs' ++ (a.character, b.character) ∷ []) ∙ ap (λ v. rs' ++ v ∷ []) (sym is);
      reads = ap (λ v. lex (Class (n, rs, s)) (v ++ rest)) e
          ∙ (bound_step n rs s a (n, rs', Bound a.character) (plain 45 ∷ b ∷ rest) left (λ z f. caret z (subst BeginsWithCaret (sym e) f)) (bound_ready n rs s a.character ready)
          ∙ (lex_quiet (Class (n, rs', Bound a.character)) (Class (n, rs', Range a.character)) (plain 45) (b ∷ rest) refl
          ∙ bound_step n rs' (Range a.character) b (n, rs' ++ (a.character, b.character) ∷ [], Done) rest right (λ z f. cc z) (rw (le-leb a.character b.character order) refl)));
    }

not_start : (s : Item) → IsLater s → s ≡ Start → ⊥
not_start s h e = subst IsLater e h

items_read : (ranges : List (ℕ × ℕ)) (n : Bool) (rs : List (ℕ × ℕ)) (s : Item) (x rest : List Letter) → IsReady s → IsLater s → AreItems ranges x → IsRead n rs s ranges x rest
items_read [] n rs s x rest ready later e = record {
  ranges = rs;
  item = s;
  ready = ready;
  later = later;
  same = sym (append-nil (rs ++ settle s));
  reads = ap (λ v. lex (Class (n, rs, s)) (v ++ rest)) e;
}
items_read (range ∷ ranges) n rs s x rest ready later (y, z, e, item, more) =
    let one = item_read n rs s range y (z ++ rest) ready (λ f g. not_start s later f) item in
    let all = items_read ranges n one.ranges one.item z rest one.ready one.later more in
    record {
      ranges = all.ranges;
      item = all.item;
      ready = all.ready;
      later = all.later;
      same = all.same ∙ (ap (λ v. v ++ ranges) one.same ∙ append_assoc (rs ++ settle s) (range ∷ []) ranges);
      reads = ap (λ v. lex (Class (n, rs, s)) (v ++ rest)) e ∙ (ap (λ v. lex (Class (n, rs, s)) v) (append_assoc y z rest) ∙ (one.reads ∙ all.reads));
    }

-- the end of a class behind some item
class_ends : (n : Bool) (rs : List (ℕ × ℕ)) (s : Item) (back : Bool) (rest : List Letter) (ts : List Token) → IsReady s → IsLater s → lex Outside rest ≡ Some ts
    → lex (Class (n, rs, s)) (dash back ++ plain 93 ∷ rest) ≡ Some (Symbol (n, (rs ++ settle s) ++ dash_range back) ∷ ts)
class_ends n rs Start back rest ts ready later h = absurd later
class_ends n rs Negated back rest ts ready later h = absurd later
class_ends n rs Done false rest ts ready later h =
    lex_token (Class (n, rs, Done)) Outside (Symbol (n, rs)) (plain 93) rest ts refl h ∙ ap (λ v. Some (Symbol (n, v) ∷ ts)) (sym (append-nil (rs ++ []) ∙ append-nil rs))
class_ends n rs Done true rest ts ready later h =
    lex_quiet (Class (n, rs, Done)) (Class (n, rs, Dash)) (plain 45) (plain 93 ∷ rest) refl
    ∙ (lex_token (Class (n, rs, Dash)) Outside (Symbol (n, rs ++ (45, 45) ∷ [])) (plain 93) rest ts refl h ∙ ap (λ v. Some (Symbol (n, v ++ (45, 45) ∷ []) ∷ ts)) (sym (append-nil rs)))
class_ends n rs (Bound c) false rest ts ready later h =
    lex_token (Class (n, rs, Bound c)) Outside (Symbol (n, rs ++ (c, c) ∷ [])) (plain 93) rest ts refl h ∙ ap (λ v. Some (Symbol (n, v) ∷ ts)) (sym (append-nil (rs ++ (c, c) ∷ [])))
class_ends n rs (Bound c) true rest ts ready later h =
    lex_quiet (Class (n, rs, Bound c)) (Class (n, rs, Range c)) (plain 45) (plain 93 ∷ rest) refl
    ∙ lex_token (Class (n, rs, Range c)) Outside (Symbol (n, (rs ++ (c, c) ∷ []) ++ (45, 45) ∷ [])) (plain 93) rest ts refl h
class_ends n rs (Range c) back rest ts ready later h = absurd ready
class_ends n rs Dash back rest ts ready later h = absurd ready

-- where the items of a class begin
abbrev begins : Bool → Item
begins true = Negated
begins false = Start

begin_run : (n : Bool) (ls : List Letter) → lex Outside (plain 91 ∷ (caret n ++ ls)) ≡ lex (Class (n, [], begins n)) ls
begin_run false ls = lex_quiet Outside (Class (false, [], Start)) (plain 91) ls refl
begin_run true ls =
    lex_quiet Outside (Class (false, [], Start)) (plain 91) (plain 94 ∷ ls) refl
    ∙ lex_quiet (Class (false, [], Start)) (Class (true, [], Negated)) (plain 94) ls refl

front_run : (n : Bool) (ls : List Letter) → lex (Class (n, [], begins n)) (plain 45 ∷ ls) ≡ lex (Class (n, (45, 45) ∷ [], Done)) ls
front_run false ls = lex_quiet (Class (false, [], Start)) (Class (false, (45, 45) ∷ [], Done)) (plain 45) ls refl
front_run true ls = lex_quiet (Class (true, [], Negated)) (Class (true, (45, 45) ∷ [], Done)) (plain 45) ls refl

begins_ready : (n : Bool) → IsReady (begins n)
begins_ready false = tt
begins_ready true = tt

begins_settled : (n : Bool) → settle (begins n) ≡ []
begins_settled false = refl
begins_settled true = refl

begins_start : (n : Bool) → begins n ≡ Start → n ≡ false
begins_start false e = refl
begins_start true e = cc e

caret_front : (x y : List Letter) → BeginsWithCaret x → BeginsWithCaret (x ++ y)
caret_front [] y h = absurd h
caret_front (l ∷ x) y h = h

-- the items and the end of a class, behind its start
items_end : (front : Bool) (n : Bool) (middle : List (ℕ × ℕ)) (back : Bool) (items rest : List Letter) (ts : List Token) → AreItems middle items
    → (dash_range front ++ (middle ++ dash_range back) ≡ [] → ⊥) → (n ≡ false → BeginsWithCaret (dash front ++ items) → ⊥) → lex Outside rest ≡ Some ts
    → lex (Class (n, [], begins n)) (dash front ++ (items ++ (dash back ++ plain 93 ∷ rest))) ≡ Some (Symbol (n, dash_range front ++ (middle ++ dash_range back)) ∷ ts)
items_end true n middle back items rest ts are some caret h =
    let all = items_read middle n ((45, 45) ∷ []) Done items (dash back ++ plain 93 ∷ rest) tt tt are in
    front_run n (items ++ (dash back ++ plain 93 ∷ rest))
    ∙ (all.reads
    ∙ (class_ends n all.ranges all.item back rest ts all.ready all.later h
    ∙ ap (λ v. Some (Symbol (n, v ++ dash_range back) ∷ ts)) all.same))
items_end false n [] true items rest ts are some caret h =
    ap (λ v. lex (Class (n, [], begins n)) (v ++ (plain 45 ∷ plain 93 ∷ rest))) are
    ∙ (front_run n (plain 93 ∷ rest) ∙ lex_token (Class (n, (45, 45) ∷ [], Done)) Outside (Symbol (n, (45, 45) ∷ [])) (plain 93) rest ts refl h)
items_end false n [] false items rest ts are some caret h = absurd (some refl)
items_end false n (range ∷ ranges) back items rest ts (x, y, e, item, more) some caret h =
    let end = dash back ++ plain 93 ∷ rest in
    let one = item_read n [] (begins n) range x (y ++ end) (begins_ready n) (λ f g. caret (begins_start n f) (subst BeginsWithCaret (sym e) (caret_front x y g))) item in
    let all = items_read ranges n one.ranges one.item y end one.ready one.later more in
    let same : all.ranges ++ settle all.item ≡ range ∷ ranges = all.same ∙ ap (λ v. v ++ ranges) (one.same ∙ ap (λ v. v ++ range ∷ []) (begins_settled n)) in
    ap (λ v. lex (Class (n, [], begins n)) (v ++ end)) e
    ∙ (ap (λ v. lex (Class (n, [], begins n)) v) (append_assoc x y end)
    ∙ (one.reads
    ∙ (all.reads
    ∙ (class_ends n all.ranges all.item back rest ts all.ready all.later h
    ∙ ap (λ v. Some (Symbol (n, v ++ dash_range back) ∷ ts)) same))))

-- the letters of a class are read as its token
pub class_complete : (y : Bool × List (ℕ × ℕ)) (x rest : List Letter) (ts : List Token) → IsClass y x → lex Outside rest ≡ Some ts → lex Outside (x ++ rest) ≡ Some (Symbol y ∷ ts)
class_complete y x rest ts k h =
    let end = λ (v : List Letter). k.items ++ (dash k.back ++ v) in
    let shift : plain 91 ∷ (caret y.0 ++ (dash k.front ++ (k.items ++ (dash k.back ++ plain 93 ∷ [])))) ++ rest ≡ plain 91 ∷ (caret y.0 ++ (dash k.front ++ (k.items ++ (dash k.back ++ plain 93 ∷ rest)))) =
    ap (λ v. plain 91 ∷ v)
    (append_assoc (caret y.0) (dash k.front ++ (k.items ++ (dash k.back ++ plain 93 ∷ []))) rest
    ∙ ap (λ v. caret y.0 ++ v)
    (append_assoc (dash k.front) (k.items ++ (dash k.back ++ plain 93 ∷ [])) rest
    ∙ ap (λ v. dash k.front ++ v) (append_assoc k.items (dash k.back ++ plain 93 ∷ []) rest ∙ ap (λ v. k.items ++ v) (append_assoc (dash k.back) (plain 93 ∷ []) rest)))) in
    ap (λ v. lex Outside (v ++ rest)) k.letters
    ∙ (ap (λ v. lex Outside v) shift
    ∙ (begin_run y.0 (dash k.front ++ (k.items ++ (dash k.back ++ plain 93 ∷ rest)))
    ∙ (items_end k.front y.0 k.middle k.back k.items rest ts k.are_items (λ z. k.some (k.ranges ∙ z)) k.unnegated h
    ∙ ap (λ v. Some (Symbol (y.0, v) ∷ ts)) (sym k.ranges))))

-- what is left of a class where no item is open
pub record IsTail (rs : List (ℕ × ℕ)) (x : List Letter) (r : List (ℕ × ℕ)) : Type 0 where
  pub middle : List (ℕ × ℕ)
  pub items : List Letter
  pub back : Bool
  pub letters : x ≡ items ++ dash back
  pub are_items : AreItems middle items
  pub ranges : r ≡ rs ++ (middle ++ dash_range back)

-- what is left of a class where this item is open
abbrev Continues : Item → List (ℕ × ℕ) → List Letter → List (ℕ × ℕ) → Type 0
Continues Start rs x r = ⊥
Continues Negated rs x r = ⊥
Continues Done rs x r = IsTail rs x r
Continues (Bound c) rs x r = IsTail (rs ++ (c, c) ∷ []) x r ⊎ ((b : Letter) × (z : List Letter) × (x ≡ plain 45 ∷ b ∷ z) × IsBound b × (c ≤ b.character) × IsTail (rs ++ (c, b.character) ∷ []) z r)
Continues (Range c) rs x r = ((x ≡ []) × (r ≡ (rs ++ (c, c) ∷ []) ++ (45, 45) ∷ [])) ⊎ ((b : Letter) × (z : List Letter) × (x ≡ b ∷ z) × IsBound b × (c ≤ b.character) × IsTail (rs ++ (c, b.character) ∷ []) z r)
Continues Dash rs x r = (x ≡ []) × (r ≡ rs ++ (45, 45) ∷ [])

-- a bound, and what is left behind it
tail_bound : (rs : List (ℕ × ℕ)) (l : Letter) (x : List Letter) (r : List (ℕ × ℕ)) → IsBound l → Continues (Bound l.character) rs x r → IsTail rs (l ∷ x) r
tail_bound rs l x r bound (inl tail) = record {
  middle = (l.character, l.character) ∷ tail.middle;
  items = l ∷ tail.items;
  back = tail.back;
  letters = ap (λ v. l ∷ v) tail.letters;
  are_items = (l ∷ [], tail.items, refl, inl (l, refl, bound, refl), tail.are_items);
  ranges = tail.ranges ∙ append_assoc rs ((l.character, l.character) ∷ []) (tail.middle ++ dash_range tail.back);
}
tail_bound rs l x r bound (inr (b, z, e, right, order, tail)) = record {
  middle = (l.character, b.character) ∷ tail.middle;
  items = l ∷ plain 45 ∷ b ∷ tail.items;
  back = tail.back;
  letters = ap (λ v. l ∷ v) (e ∙ ap (λ v. plain 45 ∷ b ∷ v) tail.letters);
  are_items = (l ∷ plain 45 ∷ b ∷ [], tail.items, refl, inr (l, b, refl, bound, right, order, refl), tail.are_items);
  ranges = tail.ranges ∙ append_assoc rs ((l.character, b.character) ∷ []) (tail.middle ++ dash_range tail.back);
}

tail_empty : (rs : List (ℕ × ℕ)) → IsTail rs [] rs
tail_empty rs = record { middle = []; items = []; back = false; letters = refl; are_items = refl; ranges = sym (append-nil rs) }

tail_dash : (rs : List (ℕ × ℕ)) (x : List Letter) (r : List (ℕ × ℕ)) → x ≡ [] → r ≡ rs ++ (45, 45) ∷ [] → IsTail rs (plain 45 ∷ x) r
tail_dash rs x r e is = record { middle = []; items = []; back = true; letters = ap (λ v. plain 45 ∷ v) e; are_items = refl; ranges = is }

-- the closing bracket
close_sound : (n : Bool) (rs : List (ℕ × ℕ)) (s : Item) (y : Bool × List (ℕ × ℕ)) → close_at n rs s ≡ Some y → (r : List (ℕ × ℕ)) × ((n, r) ≡ y) × Continues s rs [] r
close_sound n rs Start y e = cc e
close_sound n rs Negated y e = cc e
close_sound n rs Done y e = (rs, cc e, tail_empty rs)
close_sound n rs (Bound c) y e = (rs ++ (c, c) ∷ [], cc e, inl (tail_empty (rs ++ (c, c) ∷ [])))
close_sound n rs (Range c) y e = ((rs ++ (c, c) ∷ []) ++ (45, 45) ∷ [], cc e, inl (refl, refl))
close_sound n rs Dash y e = (rs ++ (45, 45) ∷ [], cc e, (refl, refl))

-- what a letter other than the closing bracket is
abbrev With : Bool → List (ℕ × ℕ) → Item → Letter → Bool × List (ℕ × ℕ) × Item → Type 0
With n rs s l k = ((l ≡ plain 45) × (dash_at n rs s ≡ Some k))
    ⊎ ((IsBound l × (bound_at n rs s l.character ≡ Some k) × (s ≡ Start → l ≡ plain 94 → ⊥)) ⊎ ((l ≡ plain 94) × (s ≡ Start) × ((true, rs, Negated) ≡ k)))

caret_cases : (n : Bool) (rs : List (ℕ × ℕ)) (s : Item) (k : Bool × List (ℕ × ℕ) × Item) → caret_at n rs s ≡ Some k
    → ((s ≡ Start) × ((true, rs, Negated) ≡ k)) ⊎ ((s ≡ Start → ⊥) × (bound_at n rs s 94 ≡ Some k))
caret_cases n rs Start k e = inl (refl, cc e)
caret_cases n rs Negated k e = inr (λ z. cc z, e)
caret_cases n rs Done k e = inr (λ z. cc z, e)
caret_cases n rs (Bound c) k e = inr (λ z. cc z, e)
caret_cases n rs (Range c) k e = inr (λ z. cc z, e)
caret_cases n rs Dash k e = inr (λ z. cc z, e)

with_plain : (n : Bool) (rs : List (ℕ × ℕ)) (s : Item) (c : ℕ) (k : Bool × List (ℕ × ℕ) × Item) → c ≢ 93 → class_with (n, rs, s) (plain c) ≡ Some k → With n rs s (plain c) k
with_plain n rs s c k inside e =
    elim (cases_eq c 45) [
      | inl d ↦
          let at : dash_at n rs s ≡ Some k = sym (rw (eq-eqb c 45 d) refl) ∙ e in
          inl (ap plain d, at)
      | inr no_dash ↦
          elim (cases_eq c 91) [
            | inl d ↦
                let at : None ≡ Some k = sym (rw (ne_eqb c 45 no_dash, eq-eqb c 91 d) refl) ∙ e in
                cc at
            | inr no_bracket ↦
                let bound : IsBound (plain c) = rw (ne_eqb c 45 no_dash, ne_eqb c 91 no_bracket, ne_eqb c 93 inside) refl in
                elim (cases_eq c 94) [
                  | inl d ↦
                      let at : caret_at n rs s ≡ Some k = sym (rw (ne_eqb c 45 no_dash, ne_eqb c 91 no_bracket, eq-eqb c 94 d) refl) ∙ e in
                      elim (caret_cases n rs s k at) [
                        | inl (start, is) ↦ inr (inr (ap plain d, start, is))
                        | inr (later, is) ↦ inr (inl (bound, ap (λ x. bound_at n rs s x) d ∙ is, λ z f. later z))
                      ]
                  | inr other ↦
                      let at : bound_at n rs s c ≡ Some k = sym (rw (ne_eqb c 45 no_dash, ne_eqb c 91 no_bracket, ne_eqb c 94 other) refl) ∙ e in
                      inr (inl (bound, at, λ z f. other (ap (λ (x : Letter). x.character) f)))
                ]
          ]
    ]

with_escape : (n : Bool) (rs : List (ℕ × ℕ)) (s : Item) (c : ℕ) (k : Bool × List (ℕ × ℕ) × Item) → class_with (n, rs, s) (record { character = c; escaped = true }) ≡ Some k → With n rs s (record { character = c; escaped = true }) k
with_escape n rs s c k e = inr (inl (refl, e, λ z f. true≢false (ap (λ (x : Letter). x.escaped) f)))

with_cases : (n : Bool) (rs : List (ℕ × ℕ)) (s : Item) (c : ℕ) (b : Bool) (k : Bool × List (ℕ × ℕ) × Item) → (eqb c 93 && not b) ≡ false → class_with (n, rs, s) (record { character = c; escaped = b }) ≡ Some k
    → With n rs s (record { character = c; escaped = b }) k
with_cases n rs s c true k inside e = with_escape n rs s c k e
with_cases n rs s c false k inside e = with_plain n rs s c k (λ d. true≢false (sym (rw (eq-eqb c 93 d) refl) ∙ inside)) e

-- the letters up to the closing bracket, the ranges that they give, and what follows
abbrev Closed : Bool → List Letter → List Token → (List Letter → List (ℕ × ℕ) → Type 0) → Type 0
Closed n ls ts Rest = (r : List (ℕ × ℕ)) × (x : List Letter) × (y : List Letter) × (us : List Token) × (ls ≡ x ++ plain 93 ∷ y) × (ts ≡ Symbol (n, r) ∷ us) × (lex Outside y ≡ Some us) × Rest x r

-- one letter before a closed class
one_before : (n : Bool) (l : Letter) (ls : List Letter) (ts : List Token) (Rest More : List Letter → List (ℕ × ℕ) → Type 0) → ((x : List Letter) (r : List (ℕ × ℕ)) → Rest x r → More (l ∷ x) r)
    → Closed n ls ts Rest → Closed n (l ∷ ls) ts More
one_before n l ls ts Rest More f (r, x, y, us, split, tokens, after, rest) = (r, l ∷ x, y, us, ap (λ v. l ∷ v) split, tokens, after, f x r rest)

-- a dash behind a bound
range_behind : (c : ℕ) (rs : List (ℕ × ℕ)) (l : Letter) (x : List Letter) (r : List (ℕ × ℕ)) → l ≡ plain 45 → Continues (Range c) rs x r → Continues (Bound c) rs (l ∷ x) r
range_behind c rs l x r dashes (inl (e, is)) = inl (subst (λ (z : Letter). IsTail (rs ++ (c, c) ∷ []) (z ∷ x) r) (sym dashes) (tail_dash (rs ++ (c, c) ∷ []) x r e is))
range_behind c rs l x r dashes (inr (b, z, e, bound, order, tail)) = inr (b, z, ap (λ (y : Letter). y ∷ x) dashes ∙ ap (λ v. plain 45 ∷ v) e, bound, order, tail)

-- the first letter of an open class
class_first : (n : Bool) (rs : List (ℕ × ℕ)) (s : Item) (l : Letter) (ls : List Letter) (ts : List Token) → lex (Class (n, rs, s)) (l ∷ ls) ≡ Some ts
    → ((r : List (ℕ × ℕ)) × (us : List Token) × (l ≡ plain 93) × (ts ≡ Symbol (n, r) ∷ us) × (lex Outside ls ≡ Some us) × Continues s rs [] r)
    ⊎ ((k : Bool × List (ℕ × ℕ) × Item) × With n rs s l k × (lex (Class k) ls ≡ Some ts))
class_first n rs s l ls ts e =
    let (st, us, here, rest, all) = lex_first (Class (n, rs, s)) l ls ts e in
    elim (cases_Bool (eqb l.character 93 && not l.escaped)) [
      | inl ends ↦
          let at : option_map (λ y. record { mode = Outside; token = Some (Symbol y) }) (close_at n rs s) ≡ Some st = sym (rw ends refl) ∙ here in
          let (y, closes, is) = map_some (λ y. record { mode = Outside; token = Some (Symbol y) }) (close_at n rs s) st at in
          let (r, same, rest_is) = close_sound n rs s y closes in
          let parts = and_parts (eqb l.character 93) (not l.escaped) ends in
          let letter : l ≡ plain 93 = letter_is l 93 (eqb-true l.character 93 parts.0) (not-true l.escaped parts.1) in
          let after : lex Outside ls ≡ Some us = ap (λ (x : Step). lex x.mode ls) (sym is) ∙ rest in
          let tokens : ts ≡ Symbol (n, r) ∷ us = all ∙ (ap (λ (x : Step). option_to_list x.token ++ us) is ∙ ap (λ (z : Bool × List (ℕ × ℕ)). Symbol z ∷ us) (sym same)) in
          inl (r, us, letter, tokens, after, rest_is)
      | inr goes ↦
          let at : option_map (λ k. record { mode = Class k; token = None }) (class_with (n, rs, s) l) ≡ Some st = sym (rw goes refl) ∙ here in
          let (k, with, is) = map_some (λ k. record { mode = Class k; token = None }) (class_with (n, rs, s) l) st at in
          let after : lex (Class k) ls ≡ Some us = ap (λ (x : Step). lex x.mode ls) (sym is) ∙ rest in
          let tokens : ts ≡ us = all ∙ ap (λ (x : Step). option_to_list x.token ++ us) is in
          inr (k, with_cases n rs s l.character l.escaped k goes with, after ∙ ap Some (sym tokens))
    ]

closed_here : (n : Bool) (rs : List (ℕ × ℕ)) (s : Item) (l : Letter) (ls : List Letter) (ts : List Token)
    → (r : List (ℕ × ℕ)) × (us : List Token) × (l ≡ plain 93) × (ts ≡ Symbol (n, r) ∷ us) × (lex Outside ls ≡ Some us) × Continues s rs [] r → Closed n (l ∷ ls) ts (Continues s rs)
closed_here n rs s l ls ts (r, us, letter, tokens, after, rest) = (r, [], ls, us, ap (λ (x : Letter). x ∷ ls) letter, tokens, after, rest)

ordered : (n : Bool) (rs : List (ℕ × ℕ)) (c d : ℕ) (k : Bool × List (ℕ × ℕ) × Item) → bound_at n rs (Range c) d ≡ Some k → (c ≤ d) × ((n, rs ++ (c, d) ∷ [], Done) ≡ k)
ordered n rs c d k e =
    elim (cases_Bool (leb c d)) [
      | inl low ↦ let at : Some (n, rs ++ (c, d) ∷ [], Done) ≡ Some k = sym (rw low refl) ∙ e in (leb-true c d low, cc at)
      | inr high ↦ let at : None ≡ Some k = sym (rw high refl) ∙ e in cc at
    ]

-- an open item is closed as the grammar says
class_sound : (ls : List Letter) (n : Bool) (rs : List (ℕ × ℕ)) (s : Item) (ts : List Token) → IsLater s → lex (Class (n, rs, s)) ls ≡ Some ts → Closed n ls ts (Continues s rs)
class_sound [] n rs s ts later e = cc e
class_sound (l ∷ ls) n rs Start ts later e = absurd later
class_sound (l ∷ ls) n rs Negated ts later e = absurd later
class_sound (l ∷ ls) n rs Done ts later e =
    elim (class_first n rs Done l ls ts e) [
      | inl here ↦ closed_here n rs Done l ls ts here
      | inr (k, inl (dashes, at), after) ↦
          let is : (n, rs, Dash) ≡ k = cc at in
          let inner = class_sound ls n rs Dash ts tt (ap (λ z. lex (Class z) ls) is ∙ after) in
          one_before n l ls ts (Continues Dash rs) (Continues Done rs) (λ x r (f, g). subst (λ (z : Letter). IsTail rs (z ∷ x) r) (sym dashes) (tail_dash rs x r f g)) inner
      | inr (k, inr (inl (bound, at, caret)), after) ↦
          let is : (n, rs, Bound l.character) ≡ k = cc at in
          let inner = class_sound ls n rs (Bound l.character) ts tt (ap (λ z. lex (Class z) ls) is ∙ after) in
          one_before n l ls ts (Continues (Bound l.character) rs) (Continues Done rs) (λ x r f. tail_bound rs l x r bound f) inner
      | inr (k, inr (inr (c, start, is)), after) ↦ cc start
    ]
class_sound (l ∷ ls) n rs (Bound c) ts later e =
    elim (class_first n rs (Bound c) l ls ts e) [
      | inl here ↦ closed_here n rs (Bound c) l ls ts here
      | inr (k, inl (dashes, at), after) ↦
          let is : (n, rs, Range c) ≡ k = cc at in
          let inner = class_sound ls n rs (Range c) ts tt (ap (λ z. lex (Class z) ls) is ∙ after) in
          one_before n l ls ts (Continues (Range c) rs) (Continues (Bound c) rs) (λ x r f. range_behind c rs l x r dashes f) inner
      | inr (k, inr (inl (bound, at, caret)), after) ↦
          let is : (n, rs ++ (c, c) ∷ [], Bound l.character) ≡ k = cc at in
          let inner = class_sound ls n (rs ++ (c, c) ∷ []) (Bound l.character) ts tt (ap (λ z. lex (Class z) ls) is ∙ after) in
          one_before n l ls ts (Continues (Bound l.character) (rs ++ (c, c) ∷ [])) (Continues (Bound c) rs) (λ x r f. inl (tail_bound (rs ++ (c, c) ∷ []) l x r bound f)) inner
      | inr (k, inr (inr (d, start, is)), after) ↦ cc start
    ]
class_sound (l ∷ ls) n rs (Range c) ts later e =
    elim (class_first n rs (Range c) l ls ts e) [
      | inl here ↦ closed_here n rs (Range c) l ls ts here
      | inr (k, inl (dashes, at), after) ↦ cc at
      | inr (k, inr (inl (bound, at, caret)), after) ↦
          let (order, is) = ordered n rs c l.character k at in
          let inner = class_sound ls n (rs ++ (c, l.character) ∷ []) Done ts tt (ap (λ z. lex (Class z) ls) is ∙ after) in
          one_before n l ls ts (Continues Done (rs ++ (c, l.character) ∷ [])) (Continues (Range c) rs) (λ x r f. inr (l, x, refl, bound, order, f)) inner
      | inr (k, inr (inr (d, start, is)), after) ↦ cc start
    ]
class_sound (l ∷ ls) n rs Dash ts later e =
    elim (class_first n rs Dash l ls ts e) [
      | inl here ↦ closed_here n rs Dash l ls ts here
      | inr (k, inl (dashes, at), after) ↦ cc at
      | inr (k, inr (inl (bound, at, caret)), after) ↦ cc at
      | inr (k, inr (inr (d, start, is)), after) ↦ cc start
    ]

-- the items of a class from its start
pub record IsFresh (x : List Letter) (r : List (ℕ × ℕ)) : Type 0 where
  pub front : Bool
  pub others : List Letter
  pub letters : x ≡ dash front ++ others
  pub tail : IsTail (dash_range front) others r
  pub some : r ≡ [] → ⊥

fresh_dash : (l : Letter) (x : List Letter) (r : List (ℕ × ℕ)) → l ≡ plain 45 → IsTail ((45, 45) ∷ []) x r → IsFresh (l ∷ x) r
fresh_dash l x r is tail = record {
  front = true;
  others = x;
  letters = ap (λ (z : Letter). z ∷ x) is;
  tail = tail;
  some = λ e. let both : (45, 45) ∷ (tail.middle ++ dash_range tail.back) ≡ [] = sym tail.ranges ∙ e in cc both;
}

bound_some : (c : ℕ) (x : List Letter) (r : List (ℕ × ℕ)) → Continues (Bound c) [] x r → r ≡ [] → ⊥
bound_some c x r (inl tail) e = let both : (c, c) ∷ (tail.middle ++ dash_range tail.back) ≡ [] = sym tail.ranges ∙ e in cc both
bound_some c x r (inr (b, z, f, right, order, tail)) e = let both : (c, b.character) ∷ (tail.middle ++ dash_range tail.back) ≡ [] = sym tail.ranges ∙ e in cc both

fresh_bound : (l : Letter) (x : List Letter) (r : List (ℕ × ℕ)) → IsBound l → Continues (Bound l.character) [] x r → IsFresh (l ∷ x) r
fresh_bound l x r bound h = record {
  front = false;
  others = l ∷ x;
  letters = refl;
  tail = tail_bound [] l x r bound h;
  some = bound_some l.character x r h;
}

negated_sound : (ls : List Letter) (n : Bool) (ts : List Token) → lex (Class (n, [], Negated)) ls ≡ Some ts → Closed n ls ts IsFresh
negated_sound [] n ts e = cc e
negated_sound (l ∷ ls) n ts e =
    elim (class_first n [] Negated l ls ts e) [
      | inl (r, us, letter, tokens, after, nothing) ↦ absurd nothing
      | inr (k, inl (dashes, at), after) ↦
          let is : (n, (45, 45) ∷ [], Done) ≡ k = cc at in
          one_before n l ls ts (Continues Done ((45, 45) ∷ [])) IsFresh (λ x r f. fresh_dash l x r dashes f) (class_sound ls n ((45, 45) ∷ []) Done ts tt (ap (λ z. lex (Class z) ls) is ∙ after))
      | inr (k, inr (inl (bound, at, caret)), after) ↦
          let is : (n, [], Bound l.character) ≡ k = cc at in
          one_before n l ls ts (Continues (Bound l.character) []) IsFresh (λ x r f. fresh_bound l x r bound f) (class_sound ls n [] (Bound l.character) ts tt (ap (λ z. lex (Class z) ls) is ∙ after))
      | inr (k, inr (inr (c, start, is)), after) ↦ cc start
    ]

-- the items of a class, of which no caret is the first unless it is negated
abbrev Unnegated : Bool → List Letter → List (ℕ × ℕ) → Type 0
Unnegated n x r = IsFresh x r × (n ≡ false → BeginsWithCaret x → ⊥)

no_caret : (l : Letter) → l ≡ plain 45 → l ≡ plain 94 → ⊥
no_caret l e f =
    let same : ◌≡◌ {A = ℕ} 45 94 = sym (ap (λ (x : Letter). x.character) e) ∙ ap (λ (x : Letter). x.character) f in
    absurd (omega arith)

start_sound : (ls : List Letter) (ts : List Token) → lex (Class (false, [], Start)) ls ≡ Some ts → (n : Bool) × (ms : List Letter) × (ls ≡ caret n ++ ms) × Closed n ms ts (Unnegated n)
start_sound [] ts e = cc e
start_sound (l ∷ ls) ts e =
    elim (class_first false [] Start l ls ts e) [
      | inl (r, us, letter, tokens, after, nothing) ↦ absurd nothing
      | inr (k, inl (dashes, at), after) ↦
          let is : (false, (45, 45) ∷ [], Done) ≡ k = cc at in
          (false, l ∷ ls, refl, one_before false l ls ts (Continues Done ((45, 45) ∷ [])) (Unnegated false) (λ x r f. (fresh_dash l x r dashes f, λ z g. no_caret l dashes g)) (class_sound ls false ((45, 45) ∷ []) Done ts tt (ap (λ z. lex (Class z) ls) is ∙ after)))
      | inr (k, inr (inl (bound, at, first)), after) ↦
          let is : (false, [], Bound l.character) ≡ k = cc at in
          (false, l ∷ ls, refl, one_before false l ls ts (Continues (Bound l.character) []) (Unnegated false) (λ x r f. (fresh_bound l x r bound f, λ z g. first refl g)) (class_sound ls false [] (Bound l.character) ts tt (ap (λ z. lex (Class z) ls) is ∙ after)))
      | inr (k, inr (inr (c, start, is)), after) ↦
          let (r, x, y, us, split, tokens, end, fresh) = negated_sound ls true ts (ap (λ z. lex (Class z) ls) is ∙ after) in
          (true, ls, ap (λ (z : Letter). z ∷ ls) c, (r, x, y, us, split, tokens, end, (fresh, λ z g. true≢false z)))
    ]

-- a class is read only from its letters
pub class_token : (ls : List Letter) (ts : List Token) → lex (Class (false, [], Start)) ls ≡ Some ts
    → (y : Bool × List (ℕ × ℕ)) × (x : List Letter) × (rest : List Letter) × (us : List Token) × (plain 91 ∷ ls ≡ x ++ rest) × (ts ≡ Symbol y ∷ us) × (lex Outside rest ≡ Some us) × IsClass y x
class_token ls ts e =
    let (n, ms, starts, (r, x, rest, us, split, tokens, after, (fresh, caret_free))) = start_sound ls ts e in
    let tail = fresh.tail in
    let end = plain 93 ∷ [] in
    let body : x ≡ dash fresh.front ++ (tail.items ++ dash tail.back) = fresh.letters ∙ ap (λ v. dash fresh.front ++ v) tail.letters in
    let front_part : x ≡ (dash fresh.front ++ tail.items) ++ dash tail.back = body ∙ sym (append_assoc (dash fresh.front) tail.items (dash tail.back)) in
    let spelled : plain 91 ∷ (caret n ++ (x ++ end)) ≡ plain 91 ∷ (caret n ++ (dash fresh.front ++ (tail.items ++ (dash tail.back ++ end)))) =
    ap (λ v. plain 91 ∷ (caret n ++ v)) (ap (λ v. v ++ end) body ∙ (append_assoc (dash fresh.front) (tail.items ++ dash tail.back) end ∙ ap (λ v. dash fresh.front ++ v) (append_assoc tail.items (dash tail.back) end))) in (
      (n, r),
      plain 91 ∷ (caret n ++ (x ++ end)),
      rest,
      us,
      ap (λ v. plain 91 ∷ v) (starts ∙ (ap (λ v. caret n ++ v) (split ∙ sym (append_assoc x end rest)) ∙ sym (append_assoc (caret n) (x ++ end) rest))),
      tokens,
      after,
      record {
        front = fresh.front;
        back = tail.back;
        middle = tail.middle;
        items = tail.items;
        letters = spelled;
        are_items = tail.are_items;
        ranges = tail.ranges;
        some = fresh.some;
        unnegated = λ z f. caret_free z (subst BeginsWithCaret (sym front_part) (caret_front (dash fresh.front ++ tail.items) (dash tail.back) f));
      },
    )
