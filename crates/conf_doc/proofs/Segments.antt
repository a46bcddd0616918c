-- Blocks of a list in front of a change of it and behind it, and what two blocks with one text tell.
use Rattle.std.proofs.Common.{◌≡◌, ◌⊎◌, inl, inr, ℕ, zero, suc, ◌+◌, ◌-◌, ◌<◌, ◌≤◌, List, [], ◌∷◌, length, map, take, drop, set, insert, remove, slice_get, Some, None, Option, refl, sym, ap, subst, ◌∙◌, arith}
use Rattle.std.specs.Prelude.{is_some, if◌then◌else◌}
use Rattle.std.proofs.Math.Seq.{drop-nil}
use Rattle.std.proofs.lemmas.Bool.{cases_lt}
use Rattle.std.proofs.lemmas.List.{drop-set-lt, length-drop, length-set, take-set}
use Rattle.std.proofs.lemmas.List.Edits.{length-insert, length-remove}
use Rattle.conf_doc.specs.Blocks.{AreApart, AreSame, IsBlock, IsEdited, keys_of}
use Rattle.conf_doc.specs.Indexes.{IsAt, IsGap}
use Rattle.conf_doc.specs.Joined.{IsJoined, bare, segment}
use Rattle.conf_doc.specs.Pairs.{IsRising, set_part}
use Rattle.conf_doc.specs.Runs.{IsRun}
use Rattle.conf_doc.specs.declared.blocks.Block.{Block}
use Rattle.conf_doc.specs.declared.configuration.Entry.{Entry}
use Rattle.conf_doc.proofs.Edits.{put_at, put_gap, same_Some, without_at, without_gap}
use Rattle.conf_doc.proofs.Joined.{same_entries, slice_get_drop}
use Rattle.conf_doc.proofs.Lists.{length-map, map-map}

module _ {A : Type 0} where
  get_first : (xs : List A) (n k : ℕ) → k < n → slice_get (take n xs) k ≡ slice_get xs k
  get_first xs zero k lt = absurd (omega arith)
  get_first [] (suc n) k lt = refl
  get_first (x ∷ xs) (suc n) zero lt = refl
  get_first (x ∷ xs) (suc n) (suc k) lt = get_first xs n k (omega arith)

  get_segment : (xs : List A) (i n k : ℕ) → k < n → slice_get (segment i n xs) k ≡ slice_get xs (i + k)
  get_segment xs i n k lt = get_first (drop i xs) n k lt ∙ slice_get_drop i k xs

  length_first : (xs : List A) (n : ℕ) → n ≤ length xs → length (take n xs) ≡ n
  length_first xs zero le = refl
  length_first [] (suc n) le = absurd (omega (arith, le))
  length_first (x ∷ xs) (suc n) le = ap suc (length_first xs n (omega (arith, le)))

  length_segment : (xs : List A) (i n : ℕ) → i + n ≤ length xs → length (segment i n xs) ≡ n
  length_segment xs i n le = let long = length-drop i xs in length_first (drop i xs) n (omega (arith, le, long))

  pub same_segments : (xs ys : List A) (i j n : ℕ) → i + n ≤ length xs → j + n ≤ length ys → segment i n xs ≡ segment j n ys → AreSame xs i ys j n
  same_segments xs ys i j n within beside e =
      record { within = within; beside = beside; same = λ k lt. sym (get_segment xs i n k lt) ∙ ap (λ zs. slice_get zs k) e ∙ get_segment ys j n k lt }

  take_take : (xs : List A) (n m : ℕ) → n ≤ m → take n (take m xs) ≡ take n xs
  take_take xs zero m le = refl
  take_take [] (suc n) zero le = refl
  take_take [] (suc n) (suc m) le = refl
  take_take (x ∷ xs) (suc n) zero le = absurd (omega arith)
  take_take (x ∷ xs) (suc n) (suc m) le = ap (λ ys. x ∷ ys) (take_take xs n m (omega arith))

  segment_front : (xs : List A) (at start count : ℕ) → start + count ≤ at → segment start count (take at xs) ≡ segment start count xs
  segment_front xs at zero count le = take_take xs count at (omega (arith, le))
  segment_front [] zero (suc start) count le = refl
  segment_front [] (suc at) (suc start) count le = refl
  segment_front (x ∷ xs) zero (suc start) count le = absurd (omega (arith, le))
  segment_front (x ∷ xs) (suc at) (suc start) count le = segment_front xs at start count (omega (arith, le))

  drop_more : (xs : List A) (b d : ℕ) → drop (b + d) xs ≡ drop d (drop b xs)
  drop_more xs zero d = let e : 0 + d ≡ d = omega arith in ap (λ n. drop n xs) e
  drop_more [] (suc b) d = drop-nil (suc b + d) ∙ sym (drop-nil d)
  drop_more (x ∷ xs) (suc b) d = let e : suc b + d ≡ suc (b + d) = omega arith in ap (λ n. drop n (x ∷ xs)) e ∙ drop_more xs b d

  front_remove : (xs : List A) (i : ℕ) → take i (remove xs i) ≡ take i xs
  front_remove xs zero = refl
  front_remove [] (suc i) = refl
  front_remove (x ∷ xs) (suc i) = ap (λ ys. x ∷ ys) (front_remove xs i)

  behind_remove : (xs : List A) (i : ℕ) → i < length xs → drop i (remove xs i) ≡ drop (suc i) xs
  behind_remove [] i within = absurd (omega arith)
  behind_remove (x ∷ xs) zero within = refl
  behind_remove (x ∷ xs) (suc i) within = behind_remove xs i (omega arith)

  front_insert : (xs : List A) (i : ℕ) (y : A) → i ≤ length xs → take i (insert xs i y) ≡ take i xs
  front_insert xs zero y within = refl
  front_insert [] (suc i) y within = absurd (omega arith)
  front_insert (x ∷ xs) (suc i) y within = ap (λ ys. x ∷ ys) (front_insert xs i y (omega arith))

  behind_insert : (xs : List A) (i : ℕ) (y : A) → i ≤ length xs → drop (suc i) (insert xs i y) ≡ drop i xs
  behind_insert xs zero y within = refl
  behind_insert [] (suc i) y within = absurd (omega arith)
  behind_insert (x ∷ xs) (suc i) y within = behind_insert xs i y (omega arith)

  -- a change at an index, by what stands in front of it and behind it
  edited : (old new : List A) (at gone come n m : ℕ) → m ≡ at + come → n ≡ at + gone → take at new ≡ take at old → drop m new ≡ drop n old → n ≤ length old
      → m ≤ length new → IsEdited at gone come old new
  edited old new at gone come n m come_is gone_is front behind left there = record {
    front = front;
    behind = ap (λ k. drop k new) (sym come_is) ∙ behind ∙ ap (λ k. drop k old) gone_is;
    left = omega (arith, left, gone_is);
    there = omega (arith, there, come_is);
  }

  edited_set : (xs : List A) (i : ℕ) (y : A) → i < length xs → IsEdited i 1 1 xs (set xs i y)
  edited_set xs i y within =
      let long = length-set xs i y in
      edited xs (set xs i y) i 1 1 (suc i) (suc i) (omega arith) (omega arith) (take-set xs i y) (drop-set-lt (suc i) xs i y (omega arith)) (omega (arith, within))
      (omega (arith, within, long))

  edited_remove : (xs : List A) (i : ℕ) → i < length xs → IsEdited i 1 0 xs (remove xs i)
  edited_remove xs i within =
      let long = length-remove xs i within in
      edited xs (remove xs i) i 1 0 (suc i) i (omega arith) (omega arith) (front_remove xs i) (behind_remove xs i within) (omega (arith, within)) (omega (arith, within, long))

  edited_insert : (xs : List A) (i : ℕ) (y : A) → i ≤ length xs → IsEdited i 0 1 xs (insert xs i y)
  edited_insert xs i y within =
      let long = length-insert xs i y within in
      edited xs (insert xs i y) i 0 1 i (suc i) (omega arith) (omega arith) (front_insert xs i y within) (behind_insert xs i y within) within (omega (arith, within, long))

  pub unedited : (xs : List A) (i : ℕ) → i ≤ length xs → IsEdited i 0 0 xs xs
  unedited xs i within = edited xs xs i 0 0 i i (omega arith) (omega arith) refl refl within within

  -- how long a changed list is
  pub edited_length : (old new : List A) (at gone come : ℕ) → IsEdited at gone come old new → length new ≡ at + come + (length old - (at + gone))
  edited_length old new at gone come edited =
      let behind : length new - (at + come) ≡ length old - (at + gone) = sym (length-drop (at + come) new) ∙ ap length edited.behind ∙ length-drop (at + gone) old in
      let there = edited.there in
      omega (arith, behind, there)

  -- one run behind another
  same_there : (xs ys : List A) (i j n m : ℕ) → AreSame xs i ys j n → AreSame xs (i + n) ys (j + n) m → (k : ℕ) → k < n + m
      → (k < n) ⊎ (n ≤ k) → slice_get xs (i + k) ≡ slice_get ys (j + k)
  same_there xs ys i j n m one two k lt (inl low) = one.same k low
  same_there xs ys i j n m one two k lt (inr le) =
      let past = two.same (k - n) (omega arith) in
      let first : i + n + (k - n) ≡ i + k = omega arith in
      let second : j + n + (k - n) ≡ j + k = omega arith in
      ap (slice_get xs) (sym first) ∙ past ∙ ap (slice_get ys) second

  pub same_more : (xs ys : List A) (i j n m : ℕ) → AreSame xs i ys j n → AreSame xs (i + n) ys (j + n) m → AreSame xs i ys j (n + m)
  same_more xs ys i j n m one two =
      let within = two.within in let beside = two.beside in
      record {
        within = omega (arith, within);
        beside = omega (arith, beside);
        same = λ k lt. same_there xs ys i j n m one two k lt (cases_lt k n);
      }

  pub same_none : (xs ys : List A) (i j : ℕ) → i ≤ length xs → j ≤ length ys → AreSame xs i ys j 0
  same_none xs ys i j within beside = record { within = omega (arith, within); beside = omega (arith, beside); same = λ k lt. absurd (omega (arith, lt)) }

  pub same_one : (xs ys : List A) (i j : ℕ) (x y : A) → i < length xs → j < length ys → slice_get xs i ≡ Some x → slice_get ys j ≡ Some y → x ≡ y → AreSame xs i ys j 1
  same_one xs ys i j x y within beside at there e = record {
    within = omega (arith, within);
    beside = omega (arith, beside);
    same = λ k lt.
        let one : i + k ≡ i = omega (arith, lt) in let two : j + k ≡ j = omega (arith, lt) in
        ap (slice_get xs) one ∙ at ∙ ap Some e ∙ sym there ∙ ap (slice_get ys) (sym two);
  }

  pub run_of : (xs ys : List A) (i j n : ℕ) → AreSame xs i ys j n → AreApart xs (i + n) ys (j + n) → IsRun xs i ys j n
  run_of xs ys i j n are apart = record { within = are.within; beside = are.beside; same = are.same; ends = apart }

  -- lists are the same where all their items are
  same_items : (xs ys : List A) → length xs ≡ length ys → ((k : ℕ) → k < length xs → slice_get xs k ≡ slice_get ys k) → xs ≡ ys
  same_items [] [] long same = refl
  same_items [] (y ∷ ys) long same = absurd (omega (arith, long))
  same_items (x ∷ xs) [] long same = absurd (omega (arith, long))
  same_items (x ∷ xs) (y ∷ ys) long same =
      let first : x ≡ y = same_Some x y (same 0 (omega arith)) in
      let rest = same_items xs ys (omega (arith, long)) (λ k lt. same (suc k) (omega (arith, lt))) in
      λ i. first i ∷ rest i

  pub whole_run : (xs ys : List A) → length ys ≡ length xs → IsRun xs 0 ys 0 (length xs) → xs ≡ ys
  whole_run xs ys long run = same_items xs ys (sym long) (λ k lt. let e : 0 + k ≡ k = omega arith in ap (slice_get xs) (sym e) ∙ run.same k lt ∙ ap (slice_get ys) e)

  item_at : (xs : List A) (n : ℕ) → n < length xs → (x : A) × (slice_get xs n ≡ Some x)
  item_at [] n within = absurd (omega (arith, within))
  item_at (x ∷ xs) zero within = (x, refl)
  item_at (x ∷ xs) (suc n) within = item_at xs n (omega (arith, within))

  ended_run : (xs ys : List A) (n : ℕ) → xs ≡ ys → IsRun xs 0 ys 0 n → (n < length xs) ⊎ (length xs ≤ n) → n ≡ length xs
  ended_run xs ys n same run (inl low) =
      let item = item_at xs n low in
      let e : 0 + n ≡ n = omega arith in
      absurd (run.ends item.0 (ap (slice_get xs) e ∙ item.1) (ap (slice_get ys) e ∙ subst (λ zs. slice_get zs n ≡ Some item.0) same item.1))
  ended_run xs ys n same run (inr le) = let within = run.within in omega (arith, within, le)

  pub run_of_same : (xs ys : List A) (n : ℕ) → xs ≡ ys → IsRun xs 0 ys 0 n → n ≡ length xs
  run_of_same xs ys n same run = ended_run xs ys n same run (cases_lt n (length xs))

module _ {A : Type 0} where
  pub edited_at : (ps : List (List ℕ × A)) (name : List ℕ) (i : ℕ) → IsRising ps → IsAt ps name i → (part : Option A)
      → IsEdited i 1 (if is_some part then 1 else 0) ps (set_part name part ps)
  edited_at ps name i rising at None = subst (IsEdited i 1 0 ps) (sym (without_at ps name i rising at.has)) (edited_remove ps i at.within)
  edited_at ps name i rising at (Some a) = subst (IsEdited i 1 1 ps) (sym (put_at ps name a i rising at.has)) (edited_set ps i (name, a) at.within)

  pub edited_gap : (ps : List (List ℕ × A)) (name : List ℕ) (i : ℕ) → IsRising ps → IsGap ps name i → (part : Option A)
      → IsEdited i 0 (if is_some part then 1 else 0) ps (set_part name part ps)
  edited_gap ps name i rising gap None = subst (IsEdited i 0 0 ps) (sym (without_gap ps name i rising gap.between)) (unedited ps i gap.within)
  edited_gap ps name i rising gap (Some a) = subst (IsEdited i 0 1 ps) (sym (put_gap ps name a i gap.within gap.between)) (edited_insert ps i (name, a) gap.within)

module _ {A B : Type 0} (f : A → B) where
  map-take : (n : ℕ) (xs : List A) → map f (take n xs) ≡ take n (map f xs)
  map-take zero xs = refl
  map-take (suc n) [] = refl
  map-take (suc n) (x ∷ xs) = ap (λ ys. f x ∷ ys) (map-take n xs)

  map-segment : (i n : ℕ) (xs : List A) → map f (segment i n xs) ≡ segment i n (map f xs)
  map-segment zero n xs = map-take n xs
  map-segment (suc i) zero [] = refl
  map-segment (suc i) (suc n) [] = refl
  map-segment (suc i) n (x ∷ xs) = map-segment i n xs

-- entries that are the same one by one have one text
pub same_block : (es fs : List (List ℕ × Entry)) (i j : ℕ) (b : Block) → AreSame es i fs j b.count → IsBlock fs j b → IsBlock es i b
same_block es fs i j b same block =
    let within = same.within in let beside = same.beside in
    let one : length (segment i b.count es) ≡ b.count = length_segment es i b.count within in
    let two : length (segment j b.count fs) ≡ b.count = length_segment fs j b.count beside in
    let is : segment j b.count fs ≡ segment i b.count es =
    same_items (segment j b.count fs) (segment i b.count es) (two ∙ sym one)
    (λ k lt. let low : k < b.count = omega (arith, lt, two) in get_segment fs j b.count k low ∙ sym (same.same k low) ∙ sym (get_segment es i b.count k low)) in
    record {
      within = within;
      keyed = subst (λ xs. IsJoined (bare xs) b.keys) is block.keyed;
      joined = subst (λ xs. IsJoined xs b.text) is block.joined;
    }

-- blocks with one text have the same entries
pub same_blocks : (es fs : List (List ℕ × Entry)) (i j : ℕ) (b c : Block) → IsBlock es i b → IsBlock fs j c → b.count ≡ c.count → b.text ≡ c.text → AreSame es i fs j b.count
same_blocks es fs i j b c one two count text =
    let other = subst (λ k. IsJoined (segment j k fs) c.text) (sym count) two.joined in
    let beside = two.within in
    same_segments es fs i j b.count one.within (omega (arith, beside, count)) (same_entries (segment i b.count es) (segment j b.count fs) b.text c.text one.joined other text)

keys_in : (i n : ℕ) (es : List (List ℕ × Entry)) → keys_of (bare (segment i n es)) ≡ segment i n (keys_of es)
keys_in i n es = map-map (λ e. e.0) (λ e. (e.0, [])) (segment i n es) ∙ map-segment (λ e. e.0) i n es

-- and with one text of their keys the same keys
pub same_keys : (es fs : List (List ℕ × Entry)) (i j : ℕ) (b c : Block) → IsBlock es i b → IsBlock fs j c → b.count ≡ c.count → b.keys ≡ c.keys → AreSame (keys_of es) i (keys_of fs) j b.count
same_keys es fs i j b c one two count keys =
    let other = subst (λ k. IsJoined (bare (segment j k fs)) c.keys) (sym count) two.keyed in
    let is = same_entries (bare (segment i b.count es)) (bare (segment j b.count fs)) b.keys c.keys one.keyed other keys in
    let within = one.within in let beside = two.within in
    let long = length-map (λ e. e.0) es in let long2 = length-map (λ e. e.0) fs in
    same_segments (keys_of es) (keys_of fs) i j b.count (omega (arith, within, long)) (omega (arith, beside, count, long2))
    (sym (keys_in i b.count es) ∙ ap keys_of is ∙ keys_in j b.count fs)

pub moved_front : (old new : List (List ℕ × Entry)) (at gone come start : ℕ) (b : Block) → IsEdited at gone come old new → IsBlock old start b
    → start + b.count ≤ at → IsBlock new start b
moved_front old new at gone come start b edited block le =
    let there = edited.there in
    let count = b.count in
    let same : segment start count old ≡ segment start count new =
    sym (sym (segment_front new at start count le) ∙ ap (segment start count) edited.front ∙ segment_front old at start count le) in
    record {
      within = omega (arith, le, there);
      keyed = subst (λ es. IsJoined (bare es) b.keys) same block.keyed;
      joined = subst (λ es. IsJoined es b.text) same block.joined;
    }

pub moved_behind : (old new : List (List ℕ × Entry)) (at gone come start : ℕ) (b : Block) → IsEdited at gone come old new → IsBlock old start b
    → at + gone ≤ start → IsBlock new (at + come + (start - at - gone)) b
moved_behind old new at gone come start b edited block le =
    let long = edited_length old new at gone come edited in
    let within = block.within in
    let past = start - at - gone in
    let begins : at + gone + past ≡ start = omega (arith, le) in
    let same : drop start old ≡ drop (at + come + past) new =
    sym (drop_more new (at + come) past ∙ ap (drop past) edited.behind ∙ sym (drop_more old (at + gone) past) ∙ ap (λ n. drop n old) begins) in
    record {
      within = omega (arith, le, long, within);
      keyed = subst (λ es. IsJoined (bare (take b.count es)) b.keys) same block.keyed;
      joined = subst (λ es. IsJoined (take b.count es) b.text) same block.joined;
    }
