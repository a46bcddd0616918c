-- The items of a class (RFC 7950, section 9.4.5, and XML Schema, appendix F), letter by letter.
use Rattle.std.specs.Prelude.{ℕ, ◌==◌, nat_le, Bool, true, List, [], ◌∷◌, ◌++◌, Option, Some, None, if◌then◌else◌}
use Rattle.host_core.specs.Characters.{circumflex, hyphen, open_bracket}
use Rattle.yang_pattern.specs.declared.letters.Letter.{Letter}
use Rattle.yang_pattern.specs.declared.classes.Item.{Item}
use Rattle.yang_pattern.specs.declared.classes.Item.TheVariants.{Start, Negated, Done, Bound, Range, Dash}

-- a dash: first or last it means itself, between two bounds it makes a range
abbrev pub dash_at : Bool → List (ℕ × ℕ) → Item → Option (Bool × List (ℕ × ℕ) × Item)
dash_at n rs Start = Some (n, rs ++ (hyphen, hyphen) ∷ [], Done)
dash_at n rs Negated = Some (n, rs ++ (hyphen, hyphen) ∷ [], Done)
dash_at n rs Done = Some (n, rs, Dash)
dash_at n rs (Bound c) = Some (n, rs, Range c)
dash_at n rs (Range c) = None
dash_at n rs Dash = None

-- a character or an escape: an item, or the bound of a range
abbrev pub bound_at : Bool → List (ℕ × ℕ) → Item → ℕ → Option (Bool × List (ℕ × ℕ) × Item)
bound_at n rs Start d = Some (n, rs, Bound d)
bound_at n rs Negated d = Some (n, rs, Bound d)
bound_at n rs Done d = Some (n, rs, Bound d)
bound_at n rs (Bound c) d = Some (n, rs ++ (c, c) ∷ [], Bound d)
bound_at n rs (Range c) d = if nat_le c d then Some (n, rs ++ (c, d) ∷ [], Done) else None
bound_at n rs Dash d = None

-- a caret: first it negates, and else it means itself
abbrev pub caret_at : Bool → List (ℕ × ℕ) → Item → Option (Bool × List (ℕ × ℕ) × Item)
caret_at n rs Start = Some (true, rs, Negated)
caret_at n rs Negated = bound_at n rs Negated circumflex
caret_at n rs Done = bound_at n rs Done circumflex
caret_at n rs (Bound c) = bound_at n rs (Bound c) circumflex
caret_at n rs (Range c) = bound_at n rs (Range c) circumflex
caret_at n rs Dash = bound_at n rs Dash circumflex

-- the closing bracket
abbrev pub close_at : Bool → List (ℕ × ℕ) → Item → Option (Bool × List (ℕ × ℕ))
close_at n rs Start = None
close_at n rs Negated = None
close_at n rs Done = Some (n, rs)
close_at n rs (Bound c) = Some (n, rs ++ (c, c) ∷ [])
close_at n rs (Range c) = Some (n, (rs ++ (c, c) ∷ []) ++ (hyphen, hyphen) ∷ [])
close_at n rs Dash = Some (n, rs ++ (hyphen, hyphen) ∷ [])

-- the same of a class as its parts
abbrev pub class_dash : Bool × List (ℕ × ℕ) × Item → Option (Bool × List (ℕ × ℕ) × Item)
class_dash k = dash_at k.0 k.1 k.2

-- the same
abbrev pub class_bound : Bool × List (ℕ × ℕ) × Item → ℕ → Option (Bool × List (ℕ × ℕ) × Item)
class_bound k d = bound_at k.0 k.1 k.2 d

-- the same
abbrev pub class_caret : Bool × List (ℕ × ℕ) × Item → Option (Bool × List (ℕ × ℕ) × Item)
class_caret k = caret_at k.0 k.1 k.2

-- the same
abbrev pub class_close : Bool × List (ℕ × ℕ) × Item → Option (Bool × List (ℕ × ℕ))
class_close k = close_at k.0 k.1 k.2

-- a letter other than the closing bracket
abbrev pub class_with : Bool × List (ℕ × ℕ) × Item → Letter → Option (Bool × List (ℕ × ℕ) × Item)
class_with k l =
    if l.escaped then class_bound k l.character
    else if l.character == hyphen then class_dash k
    else if l.character == open_bracket then None
    else if l.character == circumflex then class_caret k
    else class_bound k l.character
