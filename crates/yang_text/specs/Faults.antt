-- The faults of the tokens of a text, where reading goes on behind each.
--
-- Where a keyword is due, a word of another form or a quoted text is BadToken, and reading goes on as behind a
-- keyword; a `;` or a `{` is Unbalanced, and so is a `}` with no open brace. Behind a keyword any word or quoted
-- text is its argument; behind a quoted text a `+` and another one may follow, and what follows a `+` and is no
-- quoted text is BadToken.
-- Where a `;` or a `{` is due, any other token tells at its own line that one is missing, as Unbalanced: a word or a
-- quoted text is passed over, and a `}` ends the statement and the block round it.
-- A `{` opens a block wherever it stands, and TooDeep is said of each in its place under as many open braces as
-- there may be. A `}` closes the last one, and an extra one closes nothing.
-- An unterminated comment or quoted text, an invalid escape and a stray `*/` are BadToken and leave all as it was.
use Rattle.std.specs.Prelude.{◌≡◌, ◌<◌, ◌≤◌, ◌⊎◌, ℕ, ◌+◌, ◌-◌, ◌==◌, ◌||◌, ◌&&◌, nat_lt, nat_le, Bool, false, List, [], ◌∷◌, ◌++◌, length, Option, Some, None, option_map, option_to_list, if◌then◌else◌}
use Rattle.std.specs.List.{AllByRecursion}
use Rattle.host_core.specs.Characters.{plus}
use Rattle.yang_text.specs.Bytes.{is_keyword}
use Rattle.yang_text.specs.Limits.{most_open}
use Rattle.yang_text.specs.Texts.{bytes_of}
use Rattle.yang_text.specs.Whys.{why_number}
use Rattle.yang_text.specs.declared.errors.ModelWhy.{ModelWhy}
use Rattle.yang_text.specs.declared.errors.ModelWhy.TheVariants.{BadToken, Unbalanced, TooDeep}
use Rattle.yang_text.specs.declared.lexing.Kind.{Kind}
use Rattle.yang_text.specs.declared.lexing.Kind.TheVariants as kinds
use Rattle.yang_text.specs.declared.lexing.Token.{Token}
use Rattle.yang_text.specs.declared.faults.Fault.{Fault}
use Rattle.yang_text.specs.declared.faults.Class.{Class}
use Rattle.yang_text.specs.declared.faults.Class.TheVariants.{Name, Plus, Sum, Text, Quote, Semicolon, Open, Close, Bad}
use Rattle.yang_text.specs.declared.faults.Phase.{Phase}
use Rattle.yang_text.specs.declared.faults.Phase.TheVariants.{Due, Named, Plain, Quoted, Joining}

-- of two faults the one of the lower line, and on one line of the first name
abbrev pub lower : Fault → Fault → Fault
lower f g =
    if (nat_lt f.line g.line || (f.line == g.line && nat_le (why_number f.why) (why_number g.why)))
    then f
    else g

-- the same where there may be none yet
abbrev pub lower_of : Option Fault → Fault → Option Fault
lower_of None g = Some g
lower_of (Some f) g = Some (lower f g)

-- a fault is on no higher line than another, and on one line of no later name
abbrev pub IsNotAbove : Fault → Fault → Type 0
IsNotAbove f g = (f.line < g.line) ⊎ ((f.line ≡ g.line) × (why_number f.why ≤ why_number g.why))

-- the fault is one of these
abbrev pub IsAmong : Fault → List Fault → Type 0
IsAmong f [] = ⊥
IsAmong f (g ∷ gs) = (f ≡ g) ⊎ IsAmong f gs

-- of all these faults the one of the lowest line, and of those on it the one of the first name
pub record IsLeast (f : Fault) (fs : List Fault) : Type 0 where
  pub among : IsAmong f fs
  pub least : AllByRecursion (IsNotAbove f) fs

-- a word that begins with `+`
abbrev pub begins_with_plus : List ℕ → Bool
begins_with_plus [] = false
begins_with_plus (b ∷ bs) = b == plus

-- what a word may stand for
abbrev pub word_class : List ℕ → Class
word_class word =
    if is_keyword word then Name
    else (if begins_with_plus word then (if length word == 1 then Plus else Sum)
    else Text)

-- what a token may stand for
abbrev pub class_by : Kind → List ℕ → Class
class_by kinds.Word word = word_class word
class_by kinds.Single word = Quote
class_by kinds.Double word = Quote
class_by kinds.Semicolon word = Semicolon
class_by kinds.Open word = Open
class_by kinds.Close word = Close
class_by kinds.Bad word = Bad

-- what the token may stand for, by its bytes
abbrev pub class_of : List ℕ → Token → Class
class_of text token = class_by token.kind (bytes_of text token)

-- where a keyword is due, or the end of a block
abbrev pub opening : ℕ → Class → Option ModelWhy
opening depth Name = None
opening depth Plus = Some BadToken
opening depth Sum = Some BadToken
opening depth Text = Some BadToken
opening depth Quote = Some BadToken
opening depth Semicolon = Some Unbalanced
opening depth Open = Some Unbalanced
opening depth Close = if depth == 0 then Some Unbalanced else None
opening depth Bad = Some BadToken

-- where a semicolon or a block is due
abbrev pub ending : ℕ → Class → Option ModelWhy
ending depth Semicolon = None
ending depth Open = if nat_lt depth most_open then None else Some TooDeep
ending depth Bad = Some BadToken
ending depth Name = Some Unbalanced
ending depth Plus = Some Unbalanced
ending depth Sum = Some Unbalanced
ending depth Text = Some Unbalanced
ending depth Quote = Some Unbalanced
ending depth Close = Some Unbalanced

-- behind a keyword an argument may stand, or the end of the statement
abbrev pub behind_keyword : ℕ → Class → Option ModelWhy
behind_keyword depth Name = None
behind_keyword depth Plus = None
behind_keyword depth Sum = None
behind_keyword depth Text = None
behind_keyword depth Quote = None
behind_keyword depth Semicolon = ending depth Semicolon
behind_keyword depth Open = ending depth Open
behind_keyword depth Close = ending depth Close
behind_keyword depth Bad = ending depth Bad

-- behind a quoted part a plus sign may join another one
abbrev pub behind_quote : ℕ → Class → Option ModelWhy
behind_quote depth Plus = None
behind_quote depth Sum = Some BadToken
behind_quote depth Name = ending depth Name
behind_quote depth Text = ending depth Text
behind_quote depth Quote = ending depth Quote
behind_quote depth Semicolon = ending depth Semicolon
behind_quote depth Open = ending depth Open
behind_quote depth Close = ending depth Close
behind_quote depth Bad = ending depth Bad

-- behind a joining plus sign only a quote may stand
abbrev pub behind_plus : Class → Option ModelWhy
behind_plus Quote = None
behind_plus Name = Some BadToken
behind_plus Plus = Some BadToken
behind_plus Sum = Some BadToken
behind_plus Text = Some BadToken
behind_plus Semicolon = Some BadToken
behind_plus Open = Some BadToken
behind_plus Close = Some BadToken
behind_plus Bad = Some BadToken

-- why a token can't stand there, under that many open braces
abbrev pub refusal : Phase → ℕ → Class → Option ModelWhy
refusal Due depth class = opening depth class
refusal Named depth class = behind_keyword depth class
refusal Plain depth class = ending depth class
refusal Quoted depth class = behind_quote depth class
refusal Joining depth class = behind_plus class

-- behind the argument that follows a keyword
abbrev pub behind_name : Class → Phase
behind_name Quote = Quoted
behind_name _ = Plain

-- behind what follows a quoted part
abbrev pub behind_part : Class → Phase
behind_part Plus = Joining
behind_part _ = Quoted

-- behind a word or a quoted text
abbrev pub text_phase : Phase → Class → Phase
text_phase Due class = Named
text_phase Named class = behind_name class
text_phase Plain class = Plain
text_phase Quoted class = behind_part class
text_phase Joining class = Quoted

-- a sign ends the statement or begins one, and a word that can't stand there is left out
abbrev pub phase_after : Phase → Class → Phase
phase_after phase Semicolon = Due
phase_after phase Open = Due
phase_after phase Close = Due
phase_after phase Bad = phase
phase_after phase Name = text_phase phase Name
phase_after phase Plus = text_phase phase Plus
phase_after phase Sum = text_phase phase Sum
phase_after phase Text = text_phase phase Text
phase_after phase Quote = text_phase phase Quote

-- an extra brace closes nothing, and one out of place opens a block
abbrev pub depth_after : ℕ → Class → ℕ
depth_after depth Open = depth + 1
depth_after depth Close = depth - 1
depth_after depth _ = depth

-- a refusal as a fault of that line
abbrev pub fault_at : ℕ → Option ModelWhy → Option Fault
fault_at line why = option_map (λ w. record { line = line; why = w }) why

-- all faults of the tokens that follow
unfoldable pub faults_from : List ℕ → Phase → ℕ → List Token → List Fault
faults_from text phase depth [] = []
faults_from text phase depth (t ∷ ts) = let class = class_of text t in
    option_to_list (fault_at t.line (refusal phase depth class))
    ++ faults_from text (phase_after phase class) (depth_after depth class) ts
