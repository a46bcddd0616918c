-- The statements of a list of tokens that has no faults.
use Rattle.std.specs.Prelude.{ℕ, ◌+◌, List, [], ◌∷◌, ◌++◌, map, reverse, Option, Some, None, Result, Ok, Err}
use Rattle.yang_text.specs.Declarations.{Declaration, declare, block_of, line}
use Rattle.yang_text.specs.Statements.{declaration}
use Rattle.yang_text.specs.Texts.{bytes_of, content}
use Rattle.yang_text.specs.declared.errors.ModelWhy.TheVariants.{Unbalanced}
use Rattle.yang_text.specs.declared.faults.Fault.{Fault}
use Rattle.yang_text.specs.declared.lexing.Kind.{Kind}
use Rattle.yang_text.specs.declared.lexing.Kind.TheVariants.{Word, Single, Double, Semicolon, Open, Close, Bad}
use Rattle.yang_text.specs.declared.lexing.Token.{Token}
use Rattle.yang_text.specs.declared.building.Level.{Level as OpenLevel}
use Rattle.yang_text.specs.declared.building.Reader.{Reader}

-- the text of the quoted parts, one after another
abbrev pub joined_by : Kind → List ℕ → List ℕ → List ℕ
joined_by Word part rest = rest
joined_by Single part rest = part ++ rest
joined_by Double part rest = part ++ rest
joined_by Semicolon part rest = rest
joined_by Open part rest = rest
joined_by Close part rest = rest
joined_by Bad part rest = rest

-- the text of the quoted parts, one after another
abbrev pub join : List ℕ → List Token → List ℕ
join text [] = []
join text (t ∷ ts) = joined_by t.kind (content text t) (join text ts)

-- the argument of the tokens behind a keyword
abbrev pub argument_of : List ℕ → List Token → Option (List ℕ)
argument_of text [] = None
argument_of text (t ∷ ts) = Some (content text t ++ join text ts)

-- the statement of a keyword, the tokens of its argument and its block
abbrev pub statement_of : List ℕ → Token → List Token → List Declaration → Declaration
statement_of text t ts block =
    declare (bytes_of text t) (argument_of text ts) t.line t.start t.end (block_of block)

-- a statement with another block
abbrev pub with_block : Declaration → List Declaration → Declaration
with_block (declare k a l s e b) block = declare k a l s e (block_of block)

-- a statement whose block is open, and what stands before it in its own block
pub record Level : Type 0 where
  pub before : List Declaration
  pub statement : Declaration

-- what has been read: of the innermost block, of those round it from the inside, and of a statement
pub record Progress : Type 0 where
  pub current : List Declaration
  pub outer : List Level
  pub head : List Token

-- nothing has been read
abbrev pub nothing : Progress
nothing = record { current = []; outer = []; head = [] }

-- behind a semicolon
abbrev pub end_by : List ℕ → List Token → Progress → Progress
end_by text [] p = p
end_by text (t ∷ ts) p = record {
  current = p.current ++ statement_of text t ts [] ∷ [];
  outer = p.outer;
  head = [];
}

-- behind an open brace
abbrev pub open_by : List ℕ → List Token → Progress → Progress
open_by text [] p = p
open_by text (t ∷ ts) p = record {
  current = [];
  outer = record { before = p.current; statement = statement_of text t ts [] } ∷ p.outer;
  head = [];
}

-- behind a closing brace
abbrev pub close_by : List Level → Progress → Progress
close_by [] p = record p { head = [] }
close_by (l ∷ ls) p = record {
  current = l.before ++ with_block l.statement p.current ∷ [];
  outer = ls;
  head = [];
}

-- a sign behind the tokens of a statement
abbrev pub sign_by : List ℕ → Kind → List Token → Progress → Progress
sign_by text Semicolon head p = end_by text head p
sign_by text Open head p = open_by text head p
sign_by text Close head p = close_by p.outer p
sign_by text Word head p = p
sign_by text Single head p = p
sign_by text Double head p = p
sign_by text Bad head p = p

-- where the tokens of a statement begin behind a token at i
abbrev pub next_start : ℕ → ℕ → Kind → ℕ
next_start start i Semicolon = i + 1
next_start start i Open = i + 1
next_start start i Close = i + 1
next_start start i Word = start
next_start start i Single = start
next_start start i Double = start
next_start start i Bad = start

-- behind one token
abbrev pub step_by : List ℕ → Kind → Token → Progress → Progress
step_by text Word t p = record p { head = p.head ++ t ∷ [] }
step_by text Single t p = record p { head = p.head ++ t ∷ [] }
step_by text Double t p = record p { head = p.head ++ t ∷ [] }
step_by text Bad t p = record p { head = p.head ++ t ∷ [] }
step_by text Semicolon t p = end_by text p.head p
step_by text Open t p = open_by text p.head p
step_by text Close t p = close_by p.outer p

-- what has been read behind these tokens
unfoldable pub build : List ℕ → Progress → List Token → Progress
build text p [] = p
build text p (t ∷ ts) = build text (step_by text t.kind t p) ts

-- the line of the innermost statement that isn't ended
abbrev pub open_line : List Token → List Level → Option ℕ
open_line [] [] = None
open_line [] (l ∷ ls) = Some (line l.statement)
open_line (t ∷ ts) ls = Some t.line

-- the statements, or the fault at the end
abbrev pub finish_by : Option ℕ → List Declaration → Result (List Declaration) Fault
finish_by None ds = Ok ds
finish_by (Some line) ds = Err (record { line = line; why = Unbalanced })

-- what has been read, where the text ends
abbrev pub finish : Progress → Result (List Declaration) Fault
finish p = finish_by (open_line p.head p.outer) p.current

-- the statements of the tokens of a text, or the fault at its end
abbrev pub built : List ℕ → List Token → Result (List Declaration) Fault
built text [] = Err (record { line = 1; why = Unbalanced })
built text (t ∷ ts) = finish (build text nothing (t ∷ ts))

-- an open level of the reader
abbrev pub level : OpenLevel → Level
level l = record { before = l.before; statement = declaration l.statement }

-- what a reader has read, with the tokens of a statement that it hasn't yet
abbrev pub progress : Reader → List Token → Progress
progress reader head = record {
  current = reader.current;
  outer = reverse (map level reader.outer.items);
  head = head;
}
