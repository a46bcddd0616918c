-- Statements compared by all that they are.
use Rattle.std.specs.Prelude.{ℕ, ◌==◌, ◌&&◌, Bool, true, false, List, Option, Some, None}
use Rattle.std.specs.Str.{bytes_eq}
use Rattle.yang_text.specs.Declarations.{Declaration, declare, Block, no_more, more}

-- both missing, or both there and the same
abbrev pub same_argument : Option (List ℕ) → Option (List ℕ) → Bool
same_argument None None = true
same_argument None (Some s) = false
same_argument (Some s) None = false
same_argument (Some s) (Some t) = bytes_eq s t

abbrev mutual
  -- the same keyword, argument, place and block
  pub same_declaration : Declaration → Declaration → Bool
  same_declaration (declare k a l s e b) (declare k' a' l' s' e' b') =
      bytes_eq k k'
      && (same_argument a a' && (l == l' && (s == s' && (e == e' && same_block b b'))))

  -- the same statements in order
  pub same_block : Block → Block → Bool
  same_block no_more no_more = true
  same_block no_more (more d b) = false
  same_block (more d b) no_more = false
  same_block (more d b) (more e c) = same_declaration d e && same_block b c
