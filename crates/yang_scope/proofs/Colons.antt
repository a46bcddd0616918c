-- A text that is not cut at a colon has none.
use Rattle.std.proofs.Common.{◌≡◌, ℕ, List, false, Option, None, Bor, lit<}
use Rattle.std.specs.List.{list_any}
use Rattle.std.proofs.lemmas.Str.Pattern.{IsSplitOnceResult, split_once_first}
use Rattle.yang_scope.specs.Meanings.{is_colon}
use Rattle.yang_scope.proofs.Tables.{any_none}

pub no_colon : (text : List ℕ) (r : Option (Bor (List ℕ) × Bor (List ℕ))) → IsSplitOnceResult 58 text r → r ≡ None → list_any is_colon text ≡ false
no_colon text r cut is = any_none is_colon text (rw is at (split_once_first 58 text r cut (lit< tt)))
