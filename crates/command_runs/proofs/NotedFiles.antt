-- The files that a list of all their entries gives.
use Rattle.std.proofs.Common.{◌≡◌, ℕ, List, [], ◌∷◌, map, refl, sym, ap, ◌∙◌, Vec, String}
use denote.Bor.{Bor}
use Rattle.std.specs.declared.alloc.Global.{Global}
use Rattle.std.specs.Cmp.Lexicographic.{nat_list_cmp_total}
use Rattle.std.specs.FinMap as finmap
use Rattle.std.specs.Map.Iter.{deref_pair}
use Rattle.host_core.specs.Entries.{named}
use Rattle.host_core.specs.State.{Files}

-- files put together again from all of their entries
entries_back : (files : Files) → finmap.from_entries (finmap.entries files) ≡ files
entries_back files =
    finmap.same_map nat_list_cmp_total (finmap.slice_cmp-IsAntisymmetric finmap.nat_cmp-IsAntisymmetric) _ files
    (λ q. finmap.get-from_entries nat_list_cmp_total (finmap.entries files) q ∙ sym (finmap.get-entries files q))

-- all entries give the files
pub noted_are_files : (noted : List (List ℕ × List ℕ)) (files : Files) → noted ≡ finmap.entries files
    → finmap.from_entries noted ≡ files
noted_are_files noted files e = ap (λ (es : List (List ℕ × List ℕ)). finmap.from_entries es) e ∙ entries_back files

-- what is read of entries one by one is read of all of them
pub read_pairs : (ys : List (Bor (String Global) × Bor (Vec ℕ Global)))
    → map (λ e. named (deref_pair e)) ys ≡ map named (map deref_pair ys)
read_pairs [] = refl
read_pairs (y ∷ ys) = ap (λ (es : List (List ℕ × List ℕ)). named (deref_pair y) ∷ es) (read_pairs ys)
