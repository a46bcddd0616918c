-- Verdicts that are found and noted on a walk.
use Rattle.std.proofs.Common.{◌≡◌, ℕ, Bool, true, false, List, Some, map, is_some, IsTrue, slice_get, refl, sym, subst, inl, inr}
use Rattle.std.specs.Bool.{OnTrue, OnFalse}
use Rattle.std.proofs.lemmas.Bool.{and_parts}
use Rattle.std.proofs.lemmas.List.Elements.{All-contains}
use Rattle.std.proofs.lemmas.Slice.Eq.{bytes_eq-Decides}
use Rattle.conf_doc.specs.WellFormed.{IsConfig}
use Rattle.conf_doc.specs.declared.configuration.Config.{Config}
use Rattle.conf_doc.specs.declared.configuration.Table.{Table}
use Rattle.yang_model.specs.ModelSets.{ModelSet}
use Rattle.conf_check.specs.Rows.{IsEntryAt}
use Rattle.conf_check.specs.Validity.{IsValidAt}
use Rattle.recheck.specs.Rechecks.{IsNoted}
use Rattle.ref_index.specs.Agreements.{entry_of}
use Rattle.recheck.specs.Verdicts.{AreSound, HasVerdict, IsSound}
use Rattle.recheck.specs.declared.verdicts.Verdict.{Verdict}
use Rattle.recheck.proofs.Lists.{all_insert, entry_found}
use Rattle.recheck.proofs.Pairs.{holder_at, pair_at}

-- what is answered true or false
pub when_true : (b : Bool) (P : Type 0) → b ≡ true → OnTrue b P → P
when_true true P e p = p
when_true false P e p = cc

pub when_false : (b : Bool) (P : Type 0) → b ≡ false → OnFalse b P → P
when_false true P e p = cc
when_false false P e p = p

module _ (models : ModelSet) (config : Config) (table key : List ℕ) where
  -- an entry with a verdict is valid
  pub passed : (verdicts : List Verdict) → AreSound models config verdicts → HasVerdict table key verdicts → IsValidAt models config table key
  passed verdicts sound has =
      let parts = and_parts _ _ has.2 in
      let k : has.0.key ≡ key = (bytes_eq-Decides has.0.key key).0 parts.0 in
      let t : has.0.table ≡ table = (bytes_eq-Decides has.0.table table).0 parts.1 in
      let is = All-contains (IsSound models config) verdicts has.0 sound has.1 in
      subst (λ x. IsValidAt models config x key) t (subst (λ x. IsValidAt models config has.0.table x) k is.valid)

  -- a true one is added
  pub noted : (old new : List Verdict) → AreSound models config old → IsSound models config (record { table = table; key = key }) → IsNoted table key old new
      → AreSound models config new
  noted old new sound is (inl same) = subst (λ l. AreSound models config l) (sym same) sound
  noted old new sound is (inr at) =
      subst (λ l. AreSound models config l) (sym at.1) (all_insert (IsSound models config) old at.0 (record { table = table; key = key }) is sound)

  -- one that is found there and valid is true
  pub fresh : IsTrue (is_some (entry_of table key config)) → IsValidAt models config table key → IsSound models config (record { table = table; key = key })
  fresh there valid = record { there = there; valid = valid }

  pub same_sound : (old new : List Verdict) → new ≡ old → AreSound models config old → AreSound models config new
  same_sound old new e sound = subst (λ l. AreSound models config l) (sym e) sound

-- what stands at a place is there
pub there_at : (config : Config) (t k : ℕ) (table key : List ℕ) → IsConfig config → IsEntryAt config table key t k → IsTrue (is_some (entry_of table key config))
there_at config t k table key formed is = subst (λ o. IsTrue (is_some o)) (sym (entry_found config table key t k formed is)) refl

-- an entry by what is read at its places
pub entry_at : (config : Config) (t k : ℕ) (table key : List ℕ) (entries : Table) → slice_get (map (λ p. p.0) config) t ≡ Some table
    → slice_get (map (λ p. p.1) config) t ≡ Some entries → slice_get (map (λ p. p.0) entries) k ≡ Some key → IsEntryAt config table key t k
entry_at config t k table key entries named part keyed =
    let held = holder_at entries k key keyed in
    record { entries = entries; at = pair_at config t table entries named part; fields = held.0; at_key = held.1 }
