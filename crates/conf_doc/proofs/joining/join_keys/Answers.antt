use Rattle.std.proofs.Common.{◌≡◌, ◌-◌, ℕ, List, [], ◌∷◌, ◌++◌, sym, ap, subst, ◌∙◌, arith}
use Rattle.conf_doc.specs.Joined.{ArePlainEntries, bare, joined_entries, joined_entry, segment}
use Rattle.conf_doc.specs.declared.configuration.Value.{Value}
use Rattle.conf_doc.proofs.Joined.{joined_entries-more, plain_entries-more, segment_more}
use Rattle.conf_doc.proofs.Lists.{map-append}
use Rattle.conf_doc.proofs.joining.join_keys.Goals as goal

pub loop-i-preserved : goal.loop-i-preserved
loop-i-preserved c =
    let entry = c.pair_at.result.now in
    let key : List ℕ × List (List ℕ × Value) = (entry.0, []) in
    let more =
    ap bare (segment_more c.args.list.now c.args.from c.loop-i.i entry c.loop-i.auto.i c.pair_at.ensures)
    ∙ map-append (λ e. (e.0, [])) (segment c.args.from (c.loop-i.i - c.args.from) c.args.list.now) (entry ∷ []) in
    let ensures = c.in_ok-join_key.ensures in
    record {
      text =
          ensures.joined ∙ ap (λ t. t ++ joined_entry key) c.loop-i.invariant.text
          ∙ sym (joined_entries-more _ key) ∙ ap joined_entries (sym more);
      plain = subst ArePlainEntries (sym more) (plain_entries-more _ key c.loop-i.invariant.plain (ensures.plain, tt));
    }

pub returns : goal.returns
returns c =
    let all : c.loop-i.i - c.args.from ≡ c.args.count = omega arith in
    record {
      joined =
          c.in_ok-text.ensures ∙ c.as_str.ensures.value ∙ c.loop-i.invariant.text
          ∙ ap (λ n. joined_entries (bare (segment c.args.from n c.args.list.now))) all;
      plain = subst (λ n. ArePlainEntries (bare (segment c.args.from n c.args.list.now))) all c.loop-i.invariant.plain;
    }
