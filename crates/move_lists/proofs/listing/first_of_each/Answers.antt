use Rattle.std.proofs.Common.{[], Result, Ok, Err, IfOk, drop, length, suc, sym, subst, ◌∙◌}
use Rattle.std.proofs.lemmas.List.{map-id}
use Rattle.std.proofs.lemmas.Iterator.Adapters.{YieldsList-from_vec}
use Rattle.std.proofs.lemmas.Iterator.Consumers.{YieldsList-end, YieldsList-so_far, YieldsList-turn}
use Rattle.move_lists.specs.Ranking.{AreSorted}
use Rattle.move_lists.proofs.FirstChains.{IsSeen, has_firsts, seen_more, seen_none}
use Rattle.move_lists.proofs.PartialWalks.{walked}
use Rattle.move_lists.proofs.listing.first_of_each.Goals as goal

if_ok : {T E : Type 0} {P Q : T → Type 0} (r : Result T E) → ((x : T) → P x → Q x) → IfOk r P → IfOk r Q
if_ok (Ok x) f h = f x h
if_ok (Err e) f h = h

pub loop-chain-init : goal.loop-chain-init
loop-chain-init c = subst (IsSeen c.args.known.now []) (sym c.in_ok-seen.ensures) (seen_none c.args.known.now)

pub loop-chain-preserved : goal.loop-chain-preserved
loop-chain-preserved c =
    let same = c.into_iter-chain-iterator.ensures.into_iter_gives in
    let all = YieldsList-from_vec c.args.ranked.items same.0 (same.1 ∙ c.args.ranked.ok.0) in
    let done = c.loop-chain.yielded in
    let so_far = YieldsList-so_far all done c.loop-chain.chain-iterator c.loop-chain.yielded_by in
    let turn = YieldsList-turn all done c.loop-chain.chain-iterator c.loop-chain.yielded_by c.next.result c.next.new.self c.in-Some.chain c.in-Some.is c.next.ensures.steps in
    let whole = walked c.args.ranked.items done c.in-Some.chain (sym (map-id done) ∙ so_far) turn.0 turn.1 in
    seen_more c.args.known.now done c.in-Some.chain (drop (suc (length done)) c.args.ranked.items) c.loop-chain.seen c.note.new.self
    (subst AreSorted whole c.requires) c.loop-chain.invariant c.in_ok-note.ensures

pub returns : goal.returns
returns c =
    let same = c.into_iter-chain-iterator.ensures.into_iter_gives in
    let all = YieldsList-from_vec c.args.ranked.items same.0 (same.1 ∙ c.args.ranked.ok.0) in
    let end = YieldsList-end all c.loop-chain.yielded c.loop-chain.chain-iterator c.loop-chain.yielded_by c.next.result c.next.new.self c.in-None.is c.next.ensures.steps in
    let seen = subst (λ l. IsSeen c.args.known.now l c.loop-chain.seen) (sym (map-id c.loop-chain.yielded) ∙ end.0) c.loop-chain.invariant in
    if_ok c.into_moves.result (λ ms is. has_firsts c.args.known.now c.args.ranked.items c.loop-chain.seen ms.items seen is) c.into_moves.ensures
