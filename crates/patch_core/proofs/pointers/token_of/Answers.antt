use Rattle.std.proofs.Common.{rules, string_bytes, lit<, ap, ◌∙◌, Some, None, Err}
use Rattle.std.proofs.lemmas.Str.Pattern.{split_parts}
use Rattle.std.proofs.lemmas.Result.{err_from_is_err_and}
use Rattle.patch_core.specs.Tokens.{or_malformed}
use Rattle.patch_core.proofs.Escapes.{IsReadUpTo-start, IsReadUpTo-next, IsReadUpTo-end, fails_at}
use Rattle.patch_core.proofs.pointers.token_of.Goals as goal

pub loop-plain-init : goal.loop-plain-init
loop-plain-init c = (c.utf8.part, rw c.new-token.ensures.bytes (IsReadUpTo-start c.args.part.now))

pub loop-plain-preserved : goal.loop-plain-preserved
loop-plain-preserved c =
    let parts = split_parts 126 c.loop-plain.rest.now (Some (c.in-Some.plain, c.in-Some.behind)) c.in-Some.ensures.cases (lit< tt) in
    let escape = c.in_ok-rest.ensures.ok in (
      search rules,
      rw (escape.1, c.in_ok-push_str.ensures.bytes)
          (IsReadUpTo-next c.args.part.now (string_bytes c.loop-plain.token) c.loop-plain.rest.now c.in-Some.plain.now c.in-Some.behind.now escape.0 c.in_ok-rest.rest.now
          c.loop-plain.invariant.1 parts.0 parts.1 escape.2),
    )

pub returns : goal.returns
returns c =
    let lacks = split_parts 126 c.loop-plain.rest.now None c.in_default.ensures.cases (lit< tt) in
    ap or_malformed (IsReadUpTo-end c.args.part.now (string_bytes c.loop-plain.token) c.loop-plain.rest.now c.loop-plain.invariant.1 lacks)
    ∙ rw (c.from.ensures, c.in_ok-push_str-2.ensures.bytes)

pub returns-in_err-rest : goal.returns-in_err-rest
returns-in_err-rest c =
    let parts = split_parts 126 c.loop-plain.rest.now (Some (c.in-Some.plain, c.in-Some.behind)) c.in-Some.ensures.cases (lit< tt) in
    let p = err_from_is_err_and c.from_residual-in_err-rest.result c.from_residual-in_err-rest.ensures.1 in
    rw (p.1, p.2)
    (fails_at _ c.args.part.now (string_bytes c.loop-plain.token) c.loop-plain.rest.now c.in-Some.plain.now c.in-Some.behind.now c.loop-plain.invariant.1 parts.0 parts.1 (λ h. c.in_err-rest.ensures.malformed (ap Err h)))
