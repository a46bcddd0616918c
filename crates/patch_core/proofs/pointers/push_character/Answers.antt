use Rattle.std.proofs.Common.{Some, None, lit<, string_bytes}
use Rattle.std.proofs.lemmas.Str.Pattern.{strip_prefix_char}
use Rattle.patch_core.proofs.Escapes.{escaped_none, escapes_tilde, escapes_slash, shorter_behind}
use Rattle.patch_core.proofs.pointers.push_character.Goals as goal

pub returns-in_default-strip_prefix-clause-malformed : goal.returns-in_default-strip_prefix-clause-malformed
returns-in_default-strip_prefix-clause-malformed c = λ _.
    escaped_none c.args.behind.now (strip_prefix_char 48 c.args.behind.now None c.in_default.ensures.cases (lit< tt)) (strip_prefix_char 49 c.args.behind.now None c.in_default-strip_prefix.ensures.cases (lit< tt))

pub returns-in_ok-push-clause-ok : goal.returns-in_ok-push-clause-ok
unfolding lib.Utf8.encode
returns-in_ok-push-clause-ok c =
    escapes_tilde c.args.behind.now c.in-Some.after.now (string_bytes c.args.token.now) (string_bytes c.push.new.self) (strip_prefix_char 48 c.args.behind.now (Some c.in-Some.after) c.in-Some.ensures.cases (lit< tt)) c.in_ok-push.ensures.bytes

pub returns-in_ok-push-clause-shorter : goal.returns-in_ok-push-clause-shorter
returns-in_ok-push-clause-shorter c = shorter_behind 48 c.args.behind.now c.in-Some.after.now (strip_prefix_char 48 c.args.behind.now (Some c.in-Some.after) c.in-Some.ensures.cases (lit< tt))

pub returns-in_ok-push-2-clause-ok : goal.returns-in_ok-push-2-clause-ok
unfolding lib.Utf8.encode
returns-in_ok-push-2-clause-ok c =
    escapes_slash c.args.behind.now c.in-Some-strip_prefix.after.now (string_bytes c.args.token.now) (string_bytes c.push-in-Some-strip_prefix.new.self) (strip_prefix_char 49 c.args.behind.now (Some c.in-Some-strip_prefix.after) c.in-Some-strip_prefix.ensures.cases (lit< tt)) c.in_ok-push-2.ensures.bytes

pub returns-in_ok-push-2-clause-shorter : goal.returns-in_ok-push-2-clause-shorter
returns-in_ok-push-2-clause-shorter c = shorter_behind 49 c.args.behind.now c.in-Some-strip_prefix.after.now (strip_prefix_char 49 c.args.behind.now (Some c.in-Some-strip_prefix.after) c.in-Some-strip_prefix.ensures.cases (lit< tt))
