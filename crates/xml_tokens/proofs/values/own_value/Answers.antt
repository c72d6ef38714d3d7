use Rattle.std.proofs.Common.{sym, arith}
use Rattle.std.specs.Prelude.{string_bytes}
use Rattle.std.proofs.lemmas.Str.{IsUtf8-string_bytes, IsUtf8-past_char}
use Rattle.xml_tokens.proofs.TargetLemmas.{passed-smaller}
use Rattle.xml_tokens.proofs.ValueLemmas.{saying-begin, saying-step, saying-stop, saying-end, front-boundary}
use Rattle.xml_tokens.proofs.values.own_value.Goals as goal

pub characters-init : goal.characters-init
characters-init c = saying-begin c.args.value.now (string_bytes c.new-own.result) c.utf8.value c.new-own.ensures.bytes

pub split_at-requires : goal.split_at-requires
split_at-requires c = front-boundary c.in-Some.behind.now c.in-Some-value_part.part.more
    (IsUtf8-past_char c.characters.rest.now c.in-Some.behind.now c.in-Some.c c.characters.invariant.utf8 c.in-Some.ensures.0) c.in-Some-value_part.ensures.low

pub characters-smaller : goal.characters-smaller
characters-smaller c = omega (arith, passed-smaller c.characters.rest.now c.in-Some.behind.now c.in-Some.c c.in-Some.ensures.0, c.split_at.ensures.back_len)

pub characters-preserved : goal.characters-preserved
characters-preserved c = saying-step c.args.value.now (string_bytes c.characters.own)
    (string_bytes c.push.new.self) c.characters.rest.now c.in-Some.behind.now c.split_at.result.1.now c.in-Some.c c.in-Some-value_part.part
    c.in-Some.ensures.1 c.in-Some.ensures.0 (sym c.in-Some-value_part.ensures.exact) c.in-Some-value_part.ensures.low c.split_at.ensures.back
    (IsUtf8-string_bytes c.characters.own) c.in_ok-push-in-Some-value_part.ensures.bytes (IsUtf8-string_bytes c.push.new.self) c.characters.invariant

pub returns-in-None : goal.returns-in-None
returns-in-None c = saying-stop c.args.value.now (string_bytes c.characters.own) c.characters.rest.now c.in-Some.behind.now c.in-Some.c c.in-Some.ensures.1
    c.in-None.ensures.exact c.characters.invariant

pub returns : goal.returns
returns c = saying-end c.args.value.now (string_bytes c.characters.own) c.characters.rest.now c.in_default.ensures c.characters.invariant
