use Rattle.std.proofs.Common.{ap, ◌∙◌}
use Rattle.std.specs.Prelude.{chars}
use Rattle.std.proofs.lemmas.Str.{chars-IsAscii}
use Rattle.xpath_types.specs.Scopes.{with_prefix}
use Rattle.document_jobs.proofs.QueryLemmas.{uri_chars}
use Rattle.document_jobs.proofs.queries.bind.Goals as goal

pub returns : goal.returns
returns c =
    c.in_ok-prefix.ensures.ok
    ∙ (ap (λ prefix. with_prefix c.args.scope.now prefix (chars c.uri_of.result.now)) (chars-IsAscii c.args.prefix.now c.requires)
    ∙ ap (with_prefix c.args.scope.now c.args.prefix.now) (ap chars c.uri_of.ensures ∙ uri_chars c.args.namespace))
