use Rattle.std.proofs.Common.{sym}
use Rattle.xml_tokens.specs.Seen.{seen_attribute}
use Rattle.xml_state.proofs.ScopeLemmas.{declares-one, declares-none, binds-named}
use Rattle.xml_state.proofs.scopes.declare_one.Goals as goal

pub returns-in-Some-clause-declares : goal.returns-in-Some-clause-declares
returns-in-Some-clause-declares c =
    declares-one _ (seen_attribute c.args.attribute.now) _ _ _ _ _ (sym c.in-Some.ensures) (binds-named _ _ _ _ _ _ _ _ c.text_of.ensures c.bind.ensures.binds)

pub returns-in-None-clause-declares : goal.returns-in-None-clause-declares
returns-in-None-clause-declares c = declares-none _ (seen_attribute c.args.attribute.now) _ _ (sym c.in-None.ensures) c.requires.bound
