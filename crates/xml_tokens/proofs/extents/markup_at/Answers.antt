use Rattle.std.proofs.Common.{◌∷◌, arith}
use Rattle.xml_tokens.proofs.SearchingLemmas.{few-searched}
use Rattle.xml_tokens.proofs.TokenLemmas.{begins-tag, no-markup}
use Rattle.xml_tokens.proofs.extents.markup_at.Goals as goal

pub tag_at-requires-clause-is_tag : goal.tag_at-requires-clause-is_tag
tag_at-requires-clause-is_tag c = begins-tag c.args.bytes.now (omega arith) (omega arith) (omega arith)

pub returns-in-empty-clause-answer : goal.returns-in-empty-clause-answer
returns-in-empty-clause-answer c = no-markup c.args.position c.args.bytes.now (omega arith)

pub returns-in-empty-clause-search : goal.returns-in-empty-clause-search
returns-in-empty-clause-search c = few-searched c.args.search.now (0x3C ∷ c.args.bytes.now) c.requires (omega arith)
