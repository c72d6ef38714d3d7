use Rattle.std.proofs.Common.{arith, take, drop, length, ◌-◌, get_or}
use Rattle.xml_tokens.specs.Beginnings as spec
use Rattle.xml_tokens.specs.Seen.{Shows}
use Rattle.xml_tokens.proofs.ExtentLemmas.{if-ok}
use Rattle.xml_tokens.proofs.SearchingLemmas.{few-searched, text-kept}
use Rattle.xml_tokens.proofs.TokenLemmas.{shows-same, begin-nothing, begin-markup, first-split}
use Rattle.xml_tokens.proofs.beginning.found_at.Goals as goal

pub returns-in-empty-clause-answer : goal.returns-in-empty-clause-answer
returns-in-empty-clause-answer c = begin-nothing c.args.position c.args.ended c.args.bytes.now (omega arith)

pub returns-in-len1-up-clause-answer : goal.returns-in-len1-up-clause-answer
returns-in-len1-up-clause-answer c = if-ok c.markup_at.result
    (λ found. Shows found (spec.markup_at c.args.position (take (length c.args.bytes.now - 1) (drop 1 c.args.bytes.now))))
    (λ found. Shows found (spec.beginning c.args.position c.args.ended c.args.bytes.now))
    (λ found shows. shows-same found _ _ (begin-markup c.args.position c.args.ended c.args.bytes.now
    (take (length c.args.bytes.now - 1) (drop 1 c.args.bytes.now)) (get_or c.args.bytes.now 0 0)
    (first-split c.args.bytes.now (omega arith)) c.if-first-eq60.true) shows) c.markup_at.ensures.answer

pub returns-in-empty-clause-search : goal.returns-in-empty-clause-search
returns-in-empty-clause-search c = few-searched c.args.search.now c.args.bytes.now c.requires (omega arith)

pub returns-in-len1-up-2-clause-search : goal.returns-in-len1-up-2-clause-search
returns-in-len1-up-2-clause-search c = text-kept c.text_at.result c.args.search.now c.args.bytes.now c.requires (omega arith) c.if-first-eq60.false
