use Rattle.std.proofs.Common.{ap, sym, subst}
use Rattle.std.specs.Prelude.{codes}
use Rattle.xml_tokens.specs.Beginnings.{extent_through}
use Rattle.xml_tokens.specs.Markup as markup
use Rattle.xml_tokens.specs.Searching.{Searched}
use Rattle.xml_tokens.specs.Seen.{Shows, shows_later}
use Rattle.xml_tokens.specs.declared.beginning.Beginning.TheVariants.{Later}
use Rattle.xml_tokens.proofs.ExtentLemmas.{through-right, through-wrong, through-open, section-vain, section-out}
use Rattle.xml_tokens.proofs.extents.section_at.Goals as goal

pub end_of-requires-clause-in_vain : goal.end_of-requires-clause-in_vain
end_of-requires-clause-in_vain c = section-vain c.args.search.now c.args.behind.now c.requires

pub returns-in-Ok-clause-answer : goal.returns-in-Ok-clause-answer
returns-in-Ok-clause-answer c = subst (λ b. Shows b (extent_through (codes "]]>") 9 c.args.behind.now markup.section)) (sym c.beginning_of.ensures)
    (through-right (codes "]]>") 9 markup.section c.args.behind.now c.split_at.result.0.now c.in-Ok.inside.now c.in-Some.end c.section.result
    c.in-Some.ensures.exact c.split_at.ensures.front c.in-Ok.ensures c.section.ensures)

pub returns-in-Err-clause-answer : goal.returns-in-Err-clause-answer
returns-in-Err-clause-answer c = through-wrong (codes "]]>") 9 markup.section c.args.behind.now c.split_at.result.0.now c.in-Some.end c.in-Err.kind
    c.in-Some.ensures.exact c.split_at.ensures.front c.in-Err.ensures

pub returns-in-None-clause-answer : goal.returns-in-None-clause-answer
returns-in-None-clause-answer c = subst (λ b. Shows Later b) (sym (through-open (codes "]]>") 9 markup.section c.args.behind.now c.in-None.ensures.exact))
    shows_later

pub returns-in-None-clause-search : goal.returns-in-None-clause-search
returns-in-None-clause-search c = section-out c.end_of.new.search c.args.behind.now (ap (λ (s : Searched). s.searched) c.in-None.ensures.search)
    (ap (λ (s : Searched). s.quote) c.in-None.ensures.search) c.in-None.ensures.exact
