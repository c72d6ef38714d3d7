use Rattle.std.proofs.Common.{◌+◌, ◌∷◌, None, take, ap, sym, ◌∙◌}
use Rattle.xml_tokens.specs.Searches.{tag_end}
use Rattle.xml_tokens.specs.Searching.{Searched, Keeps, quote_after}
use Rattle.xml_tokens.specs.Seen.{Shows}
use Rattle.xml_tokens.specs.Beginnings.{tag_at}
use Rattle.xml_tokens.specs.Told.{ShowsTag}
use Rattle.xml_tokens.proofs.ExtentLemmas.{tag-in, tag-out, tag-shown, ended-kept, tag-too-far, tag-open, ends-behind, ends-within, ends-yet, if-ok}
use Rattle.xml_tokens.proofs.extents.tag_at.Goals as goal

pub tag_end-requires-clause-in_vain : goal.tag_end-requires-clause-in_vain
tag_end-requires-clause-in_vain c = ap (λ n. tag_end (take n c.args.bytes.now) None 262143) c.searched_behind.ensures ∙
    (tag-in c.args.search.now c.args.bytes.now c.requires.is_tag c.requires.fits).in_vain

pub tag_end-requires-clause-quote : goal.tag_end-requires-clause-quote
tag_end-requires-clause-quote c = c.open_quote.ensures ∙
    ((tag-in c.args.search.now c.args.bytes.now c.requires.is_tag c.requires.fits).quote ∙
    ap (λ n. quote_after None (take n c.args.bytes.now)) (sym c.searched_behind.ensures))

pub returns-in-Behind-clause-answer : goal.returns-in-Behind-clause-answer
returns-in-Behind-clause-answer c = if-ok c.ended_tag.result (λ found. ShowsTag found (c.in-Behind.end + 2) c.split_at.result.0.now)
    (λ found. Shows found (tag_at c.args.bytes.now))
    (λ found shows. tag-shown found c.args.bytes.now c.split_at.result.0.now c.in-Behind.end
    (ends-behind c.args.bytes.now c.in-Behind.end c.in-Behind.ensures) c.split_at.ensures.front shows) c.ended_tag.ensures

pub returns-in-Behind-clause-search : goal.returns-in-Behind-clause-search
returns-in-Behind-clause-search c = if-ok c.ended_tag.result (λ found. ShowsTag found (c.in-Behind.end + 2) c.split_at.result.0.now)
    (λ found. Keeps found c.args.search.now (0x3C ∷ c.args.bytes.now))
    (λ found shows. ended-kept found c.args.search.now _ _ _ shows) c.ended_tag.ensures

pub returns-in-NoneWithin-clause-answer : goal.returns-in-NoneWithin-clause-answer
returns-in-NoneWithin-clause-answer c = tag-too-far c.args.bytes.now (ends-within c.args.bytes.now c.in-NoneWithin.ensures)

pub returns-in-NoneYet-clause-answer : goal.returns-in-NoneYet-clause-answer
returns-in-NoneYet-clause-answer c = tag-open c.args.bytes.now (ends-yet c.args.bytes.now c.in-NoneYet.quote c.in-NoneYet.ensures).0

pub returns-in-NoneYet-clause-search : goal.returns-in-NoneYet-clause-search
returns-in-NoneYet-clause-search c = tag-out c.reach.new.self c.args.bytes.now c.requires.is_tag (ap (λ (s : Searched). s.searched) c.reach.ensures)
    (ap (λ (s : Searched). s.quote) c.reach.ensures ∙ (ends-yet c.args.bytes.now c.in-NoneYet.quote c.in-NoneYet.ensures).1)
    (ends-yet c.args.bytes.now c.in-NoneYet.quote c.in-NoneYet.ensures).0
