use Rattle.page_laws.proofs.PageLemmas.{page-tags}
use Rattle.page_laws.proofs.each_tag_is_the_writers.Goals as goal

pub returns : goal.returns
returns c = page-tags
