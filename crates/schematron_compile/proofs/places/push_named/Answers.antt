use Rattle.inv_base.proofs.TextLemmas.{encode-chars}
use Rattle.schematron_compile.proofs.PlaceLemmas.{pushed, none_pushed}
use Rattle.schematron_compile.proofs.places.push_named.Goals as goal

pub returns-in-Some : goal.returns-in-Some
returns-in-Some c = pushed c.args.places.now c.args.name.now c.extend_from_slice.result c.get.result c.in-Some.more _ c.args.found.now.items
    c.extend_from_slice.new.self.items
    (encode-chars c.args.name.now c.utf8.name) c.get.ensures.value c.in-Some.is c.deref.ensures.value c.extend_from_slice.ensures.items

pub returns-in-None : goal.returns-in-None
returns-in-None c = none_pushed c.args.places.now c.args.name.now c.get.result c.args.found.now.items
    (encode-chars c.args.name.now c.utf8.name) c.get.ensures.value c.in-None.is
