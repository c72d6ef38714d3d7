use Rattle.std.proofs.Common.{◌+◌, ◌≤◌, length, None, drop, sym, ap, ◌∙◌, refl, arith}
use Rattle.std.proofs.lemmas.List.{drop_all, drop_more, take_all}
use Rattle.xml_tokens.specs.Searching.{quote_after}
use Rattle.xml_tokens.specs.Told.{ends_behind, ends_not_within, ends_not_yet}
use Rattle.xml_tokens.proofs.TagEndLemmas.{searching-begin, searching-here, searching-step, searching-room, searching-end}
use Rattle.xml_tokens.proofs.scanning.tag_end.Goals as goal
use Rattle.xml_tokens.proofs.scanning.tag_end.Goals.{then-not-is_passed+else-ends_tag, else-not-is_passed}

pub places-init : goal.places-init
places-init c = searching-begin c.args.bytes.now c.args.searched 262143 c.args.open_quote c.requires.within c.requires.in_vain c.requires.quote

pub returns-then-ends_tag : goal.returns-then-ends_tag
returns-then-ends_tag c = ends_behind c.places.place
    (searching-here c.args.bytes.now (drop (c.places.place + 1) c.args.bytes.now) 262143 c.places.place c.places.quote _
    (drop_more c.args.bytes.now c.places.place _ (omega arith)) (omega arith) (sym c.ends_tag.ensures ∙ c.if-ends_tag.true) c.places.invariant) (omega arith)

pub places-preserved : goal.places-preserved
places-preserved c = elim c.if-not-is_passed.branch [
  | then-not-is_passed+else-ends_tag w ↦ searching-step c.args.bytes.now (drop (c.places.place + 1) c.args.bytes.now) 262143 c.places.place c.places.quote _ _
      (drop_more c.args.bytes.now c.places.place _ (omega arith)) refl (omega arith) (omega arith) (sym w.ends_tag.ensures ∙ w.if-ends_tag.false)
      (w.quote-is ∙ w.quote_behind-quote.ensures) c.places.invariant
  | else-not-is_passed w ↦ let known = c.is_passed.ensures w.if-not-is_passed.false in
      searching-step c.args.bytes.now (drop (c.places.place + 1) c.args.bytes.now) 262143 c.places.place c.places.quote _ _
      (drop_more c.args.bytes.now c.places.place _ (omega arith)) refl (omega arith) (omega arith) known.0 (w.quote-is ∙ known.1) c.places.invariant
]

pub returns-then-end-lt-ROOM : goal.returns-then-end-lt-ROOM
returns-then-end-lt-ROOM c =
    let all : length c.args.bytes.now ≤ c.places.place = omega arith in
    ends_not_yet c.places.quote (searching-end c.args.bytes.now 262143 c.places.place c.places.quote (drop_all c.places.place c.args.bytes.now all)
    (omega arith) c.places.invariant)
    (c.places.invariant.open_is ∙ ap (quote_after None) (take_all c.places.place c.args.bytes.now all))

pub returns-else-end-lt-ROOM : goal.returns-else-end-lt-ROOM
returns-else-end-lt-ROOM c = ends_not_within (searching-room c.args.bytes.now 262143 c.places.place c.places.quote (omega arith) c.places.invariant)
