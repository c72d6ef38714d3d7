use Rattle.std.proofs.Common.{sym, subst, ◌∙◌, ap, chars}
use Rattle.xml_tokens.specs.Markup.{with_line_feeds}
use Rattle.xml_state.specs.Taking.{TakesText}
use Rattle.xml_state.proofs.OpenElementsLemmas.{text_told, section_tells, section_outside, section_empty, nothing_told}
use Rattle.xml_state.proofs.TextLemmas.{no_returns, empty_lines}
use Rattle.xml_state.proofs.open_elements.OpenElements.section.Goals as goal

pub returns-then-is_outside : goal.returns-then-is_outside
returns-then-is_outside g c = section_outside _ _ (with_line_feeds (chars c.args.written.now)) c.args.place.byte _ (sym c.if-is_outside.ensures)

pub returns-then-says_nothing : goal.returns-then-says_nothing
returns-then-says_nothing g c =
    section_empty _ _ _ (with_line_feeds (chars c.args.written.now)) c.args.place.byte _ (sym c.if-is_outside.ensures)
    (empty_lines (chars c.args.written.now) ∙ sym c.if-says_nothing.ensures) c.pass.ensures

pub returns-then-not-has_carriage_return : goal.returns-then-not-has_carriage_return
returns-then-not-has_carriage_return g c =
    text_told _ _ _ _ _ _ _ _ _
    (section_tells _ _ (with_line_feeds (chars c.args.written.now)) (sym c.if-is_outside.ensures) (empty_lines (chars c.args.written.now) ∙
    sym c.if-says_nothing.ensures))
    (subst (λ x. TakesText c.tell.result c.args.limits.now c.args.self.now c.tell.new.self x c.args.place.byte (g.E.Events.taken c.args.events.now)
    (g.E.Events.taken c.tell.new.events))
    (sym (no_returns (chars c.args.written.now) (sym c.if-not-has_carriage_return.ensures))) c.tell.ensures)

pub returns-in-Ok : goal.returns-in-Ok
returns-in-Ok g c =
    text_told _ _ _ _ _ _ _ _ _
    (section_tells _ _ (with_line_feeds (chars c.args.written.now)) (sym c.if-is_outside.ensures) (empty_lines (chars c.args.written.now) ∙
    sym c.if-says_nothing.ensures))
    (subst (λ x. TakesText c.tell-in-Ok.result c.args.limits.now c.args.self.now c.tell-in-Ok.new.self x c.args.place.byte (g.E.Events.taken c.args.events.now)
    (g.E.Events.taken c.tell-in-Ok.new.events))
    (ap chars c.as_str.ensures.value ∙ c.in-Ok.ensures) c.tell-in-Ok.ensures)

pub returns-in-Err : goal.returns-in-Err
returns-in-Err g c = nothing_told _ _ _ _ _ _ (λ events taken. taken)
