use Rattle.std.proofs.Common.{sym, ◌∙◌}
use Rattle.xml_tokens.specs.declared.beginning.Beginning.TheVariants.{Bad, Later}
use Rattle.xml_profile.proofs.TurnLemmas.{says-at, continues-as, breaks-at-once, breaks-as, is-bad, is-unfinished, is-unfinished-beyond, turns-anew}
use Rattle.xml_profile.proofs.cursor.Cursor.any_token.Goals as goal

pub returns-in-Ok-Good : goal.returns-in-Ok-Good
returns-in-Ok-Good g c = turns-anew _ _ _ _ _ _ _ _ _ _ _ c.take.ensures

pub returns-in-Ok-Bad : goal.returns-in-Ok-Bad
returns-in-Ok-Bad g c =
    let begun = says-at c.args.reading.ended c.args.bytes.now _ _ c.in-Ok-Bad.field-0
    (Bad c.in-Ok-Bad.kind c.in-Ok-Bad.len) c.position-position.ensures c.in-Ok-Bad.field-0-is c.in-Ok-Bad.ensures.answer in
    is-bad _ _ _ _ _ _ _ _ _ begun c.fault_within.ensures (λ events t. t)

pub returns-then-has_room : goal.returns-then-has_room
returns-then-has_room g c =
    let begun = says-at c.args.reading.ended c.args.bytes.now _ _ c.in-Ok-Later.field-0 Later c.position-position.ensures c.in-Ok-Later.field-0-is
    c.in-Ok-Later.ensures.answer in
    is-unfinished _ _ _ _ _ _ _ _ c.requires.some c.sure_len.ensures begun (sym c.has_room.ensures ∙ c.if-has_room.true)
    (continues-as c.in-Ok-Later.field-0 Later _ c.args.bytes.now c.in-Ok-Later.field-0-is c.in-Ok-Later.ensures.search) c.requires.at.within (λ events t. t)

pub returns-else-has_room : goal.returns-else-has_room
returns-else-has_room g c =
    let begun = says-at c.args.reading.ended c.args.bytes.now _ _ c.in-Ok-Later.field-0 Later c.position-position.ensures c.in-Ok-Later.field-0-is
    c.in-Ok-Later.ensures.answer in
    breaks-as _ _ _ _ _ _ _ _ c.too_long.ensures
    (is-unfinished-beyond _ _ _ _ _ _ _ c.requires.some c.sure_len.ensures begun (sym c.has_room.ensures ∙ c.if-has_room.false) (λ events t. t))

pub returns-in-Err : goal.returns-in-Err
returns-in-Err g c = breaks-at-once _ _ _ _ _ _ (λ events t. t)
