use Rattle.std.proofs.Common.{refl}
use Rattle.held_rules.proofs.HeldLemmas.{loaded-held, refused-held}
use Rattle.held_rules.proofs.documents.document_in.Goals as goal

pub returns-in-Ok : goal.returns-in-Ok
returns-in-Ok c = loaded-held _ c.args.bytes.now c.in_ok-shelf.shelf c.in-Ok.doc c.in_ok-shelf.ensures refl c.in-Ok.ensures.loaded

pub returns-in-Err-Refused : goal.returns-in-Err-Refused
returns-in-Err-Refused c =
    let fault = c.in-Err-Refused.field-0-0 in
    refused-held _ c.args.bytes.now c.in_ok-shelf.shelf fault c.in_ok-shelf.ensures refl (c.in-Err-Refused.ensures.refused fault cc)
