use Rattle.std.proofs.Common.{◌∙◌}
use Rattle.inv_terms.proofs.AttachmentLemmas.{ok-along, fault-along}
use Rattle.inv_terms.proofs.attachments.bytes_of.Goals as goal

pub returns-in-Ok-clause-ok : goal.returns-in-Ok-clause-ok
returns-in-Ok-clause-ok c = ok-along (λ bytes. bytes.items) c.decoded.result _ c.as_bytes.result.now
    (c.as_bytes.ensures.value ∙ c.in-Ok.ensures) c.decoded.ensures.ok

pub returns-in-Ok-clause-fault : goal.returns-in-Ok-clause-fault
returns-in-Ok-clause-fault c = fault-along c.decoded.result _ c.as_bytes.result.now (c.as_bytes.ensures.value ∙ c.in-Ok.ensures) c.decoded.ensures.fault
