use Rattle.std.proofs.Common.{ap, codes}
use Rattle.std.specs.Prelude.{chars, flat_map}
use Rattle.json_text.specs.Making.{array_member, each}
use Rattle.json_text.proofs.MakingLemmas.{Wrote-same, Wrote-append, Wrote-last, Wrote-object, Printed-document}
use Rattle.validation_report.specs.Held.{placed_in, held_contents}
use Rattle.validation_json.specs.ValidationJson.{fault_object, finding_object, located_object, unread_object, placed_objects, validation_json}
use Rattle.validation_json.proofs.printing.print_parts.Goals as goal

pub returns : goal.returns
unfolding validation_json
returns g c =
    let told = c.args.told in
    let faults = Wrote-same _ _ _ _ _ _
    (ap (λ spots. array_member (codes "faults") (placed_objects fault_object (flat_map (placed_in told.reading.now) spots))) c.deref.ensures.value)
    c.put_findings.ensures in
    let passed = Wrote-same _ _ _ _ _ _ (ap (λ all. array_member (codes "passed_over") (each located_object all)) c.deref-2.ensures.value)
    c.put_elements.ensures in
    let unread = Wrote-same _ _ _ _ _ _ (ap (λ all. array_member (codes "unread") (each unread_object all)) c.deref-3.ensures.value) c.put_unread.ensures in
    let misplaced = Wrote-same _ _ _ _ _ _ (ap (λ all. array_member (codes "misplaced") (each located_object all)) c.deref-4.ensures.value)
    c.put_elements-2.ensures in
    let findings = Wrote-same _ _ _ _ _ _
    (ap (λ spots. array_member (codes "findings") (placed_objects finding_object (flat_map (placed_in told.rules.now) spots))) c.deref-5.ensures.value)
    c.put_findings-2.ensures in
    Printed-document (validation_json (chars c.args.file.now) (held_contents told.reading.now told.rules.now told.spots.now)) _ _ _ _ _ _
    c.new-pen.ensures.state c.new-pen.ensures.printer
    (Wrote-object _ _ _ _ _ _ _ _ _ _ c.begin_item.ensures
    (Wrote-append _ _ _ _ _ _ _ _ c.text_member.ensures
    (Wrote-append _ _ _ _ _ _ _ _ faults
    (Wrote-append _ _ _ _ _ _ _ _ passed
    (Wrote-append _ _ _ _ _ _ _ _ unread
    (Wrote-append _ _ _ _ _ _ _ _ misplaced
    (Wrote-append _ _ _ _ _ _ _ _ findings (Wrote-last _ _ _ _ _ c.put_counts.ensures)))))))
    c.end.ensures.prints c.end.ensures.state)
    c.finish.ensures
