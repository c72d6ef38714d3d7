use Rattle.std.proofs.Common.{ap, codes}
use Rattle.std.specs.Prelude.{length}
use Rattle.json_text.specs.Making.{number_member}
use Rattle.json_text.proofs.MakingLemmas.{Wrote-same, Wrote-append, Wrote-last, Wrote-object}
use Rattle.findings_json.specs.FindingsJson.{tally_members}
use Rattle.validation_json.proofs.printing.put_counts.Goals as goal

pub returns : goal.returns
returns g c =
    let faults = Wrote-same _ _ _ _ _ _ (ap (λ xs. number_member (codes "faults") (length xs)) c.as_slice.ensures.value) c.number_member.ensures in
    let passed = Wrote-same _ _ _ _ _ _ (ap (λ xs. number_member (codes "passed_over") (length xs)) c.as_slice-2.ensures.value) c.number_member-2.ensures in
    let unread = Wrote-same _ _ _ _ _ _ (ap (λ xs. number_member (codes "unread") (length xs)) c.as_slice-3.ensures.value) c.number_member-3.ensures in
    let misplaced = Wrote-same _ _ _ _ _ _ (ap (λ xs. number_member (codes "misplaced") (length xs)) c.as_slice-4.ensures.value) c.number_member-4.ensures in
    let tally = Wrote-same _ _ _ _ _ _ (ap tally_members c.of.ensures) c.put_tally.ensures in
    Wrote-object _ _ _ _ _ _ _ _ _ _ c.begin_member.ensures
    (Wrote-append _ _ _ _ _ _ _ _ faults
    (Wrote-append _ _ _ _ _ _ _ _ passed
    (Wrote-append _ _ _ _ _ _ _ _ unread
    (Wrote-append _ _ _ _ _ _ _ _ misplaced (Wrote-last _ _ _ _ _ tally)))))
    c.end.ensures.prints c.end.ensures.state
