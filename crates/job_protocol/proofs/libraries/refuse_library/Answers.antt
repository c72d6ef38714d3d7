use Rattle.std.proofs.Common.{sym, ap, subst, ◌∙◌}
use Rattle.std.specs.Prelude.{encode_utf8_all}
use Rattle.inv_base.proofs.TextLemmas.{encode-chars}
use Rattle.job_protocol.specs.Libraries.{is_unread, IsRefusedFile, IsLoadRefusal}
use Rattle.job_protocol.proofs.libraries.refuse_library.Goals as goal

pub returns-in-Some : goal.returns-in-Some
returns-in-Some g c =
    let fault = c.args.fault.now in
    let named = sym (encode-chars c.as_str.result.now c.as_str.utf8) ∙ ap encode_utf8_all c.as_str.ensures in
    let line = subst (λ file. IsRefusedFile (is_unread fault.kind) (record { kind = fault.kind; file = file; place = fault.place.byte }) c.refuse_file.result
    (g.E.Sink.view c.args.err.now) (g.E.Sink.view c.refuse_file.new.err)) named c.refuse_file.ensures in
    subst (λ file. IsLoadRefusal file fault c.refuse_file.result (g.E.Sink.view c.args.err.now) (g.E.Sink.view c.refuse_file.new.err)) (sym c.in-Some.is) line
