use Rattle.std.proofs.Common.{rules, ◌≡◌, ◌+◌, drop, map, true, ap, subst}
use Rattle.std.proofs.lemmas.List.{drop_more, drop_all}
use Rattle.std.specs.Result.{is_ok}
use Rattle.schematron_rules.specs.Seen.{seen_rules}
use Rattle.job_protocol.specs.Views.{texts_of}
use Rattle.document_jobs.specs.Checks.{named_of}
use Rattle.document_jobs.proofs.CheckLemmas.{Leads, kept_if, leads_first, leads_on, leads_stop, leads_memory, leads_kept, leads_last}
use Rattle.document_jobs.proofs.checks.load_all.Goals as goal

pub files-init : goal.files-init
files-init g c = rw c.new-files.ensures.items (leads_first (texts_of c.args.names.now) (g.S.Shelf.view c.args.shelf.now) (g.E.Sink.view c.args.err.now))

pub returns-in-Err-clause-fails : goal.returns-in-Err-clause-fails
returns-in-Err-clause-fails g c =
    let behind = ap texts_of (drop_more c.args.names.now c.files.name-index _ c.files-test.true) in
    let leads = subst (λ rest. Leads (texts_of c.args.names.now) rest (map named_of c.files.files.items) (g.S.Shelf.view c.args.shelf.now)
    (g.S.Shelf.view c.files.shelf)
    (g.E.Sink.view c.args.err.now) (g.E.Sink.view c.files.err)) behind c.files.invariant in
    leads_stop _ _ _ _ _ _ _ _ _ _ _ leads c.in-Err.ensures.fails

pub returns-then-is_err-clause-fails : goal.returns-then-is_err-clause-fails
returns-then-is_err-clause-fails g c =
    let behind = ap texts_of (drop_more c.args.names.now c.files.name-index _ c.files-test.true) in
    let leads = subst (λ rest. Leads (texts_of c.args.names.now) rest (map named_of c.files.files.items) (g.S.Shelf.view c.args.shelf.now)
    (g.S.Shelf.view c.files.shelf)
    (g.E.Sink.view c.args.err.now) (g.E.Sink.view c.files.err)) behind c.files.invariant in
    leads_memory _ _ _ _ _ _ _ _ (seen_rules c.in-Ok.rules) _ _ leads c.in-Ok.ensures.goes_on

pub files-preserved : goal.files-preserved
files-preserved g c =
    let behind = ap texts_of (drop_more c.args.names.now c.files.name-index _ c.files-test.true) in
    let leads = subst (λ rest. Leads (texts_of c.args.names.now) rest (map named_of c.files.files.items) (g.S.Shelf.view c.args.shelf.now)
    (g.S.Shelf.view c.files.shelf)
    (g.E.Sink.view c.args.err.now) (g.E.Sink.view c.files.err)) behind c.files.invariant in
    let on = leads_on _ _ _ _ _ _ _ _ (seen_rules c.in-Ok.rules) _ _ leads c.in-Ok.ensures.goes_on in
    let ok : is_ok c.push.result ≡ true = search rules in
    let items = kept_if (is_ok c.push.result) _ _ _ ok c.push.ensures.items in
    leads_kept (texts_of c.args.names.now) (texts_of (drop (c.files.name-index + 1) c.args.names.now)) c.files.files.items c.push.new.self.items _
    (g.S.Shelf.view c.args.shelf.now) (g.S.Shelf.view c.load_said.new.shelf) (g.E.Sink.view c.args.err.now) (g.E.Sink.view c.load_said.new.err) items on

pub returns-clause-goes_on : goal.returns-clause-goes_on
returns-clause-goes_on g c =
    let leads = subst (λ rest. Leads (texts_of c.args.names.now) rest (map named_of c.files.files.items) (g.S.Shelf.view c.args.shelf.now)
    (g.S.Shelf.view c.files.shelf)
    (g.E.Sink.view c.args.err.now) (g.E.Sink.view c.files.err)) (ap texts_of (drop_all c.files.name-index c.args.names.now c.files-test.false))
    c.files.invariant in
    leads_last _ _ _ _ _ _ leads
