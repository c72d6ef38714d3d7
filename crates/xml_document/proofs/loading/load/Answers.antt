use Rattle.xml_document.proofs.loading.load.Goals as goal

pub returns-in-Ok-clause-reads : goal.returns-in-Ok-clause-reads
returns-in-Ok-clause-reads g c =
    let reads = c.in-Ok.ensures.reads in
    record { held = reads.held; opens = reads.opens; rose = λ is. cc; rises = reads.rises; quiet = λ other. reads.quiet (λ is. cc) }

pub returns-in-Ok-clause-loaded : goal.returns-in-Ok-clause-loaded
returns-in-Ok-clause-loaded g c = c.in-Ok.ensures.loaded.loaded

pub returns-in-Err-clause-reads : goal.returns-in-Err-clause-reads
returns-in-Err-clause-reads g c =
    let reads = c.in-Err.ensures.reads in
    record { held = reads.held; opens = reads.opens; rose = λ is. reads.rose cc; rises = reads.rises; quiet = λ other. reads.quiet (λ is. other cc) }
