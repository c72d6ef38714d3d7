use Rattle.std.proofs.Common.{◌≡◌, ◌+◌, ap, sym, ◌∙◌, ◌∷◌, option_map, true, false}
use Rattle.std.specs.Prelude.{string_bytes}
use Rattle.invoice_cli.specs.Job.{optioned, offered, takes_value, with_value, words_of}
use Rattle.invoice_cli.specs.Commands.{given_options}
use Rattle.invoice_cli.proofs.OptionLemmas.{optioned-on, optioned-alone}
use Rattle.invoice_cli.proofs.options.+scan.Goals as goal

pub returns-then-not-takes_value-clause-follows : goal.returns-then-not-takes_value-clause-follows
returns-then-not-takes_value-clause-follows g c = λ further.
    let given = given_options c.args.given.now in
    let word = string_bytes c.in-Some.word.now in
    let is_offered = ap (offered c.args.command given) (sym c.as_str.ensures.value) ∙ (sym c.offered.ensures.is ∙ c.in-Some-offered.is) in
    let alone : takes_value c.in-Some-offered.switch ≡ false = cc in
    c.scan.ensures.follows further
    ∙ (ap (λ more. optioned c.args.command further more (c.args.number + 1) (words_of c.in-Some.behind.now)) c.with_flag.ensures
    ∙ (sym (optioned-alone c.args.command further given c.args.number word c.in-Some-offered.switch (words_of c.in-Some.behind.now) is_offered alone)
    ∙ ap (λ words. optioned c.args.command further given c.args.number (words_of words)) (sym c.in-Some.ensures.cases.0)))

pub returns-in-Some-with_value-clause-follows : goal.returns-in-Some-with_value-clause-follows
returns-in-Some-with_value-clause-follows g c = λ further.
    let given = given_options c.args.given.now in
    let word = string_bytes c.in-Some.word.now in
    let value = string_bytes c.in-Some-split_first.value.now in
    let is_offered = ap (offered c.args.command given) (sym c.as_str.ensures.value) ∙ (sym c.offered.ensures.is ∙ c.in-Some-offered.is) in
    let takes : takes_value c.in-Some-offered.switch ≡ true = cc in
    let is_more = ap (with_value given c.in-Some-offered.switch) (sym c.as_str-2.ensures.value) ∙
    (sym c.with_value.ensures ∙ ap (option_map given_options) c.in-Some-with_value.is) in
    let words = ap words_of c.in-Some.ensures.cases.0 ∙ ap (λ behind. word ∷ words_of behind) c.in-Some-split_first.ensures.cases.0 in
    c.scan-in-Some-with_value.ensures.follows further
    ∙ (sym (optioned-on c.args.command further given c.args.number word c.in-Some-offered.switch (given_options c.in-Some-with_value.more) value
    (words_of c.in-Some-split_first.rest.now) is_offered takes is_more)
    ∙ ap (optioned c.args.command further given c.args.number) (sym words))
