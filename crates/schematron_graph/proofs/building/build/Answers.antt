use Rattle.std.proofs.Common.{◌∙◌, ap, length, None}
use Rattle.std.specs.List.{list_all}
use Rattle.std.proofs.lemmas.Option.{slice_get_within}
use Rattle.schematron_graph.specs.Rules.{bodies_of, body_of}
use Rattle.schematron_graph.specs.Ranked.{is_below}
use Rattle.schematron_graph.specs.Built.{built_body}
use Rattle.schematron_graph.proofs.BuiltLemmas.{built-below, next-parts, build-fits}
use Rattle.schematron_graph.proofs.building.build.Goals as goal

pub rank-requires : goal.rank-requires
rank-requires c =
    let made = c.in_ok-parts.ensures ∙ (ap (λ p. built_body p c.body.result.now) c.deref.ensures.value ∙
    ap (built_body c.args.built.now.puts.items) c.body.ensures) in
    ap (list_all (is_below (length c.args.built.now.ranked))) made ∙ built-below _ _ _ c.requires.fits (body_of (bodies_of c.args.rules.now) c.args.rule)

pub set_put-requires : goal.set_put-requires
set_put-requires c = let next = next-parts (bodies_of c.args.rules.now) c.args.built.now.puts.items c.args.rule c.requires.next in
    slice_get_within c.args.built.now.puts.items c.args.rule None next.0

pub returns-clause-fits : goal.returns-clause-fits
returns-clause-fits c =
    let made = c.in_ok-parts.ensures ∙ (ap (λ p. built_body p c.body.result.now) c.deref.ensures.value ∙
    ap (built_body c.args.built.now.puts.items) c.body.ensures) in
    let built = build-fits _ _ _ _ _ c.args.rule _ _ c.requires.fits c.requires.next made c.in_ok-put.ensures.ranked c.in_ok-put.ensures.put c.set_put.ensures
    in
    built.0

pub returns-clause-count : goal.returns-clause-count
returns-clause-count c =
    let made = c.in_ok-parts.ensures ∙ (ap (λ p. built_body p c.body.result.now) c.deref.ensures.value ∙
    ap (built_body c.args.built.now.puts.items) c.body.ensures) in
    let built = build-fits _ _ _ _ _ c.args.rule _ _ c.requires.fits c.requires.next made c.in_ok-put.ensures.ranked c.in_ok-put.ensures.put c.set_put.ensures
    in
    built.1
