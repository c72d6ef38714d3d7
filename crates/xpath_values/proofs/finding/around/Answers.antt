use Rattle.std.proofs.Common.{ap, sym, ◌∙◌, drop}
use Rattle.std.specs.Str.{IsUtf8}
use Rattle.std.proofs.Common.{subst}
use Rattle.std.proofs.lemmas.Str.{IsUtf8-take}
use Rattle.xpath_values.proofs.PieceLemmas.{place-none, place-some}
use Rattle.xpath_values.proofs.finding.around.Goals as goal

pub split_at-requires : goal.split_at-requires
split_at-requires c = let h = c.in-Some.ensures in h.cases.3

pub split_at-requires-in-Some : goal.split_at-requires-in-Some
split_at-requires-in-Some c = let h = c.in-Some.ensures in h.cases.1.1.after

pub returns-in-Some : goal.returns-in-Some
returns-in-Some c =
    let h = c.in-Some.ensures in
    place-some c.args.piece.now c.args.text.now _ _ c.in-Some.at h.cases.0 c.utf8.text c.utf8.piece
    (subst IsUtf8 (sym c.split_at.ensures.front) (IsUtf8-take c.args.text.now c.in-Some.at c.utf8.text h.cases.3)) h.cases.1 c.split_at.ensures.front
    (c.split_at-in-Some.ensures.back ∙ ap (λ k. drop k c.args.text.now) (sym h.cases.1.1.ends)) h.cases.3.0

pub returns-in-None : goal.returns-in-None
returns-in-None c = place-none c.args.piece.now c.args.text.now c.utf8.text c.utf8.piece c.in-None.ensures.cases
