use Rattle.std.proofs.Common.{◌≡◌, ℕ, ◌+◌, ◌<◌, get_or, true, false, ap, ◌∙◌, ◌⊎◌, inl, inr, arith, rules}
use Rattle.std.proofs.lemmas.List.{get_or_read}
use Rattle.term_table.specs.Contexts.{is_inside}
use Rattle.term_table.proofs.RunLemmas.{parts-before}
use Rattle.term_table.proofs.runs.len_inside.Goals as goal

pub returns-then-not-is_around-clause-point : goal.returns-then-not-is_around-clause-point
returns-then-not-is_around-clause-point g c =
    let t = c.seats-test.true in
    let stops : (d : _) → is_inside c.args.context (g.T.Seated.seat_of (get_or c.args.seats.now c.seats.k d)).context ≡ false = λ d.
    let at : c.index-seats-k.result ≡ get_or c.args.seats.now c.seats.k d = get_or_read c.args.seats.now _ _ (omega (arith, t)) c.index-seats-k.is d in
    rw (← at) (search rules) in
    parts-before (λ x. is_inside c.args.context (g.T.Seated.seat_of x).context) c.args.seats.now c.seats.k c.requires c.seats.invariant stops

pub seats-preserved : goal.seats-preserved
seats-preserved g c i d u =
    let t = c.seats-test.true in
    elim (up_to i c.seats.k u) [
      | inl l ↦ c.seats.invariant i d l
      | inr e ↦
          let at : c.index-seats-k.result ≡ get_or c.args.seats.now c.seats.k d = get_or_read c.args.seats.now _ _ (omega (arith, t)) c.index-seats-k.is d in
          let passes : is_inside c.args.context (g.T.Seated.seat_of (get_or c.args.seats.now c.seats.k d)).context ≡ true = rw (← at) (search rules) in
          ap (λ n. is_inside c.args.context (g.T.Seated.seat_of (get_or c.args.seats.now n d)).context) e ∙ passes
    ]
  where
    up_to : (i k : ℕ) → i < k + 1 → (i < k) ⊎ (i ≡ k)
    up_to i k u = grind arith
