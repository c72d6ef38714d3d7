use Rattle.std.proofs.Common.{◌≡◌, ◌≢◌, ℕ, suc, ◌+◌, ◌-◌, ◌<◌, ◌≤◌, Bool, false, List, ◌∷◌, length, drop, get_or, set, sym, ap, ◌∙◌, arith, rules, inl, inr}
use Rattle.std.proofs.Math.ListN.{length-set}
use Rattle.std.proofs.Math.Seq.{drop-cons}
use Rattle.std.proofs.lemmas.List.{drop_all, length-drop, get_or-set_same, get_or-set_other}
use Rattle.std.proofs.lemmas.Bool.{cases_lt}
use Rattle.xpath_tokens.specs.Scanning.{pending, pending_before, is_unclosed, unclosed_before}
use Rattle.xpath_tokens.proofs.CommentLaws.{pending-before, is_unclosed-before, pending-within}
use Rattle.xpath_tokens.proofs.comments.unclosed_comments.Invariants.{Known}
use Rattle.xpath_tokens.proofs.comments.unclosed_comments.Goals as goal

begun : (text : List ℕ) (flags : List Bool) → length flags ≡ length text → Known text flags 0 (length text)
unfolding pending
begun text flags e = record {
  within = omega arith;
  left = ap (pending 0) (sym (drop_all (length text) text (omega arith)));
  marks = record { whole = e; each = λ k h j. absurd (omega arith) };
}

pub places-init : goal.places-init
places-init c = begun c.args.text.now c.in_ok-unclosed.unclosed.items (let e : length c.in_ok-unclosed.unclosed.items ≡ length c.args.text.now = search rules in
    e)

pub pending_before-pending-requires : goal.pending_before-pending-requires
pending_before-pending-requires c =
    let bound : pending 0 (drop c.places.place c.args.text.now) ≤ length (drop c.places.place c.args.text.now) =
    pending-within 0 (drop c.places.place c.args.text.now) in
    omega (arith, bound, c.places.invariant.left, length-drop c.places.place c.args.text.now, c.split_at.ensures.back_len)

marked : (text : List ℕ) (flags : List Bool) (left place p : ℕ) (flag : Bool) (more : ℕ) → place ≡ p + 1 → flag ≡ unclosed_before left (drop p text) →
    more ≡ pending_before left (drop p text)
    → Known text flags left place → Known text (set flags p flag) more p
marked text flags left place p flag more e f g known = record {
  within = omega arith;
  left = g ∙ ap (λ n. pending_before n (drop p text)) is_left ∙ ap (pending_before (pending 0 behind)) next ∙ sym (pending-before x behind) ∙
      ap (pending 0) (sym next);
  marks = record {
    whole = length-set flags p flag ∙ known.marks.whole;
    each = λ k h j. elim (cases_lt p k) [
      | inl above ↦ get_or-set_other flags p k flag false (differs k above) ∙ known.marks.each k (omega arith) j
      | inr below ↦ here k (omega arith)
    ];
  };
} where
  behind : List ℕ
  behind = drop (p + 1) text

  x : ℕ
  x = get_or text p 0

  next : drop p text ≡ x ∷ behind
  next = drop-cons text p 0 (omega arith) ∙ (let k : suc p ≡ p + 1 = omega arith in ap (λ n. x ∷ drop n text) k)

  is_left : left ≡ pending 0 behind
  is_left = known.left ∙ ap (λ n. pending 0 (drop n text)) e

  differs : (k : ℕ) → p < k → k ≢ p
  differs k h f = omega arith

  here : (k : ℕ) → k ≡ p → get_or (set flags p flag) k false ≡ is_unclosed (drop k text)
  here k h = ap (λ n. get_or (set flags p flag) n false) h ∙ get_or-set_same flags p flag false (omega (arith, known.marks.whole)) ∙ f
      ∙ ap (λ n. unclosed_before n (drop p text)) is_left ∙ ap (unclosed_before (pending 0 behind)) next ∙ sym (is_unclosed-before x behind) ∙
      ap is_unclosed (sym next) ∙ ap (λ n. is_unclosed (drop n text)) (sym h)

pub places-preserved : goal.places-preserved
places-preserved c = marked c.args.text.now c.places.unclosed.items c.places.pending c.places.place
    (c.places.place - 1) c.unclosed_before.result c.pending_before-pending.result (omega arith)
    (c.unclosed_before.ensures ∙ ap (unclosed_before c.places.pending) c.split_at.ensures.back)
    (c.pending_before-pending.ensures ∙ ap (pending_before c.places.pending) c.split_at.ensures.back) c.places.invariant
