use Rattle.std.proofs.Common.{◌≡◌, ℕ, ◌<◌, ◌≤◌, List, length, get_or, take, drop, sym, ap, ◌∙◌, subst, true}
use Rattle.std.specs.Str.{chars, IsUtf8, IsCharBoundary}
use Rattle.std.proofs.lemmas.Str.{IsUtf8-take, IsUtf8-drop}
use Rattle.inv_base.specs.Characters.{is_white_space}
use Rattle.inv_terms.specs.Values.{trimmed}
use Rattle.inv_terms.proofs.TrimLemmas.{HasFront, HasBack, trimmed-bytes, cut-leading, cut-trailing}
use Rattle.inv_terms.proofs.spaces.trimmed.Goals as goal

cut : (s b : List ℕ) (m : ℕ) → b ≡ s → IsUtf8 s → m ≤ length b → ((i : ℕ) → i < m → is_white_space (get_or b i 0) ≡ true) → IsCharBoundary s m
cut s b m e u l h = cut-leading s m u (subst (λ x. m ≤ length x) e l) (subst (λ x. (i : ℕ) → i < m → is_white_space (get_or x i 0) ≡ true) e h)

pub split_at-requires : goal.split_at-requires
split_at-requires c =
    cut c.args.text.now c.as_bytes.result.now c.count_leading.result c.as_bytes.ensures.value c.utf8.text c.count_leading.ensures.bound
    c.count_leading.ensures.below

cut_back : (s r b : List ℕ) (k m : ℕ) → b ≡ r → r ≡ drop m s → IsCharBoundary s m → IsUtf8 s → k ≤ length b
    → ((i : ℕ) → k ≤ i → i < length b → is_white_space (get_or b i 0) ≡ true) → IsCharBoundary r k
cut_back s r b k m e d at u l h =
    cut-trailing r k (subst IsUtf8 (sym d) (IsUtf8-drop s m u at)) (subst (λ x. k ≤ length x) e l)
    (subst (λ x. (i : ℕ) → k ≤ i → i < length x → is_white_space (get_or x i 0) ≡ true) e h)

pub split_at-requires-2 : goal.split_at-requires-2
split_at-requires-2 c =
    cut_back c.args.text.now c.split_at.result.1.now c.as_bytes-2.result.now c.count_kept.result c.count_leading.result c.as_bytes-2.ensures.value
    c.split_at.ensures.back
    (cut c.args.text.now c.as_bytes.result.now c.count_leading.result c.as_bytes.ensures.value c.utf8.text c.count_leading.ensures.bound
    c.count_leading.ensures.below)
    c.utf8.text c.count_kept.ensures.bound c.count_kept.ensures.from

core : (s b r d p : List ℕ) (m k : ℕ) → b ≡ s → r ≡ drop m s → d ≡ r → p ≡ take k r → IsUtf8 s → IsUtf8 p → HasFront b m → HasBack d k →
    chars p ≡ trimmed (chars s)
core s b r d p m k eb er ed ep us up front back =
    let cut_is : p ≡ take k (drop m s) = ep ∙ ap (take k) er in
    ap chars cut_is ∙ trimmed-bytes s m k us (subst IsUtf8 cut_is up) (subst (λ x. HasFront x m) eb front) (subst (λ x. HasBack x k) (ed ∙ er) back)

pub returns : goal.returns
returns c =
    let front : HasFront c.as_bytes.result.now c.count_leading.result =
    record { long = c.count_leading.ensures.bound; below = c.count_leading.ensures.below; first = c.count_leading.ensures.first } in
    let back : HasBack c.as_bytes-2.result.now c.count_kept.result =
    record { within = c.count_kept.ensures.bound; from = c.count_kept.ensures.from; last = c.count_kept.ensures.last } in
    let at = cut c.args.text.now c.as_bytes.result.now c.count_leading.result c.as_bytes.ensures.value c.utf8.text c.count_leading.ensures.bound
    c.count_leading.ensures.below in
    let rest : IsUtf8 c.split_at.result.1.now = subst IsUtf8 (sym c.split_at.ensures.back)
    (IsUtf8-drop c.args.text.now c.count_leading.result c.utf8.text at) in
    let kept : IsUtf8 c.split_at-2.result.0.now = subst IsUtf8 (sym c.split_at-2.ensures.front) (IsUtf8-take c.split_at.result.1.now c.count_kept.result rest (
    cut_back c.args.text.now c.split_at.result.1.now c.as_bytes-2.result.now c.count_kept.result c.count_leading.result c.as_bytes-2.ensures.value
    c.split_at.ensures.back at
    c.utf8.text c.count_kept.ensures.bound c.count_kept.ensures.from)) in
    core c.args.text.now c.as_bytes.result.now c.split_at.result.1.now c.as_bytes-2.result.now c.split_at-2.result.0.now c.count_leading.result
    c.count_kept.result
    c.as_bytes.ensures.value c.split_at.ensures.back c.as_bytes-2.ensures.value c.split_at-2.ensures.front c.utf8.text kept front back
