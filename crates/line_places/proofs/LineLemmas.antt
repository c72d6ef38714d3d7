-- Line feeds in pieces, and the line and the column of a place by the starts of lines.
use Rattle.std.proofs.Common.{◌≡◌, ℕ, ◌+◌, ◌-◌, ◌<◌, ◌≤◌, zero, suc, Bool, true, false, List, [], ◌∷◌, ◌++◌, length, get_or, take, drop, nat_le, append_assoc}
use Rattle.std.proofs.Common.{append-nil, length-append, refl, sym, ap, subst, ◌∙◌, if◌then◌else◌, cond, not, arith, length-drop, option_map, Option, Some}
use Rattle.std.proofs.Common.{None}
use Rattle.std.specs.Prelude.{position, min, nat_lt}
use Rattle.std.specs.List.{position_or_len}
use Rattle.std.proofs.lemmas.List.{take_all}
use Rattle.std.proofs.lemmas.Bool.Decides.{nat_tests}
use lib.Dec.{leb}
use Rattle.line_places.specs.declared.place.LinePlace.{LinePlace}
use Rattle.line_places.specs.Places.{is_feed, feeds, behind_feed, starts_from, count_to, place_in, Lines, AreLinesOf, EndsLine, GoesOn, Gives}

-- ---- pieces

starts_append : (place : ℕ) (a b : List ℕ) → starts_from place (a ++ b) ≡ starts_from place a ++ starts_from (place + length a) b
starts_append place [] b = ap (λ n. starts_from n b) (omega arith)
starts_append place (x ∷ a) b =
    by (is_feed x) (starts_append (suc place) a b ∙ ap (λ n. starts_from (suc place) a ++ starts_from n b) (omega arith))
  where
    by : (t : Bool) → starts_from (suc place) (a ++ b) ≡ starts_from (suc place) a ++ starts_from (place + suc (length a)) b
        → (if t then suc place ∷ starts_from (suc place) (a ++ b) else starts_from (suc place) (a ++ b))
        ≡ (if t then suc place ∷ starts_from (suc place) a else starts_from (suc place) a) ++ starts_from (place + suc (length a)) b
    by true behind = ap (λ xs. suc place ∷ xs) behind
    by false behind = behind

none_more : (n : ℕ) → n ≡ 0 + n
none_more n = omega arith

-- The lines behind a piece are those of the content with the piece behind it.
pub lines_behind : (piece : List ℕ) (before after : Lines) → Gives piece before after → (content : List ℕ) → AreLinesOf before content →
    AreLinesOf after (content ++ piece)
lines_behind piece before after gives content are = record {
  starts = gives.starts ∙ (ap (λ xs. xs ++ starts_from before.length piece) are.starts
      ∙ (ap (λ n. starts_from 0 content ++ starts_from n piece) (are.counted ∙ none_more (length content)) ∙ sym (starts_append 0 content piece)));
  counted = gives.counted ∙ (ap (λ n. n + length piece) are.counted ∙ sym (length-append content piece));
}

-- The first line feed of what is left.
found_at : (place : ℕ) (xs : List ℕ) (k : ℕ) → position_or_len is_feed xs ≡ k → k < length xs
    → starts_from place xs ≡ (place + suc k) ∷ starts_from (place + suc k) (drop (suc k) xs)
found_at place [] k is few = absurd (omega (arith, few))
found_at place (x ∷ xs) k is few = by (is_feed x) (λ m same within. found_at (suc place) xs m same within) is
  where
    next : suc place ≡ place + 1
    next = omega arith

    by : (t : Bool)
        → ((m : ℕ) → position_or_len is_feed xs ≡ m → m < length xs → starts_from (suc place) xs ≡ (suc place + suc m) ∷ starts_from (suc place + suc m)
        (drop (suc m) xs))
        → cond (not t) (1 + position_or_len is_feed xs) 0 ≡ k
        → (if t then suc place ∷ starts_from (suc place) xs else starts_from (suc place) xs) ≡ (place + suc k) ∷ starts_from (place + suc k) (drop k xs)
    by true others first = subst (λ n. suc place ∷ starts_from (suc place) xs ≡ (place + suc n) ∷ starts_from (place + suc n) (drop n xs)) first
        (ap (λ n. n ∷ starts_from n xs) next)
    by false others further =
        let n = position_or_len is_feed xs in
        let far : suc place + suc n ≡ place + suc (suc n) = omega arith in
        let one_more : suc n ≡ 1 + n = omega arith in
        subst (λ m. starts_from (suc place) xs ≡ (place + suc m) ∷ starts_from (place + suc m) (drop m xs)) (one_more ∙ further)
        (others n refl (omega (arith, few, further)) ∙ ap (λ m. m ∷ starts_from m (drop (suc n) xs)) far)

none_at : (place : ℕ) (xs : List ℕ) → length xs ≤ position_or_len is_feed xs → starts_from place xs ≡ []
none_at place [] past = refl
none_at place (x ∷ xs) past = by (is_feed x) (none_at (suc place) xs) past
  where
    by : (t : Bool) → (length xs ≤ position_or_len is_feed xs → starts_from (suc place) xs ≡ []) →
        suc (length xs) ≤ cond (not t) (1 + position_or_len is_feed xs) 0
        → (if t then suc place ∷ starts_from (suc place) xs else starts_from (suc place) xs) ≡ []
    by true others past = absurd (omega (arith, past))
    by false others past = others (omega (arith, past))

found_feed : (place : ℕ) (xs : List ℕ) (k : ℕ) → position is_feed xs ≡ Some k
    → (k < length xs) × (starts_from place xs ≡ (place + suc k) ∷ starts_from (place + suc k) (drop (suc k) xs))
found_feed place xs k is = by (nat_lt (position_or_len is_feed xs) (length xs)) refl is
  where
    by : (t : Bool) → nat_lt (position_or_len is_feed xs) (length xs) ≡ t → cond t (Some (position_or_len is_feed xs)) None ≡ Some k
        → (k < length xs) × (starts_from place xs ≡ (place + suc k) ∷ starts_from (place + suc k) (drop (suc k) xs))
    by true t some =
        let same : position_or_len is_feed xs ≡ k = cc in
        let within : position_or_len is_feed xs < length xs = grind (arith, nat_tests, t) in
        let few : k < length xs = subst (λ n. n < length xs) same within in
        (few, found_at place xs k same few)
    by false t some = cc

no_feed : (place : ℕ) (xs : List ℕ) → position is_feed xs ≡ None → starts_from place xs ≡ []
no_feed place xs is = by (nat_lt (position_or_len is_feed xs) (length xs)) refl is
  where
    by : (t : Bool) → nat_lt (position_or_len is_feed xs) (length xs) ≡ t → cond t (Some (position_or_len is_feed xs)) None ≡ None → starts_from place xs ≡ []
    by true t none = cc
    by false t none = none_at place xs (grind (arith, nat_tests, t))

-- The same of the first line that ends, by how many bytes it has.
found_line : (place : ℕ) (xs : List ℕ) (len : ℕ) → option_map (λ feed. feed + 1) (position is_feed xs) ≡ Some len
    → (len ≤ length xs) × (starts_from place xs ≡ (place + len) ∷ starts_from (place + len) (drop len xs))
found_line place xs len is = by (position is_feed xs) refl is
  where
    by : (o : Option ℕ) → position is_feed xs ≡ o → option_map (λ feed. feed + 1) o ≡ Some len
        → (len ≤ length xs) × (starts_from place xs ≡ (place + len) ∷ starts_from (place + len) (drop len xs))
    by None first is = cc
    by (Some k) first is =
        let found = found_feed place xs k first in
        let more : k + 1 ≡ len = cc in
        let same : suc k ≡ len = omega (arith, more) in
        (omega (arith, found.0, same), subst (λ n. starts_from place xs ≡ (place + n) ∷ starts_from (place + n) (drop n xs)) same found.1)

no_line : (place : ℕ) (xs : List ℕ) → option_map (λ feed. feed + 1) (position is_feed xs) ≡ None → starts_from place xs ≡ []
no_line place xs is = by (position is_feed xs) refl is
  where
    by : (o : Option ℕ) → position is_feed xs ≡ o → option_map (λ feed. feed + 1) o ≡ None → starts_from place xs ≡ []
    by None first is = no_feed place xs first
    by (Some k) first is = cc

-- Of a piece this is left.
pub record Giving (piece rest : List ℕ) (begun now : Lines) : Type 0 where
  pub starts : now.starts ++ starts_from now.length rest ≡ begun.starts ++ starts_from begun.length piece
  pub counted : now.length + length rest ≡ begun.length + length piece

pub giving_all : (piece : List ℕ) (begun : Lines) → Giving piece piece begun begun
giving_all piece begun = record { starts = refl; counted = refl }

pub giving_more : (piece rest behind : List ℕ) (begun now after : Lines) (len : ℕ) → Giving piece rest begun now
    → option_map (λ feed. feed + 1) (position is_feed rest) ≡ Some len → EndsLine len now after → behind ≡ drop len rest → Giving piece behind begun after
giving_more piece rest behind begun now after len so_far found ends is =
    let first = found_line now.length rest len found in
    record {
      starts = ap (λ xs. xs ++ starts_from after.length behind) ends.starts
          ∙ (append_assoc now.starts ((now.length + len) ∷ []) (starts_from after.length behind)
          ∙ (ap (λ n. now.starts ++ ((now.length + len) ∷ starts_from n behind)) ends.counted
          ∙ (ap (λ bytes. now.starts ++ ((now.length + len) ∷ starts_from (now.length + len) bytes)) is
          ∙ (ap (λ xs. now.starts ++ xs) (sym first.1) ∙ so_far.starts))));
      counted = let left : length behind ≡ length rest - len = ap length is ∙ length-drop len rest in
          omega (arith, left, ends.counted, first.0, so_far.counted);
    }

pub giving_end : (piece rest : List ℕ) (begun now after : Lines) (len : ℕ) → Giving piece rest begun now
    → option_map (λ feed. feed + 1) (position is_feed rest) ≡ None → len ≡ length rest → GoesOn len now after → Gives piece begun after
giving_end piece rest begun now after len so_far none all goes =
    record {
      starts = goes.starts ∙ (sym (append-nil now.starts) ∙ (ap (λ xs. now.starts ++ xs) (sym (no_line now.length rest none)) ∙ so_far.starts));
      counted = goes.counted ∙ (ap (λ n. now.length + n) all ∙ so_far.counted);
    }

-- ---- places

none_yet : (at place : ℕ) (content : List ℕ) → place ≤ at → count_to place (starts_from at content) ≡ 0
none_yet at place [] before = refl
none_yet at place (b ∷ content) before = by (is_feed b) (none_yet (suc at) place content (omega (arith, before)))
  where
    past : leb (suc at) place ≡ false
    past = grind (arith, nat_tests, before)

    by : (t : Bool) → count_to place (starts_from (suc at) content) ≡ 0 →
        count_to place (if t then suc at ∷ starts_from (suc at) content else starts_from (suc at) content) ≡ 0
    by true others = rw past others
    by false others = others

abbrev Found : ℕ → ℕ → ℕ → ℕ → List ℕ → Type 0
Found base before at n content =
    (count_to (at + n) (starts_from at content) ≡ feeds (take n content))
    × (get_or (base ∷ starts_from at content) (feeds (take n content)) 0 + behind_feed before (take n content) ≡ at + n)

-- Starts tell how many line feeds stand before a place, and how many bytes behind the last one.
lines_found : (base before at n : ℕ) (content : List ℕ) → base + before ≡ at → n ≤ length content → Found base before at n content
lines_found base before at zero content sum few = (none_yet at (at + 0) content (omega arith), sum ∙ omega arith)
lines_found base before at (suc n) [] sum few = absurd (omega (arith, few))
lines_found base before at (suc n) (b ∷ content) sum few =
    by (is_feed b) (lines_found (suc at) 0 (suc at) n content (omega arith) (omega (arith, few)))
    (lines_found base (suc before) (suc at) n content (omega (arith, sum)) (omega (arith, few)))
  where
    far : at + suc n ≡ suc at + n
    far = omega arith

    by : (t : Bool) → Found (suc at) 0 (suc at) n content → Found base (suc before) (suc at) n content
        → (count_to (at + suc n) (if t then suc at ∷ starts_from (suc at) content else starts_from (suc at) content)
        ≡ (if t then suc (feeds (take n content)) else feeds (take n content)))
        × (get_or (base ∷ (if t then suc at ∷ starts_from (suc at) content else starts_from (suc at) content))
        (if t then suc (feeds (take n content)) else feeds (take n content)) 0 + behind_feed (if t then 0 else suc before) (take n content) ≡ at + suc n)
    by true rest other =
        let reached : leb (suc at) (at + suc n) ≡ true = grind (arith, nat_tests) in
        (rw reached (ap suc (ap (λ t. count_to t (starts_from (suc at) content)) far ∙ rest.0)), rest.1 ∙ sym far)
    by false other rest =
        (ap (λ t. count_to t (starts_from (suc at) content)) far ∙ rest.0, rest.1 ∙ sym far)

-- Behind the end is the end.
record Cut (byte within : ℕ) (content : List ℕ) : Type 0 where
  few : within ≤ length content
  same : take byte content ≡ take within content

cut_at : (byte within : ℕ) (content : List ℕ) → within ≡ min byte (length content) → Cut byte within content
cut_at byte within content is = by (nat_le byte (length content)) refl
  where
    by : (t : Bool) → nat_le byte (length content) ≡ t → Cut byte within content
    by true t =
        let same : within ≡ byte = grind (arith, nat_tests, t, is) in
        record { few = grind (arith, nat_tests, t, is); same = ap (λ n. take n content) (sym same) }
    by false t =
        let same : within ≡ length content = grind (arith, nat_tests, t, is) in
        let past : length content ≤ byte = grind (arith, nat_tests, t) in
        record {
          few = omega (arith, same);
          same = take_all byte content past ∙ sym (take_all within content (omega (arith, same)));
        }

abbrev line_place : ℕ → ℕ → LinePlace
line_place line column = record { line = line; column = column }

pub placed : (lines : Lines) (content : List ℕ) (byte within count start : ℕ) → AreLinesOf lines content → within ≡ min byte lines.length
    → count ≡ count_to within lines.starts → start ≡ get_or (0 ∷ lines.starts) count 0 → line_place (count + 1) (within - start + 1) ≡ place_in content byte
placed lines content byte within count start are least counted begins =
    let cut = cut_at byte within content (least ∙ ap (min byte) are.counted) in
    let found = lines_found 0 0 0 within content refl cut.few in
    let zero_more : 0 + within ≡ within = omega arith in
    let line : count ≡ feeds (take byte content) =
    counted ∙ (ap (count_to within) are.starts ∙ (ap (λ t. count_to t (starts_from 0 content)) (sym zero_more) ∙ (found.0 ∙ ap feeds (sym cut.same)))) in
    let at : start ≡ get_or (0 ∷ starts_from 0 content) (feeds (take within content)) 0 =
    begins ∙ (ap (λ xs. get_or (0 ∷ xs) count 0) are.starts ∙ ap (λ k. get_or (0 ∷ starts_from 0 content) k 0) (line ∙ ap feeds cut.same)) in
    let column : within - start ≡ behind_feed 0 (take byte content) = omega (arith, at, found.1, ap (behind_feed 0) cut.same) in
    ap (λ n. line_place n (within - start + 1)) (omega (arith, line)) ∙ ap (line_place (1 + feeds (take byte content))) (omega (arith, column))
