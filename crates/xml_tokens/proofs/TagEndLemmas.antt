-- The end of a tag behind bytes that were searched.
use Rattle.std.proofs.Common.{◌≡◌, ℕ, zero, suc, ◌+◌, ◌-◌, ◌<◌, ◌≤◌, Bool, true, false, List, [], ◌∷◌, length, take, drop, refl, sym, ap, ◌∙◌, arith, Option}
use Rattle.std.proofs.Common.{None}
use Rattle.xml_tokens.specs.Searches.{TagEnd, behind, none_within, none_yet, one_farther, quote_behind, ends_tag, tag_end}
use Rattle.xml_tokens.specs.Searching.{quote_after}

-- so many bytes farther
abbrev pub farther : ℕ → TagEnd → TagEnd
farther n (behind m) = behind (n + m)
farther n none_within = none_within
farther n none_yet = none_yet

farther-none : (x : TagEnd) → farther 0 x ≡ x
farther-none (behind n) = let e : 0 + n ≡ n = omega arith in ap behind e
farther-none none_within = refl
farther-none none_yet = refl

farther-one : (n : ℕ) (x : TagEnd) → one_farther (farther n x) ≡ farther (suc n) x
farther-one n (behind m) = let e : 1 + (n + m) ≡ suc n + m = omega arith in ap behind e
farther-one n none_within = refl
farther-one n none_yet = refl

farther-more : (n : ℕ) (x : TagEnd) → farther n (one_farther x) ≡ farther (n + 1) x
farther-more n (behind m) = let e : n + (1 + m) ≡ n + 1 + m = omega arith in ap behind e
farther-more n none_within = refl
farther-more n none_yet = refl

not-yet : (x : TagEnd) → one_farther x ≡ none_yet → x ≡ none_yet
not-yet (behind n) e = cc
not-yet none_within e = cc
not-yet none_yet e = refl

pub tag-step : (b : ℕ) (bytes : List ℕ) (quote : Option ℕ) (room : ℕ) → ends_tag quote b ≡ false →
    tag_end (b ∷ bytes) quote (suc room) ≡ one_farther (tag_end bytes (quote_behind quote b) room)
tag-step b bytes quote room e = ap (λ t. elim t [ true ↦ behind 0 | false ↦ one_farther (tag_end bytes (quote_behind quote b) room) ]) e

pub tag-here : (b : ℕ) (bytes : List ℕ) (quote : Option ℕ) (room : ℕ) → ends_tag quote b ≡ true → tag_end (b ∷ bytes) quote (suc room) ≡ behind 0
tag-here b bytes quote room e = ap (λ t. elim t [ true ↦ behind 0 | false ↦ one_farther (tag_end bytes (quote_behind quote b) room) ]) e

tag-room : (bytes : List ℕ) (quote : Option ℕ) → tag_end bytes quote 0 ≡ none_within
tag-room [] quote = refl
tag-room (b ∷ bytes) quote = refl

tag-ends : (b : ℕ) (bytes : List ℕ) (quote : Option ℕ) (room : ℕ) → tag_end (b ∷ bytes) quote (suc room) ≡ none_yet → (ends_tag quote b ≡ false) ×
    (tag_end bytes (quote_behind quote b) room ≡ none_yet)
tag-ends b bytes quote room e = by (ends_tag quote b) e
  where
    by : (t : Bool) → elim t [ true ↦ behind 0 | false ↦ one_farther (tag_end bytes (quote_behind quote b) room) ] ≡ none_yet → (t ≡ false) ×
        (tag_end bytes (quote_behind quote b) room ≡ none_yet)
    by true e = cc
    by false e = (refl, not-yet _ e)

-- Where a front was searched in vain, the end is that of what is behind it.
pub tag-vain : (bytes : List ℕ) (k : ℕ) (quote : Option ℕ) (room : ℕ) → k ≤ length bytes → tag_end (take k bytes) quote room ≡ none_yet
    → (tag_end bytes quote room ≡ farther k (tag_end (drop k bytes) (quote_after quote (take k bytes)) (room - k))) × (suc k ≤ room)
tag-vain bytes zero quote zero h e = cc
tag-vain bytes zero quote (suc room) h e =
    let same : suc room - 0 ≡ suc room = omega arith in
    (sym (ap (λ n. farther 0 (tag_end bytes quote n)) same ∙ farther-none (tag_end bytes quote (suc room))), omega arith)
tag-vain [] (suc k) quote room h e = absurd (omega arith)
tag-vain (b ∷ bytes) (suc k) quote zero h e = cc
tag-vain (b ∷ bytes) (suc k) quote (suc room) h e =
    let front = tag-ends b (take k bytes) quote room e in
    let rest = tag-vain bytes k (quote_behind quote b) room (omega arith) front.1 in
    let below : suc k ≤ room = rest.1 in
    let same : suc room - suc k ≡ room - k = omega arith in (
      tag-step b bytes quote room front.0 ∙ (ap one_farther rest.0 ∙ (farther-one k _
          ∙ ap (λ n. farther (suc k) (tag_end (drop k bytes) (quote_after (quote_behind quote b) (take k bytes)) n)) (sym same))),
      omega arith,
    )

quote-more : (bytes : List ℕ) (p : ℕ) (quote : Option ℕ) (b : ℕ) (rest : List ℕ) → drop p bytes ≡ b ∷ rest →
    quote_after quote (take (p + 1) bytes) ≡ quote_behind (quote_after quote (take p bytes)) b
quote-more [] zero quote b rest e = cc
quote-more (c ∷ bytes) zero quote b rest e = let same : c ≡ b = cc in ap (quote_behind quote) same
quote-more [] (suc p) quote b rest e = cc
quote-more (c ∷ bytes) (suc p) quote b rest e =
    let one : suc p + 1 ≡ suc (p + 1) = omega arith in
    ap (λ n. quote_after quote (take n (c ∷ bytes))) one ∙ quote-more bytes p (quote_behind quote c) b rest e

-- What is known at a place of the search.
pub record Searching (bytes : List ℕ) (room place : ℕ) (quote : Option ℕ) : Type 0 where
  pub whole : tag_end bytes None room ≡ farther place (tag_end (drop place bytes) quote (room - place))
  pub open_is : quote ≡ quote_after None (take place bytes)
  pub within : place ≤ length bytes
  pub room_left : place ≤ room

pub searching-begin : (bytes : List ℕ) (k room : ℕ) (quote : Option ℕ) → k ≤ length bytes → tag_end (take k bytes) None room ≡ none_yet →
    quote ≡ quote_after None (take k bytes) → Searching bytes room k quote
searching-begin bytes k room quote h e f =
    let known = tag-vain bytes k None room h e in
    let below : suc k ≤ room = known.1 in
    record {
      whole = known.0 ∙ ap (λ q. farther k (tag_end (drop k bytes) q (room - k))) (sym f);
      open_is = f;
      within = h;
      room_left = omega arith;
    }

pub searching-here : (bytes rest : List ℕ) (room p : ℕ) (quote : Option ℕ) (b : ℕ) → drop p bytes ≡ b ∷ rest → p < room → ends_tag quote b ≡ true →
    Searching bytes room p quote → tag_end bytes None room ≡ behind p
searching-here bytes rest room p quote b e h f known =
    let left : room - p ≡ suc (room - p - 1) = omega arith in
    let none : p + 0 ≡ p = omega arith in
    known.whole ∙ (ap (λ x. farther p (tag_end x quote (room - p))) e ∙ (ap (λ n. farther p (tag_end (b ∷ rest) quote n)) left
    ∙ (ap (farther p) (tag-here b rest quote (room - p - 1) f) ∙ ap behind none)))

pub searching-step : (bytes rest : List ℕ) (room p : ℕ) (quote next : Option ℕ) (b : ℕ) → drop p bytes ≡ b ∷ rest → rest ≡ drop (p + 1) bytes → p < length bytes
    → p < room → ends_tag quote b ≡ false → next ≡ quote_behind quote b → Searching bytes room p quote → Searching bytes room (p + 1) next
searching-step bytes rest room p quote next b e f l h g n known =
    let left : room - p ≡ suc (room - (p + 1)) = omega arith in
    record {
      whole = known.whole ∙ (ap (λ x. farther p (tag_end x quote (room - p))) e ∙ (ap (λ n. farther p (tag_end (b ∷ rest) quote n)) left
          ∙ (ap (farther p) (tag-step b rest quote (room - (p + 1)) g) ∙ (farther-more p _
          ∙ (ap (λ x. farther (p + 1) (tag_end x (quote_behind quote b) (room - (p + 1)))) f ∙
          ap (λ q. farther (p + 1) (tag_end (drop (p + 1) bytes) q (room - (p + 1)))) (sym n))))));
      open_is = n ∙ (ap (λ q. quote_behind q b) known.open_is ∙ sym (quote-more bytes p None b rest e));
      within = omega arith;
      room_left = omega arith;
    }

pub searching-room : (bytes : List ℕ) (room p : ℕ) (quote : Option ℕ) → room ≡ p → Searching bytes room p quote → tag_end bytes None room ≡ none_within
searching-room bytes room p quote e known =
    let none : room - p ≡ 0 = omega arith in
    known.whole ∙ (ap (λ n. farther p (tag_end (drop p bytes) quote n)) none ∙ ap (farther p) (tag-room (drop p bytes) quote))

pub searching-end : (bytes : List ℕ) (room p : ℕ) (quote : Option ℕ) → drop p bytes ≡ [] → p < room → Searching bytes room p quote →
    tag_end bytes None room ≡ none_yet
searching-end bytes room p quote e h known =
    let left : room - p ≡ suc (room - p - 1) = omega arith in
    known.whole ∙ (ap (λ x. farther p (tag_end x quote (room - p))) e ∙ ap (λ n. farther p (tag_end [] quote n)) left)
