-- The text of a context, which stays at the front of what is put behind it.
use Rattle.std.proofs.Common.{◌≡◌, ℕ, ◌+◌, true, List, [], ◌∷◌, ◌++◌, length, take, decimal, Option, Some, None, refl, ap, ◌∙◌, arith}
use Rattle.std.specs.Prelude.{◌==◌}
use Rattle.std.proofs.lemmas.Bool.{false≢true}
use Rattle.std.proofs.lemmas.Bool.Decides.{nat_tests}
use Rattle.std.proofs.lemmas.List.{take-append-le, length-append}
use Rattle.term_table.specs.declared.contexts.Slot.{Slot}
use Rattle.term_table.specs.declared.contexts.Context.{Context}
use Rattle.term_table.specs.Groups.{label_of, same_group}
use Rattle.term_table.specs.Contexts.{same_slot, same_context}
use Rattle.term_table.proofs.GroupLemmas.{both, same_group_is}
use Rattle.arrayvec.specs.ArrayVec.{ArrayVec}
use Rattle.inv_listing.specs.declared.fronts.Front.{Front}
use Rattle.short_lines.specs.Composing.{Composes}
use Rattle.inv_listing.specs.Composing.{BeginsWithContext}
use Rattle.inv_listing.specs.Listing.{slot_text, inner_text, context_text}

-- the text of the context stays at the front of what is put behind it
pub begins-behind : (a : List ℕ) (m : ℕ) (front : Front) (text : ArrayVec ℕ) → BeginsWithContext front → Composes a m front.text text
    → BeginsWithContext (record front { text = text })
begins-behind a m front text f p = record {
  text = ap (take front.context_len) p.items ∙ (take-append-le front.context_len front.text.items a f.within ∙ f.text);
  within = omega (arith, f.within, ap length p.items ∙ length-append front.text.items a);
  short = f.short;
}

number-is : (a b : ℕ) → (a == b) ≡ true → a ≡ b
number-is a b h = grind (arith, nat_tests, h)

slot-is : (a b : Slot) → same_slot (Some a) (Some b) ≡ true → slot_text a ≡ slot_text b
slot-is a b h =
    let k = both (same_group a.group b.group) (a.index == b.index) h in
    let group = same_group_is a.group b.group k.0 in
    let index = number-is a.index b.index k.1 in
    λ i. label_of (group i) ++ (0x5B ∷ (decimal (index i) ++ 0x5D ∷ []))

inner-is : (a b : Option Slot) → same_slot a b ≡ true → inner_text a ≡ inner_text b
inner-is None None h = refl
inner-is None (Some b) h = absurd (false≢true h)
inner-is (Some a) None h = absurd (false≢true h)
inner-is (Some a) (Some b) h = ap (λ x. 0x2F ∷ (x ++ 0x20 ∷ [])) (slot-is a b h)

context-is : (a b c d : Option Slot) → same_slot a b ≡ true → same_slot c d ≡ true
    → context_text (record { outer = a; inner = c }) ≡ context_text (record { outer = b; inner = d })
context-is None None c d h k = refl
context-is None (Some b) c d h k = absurd (false≢true h)
context-is (Some a) None c d h k = absurd (false≢true h)
context-is (Some a) (Some b) c d h k = λ i. slot-is a b h i ++ inner-is c d k i

-- the same context has the same text
pub same_context-text : (a b : Context) → same_context a b ≡ true → context_text a ≡ context_text b
same_context-text a b h =
    let k = both (same_slot a.outer b.outer) (same_slot a.inner b.inner) h in
    context-is a.outer b.outer a.inner b.inner k.0 k.1
