-- What names terms and occurrences is ASCII.
use Rattle.std.proofs.Common.{◌≡◌, ℕ, ◌-◌, ◌<◌, ◌^◌, true, false, Bool, List, [], ◌∷◌, ◌++◌, refl, codes, decimal, arith, IsAscii}
use Rattle.std.specs.Prelude.{nat_lt, nat_eq, if◌then◌else◌}
use Rattle.std.specs.List.{list_all}
use Rattle.std.proofs.lemmas.Bool.{ltb-true}
use Rattle.std.proofs.lemmas.Fmt.{IsAscii-decimal}
use Rattle.std.proofs.lemmas.Str.{IsAscii-append}
use Rattle.std.proofs.lemmas.Str.Ascii.{IsAscii-nil, IsAscii-cons}
use Rattle.term_table.proofs.GroupLemmas.{both}
use Rattle.term_table.specs.declared.groups.Group.{Group}
use Rattle.term_table.specs.declared.groups.Group.TheVariants as groups
use Rattle.term_table.specs.declared.contexts.Slot.{Slot}
use Rattle.term_table.specs.declared.terms.Term.{Term}
use Rattle.term_table.specs.Groups.{label_of}
use Rattle.term_table.specs.SemanticModel.{is_extension}
use Rattle.inv_listing.specs.Listing.{part_text, term_text, slot_text}

pub ascii : (bytes : List ℕ) → list_all (λ b. nat_lt b 128) bytes ≡ true → IsAscii bytes
ascii [] e = IsAscii-nil
ascii (b ∷ bytes) e =
    let parts = both (nat_lt b 128) (list_all (λ b. nat_lt b 128) bytes) e in
    IsAscii-cons b bytes (ltb-true b 128 parts.0) (ascii bytes parts.1)

part_text-ascii : (part : ℕ) → part < 2 ^ 64 → IsAscii (part_text part)
part_text-ascii part h = by (nat_eq part 0)
  where
    by : (q : Bool) → IsAscii (if q then [] else 0x2D ∷ decimal part)
    by true = IsAscii-nil
    by false = IsAscii-append (0x2D ∷ []) (decimal part) (ascii (0x2D ∷ []) refl) (IsAscii-decimal part h)

pub term_text-ascii : (term : Term) → term.number < 2 ^ 16 → term.part < 2 ^ 8 → IsAscii (term_text term)
term_text-ascii term h k = by (is_extension term)
  where
    by : (q : Bool) → IsAscii
        (if q then codes "EXT-" ++ decimal (term.number - 1000) else codes "BT-" ++ (decimal term.number ++ part_text term.part))
    by true = IsAscii-append (codes "EXT-") (decimal (term.number - 1000)) (ascii (codes "EXT-") refl)
        (IsAscii-decimal (term.number - 1000) (omega arith))
    by false = IsAscii-append (codes "BT-") (decimal term.number ++ part_text term.part) (ascii (codes "BT-") refl)
        (IsAscii-append (decimal term.number) (part_text term.part) (IsAscii-decimal term.number (omega arith))
        (part_text-ascii term.part (omega arith)))

label-ascii : (group : Group) → list_all (λ b. nat_lt b 128) (label_of group) ≡ true
label-ascii groups.Root = refl
label-ascii _ = refl

pub slot_text-ascii : (slot : Slot) → slot.index < 2 ^ 32 → IsAscii (slot_text slot)
slot_text-ascii slot h =
    IsAscii-append (label_of slot.group) (0x5B ∷ (decimal slot.index ++ 0x5D ∷ [])) (ascii (label_of slot.group) (label-ascii slot.group))
    (IsAscii-append (0x5B ∷ []) (decimal slot.index ++ 0x5D ∷ []) (ascii (0x5B ∷ []) refl)
    (IsAscii-append (decimal slot.index) (0x5D ∷ []) (IsAscii-decimal slot.index (omega arith)) (ascii (0x5D ∷ []) refl)))
