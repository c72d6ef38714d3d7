-- The items of a value, one after another.
use Rattle.std.proofs.Common.{◌≡◌, ℕ, zero, suc, ◌<◌, Bool, true, false, List, [], ◌∷◌, ◌++◌, length, get_or, take, drop, ap, sym, subst, ◌∙◌, arith}
use Rattle.std.specs.Prelude.{flat_map}
use Rattle.std.specs.Prelude.{Result, IfOk, OnErr}
use Rattle.std.proofs.lemmas.List.{take-append-drop}
use Rattle.std.proofs.lemmas.Grind.{flat_map-append}
use Rattle.inv_base.specs.Outside.{SinkView}
use Rattle.inv_base.specs.Printing.{Printed}
use Rattle.inv_base.specs.Writing.{WritesAll, WritesFront}
use Rattle.inv_base.proofs.WritingLemmas.{WritesFront-more}
use Rattle.xpath_items.specs.declared.item.Item.{Item}
use Rattle.xpath_operators.specs.Nodes.{IsWithin, AreWithin}
use Rattle.item_listing.specs.Listing.{WritesSome}
use Rattle.item_listing.specs.Printing.{stopped}

pub within_at : (count : ℕ) (items : List Item) (k : ℕ) (item : Item) → AreWithin count items → k < length items
    → item ≡ get_or items k item → IsWithin count item
within_at count [] k item h l e = absurd (omega (arith, l))
within_at count (x ∷ items) zero item h l e = subst (IsWithin count) (sym e) h.0
within_at count (x ∷ items) (suc k) item h l e = within_at count items k item h.1 (omega (arith, l)) e

-- the lines of all items are those of the first and those of the others
pub lines_parted : (line : Item → List ℕ) (k : ℕ) (items : List Item) → flat_map line items ≡ flat_map line (take k items) ++ flat_map line (drop k items)
lines_parted line k items = ap (flat_map line) (sym (take-append-drop k items)) ∙ flat_map-append line (take k items) (drop k items)

-- Where memory runs out behind a front of the lines.
pub stopped_ok : {E : Type 0} (failed : Bool) (error : E) (result : Result Bool E) (before : Bool) (whole front rest : List ℕ) (from mid to : SinkView)
    → result ≡ stopped failed error → failed ≡ before → Printed before front from mid → to ≡ mid → whole ≡ front ++ rest
    → IfOk result (λ f. Printed f whole from to)
stopped_ok failed error result before whole front rest from mid to is same printed there parted =
    subst (λ r. IfOk r (λ f. Printed f whole from to)) (sym is) (by failed (subst (λ b. Printed b front from mid) (sym same) printed))
  where
    by : (b : Bool) → Printed b front from mid → IfOk (stopped b error) (λ f. Printed f whole from to)
    by true p = subst (λ s. WritesFront whole from s) (sym there) (subst (λ t. WritesFront t from mid) (sym parted) (WritesFront-more front rest from mid p))
    by false p = tt

pub stopped_err : {E : Type 0} (failed : Bool) (error : E) (result : Result Bool E) (before : Bool) (whole front rest : List ℕ) (from mid to : SinkView)
    → result ≡ stopped failed error → failed ≡ before → Printed before front from mid → to ≡ mid → whole ≡ front ++ rest
    → OnErr result (WritesSome whole from to)
stopped_err failed error result before whole front rest from mid to is same printed there parted =
    subst (λ r. OnErr r (WritesSome whole from to)) (sym is) (by failed (subst (λ b. Printed b front from mid) (sym same) printed))
  where
    by : (b : Bool) → Printed b front from mid → OnErr (stopped b error) (WritesSome whole from to)
    by true p = tt
    by false p = record { front = front; is_front = record { rest = rest; whole = sym parted }; writes = subst (WritesAll front from) (sym there) p }
