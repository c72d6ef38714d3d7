-- Pieces of a section, one behind the other.
use Rattle.std.proofs.Common.{◌≡◌, ℕ, Bool, true, false, ◌||◌, List, [], ◌∷◌, ◌++◌, refl, ap, sym, ◌∙◌, append-nil, append_assoc, subst}
use Rattle.std.specs.Prelude.{not, if◌then◌else◌}
use Rattle.inv_base.specs.Outside.{SinkView}
use Rattle.inv_base.specs.Printing.{Prints}
use Rattle.inv_base.proofs.PrintingLemmas.{Prints-append, Prints-same, Prints-nil}
use Rattle.page_layouts.specs.declared.pens.Pen.{Pen}
use Rattle.page_layouts.specs.Sections.{is_nothing, in_section}
use Rattle.page_layouts.specs.Streaming.{Head, Shows, head_text, opening, behind_head}

or-false : (b : Bool) → b ≡ (b || false)
or-false true = refl
or-false false = refl

pub or-true : (b : Bool) → true ≡ (b || true)
or-true true = refl
or-true false = refl

pub Shows-nil : (head : Head) (pen : Pen) (s : SinkView) → Shows head [] pen pen s s
Shows-nil head pen s = record { prints = Prints-nil pen.printer.failed s; begun = or-false pen.begun }

-- two pieces, and how the section is begun before each
both : (head : Head) (a b : List ℕ) (begun : Bool)
    → behind_head begun head a ++ behind_head (begun || not (is_nothing a)) head b ≡ behind_head begun head (a ++ b)
both head [] b true = refl
both head [] b false = refl
both head (c ∷ a) [] true = append-nil (c ∷ a) ∙ sym (append-nil (c ∷ a))
both head (c ∷ a) [] false =
    append-nil (head_text head ++ (c ∷ a)) ∙ ap (λ x. head_text head ++ x) (sym (append-nil (c ∷ a)))
both head (c ∷ a) (d ∷ b) true = refl
both head (c ∷ a) (d ∷ b) false = append_assoc (head_text head) (c ∷ a) (d ∷ b)

both-begun : (a b : List ℕ) (begun : Bool) → ((begun || not (is_nothing a)) || not (is_nothing b)) ≡ (begun || not (is_nothing (a ++ b)))
both-begun [] b true = refl
both-begun [] b false = refl
both-begun (c ∷ a) b true = refl
both-begun (c ∷ a) b false = refl

pub Shows-append : (head : Head) (a b : List ℕ) (p q r : Pen) (s t u : SinkView) → Shows head a p q s t → Shows head b q r t u
    → Shows head (a ++ b) p r s u
Shows-append head a b p q r s t u x y = record {
  prints = Prints-same _ _ _ _ _ _ (both head a b p.begun)
      (Prints-append _ _ _ _ _ _ _ _ x.prints (Prints-same _ _ _ _ _ _ (ap (λ begun. behind_head begun head b) x.begun) y.prints));
  begun = y.begun ∙ (ap (λ begun. begun || not (is_nothing b)) x.begun ∙ both-begun a b p.begun);
}

pub Shows-same : (head : Head) (a b : List ℕ) (p q : Pen) (s t : SinkView) → a ≡ b → Shows head a p q s t → Shows head b p q s t
Shows-same head a b p q s t e x = subst (λ piece. Shows head piece p q s t) e x

-- a piece in a section that was begun for it
pub Shows-opened : (head : Head) (c : ℕ) (piece : List ℕ) (p q r : Pen) (s t u : SinkView)
    → Prints (opening p.begun head) p.printer.failed q.printer.failed s t → q.begun ≡ true → Prints (c ∷ piece) q.printer.failed r.printer.failed t u
    → r.begun ≡ q.begun → Shows head (c ∷ piece) p r s u
Shows-opened head c piece p q r s t u opened is_begun written same = record {
  prints = Prints-append (opening p.begun head) (c ∷ piece) _ _ _ _ _ _ opened written;
  begun = same ∙ (is_begun ∙ or-true p.begun);
}

-- a piece in a section that is begun
pub Shows-inside : (head : Head) (piece : List ℕ) (p q : Pen) (s t : SinkView) → p.begun ≡ true → Shows head piece p q s t
    → Prints piece p.printer.failed q.printer.failed s t
Shows-inside head [] p q s t is x = x.prints
Shows-inside head (c ∷ piece) p q s t is x = Prints-same _ _ _ _ _ _ (ap (λ begun. opening begun head ++ (c ∷ piece)) is) x.prints

pub begun-inside : (head : Head) (piece : List ℕ) (p q : Pen) (s t : SinkView) → p.begun ≡ true → Shows head piece p q s t → q.begun ≡ true
begun-inside head piece p q s t is x = x.begun ∙ ap (λ begun. begun || not (is_nothing piece)) is

-- a whole section: what is written in it, and its end where it was begun
pub whole_section : (head : Head) (piece end : List ℕ) (p q : Pen) (failed : Bool) (s t u : SinkView) → p.begun ≡ false → Shows head piece p q s t
    → Prints (if q.begun then end else []) q.printer.failed failed t u
    → Prints (in_section (head_text head) piece end) p.printer.failed failed s u
whole_section head [] end p q failed s t u is x y =
    Prints-append [] [] _ _ _ _ _ _ x.prints (Prints-same _ _ _ _ _ _ (ap (λ begun. if begun then end else []) (x.begun ∙ ap (λ b. b || false) is)) y)
whole_section head (c ∷ piece) end p q failed s t u is x y =
    Prints-same _ _ _ _ _ _ (append_assoc (head_text head) (c ∷ piece) end)
    (Prints-append (head_text head ++ (c ∷ piece)) end _ _ _ _ _ _
    (Prints-same _ _ _ _ _ _ (ap (λ begun. opening begun head ++ (c ∷ piece)) is) x.prints)
    (Prints-same _ _ _ _ _ _ (ap (λ begun. if begun then end else []) (x.begun ∙ ap (λ b. b || true) is)) y))

-- a piece that is written where a test passes, in a section that was begun for it
pub Shows-where : (head : Head) (q : Bool) (c : ℕ) (piece : List ℕ) (p m r : Pen) (s t u : SinkView) → q ≡ true
    → Prints (opening p.begun head) p.printer.failed m.printer.failed s t → m.begun ≡ true → Prints (c ∷ piece) m.printer.failed r.printer.failed t u
    → r.begun ≡ m.begun → Shows head (if q then c ∷ piece else []) p r s u
Shows-where head q c piece p m r s t u h opened is_begun written same =
    Shows-same head (c ∷ piece) (if q then c ∷ piece else []) p r s u (sym (ap (λ x. if x then c ∷ piece else []) h))
    (Shows-opened head c piece p m r s t u opened is_begun written same)
