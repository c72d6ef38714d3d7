-- An invoice is whole in a context where another one is in a like context, whose terms are the same.
use Rattle.std.proofs.Common.{◌≡◌, Bool, true, ◌||◌, List, Option, Some, None, refl, sym, ap, ◌∙◌, inl, inr}
use Rattle.std.specs.Prelude.{is_none, Contains}
use Rattle.term_table.specs.declared.groups.Group.{Group}
use Rattle.term_table.specs.declared.terms.Term.{Term}
use Rattle.term_table.specs.declared.terms.TermRow.{TermRow}
use Rattle.term_table.specs.declared.contexts.Slot.{Slot}
use Rattle.term_table.specs.declared.contexts.Context.{Context}
use Rattle.term_table.specs.Groups.{parent_of}
use Rattle.term_table.specs.Contexts.{has_context, is_inside, same_slot}
use Rattle.inv_terms.specs.declared.entries.Entry.{Entry}
use Rattle.inv_terms.specs.Lacking.{whole_term, is_slot_in}
use Rattle.inv_terms.specs.Whole.{Stands, ShowsGroup, IsThere, IsMandatory, IsWhole}
use Rattle.inv_terms.proofs.PushLemmas.{same_slot_itself, and_pair}

-- The context is one of a group of the entry's.
abbrev pub is_in_group : Group → Entry → Bool
is_in_group group e = is_slot_in group e.context.outer || is_slot_in group e.context.inner

-- An entry of the other invoice has the term, and stands in the other context where this one stands in this.
pub record HasLike (c d : Context) (fs : List Entry) (e : Entry) : Type 0 where
  pub other : Entry
  pub member : Contains fs other
  pub term : other.term ≡ e.term
  pub within : is_inside d other.context ≡ true
  pub here : e.context ≡ c → other.context ≡ d
  pub groups : (group : Group) → is_in_group group e ≡ true → is_in_group group other ≡ true

pub record Mirrors (es : List Entry) (c : Context) (fs : List Entry) (d : Context) : Type 0 where
  pub contexts : (group : Group) → has_context group c ≡ has_context group d
  pub forth : (e : Entry) → Contains es e → is_inside c e.context ≡ true → HasLike c d fs e
  pub back : (f : Entry) → Contains fs f → is_inside d f.context ≡ true → HasLike d c es f

pub inside-itself : (c : Context) → is_inside c c ≡ true
inside-itself c = and_pair (is_none c.outer || same_slot c.outer c.outer) (is_none c.inner || same_slot c.inner c.inner) (level c.outer) (level c.inner)
  where
    level : (o : Option Slot) → (is_none o || same_slot o o) ≡ true
    level None = refl
    level (Some s) = same_slot_itself (Some s)

module _ (es : List Entry) (c : Context) (fs : List Entry) (d : Context) (mirrors : Mirrors es c fs d) where
  shows : (group : Group) → ShowsGroup es c group → ShowsGroup fs d group
  shows group s =
      let w = mirrors.forth s.entry s.member s.within in
      record {
        entry = w.other;
        member = w.member;
        within = w.within;
        row = s.row;
        is_row = s.is_row;
        term_is = w.term ∙ s.term_is;
        around = s.around;
        counts =
            s.counts;
      }

  there : (group : Group) → IsThere es c group → IsThere fs d group
  there g IsThere.invoice = IsThere.invoice
  there g (IsThere.repeated group r) = IsThere.repeated group r
  there g (IsThere.once group e above) = IsThere.once group e (there (parent_of group) above)
  there g (IsThere.shown group e s) = IsThere.shown group e (shows group s)

  stands : (term : Term) → Stands es c term → Stands fs d term
  stands term s =
      let w = mirrors.forth s.entry s.member (ap (is_inside c) s.context_is ∙ inside-itself c) in
      record { entry = w.other; member = w.member; term_is = w.term ∙ s.term_is; context_is = w.here s.context_is }

  stands-back : (term : Term) → Stands fs d term → Stands es c term
  stands-back term s =
      let w = mirrors.back s.entry s.member (ap (is_inside d) s.context_is ∙ inside-itself d) in
      record { entry = w.other; member = w.member; term_is = w.term ∙ s.term_is; context_is = w.here s.context_is }

  mandatory : (row : TermRow) → IsMandatory es c row → IsMandatory fs d row
  mandatory row (inl w) = inl (w.0, there row.group w.1)
  mandatory row (inr w) = inr (w.0, stands (whole_term row.term) w.1)

  pub whole : IsWhole fs d → IsWhole es c
  whole k = record {
    mandatory = λ row is at needed. stands-back row.term (k.mandatory row is (sym (mirrors.contexts row.group) ∙ at) (mandatory row needed));
    occurring = λ group at_least at.
        let o = k.occurring group at_least (sym (mirrors.contexts (parent_of group)) ∙ at) in
        let w = mirrors.back o.entry o.member o.within in
        record { entry = w.other; member = w.member; within = w.within; occurrence = w.groups group o.occurrence };
  }
