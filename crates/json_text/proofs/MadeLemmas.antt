-- Calls that a pen made, and more of them.
use Rattle.std.proofs.Common.{◌≡◌, Bool, false, List, [], ◌∷◌, ◌++◌, refl, sym, ap, subst, ◌∙◌, append-nil}
use Rattle.std.specs.Prelude.{encode_utf8_all}
use Rattle.inv_base.specs.Outside.{SinkView}
use Rattle.inv_base.specs.Printing.{Printed, Prints}
use Rattle.inv_base.proofs.WritingLemmas.{WritesAll-nil}
use Rattle.inv_base.proofs.PrintingLemmas.{Prints-same, Prints-nil}
use Rattle.json_text.specs.declared.pen.JsonPen.{JsonPen}
use Rattle.json_text.specs.Json.{Json}
use Rattle.json_text.specs.Layout.{document}
use Rattle.json_text.specs.Calls.{Call, call_finish, calls_of, document_calls, fresh, appended_by, state_behind, appended_by_all, behind_all}
use Rattle.json_text.proofs.CallsLemmas.{Prints-more_calls, Prints-one_more, behind_all-append}
use Rattle.json_text.specs.Made.{Made}

pub Made-nil : (p : JsonPen) (r : SinkView) → Made [] p p r r
Made-nil p r = record { prints = Prints-nil p.printer.failed r; state = refl }

pub Made-one : (call : Call) (p q : JsonPen) (r s : SinkView)
    → Prints (encode_utf8_all (appended_by p.state call)) p.printer.failed q.printer.failed r s
    → q.state ≡ state_behind p.state call
    → Made (call ∷ []) p q r s
Made-one call p q r s prints state = record {
  prints = Prints-same _ _ p.printer.failed q.printer.failed r s (ap encode_utf8_all (sym (append-nil (appended_by p.state call)))) prints;
  state = state;
}

pub Made-append : (calls more : List Call) (p q t : JsonPen) (r s u : SinkView) → Made calls p q r s → Made more q t s u → Made (calls ++ more) p t r u
Made-append calls more p q t r s u a b = record {
  prints = Prints-more_calls p.state calls more p.printer.failed q.printer.failed t.printer.failed r s u a.prints
      (subst (λ state. Prints (encode_utf8_all (appended_by_all state more)) q.printer.failed t.printer.failed s u) a.state b.prints);
  state = b.state ∙ (ap (λ state. behind_all state more) a.state ∙ sym (behind_all-append p.state calls more));
}

-- the same calls in other words
pub Made-same : (calls others : List Call) (p q : JsonPen) (r s : SinkView) → calls ≡ others → Made calls p q r s → Made others p q r s
Made-same calls others p q r s e made = subst (λ x. Made x p q r s) e made

-- Whatever makes what is left, makes all.
pub record Ahead (all : List Call) (p : JsonPen) (r : SinkView) (left : List Call) (q : JsonPen) (s : SinkView) : Type 0 where
  pub leads : (t : JsonPen) (u : SinkView) → Made left q t s u → Made all p t r u

pub Ahead-begin : (calls left : List Call) (p q : JsonPen) (r s : SinkView) → Made calls p q r s → Ahead (calls ++ left) p r left q s
Ahead-begin calls left p q r s made = record { leads = λ t u more. Made-append calls left p q t r s u made more }

pub Ahead-step : (all calls left : List Call) (p q t : JsonPen) (r s u : SinkView) → Ahead all p r (calls ++ left) q s
    → Made calls q t s u → Ahead all p r left t u
Ahead-step all calls left p q t r s u ahead made =
    record { leads = λ w v more. ahead.leads w v (Made-append calls left q t w s u v made more) }

pub Ahead-same : (all left other : List Call) (p q : JsonPen) (r s : SinkView) → left ≡ other → Ahead all p r left q s → Ahead all p r other q s
Ahead-same all left other p q r s e ahead = subst (λ x. Ahead all p r x q s) e ahead

-- All calls of a value were made, and its text was ended.
pub printed : (value : Json) (p q : JsonPen) (r s u : SinkView) (failed : Bool) → p.state ≡ fresh → p.printer.failed ≡ false
    → appended_by_all fresh (document_calls value) ≡ document value
    → Made (calls_of value) p q r s
    → Prints (encode_utf8_all (appended_by q.state call_finish)) q.printer.failed failed s u
    → Printed failed (encode_utf8_all (document value)) r u
printed value p q r s u failed is_fresh unfailed law made finish =
    let one = subst (λ state. Prints (encode_utf8_all (appended_by state call_finish)) q.printer.failed failed s u) made.state finish in
    let all = Prints-one_more p.state (calls_of value) call_finish p.printer.failed q.printer.failed failed r s u made.prints one in
    let text = ap encode_utf8_all (ap (λ state. appended_by_all state (document_calls value)) is_fresh ∙ law) in
    subst (λ x. Printed failed x r u) text (all [] r (subst (λ f. Printed f [] r r) (sym unfailed) (WritesAll-nil r)))
