-- Calls of a writer, one behind the other. For who proves a walk that is given a writer.
use Rattle.std.proofs.Common.{◌≡◌, ℕ, List, [], ◌∷◌, ◌++◌, Result, Ok, Err, refl, ap, sym, ◌∙◌, append-nil, subst}
use Rattle.std.specs.Result.{IsErr}
use Rattle.std.proofs.lemmas.Result.{MatchResult-from_err}
use Rattle.inv_base.specs.Outside.{SinkView}
use Rattle.inv_base.specs.Writing.{WritesAll, WritesFront}
use Rattle.inv_base.proofs.WritingLemmas.{WritesAll-nil, WritesAll-append, WritesFront-append}
use Rattle.xml_write.specs.declared.pen.PenState.{PenState}
use Rattle.xml_write.specs.declared.gauge.Gauge.{Gauge}
use Rattle.xml_write.specs.Calls.{Call, call_text, content_text, behind_text, appended_by_all, behind_all}
use Rattle.xml_write.specs.Sizes.{gauged, gauged_by_all}
use Rattle.xml_write.specs.Writers.{WriterView, writing, measuring, state_of, writer_behind, Wrote, Broke, Made, Makes}
use Rattle.xml_write.proofs.CallsLemmas.{appended_by_all-append, behind_all-append, WritesFront-more_calls}
use Rattle.xml_write.proofs.SizeLemmas.{content_text-append, behind_text-append, gauged-texts, gauged_by_all-state}

gauged_by_all-append : (g : Gauge) (calls more : List Call) → gauged_by_all g (calls ++ more) ≡ gauged_by_all (gauged_by_all g calls) more
gauged_by_all-append g [] more = refl
gauged_by_all-append g (call ∷ calls) more = gauged_by_all-append (gauged g call) calls more

pub writer_behind-append : (w : WriterView) (calls more : List Call) → writer_behind w (calls ++ more) ≡ writer_behind (writer_behind w calls) more
writer_behind-append (writing state) calls more = ap writing (behind_all-append state calls more)
writer_behind-append (measuring gauge) calls more = ap measuring (gauged_by_all-append gauge calls more)

-- how far a pen is behind the calls
pub state_of-behind : (w : WriterView) (calls : List Call) → state_of (writer_behind w calls) ≡ behind_all (state_of w) calls
state_of-behind (writing state) calls = refl
state_of-behind (measuring gauge) calls = gauged_by_all-state gauge calls

-- how far it is behind calls that were made
pub Made-state : (w v : WriterView) (r s : SinkView) (calls : List Call) → Made w r calls v s → state_of v ≡ behind_all (state_of w) calls
Made-state w v r s calls p = ap state_of p.writer ∙ state_of-behind w calls

Wrote-append : (w : WriterView) (r s t : SinkView) (calls more : List Call) → Wrote w r calls s → Wrote (writer_behind w calls) s more t →
    Wrote w r (calls ++ more) t
Wrote-append (writing state) r s t calls more p q = rw (appended_by_all-append state calls more) (WritesAll-append _ _ r s t p q)
Wrote-append (measuring gauge) r s t calls more p q = q ∙ p

Wrote-break : (w : WriterView) (r s t : SinkView) (calls more : List Call) → Wrote w r calls s → Broke (writer_behind w calls) s more t →
    Broke w r (calls ++ more) t
Wrote-break (writing state) r s t calls more p q = rw (appended_by_all-append state calls more) (WritesFront-append _ _ r s t p q)
Wrote-break (measuring gauge) r s t calls more p q = q

-- no call
pub Made-nothing : (w : WriterView) (s : SinkView) → Made w s [] w s
Made-nothing (writing state) s = record { writer = refl; sink = WritesAll-nil s }
Made-nothing (measuring gauge) s = record { writer = refl; sink = refl }

-- calls, and then more
pub Made-append : (w v u : WriterView) (r s t : SinkView) (calls more : List Call) → Made w r calls v s → Made v s more u t → Made w r (calls ++ more) u t
Made-append w v u r s t calls more p q = record {
  writer = q.writer ∙ (ap (λ x. writer_behind x more) p.writer ∙ sym (writer_behind-append w calls more));
  sink = Wrote-append w r s t calls more p.sink (subst (λ x. Wrote x s more t) p.writer q.sink);
}

-- calls, and then more that break off
pub Made-break : (w v : WriterView) (r s t : SinkView) (calls more : List Call) → Made w r calls v s → Broke v s more t → Broke w r (calls ++ more) t
Made-break w v r s t calls more p q = Wrote-break w r s t calls more p.sink (subst (λ x. Broke x s more t) p.writer q)

-- calls that broke off where more were to come
pub Broke-more : (w : WriterView) (r s : SinkView) (calls more : List Call) → Broke w r calls s → Broke w r (calls ++ more) s
Broke-more (writing state) r s calls more p = WritesFront-more_calls state calls more r s p
Broke-more (measuring gauge) r s calls more p = p

-- calls, and then a call that is answered
pub Makes-append : {T E : Type 0} (result : Result T E) (w v u : WriterView) (r s t : SinkView) (calls more : List Call)
    → Made w r calls v s → Makes result v s more u t → Makes result w r (calls ++ more) u t
Makes-append (Ok x) w v u r s t calls more p q = Made-append w v u r s t calls more p q
Makes-append (Err e) w v u r s t calls more p q = Made-break w v r s t calls more p q

-- what the exit of a `?` returns
pub Makes-at_err : {T E : Type 0} (result : Result T E) (w v : WriterView) (r s : SinkView) (calls : List Call) → IsErr result → Broke w r calls s →
    Makes result w r calls v s
Makes-at_err result w v r s calls e p = MatchResult-from_err result (λ _. Made w r calls v s) (λ _. Broke w r calls s) e (λ _. p)

texts-appended : (w : PenState) (a b : List ℕ) → appended_by_all w (call_text a ∷ call_text b ∷ []) ≡ appended_by_all w (call_text (a ++ b) ∷ [])
texts-appended w a b =
    ap (λ t. content_text w a ++ t) (append-nil (content_text (behind_text w a) b))
    ∙ (content_text-append w a b ∙ sym (append-nil (content_text w (a ++ b))))

texts-behind : (w : WriterView) (a b : List ℕ) → writer_behind w (call_text a ∷ call_text b ∷ []) ≡ writer_behind w (call_text (a ++ b) ∷ [])
texts-behind (writing state) a b = ap writing (behind_text-append state a b)
texts-behind (measuring gauge) a b = ap measuring (gauged-texts gauge a b)

texts-Wrote : (w : WriterView) (r s : SinkView) (a b : List ℕ) → Wrote w r (call_text a ∷ call_text b ∷ []) s → Wrote w r (call_text (a ++ b) ∷ []) s
texts-Wrote (writing state) r s a b p = subst (λ x. WritesAll x r s) (texts-appended state a b) p
texts-Wrote (measuring gauge) r s a b p = p

-- two texts are one text
pub Made-texts : (w v : WriterView) (r s : SinkView) (a b : List ℕ) → Made w r (call_text a ∷ call_text b ∷ []) v s → Made w r (call_text (a ++ b) ∷ []) v s
Made-texts w v r s a b p = record { writer = p.writer ∙ texts-behind w a b; sink = texts-Wrote w r s a b p.sink }

pub Broke-texts : (w : WriterView) (r s : SinkView) (a b : List ℕ) → Broke w r (call_text a ∷ call_text b ∷ []) s → Broke w r (call_text (a ++ b) ∷ []) s
Broke-texts (writing state) r s a b p = subst (λ x. WritesFront x r s) (texts-appended state a b) p
Broke-texts (measuring gauge) r s a b p = p
