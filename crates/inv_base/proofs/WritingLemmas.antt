-- One text written behind another.
use Rattle.std.proofs.Common.{◌≡◌, ℕ, ◌≤◌, List, [], ◌++◌, Option, Some, None, Result, Ok, Err, refl, ap, sym, ◌∙◌, append_assoc, append-nil, subst}
use Rattle.inv_base.specs.Counts.{Rose}
use Rattle.inv_base.specs.Outside.{SinkView, appended}
use Rattle.std.specs.Result.{IsErr}
use Rattle.std.proofs.lemmas.Result.{MatchResult-from_err}
use Rattle.inv_base.specs.Writing.{IsFront, Writes, WritesAll, WritesFront}

pub appended-nil : (told : Option (List ℕ)) → appended [] told ≡ told
appended-nil None = refl
appended-nil (Some bytes) = ap Some (append-nil bytes)

pub appended-append : (a b : List ℕ) (told : Option (List ℕ)) → appended (a ++ b) told ≡ appended b (appended a told)
appended-append a b None = refl
appended-append a b (Some bytes) = ap Some (sym (append_assoc bytes a b))

-- nothing is written by no call
pub WritesAll-nil : (s : SinkView) → WritesAll [] s s
WritesAll-nil s = record { told = sym (appended-nil s.told); faults = refl }

-- a text, and then another
pub WritesAll-append : (a b : List ℕ) (r s t : SinkView) → WritesAll a r s → WritesAll b s t → WritesAll (a ++ b) r t
WritesAll-append a b r s t p q = record {
  told = q.told ∙ (ap (appended b) p.told ∙ sym (appended-append a b r.told));
  faults = q.faults ∙ p.faults;
}

pub IsFront-append : (a front b : List ℕ) → IsFront front b → IsFront (a ++ front) (a ++ b)
IsFront-append a front b f = record { rest = f.rest; whole = append_assoc a front f.rest ∙ ap (λ x. a ++ x) f.whole }

-- a front of a longer text
pub IsFront-more : (front a b : List ℕ) → IsFront front a → IsFront front (a ++ b)
IsFront-more front a b f = record { rest = f.rest ++ b; whole = sym (append_assoc front f.rest b) ∙ ap (λ x. x ++ b) f.whole }

pub IsFront-nil : (text : List ℕ) → IsFront [] text
IsFront-nil text = record { rest = text; whole = refl }

pub IsFront-whole : (text : List ℕ) → IsFront text text
IsFront-whole text = record { rest = []; whole = append-nil text }

-- a text, and then a front of another and a fault
pub WritesFront-append : (a b : List ℕ) (r s t : SinkView) → WritesAll a r s → WritesFront b s t → WritesFront (a ++ b) r t
WritesFront-append a b r s t p q = record {
  front = a ++ q.front;
  is_front = IsFront-append a q.front b q.is_front;
  told = q.told ∙ (ap (appended q.front) p.told ∙ sym (appended-append a q.front r.told));
  rises = subst (λ n. n ≤ t.faults) p.faults q.rises;
  rose = subst (λ n. Rose n t.faults) p.faults q.rose;
}

-- a front of a text and a fault, where the text was to go on
pub WritesFront-more : (a b : List ℕ) (r s : SinkView) → WritesFront a r s → WritesFront (a ++ b) r s
WritesFront-more a b r s p = record {
  front = p.front;
  is_front = IsFront-more p.front a b p.is_front;
  told = p.told;
  rises = p.rises;
  rose = p.rose;
}

-- nothing, and then a fault
pub WritesFront-nil : (text : List ℕ) (s t : SinkView) → t.told ≡ s.told → s.faults ≤ t.faults → Rose s.faults t.faults → WritesFront text s t
WritesFront-nil text s t e le rose = record {
  front = [];
  is_front = IsFront-nil text;
  told = e ∙ sym (appended-nil s.told);
  rises = le;
  rose = rose;
}

-- a text, and then a write
pub Writes-append : {T E : Type 0} (result : Result T E) (a b : List ℕ) (r s t : SinkView) → WritesAll a r s → Writes result b s t → Writes result (a ++ b) r t
Writes-append (Ok x) a b r s t p q = WritesAll-append a b r s t p q
Writes-append (Err e) a b r s t p q = WritesFront-append a b r s t p q

-- what the exit of a `?` returns
pub Writes-at_err : {T E : Type 0} (result : Result T E) (text : List ℕ) (r s : SinkView) → IsErr result → WritesFront text r s → Writes result text r s
Writes-at_err result text r s e p = MatchResult-from_err result (λ _. WritesAll text r s) (λ _. WritesFront text r s) e (λ _. p)
