-- Readings behind readings.
use Rattle.std.proofs.Common.{◌≡◌, ℕ, zero, suc, ◌+◌, ◌≤◌, Option, Result, Ok, Err, refl, sym, ap, subst, ◌∙◌, arith, length, inl, inr}
use Rattle.std.specs.Prelude.{OnOk, IfOk, IfErr}
use Rattle.inv_base.specs.Counts.{next_count, Rose}
use Rattle.inv_base.specs.Files.{Files}
use Rattle.inv_base.specs.Outside.{ShelfView}
use Rattle.xml_state.specs.declared.fault.XmlFault.{XmlFault}
use Rattle.xml_document.specs.Loading.{IsRefused, StopsInTime}
use Rattle.xml_state.specs.Sizes.{rule_limits}
use Rattle.rule_library.specs.Readings.{Readings, gives, reads}
use Rattle.rule_library.specs.Leads.{Leads, here, read, counted, Reaches, Stops, told_under}
use Rattle.rule_library.specs.Faults.{want_of_memory, IsMalformed, Fails, given, unreadable, no_document, full_between, full_inside}
use Rattle.rule_library.specs.Turns.{Refuses}
use Rattle.rule_library.specs.Turns as turns
use Rattle.rule_library.specs.declared.faults.LoadFault.{LoadFault}

leads_join : (held : Option Files) (a b c : Readings) (n m : ℕ) → Leads held a n b → Leads held b m c → Leads held a (n + m) c
leads_join held _ _ c _ m (here {a = a}) k = subst (λ x. Leads held a x c) (omega arith) k
leads_join held _ _ c _ m (read {name = name} {next = next} {content = content} {found = found} {n = n} {b = b} whole is h) k =
    subst (λ x. Leads held (reads name next) x c) (omega arith) (read {n = n + m} whole is (leads_join held (next (length content) found) b c n m h k))

counted-add : (n m x : ℕ) → counted (n + m) x ≡ counted m (counted n x)
counted-add zero m x = let e : zero + m ≡ m = omega arith in ap (λ k. counted k x) e
counted-add (suc n) m x = let e : suc n + m ≡ suc (n + m) = omega arith in ap (λ k. counted k x) e ∙ counted-add n m (next_count x)

-- the same readings, written otherwise
pub reaches_same : (a b : Readings) (v : ShelfView) → a ≡ b → Reaches a b v v
reaches_same a b v e = record {
  count = 0;
  has_read = record { held = refl; opens = refl; faults = refl };
  leads = subst (λ x. Leads v.held a 0 x) e here;
}

pub reaches_join : (a b c : Readings) (r s t : ShelfView) → Reaches a b r s → Reaches b c s t → Reaches a c r t
reaches_join a b c r s t h k = record {
  count = h.count + k.count;
  has_read = record {
    held = k.has_read.held ∙ h.has_read.held;
    opens = k.has_read.opens ∙ (ap (counted k.count) h.has_read.opens ∙ sym (counted-add h.count k.count r.opens));
    faults = k.has_read.faults ∙ h.has_read.faults;
  };
  leads = leads_join r.held a b c h.count k.count h.leads (subst (λ held. Leads held b k.count c) h.has_read.held k.leads);
}

pub stops_behind : (a b : Readings) (r s t : ShelfView) → Reaches a b r s → Stops b s t → Stops a r t
stops_behind a b r s t h k = record {
  count = h.count + k.count;
  name = k.name;
  next = k.next;
  held = k.held ∙ h.has_read.held;
  opens = let e : h.count + suc k.count ≡ suc (h.count + k.count) = omega arith in
      k.opens ∙ (ap (counted (suc k.count)) h.has_read.opens ∙ (sym (counted-add h.count (suc k.count) r.opens) ∙ ap (λ n. counted n r.opens) e));
  rises = subst (λ n. n ≤ t.faults) h.has_read.faults k.rises;
  leads = leads_join r.held a b (reads k.name k.next) h.count k.count h.leads
      (subst (λ held. Leads held b k.count (reads k.name k.next)) h.has_read.held k.leads);
}

malformed_behind : (a b : Readings) (r s t : ShelfView) (wrong : XmlFault) → Reaches a b r s → IsMalformed b wrong s t → IsMalformed a wrong r t
unfolding stops_behind
malformed_behind a b r s t wrong h k = record {
  stops = stops_behind a b r s t h k.stops;
  quiet = k.quiet ∙ h.has_read.faults;
  refused = subst (λ held. IsRefused rule_limits (told_under k.stops.name held) wrong) h.has_read.held k.refused;
  in_time = subst (λ held. StopsInTime rule_limits (told_under k.stops.name held) t.left) h.has_read.held k.in_time;
}

-- A fault behind readings is one of them all.
pub fails_behind : (a b : Readings) (fault : LoadFault) (r s t : ShelfView) → Reaches a b r s → Fails b fault s t → Fails a fault r t
unfolding stops_behind malformed_behind
fails_behind a b fault r s t h (given wrong node is k) = given wrong node is (reaches_join a b (gives (Err wrong)) r s t h k)
fails_behind a b fault r s t h (unreadable k is rose) = unreadable (stops_behind a b r s t h k) is (subst (λ n. Rose n t.faults) h.has_read.faults rose)
fails_behind a b fault r s t h (no_document wrong k is) = no_document wrong (malformed_behind a b r s t wrong h k) is
fails_behind a b fault r s t h (full_between c is k) = full_between c is (reaches_join a b c r s t h k)
fails_behind a b fault r s t h (full_inside is k) = full_inside is (stops_behind a b r s t h k)

-- Memory ran out, and nothing was read.
pub fails_full : (a : Readings) (fault : LoadFault) (v : ShelfView) → fault ≡ want_of_memory → Fails a fault v v
fails_full a fault v e = full_between a e (reaches_same a a v refl)

-- A refusal is a fault, and nothing was read.
pub refused_fails : (a : Readings) (fault : LoadFault) (v : ShelfView) → Refuses a fault → Fails a fault v v
refused_fails a fault v (turns.given wrong node is (inl e)) = given wrong node e (reaches_same a (gives (Err wrong)) v is)
refused_fails a fault v (turns.given wrong node is (inr e)) = fails_full a fault v e
refused_fails a fault v (turns.full e) = fails_full a fault v e

-- Refusals of readings that are others.
pub refuses_same : (a b : Readings) (fault : LoadFault) → a ≡ b → Refuses b fault → Refuses a fault
refuses_same a b fault e r = subst (λ x. Refuses x fault) (sym e) r

pub fails_same : (a b : Readings) (fault : LoadFault) (r s : ShelfView) → a ≡ b → Fails b fault r s → Fails a fault r s
fails_same a b fault r s e h = subst (λ x. Fails x fault r s) (sym e) h

pub reaches_from : (a b c : Readings) (r s : ShelfView) → a ≡ b → Reaches b c r s → Reaches a c r s
reaches_from a b c r s e h = subst (λ x. Reaches x c r s) (sym e) h

-- ---- calls that read nothing

pub goes_same : {T : Type 0} (r : Result T LoadFault) (a b : Readings) (v : ShelfView) → OnOk r (b ≡ a) → IfOk r (λ _. Reaches a b v v)
goes_same (Ok x) a b v e = reaches_same a b v (sym e)
goes_same (Err f) a b v e = e

pub fails_pure : {T : Type 0} (r : Result T LoadFault) (a : Readings) (v : ShelfView) → IfErr r (Refuses a) → IfErr r (λ fault. Fails a fault v v)
fails_pure (Ok x) a v h = h
fails_pure (Err f) a v h = refused_fails a f v h

-- ---- calls behind others

pub goes_behind : {T : Type 0} (r : Result T LoadFault) (a b c : Readings) (s t u : ShelfView) → Reaches a b s t → IfOk r (λ _. Reaches b c t u) →
    IfOk r (λ _. Reaches a c s u)
goes_behind (Ok x) a b c s t u h k = reaches_join a b c s t u h k
goes_behind (Err f) a b c s t u h k = k

-- ---- readings that are others

pub found_from : {T : Type 0} (r : Result T LoadFault) (found : T → Readings) (a b : Readings) (s t : ShelfView) → a ≡ b → IfOk r (λ k. Reaches b (found k) s t)
    → IfOk r (λ k. Reaches a (found k) s t)
found_from (Ok k) found a b s t e h = reaches_from a b (found k) s t e h
found_from (Err f) found a b s t e h = h

pub fails_from : {T : Type 0} (r : Result T LoadFault) (a b : Readings) (s t : ShelfView) → a ≡ b → IfErr r (λ fault. Fails b fault s t) →
    IfErr r (λ fault. Fails a fault s t)
fails_from (Ok k) a b s t e h = h
fails_from (Err f) a b s t e h = fails_same a b f s t e h
