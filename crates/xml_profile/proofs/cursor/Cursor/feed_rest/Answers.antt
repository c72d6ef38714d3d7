use Rattle.std.proofs.Common.{ℕ, List, sym, ◌∙◌, subst}
use Rattle.xml_profile.specs.Courses.{Reaches}
use Rattle.xml_profile.proofs.TurnLemmas.{breaks-at-once}
use Rattle.xml_profile.proofs.KeptLemmas.{back-kept, extended, leaves-as, reaches-leaves}
use Rattle.xml_profile.proofs.cursor.Cursor.feed_rest.Goals as goal

pub returns-then-is_err : goal.returns-then-is_err
returns-then-is_err g c = breaks-at-once _ _ _ _ _ _ (λ events t. t)

pub returns-in-Ok : goal.returns-in-Ok
returns-in-Ok g c =
    let P : List ℕ → Type 0 = λ bytes. Reaches c.args.reading.ended c.args.reading.limits c.args.self.now c.read.new.self bytes c.in-Ok.left.now
    (g.E.Events.taken c.args.events.now) (g.E.Events.taken c.read.new.events) in
    let reached = subst P c.deref.ensures.value c.in-Ok.ensures in
    leaves-as _ _ _ _ _ _ _ _ _ _
    (sym (extended _ c.args.rest.now.items c.args.piece.now _ (sym c.is_err.ensures.value ∙ c.if-is_err.false) c.extend_from_slice.ensures.items))
    (reaches-leaves _ _ _ _ _ _ _ _ _ _ reached c.inside_of-held.ensures (back-kept _ _ _ _ _ _ _ _ _ _ _ reached c.kept_len-len.ensures c.keep_back.ensures))
