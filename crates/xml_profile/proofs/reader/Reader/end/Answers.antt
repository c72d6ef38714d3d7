use Rattle.std.proofs.Common.{ℕ, true, List, refl, sym, subst}
use Rattle.xml_profile.specs.Courses.{IsAt, Reaches, Breaks}
use Rattle.xml_profile.proofs.FinishLemmas.{ends-again-at, ends-at, ends-wrong, ends-behind, ends-inside}
use Rattle.xml_profile.proofs.KeptLemmas.{going-some, going-rest}
use Rattle.xml_profile.proofs.ReaderLemmas.{sound-going}
use Rattle.xml_profile.proofs.reader.Reader.end.Goals as goal

pub returns-in-Some : goal.returns-in-Some
returns-in-Some g c = ends-again-at _ _ _ _ _ _ _ c.in-Some.is _ c.self.view_is

pub end-requires : goal.end-requires
end-requires g c = (going-some _ _ _ _ _ c.in-Some-aside.is (sound-going _ _ _ _ _ c.in_default.is c.self.invariant)).within

pub returns-in-Some-aside : goal.returns-in-Some-aside
returns-in-Some-aside g c =
    ends-at _ _ _ _ _ _ _ _ _ c.in_default.is c.in-Some-aside.is
    (ends-inside _ _ c.self.inside.cursor c.self.inside.rest.items _
    (going-some _ _ _ _ _ c.in-Some-aside.is (sound-going _ _ _ _ _ c.in_default.is c.self.invariant)).within _ c.end.ensures) _ c.self.view_is

pub read-requires : goal.read-requires
read-requires g c =
    let P : List ℕ → Type 0 = λ bytes. IsAt c.self.inside.limits c.self.inside.cursor bytes in
    subst P (sym c.deref.ensures.value) (going-rest _ _ _ _ c.in_default-aside.is (sound-going _ _ _ _ _ c.in_default.is c.self.invariant)).at

pub end-requires-in-Ok : goal.end-requires-in-Ok
end-requires-in-Ok g c = c.in-Ok.ensures.ends_within refl

pub returns-in-Err : goal.returns-in-Err
returns-in-Err g c =
    let P : List ℕ → Type 0 = λ bytes. Breaks true c.self.inside.limits c.self.inside.cursor bytes (g.E.Events.taken c.args.events.now)
    (g.E.Events.taken c.read.new.events) c.in-Err.fault in
    ends-at _ _ _ _ _ _ _ _ _ c.in_default.is c.in_default-aside.is (ends-wrong _ _ _ _ _ _ (subst P c.deref.ensures.value c.in-Err.ensures)) _ c.self.view_is

pub returns-in-Ok : goal.returns-in-Ok
returns-in-Ok g c =
    let P : List ℕ → Type 0 = λ bytes. Reaches true c.self.inside.limits c.self.inside.cursor c.read.new.self bytes c.in-Ok.left.now
    (g.E.Events.taken c.args.events.now) (g.E.Events.taken c.read.new.events) in
    ends-at _ _ _ _ _ _ _ _ _ c.in_default.is c.in_default-aside.is
    (ends-behind _ _ _ _ _ _ _ _ (subst P c.deref.ensures.value c.in-Ok.ensures) (c.end-in-Ok.ensures c.in-Ok.left.now refl)) _ c.self.view_is
