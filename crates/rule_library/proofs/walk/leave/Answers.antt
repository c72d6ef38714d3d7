use Rattle.std.proofs.Common.{◌≡◌, List, [], ◌∷◌, length, subst, ◌∙◌, append-nil, arith, refl}
use Rattle.rule_library.specs.Turns.{AreOpen}
use Rattle.rule_library.specs.declared.walk.Frame.{Frame}
use Rattle.rule_library.proofs.TurnLemmas.{leaves-in, leaves-all, AreOpen-last, AreOpen-front}
use Rattle.rule_library.proofs.walk.leave.Goals as goal

none : (frames : List Frame) → length frames ≡ 0 → frames ≡ []
none [] h = refl
none (frame ∷ frames) h = absurd (omega (arith, h))

pub returns-in-Some : goal.returns-in-Some
returns-in-Some c =
    let w = c.args.walk.now in
    let frames = c.pop.new.self.items in
    let frame = c.in-Some.frame in
    let outer = c.in-Some.ensures.items in
    let stacked = subst (λ (fs : List Frame). AreOpen w.files.items fs) outer c.requires.stands.outer in
    record {
      turns = leaves-in w frames frame c.close_to.new.self c.requires.behind outer c.in_ok-close_to.ensures;
      stands = record {
        top = AreOpen-last w.files.items frames frame stacked;
        outer = AreOpen-front w.files.items frames frame stacked;
        long =
            c.requires.stands.long;
        few = c.requires.stands.few;
      };
    }

pub returns-in-None : goal.returns-in-None
returns-in-None c =
    let w = c.args.walk.now in
    let empty : length w.outer.items ≡ 0 = omega (arith, c.in-None.ensures.cases.0, w.outer.ok.0) in
    record {
      turns = leaves-all w c.close_to.new.self c.requires.behind (none w.outer.items empty) c.in_ok-close_to.ensures;
      stands = record {
        top = c.requires.stands.top;
        outer = subst (λ (fs : List Frame). AreOpen w.files.items fs) (c.in-None.ensures.items ∙ append-nil c.pop.new.self.items) c.requires.stands.outer;
        long = c.requires.stands.long;
        few = c.requires.stands.few;
      };
    }
